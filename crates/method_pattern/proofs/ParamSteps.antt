-- How the reading of parameters goes on, and where it stops.
use Rattle.std.proofs.Common.{◌≡◌, ℕ, zero, suc, ◌+◌, ◌<◌, inl, inr, ◌⊎◌, Bool, true, false, List, [], ◌∷◌, ◌++◌, length}
use Rattle.std.proofs.Common.{take, drop, Some, None, refl, sym, ap, subst, ◌∙◌, arith, append_assoc, append-nil, length-append, length-drop}
use Rattle.std.proofs.Common.{take-append-drop}
use Rattle.std.specs.Prelude.{codes, ◌==◌}
use Rattle.std.specs.List.{list_all}
use Rattle.std.proofs.lemmas.Bool.{and_parts, eqb-true, ne_eqb}
use Rattle.std.proofs.lemmas.List.{length-take-le, take_all, drop-drop}
use Rattle.std.proofs.Math.Seq.{take-add}
use Rattle.std.proofs.lemmas.List.Folds.{list_all-append}
use Rattle.method_pattern.specs.Texts.{AreParts, last, dotted, over_parts, brackets, AreBlanks, AreParams, last_param, parted}
use Rattle.method_pattern.specs.Texts.{IsWrongAt}
use Rattle.method_pattern.specs.declared.pattern.NamePiece.{NamePiece}
use Rattle.method_pattern.specs.declared.pattern.ParamPattern.{ParamPattern}
use Rattle.method_pattern.specs.declared.pattern.ParamPattern.TheVariants.{Rest}
use Rattle.method_pattern.specs.declared.param_text.WrittenParam.{WrittenParam}
use Rattle.method_pattern.specs.Reading.{GoesOn, Ends, outside, IsRunSize, varargs_text, IsWrittenParam, IsParamText}
use Rattle.method_pattern.specs.Reading.{IsBehindParam, params_end, comma, IsComma}
use Rattle.method_pattern.proofs.Places.{first, stuck, cut, IsCut, ends_alike, widened, begun_reading, goes_on, rejoined}
use Rattle.method_pattern.proofs.Spared.{Spares, spared, part_all, and_both}
use Rattle.method_pattern.proofs.TypeSteps.{type_end}
use Rattle.method_pattern.proofs.PieceSteps.{parted as type_parted}
use Rattle.method_pattern.proofs.OneType.{IsRest, HasType, written, param_type, param_one}

-- ---- the bytes of parameters

-- a test that each byte of a parameter passes
pub record SparesParam (p : ℕ → Bool) : Type 0 where
  pub letters : Spares p
  pub dot : p 46 ≡ true
  pub opened : p 91 ≡ true
  pub closed : p 93 ≡ true

abbrev pub ParamsRead : List ParamPattern → List ℕ → ℕ → Type 0
ParamsRead params text at = GoesOn AreParams AreParams (λ ps. params ++ ps) text at

pub parts_all : (p : ℕ → Bool) → SparesParam p → (pieces : List NamePiece) (s : List ℕ) → AreParts pieces s → list_all p s ≡ true
parts_all p r pieces s (last part e) = part_all p r.letters s part
parts_all p r pieces s (dotted part others rest part_is parts e is) =
    ap (list_all p) is
    ∙ (list_all-append p part (46 ∷ rest)
    ∙ and_both (list_all p part) (list_all p (46 ∷ rest)) (part_all p r.letters part part_is)
    (and_both (p 46) (list_all p rest) r.dot (parts_all p r others rest parts)))
parts_all p r pieces s (over_parts part others rest part_is parts e is) =
    ap (list_all p) is
    ∙ (list_all-append p part (46 ∷ 46 ∷ rest)
    ∙ and_both (list_all p part) (list_all p (46 ∷ 46 ∷ rest)) (part_all p r.letters part part_is)
    (and_both (p 46) (list_all p (46 ∷ rest)) r.dot
    (and_both (p 46) (list_all p rest) r.dot (parts_all p r others rest parts))))

end_all : (p : ℕ → Bool) → SparesParam p → (n : ℕ) (v : Bool) → list_all p (brackets n ++ varargs_text v) ≡ true
end_all p r zero false = refl
end_all p r zero true = and_both (p 46) _ r.dot (and_both (p 46) _ r.dot (and_both (p 46) true r.dot refl))
end_all p r (suc n) v = and_both (p 91) _ r.opened (and_both (p 93) _ r.closed (end_all p r n v))

pub param_all : (p : ℕ → Bool) → SparesParam p → (w : WrittenParam) (s : List ℕ) → IsParamText w s → list_all p s ≡ true
param_all p r w s h = go (param_type w s h)
  where
    go : IsRest w s ⊎ HasType w s → list_all p s ≡ true
    go (inl k) = ap (list_all p) k.0 ∙ and_both (p 46) _ r.dot (and_both (p 46) true r.dot refl)
    go (inr t) =
        ap (list_all p) t.form.1.1
        ∙ (list_all-append p t.form.0 t.form.1.0
        ∙ and_both (list_all p t.form.0) (list_all p t.form.1.0) (parts_all p r t.pieces t.form.0 t.form.1.2)
        (ap (list_all p) t.form.1.3 ∙ end_all p r t.dimensions w.varargs))

pub some_param : (w : WrittenParam) (s : List ℕ) → IsParamText w s → 0 < length s
some_param w s h = go (param_type w s h)
  where
    go : IsRest w s ⊎ HasType w s → 0 < length s
    go (inl k) = omega (arith, ap length k.0)
    go (inr t) =
        let p = type_parted true (t.pieces, type_end t.dimensions w.varargs) s t.form in
        omega (arith, p.part_is.0, ap length p.is, length-append p.part p.behind)

-- ---- the first parameter

-- the bytes of a parameter, among others
abbrev pub inner : ℕ → Bool
inner = outside (32 ∷ 44 ∷ [])

spares_inner : SparesParam inner
spares_inner = record { letters = spared (32 ∷ 44 ∷ []) refl; dot = refl; opened = refl; closed = refl }

pub inner_param : (w : WrittenParam) (s : List ℕ) → IsParamText w s → list_all inner s ≡ true
inner_param = param_all inner spares_inner

-- parameters in the first and what stands behind that
pub record ParamParted (params : List ParamPattern) (s : List ℕ) : Type 0 where
  pub param : WrittenParam
  pub more : List ParamPattern
  pub front : List ℕ
  pub behind : List ℕ
  pub is : s ≡ front ++ behind
  pub form : IsParamText param front
  pub params_are : params ≡ param.param ∷ more
  pub none : param.varargs ≡ true → (behind ≡ []) × (more ≡ [])
  pub others : param.varargs ≡ false → IsBehindParam more behind
  pub ends : Ends inner behind

pub blanks_end : (before rest : List ℕ) → AreBlanks before → Ends inner (before ++ 44 ∷ rest)
blanks_end [] rest h = refl
blanks_end (b ∷ before) rest h =
    let w = and_parts (b == 32) (list_all (λ c. c == 32) before) h in
    let same : b ≡ 32 = eqb-true b 32 w.0 in
    ap inner same

pub param_parted : (params : List ParamPattern) (s : List ℕ) → AreParams params s → ParamParted params s
param_parted params s (last_param param (inl plain) e) = record {
  param = written param false;
  more = [];
  front = s;
  behind = [];
  is = sym (append-nil s);
  form = plain;
  params_are = e;
  none = λ f. absurd (let g : false ≡ true = f in cc);
  others = λ f. params_end refl refl;
  ends = tt;
}
param_parted params s (last_param param (inr varargs) e) = record {
  param = written param true;
  more = [];
  front = s;
  behind = [];
  is = sym (append-nil s);
  form = varargs;
  params_are = e;
  none = λ f. (refl, refl);
  others = λ f. absurd (let g : true ≡ false = f in cc);
  ends = tt;
}
param_parted params s (parted param others front before behind rest param_is before_are behind_are rest_are e is) = record {
  param = written param false;
  more = others;
  front = front;
  behind = before ++ 44 ∷ (behind ++ rest);
  is = is;
  form = param_is;
  params_are = e;
  none = λ f. absurd (let g : false ≡ true = f in cc);
  others = λ f. comma before behind rest before_are behind_are rest_are refl;
  ends = blanks_end before (behind ++ rest) before_are;
}

-- parameters don't begin with a space
pub no_blank_first : (params : List ParamPattern) (s : List ℕ) → AreParams params s → Ends (λ b. b == 32) s
no_blank_first params s h =
    let p = param_parted params s h in
    subst (Ends (λ b. b == 32)) (sym p.is) (go p.front p.behind (some_param p.param p.front p.form) (inner_param p.param p.front p.form))
  where
    go : (front behind : List ℕ) → 0 < length front → list_all inner front ≡ true → Ends (λ b. b == 32) (front ++ behind)
    go [] behind some all = absurd (omega arith)
    go (b ∷ front) behind some all =
        let w = and_parts (inner b) (list_all inner front) all in
        ne_eqb b 32 (λ same. let f : true ≡ false = sym w.0 ∙ ap inner same in cc)

-- ---- reading a parameter

abbrev pub ParamRead : List ParamPattern → List ℕ → ℕ → Type 0
ParamRead params text at = GoesOn AreParams IsBehindParam (λ ps. params ++ ps) text at

pub no_params_read : (text : List ℕ) → ParamsRead [] text 0
no_params_read text = begun_reading AreParams text

param_split : (y : List ParamPattern) (s : List ℕ) → AreParams y s → IsCut IsParamText inner s
param_split y s h =
    let p = param_parted y s h in
    record { value = p.param; front = p.front; behind = p.behind; is = p.is; form = p.form; ends = p.ends }

param_last : (w : WrittenParam) (s : List ℕ) → IsParamText w s → AreParams (w.param ∷ []) s
param_last w s h = go w.varargs h
  where
    go : (v : Bool) → IsWrittenParam v w.param s → AreParams (w.param ∷ []) s
    go false k = last_param w.param (inl k) refl
    go true k = last_param w.param (inr k) refl

pub param_bad : (params : List ParamPattern) (text : List ℕ) (at n m : ℕ) → ParamsRead params text at
    → IsRunSize inner (drop at text) n → IsWrongAt IsParamText (take n (drop at text)) m → IsWrongAt AreParams text (at + m)
param_bad params text at n m g r w =
    let s = drop at text in
    g.fault m (subst (λ x. IsWrongAt AreParams x m) (take-append-drop n s)
    (widened IsParamText AreParams inner inner_param param_split
    (λ x o h. (x.param ∷ [], ([], subst (AreParams (x.param ∷ [])) (sym (append-nil o)) (param_last x o h))))
    (take n s) (drop n s) r.run r.ends m w))

-- where parameters begin with a parameter, it is that one
same_param : (w : WrittenParam) (front s : List ℕ) → IsParamText w front → list_all inner front ≡ true → Ends inner s
    → (y : List ParamPattern) (rest : List ℕ) → first rest ≡ first s → AreParams y (front ++ rest)
    → (more : List ParamPattern) × ((w.varargs ≡ true → (rest ≡ []) × (more ≡ []))
    × (w.varargs ≡ false → IsBehindParam more rest) × (y ≡ w.param ∷ more))
same_param w front s form run ends y rest e h =
    let p = param_parted y (front ++ rest) h in
    let same = cut inner front p.front rest p.behind run (inner_param p.param p.front p.form) (ends_alike inner rest s e ends) p.ends p.is in
    let one : p.param ≡ w = param_one p.param w front (subst (IsParamText p.param) (sym same.0) p.form) form in (
      p.more,
      (
        λ f. let none = p.none (ap (λ (x : WrittenParam). x.varargs) one ∙ f) in (same.1 ∙ none.0, none.1),
        λ f. subst (IsBehindParam p.more) (sym same.1) (p.others (ap (λ (x : WrittenParam). x.varargs) one ∙ f)),
        p.params_are ∙ ap (λ (x : WrittenParam). x.param ∷ p.more) one,
      ),
    )

behind_up : (w : WrittenParam) (front : List ℕ) → IsParamText w front → w.varargs ≡ false → (ps : List ParamPattern) (rest : List ℕ)
    → IsBehindParam ps rest → AreParams (w.param ∷ ps) (front ++ rest)
behind_up w front form plain ps rest (params_end e is) =
    subst (λ (x : List ParamPattern). AreParams (w.param ∷ x) (front ++ rest)) (sym e)
    (subst (λ (x : List ℕ). AreParams (w.param ∷ []) (front ++ x)) (sym is)
    (subst (AreParams (w.param ∷ [])) (sym (append-nil front)) (param_last w front form)))
behind_up w front form plain ps rest (comma before behind r before_are behind_are r_are is) =
    parted w.param ps front before behind r (subst (λ v. IsWrittenParam v w.param front) plain form) before_are behind_are r_are refl
    (ap (λ x. front ++ x) is)

pub param_read : (params : List ParamPattern) (text : List ℕ) (at n : ℕ) (w : WrittenParam) → ParamsRead params text at
    → IsRunSize inner (drop at text) n → IsParamText w (take n (drop at text)) → w.varargs ≡ false
    → ParamRead (params ++ w.param ∷ []) text (at + n)
param_read params text at n w g r form plain =
    let s = drop at text in
    let front = take n s in
    rejoined AreParams IsBehindParam (λ ps. params ++ (w.param ∷ ps)) (λ ps. (params ++ w.param ∷ []) ++ ps) text (at + n)
    (goes_on AreParams AreParams IsBehindParam (λ ps. params ++ ps) (λ ps. w.param ∷ ps) text at g front (drop n s)
    (sym (take-append-drop n s)) (behind_up w front form plain)
    (λ y rest e h. let k = same_param w front (drop n s) form r.run r.ends y rest e h in (k.0, k.1.1 plain))
    n (length-take-le n s r.inside))
    (λ ps. sym (append_assoc params (w.param ∷ []) ps))

pub params_end_read : (params : List ParamPattern) (text : List ℕ) (at n : ℕ) (w : WrittenParam) → ParamsRead params text at
    → IsRunSize inner (drop at text) n → IsParamText w (take n (drop at text)) → at + n ≡ length text
    → AreParams (params ++ w.param ∷ []) text
params_end_read params text at n w g r form whole =
    let s = drop at text in
    let all : take n s ≡ s = take_all n s (omega (arith, length-drop at text)) in
    g.value (w.param ∷ []) (param_last w s (subst (IsParamText w) all form))

pub varargs_wrong : (params : List ParamPattern) (text : List ℕ) (at n : ℕ) (w : WrittenParam) → ParamsRead params text at
    → IsRunSize inner (drop at text) n → IsParamText w (take n (drop at text)) → w.varargs ≡ true → at + n < length text
    → IsWrongAt AreParams text (at + n)
varargs_wrong params text at n w g r form varargs lt =
    let s = drop at text in
    let front = take n s in
    g.fault n (subst (λ x. IsWrongAt AreParams x n) (take-append-drop n s)
    (stuck AreParams front (drop n s) n (length-take-le n s r.inside) (w.param ∷ []) []
    (subst (AreParams (w.param ∷ [])) (sym (append-nil front)) (param_last w front form))
    (λ y rest e h.
    let k = same_param w front (drop n s) form r.run r.ends y rest e h in
    more (drop n s) rest (omega (arith, length-drop n s, length-drop at text)) e (k.1.0 varargs).0)))
  where
    more : (t rest : List ℕ) → 0 < length t → first rest ≡ first t → rest ≡ [] → ⊥
    more [] rest some e is = omega arith
    more (b ∷ t) rest some e is = let f : None ≡ Some b = sym (ap first is) ∙ e in cc

-- ---- reading a comma

some_params : AreParams (Rest ∷ []) (codes "..")
some_params = last_param Rest (inl (inl (refl, refl))) refl

comma_down : (front s : List ℕ) → AreBlanks front → Ends (λ b. b == 32) s → (first s ≡ Some 44 → ⊥) → 0 < length (front ++ s)
    → (y : List ParamPattern) (rest : List ℕ) → first rest ≡ first s → IsBehindParam y (front ++ rest) → ⊥
comma_down front s blank ends other some y rest e (params_end p is) = go front s rest some e is
  where
    go : (f t u : List ℕ) → 0 < length (f ++ t) → first u ≡ first t → f ++ u ≡ [] → ⊥
    go [] [] u some e is = omega arith
    go [] (b ∷ t) u some e is = let g : None ≡ Some b = sym (ap first is) ∙ e in cc
    go (b ∷ f) t u some e is = cc
comma_down front s blank ends other some y rest e (comma before behind r before_are behind_are r_are is) =
    let same = cut (λ b. b == 32) front before rest (44 ∷ (behind ++ r)) blank before_are
    (ends_alike (λ b. b == 32) rest s e ends) refl is in
    other (sym e ∙ ap first same.1)

pub no_comma : (s : List ℕ) (n : ℕ) → 0 < length s → IsRunSize (λ b. b == 32) s n → (first (drop n s) ≡ Some 44 → ⊥)
    → IsWrongAt IsBehindParam s n
no_comma s n some r other =
    subst (λ x. IsWrongAt IsBehindParam x n) (take-append-drop n s)
    (stuck IsBehindParam (take n s) (drop n s) n (length-take-le n s r.inside) (Rest ∷ []) (44 ∷ codes "..")
    (comma (take n s) [] (codes "..") r.run refl some_params refl)
    (comma_down (take n s) (drop n s) r.run r.ends other (omega (arith, ap length (take-append-drop n s)))))

-- behind a comma and the spaces around it
comma_left : (before behind s : List ℕ) → AreBlanks before → AreBlanks behind → Ends (λ b. b == 32) s → (y : List ParamPattern)
    (rest : List ℕ) → first rest ≡ first s → IsBehindParam y ((before ++ 44 ∷ behind) ++ rest) → AreParams y rest
comma_left before behind s before_are behind_are ends y rest e (params_end p is) =
    absurd (omega (arith, ap length is, length-append (before ++ 44 ∷ behind) rest, length-append before (44 ∷ behind)))
comma_left before behind s before_are behind_are ends y rest e (comma a b r a_are b_are r_are is) =
    let whole : before ++ (44 ∷ (behind ++ rest)) ≡ a ++ (44 ∷ (b ++ r)) = sym (append_assoc before (44 ∷ behind) rest) ∙ is in
    let same = cut (λ c. c == 32) before a (44 ∷ (behind ++ rest)) (44 ∷ (b ++ r)) before_are a_are refl refl whole in
    let tails : behind ++ rest ≡ b ++ r = let f : 44 ∷ (behind ++ rest) ≡ 44 ∷ (b ++ r) = same.1 in cc in
    let left = cut (λ c. c == 32) behind b rest r behind_are b_are (ends_alike (λ c. c == 32) rest s e ends)
    (no_blank_first y r r_are) tails in
    subst (AreParams y) (sym left.1) r_are

pub comma_read : (params : List ParamPattern) (text : List ℕ) (at n : ℕ) → ParamRead params text at → IsComma (drop at text) n
    → ParamsRead params text (at + n)
comma_read params text at n g c =
    let s = drop at text in
    goes_on AreParams IsBehindParam AreParams (λ ps. params ++ ps) (λ ps. ps) text at g (c.before ++ 44 ∷ c.behind) (drop n s)
    (sym (take-append-drop n s) ∙ ap (λ x. x ++ drop n s) c.is)
    (λ x rest h. comma c.before c.behind rest c.before_are c.behind_are h (append_assoc c.before (44 ∷ c.behind) rest))
    (λ y rest e h. (y, comma_left c.before c.behind (drop n s) c.before_are c.behind_are c.ends y rest e h)) n
    (ap length (sym c.is) ∙ length-take-le n s c.inside)

-- what two runs of spaces and a comma between them are
pub comma_is : (s : List ℕ) (n m : ℕ) → IsRunSize (λ b. b == 32) s n → first (drop n s) ≡ Some 44
    → IsRunSize (λ b. b == 32) (drop (n + 1) s) m → IsComma s (n + 1 + m)
comma_is s n m r e q = record {
  before = take n s;
  behind = take m (drop (n + 1) s);
  inside = omega (arith, q.inside, length-drop (n + 1) s, lt);
  some = omega arith;
  is = take-add (n + 1) m s ∙ (ap (λ x. x ++ take m (drop (n + 1) s)) front ∙ append_assoc (take n s) (44 ∷ []) (take m (drop (n + 1) s)));
  before_are = r.run;
  behind_are = q.run;
  ends = subst (Ends (λ b. b == 32)) (drop-drop m (n + 1) s) q.ends;
}
  where
    some_left : (t : List ℕ) → first t ≡ Some 44 → 0 < length t
    some_left [] f = absurd (let g : None ≡ Some 44 = f in cc)
    some_left (b ∷ t) f = omega arith

    lt : n < length s
    lt = omega (arith, some_left (drop n s) e, length-drop n s)

    one : (t : List ℕ) → first t ≡ Some 44 → take 1 t ≡ 44 ∷ []
    one [] f = absurd (let g : None ≡ Some 44 = f in cc)
    one (b ∷ t) f = let same : b ≡ 44 = cc in ap (λ x. x ∷ []) same

    front : take (n + 1) s ≡ take n s ++ 44 ∷ []
    front = take-add n 1 s ∙ ap (λ x. take n s ++ x) (one (drop n s) e)
