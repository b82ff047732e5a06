-- How the reading of a method pattern goes on, and where it stops.
use Rattle.std.proofs.Common.{◌≡◌, ℕ, ◌+◌, ◌<◌, ◌≤◌, inl, inr, Bool, true, false, List, [], ◌∷◌, ◌++◌, length, take, drop, not, ◌||◌, get_or}
use Rattle.std.proofs.Common.{refl, sym, ap, subst, ◌∙◌, arith}
use Rattle.std.proofs.Common.{take-append-drop, length-drop}
use Rattle.std.specs.Prelude.{codes, ◌==◌}
use Rattle.std.specs.List.{list_all}
use Rattle.std.proofs.lemmas.Bool.{and_parts, cases_eq, eqb-true, ne_eqb}
use Rattle.std.proofs.lemmas.List.{length-take-le, drop_all, drop_more, drop-drop}
use Rattle.std.proofs.lemmas.List.Folds.{list_all-append}
use Rattle.method_pattern.specs.Texts.{IsTypePattern, IsName, AreBlanks, AreParams, last_param, parted, IsMethodPattern, IsWrongAt}
use Rattle.method_pattern.specs.declared.pattern.TypePattern.{TypePattern}
use Rattle.method_pattern.specs.declared.pattern.MethodPattern.{MethodPattern}
use Rattle.method_pattern.specs.declared.pattern.ParamPattern.{ParamPattern}
use Rattle.method_pattern.specs.Reading.{Ends, outside, IsRunSize, IsExactly, IsNameText, IsParamList, IsClosed, IsCall, StarredFrom}
use Rattle.method_pattern.specs.Reading.{common}
use Rattle.method_pattern.proofs.PartSteps.{starred_of, one_end}
use Rattle.method_pattern.proofs.Places.{lifted, cut, ends_alike}
use Rattle.method_pattern.proofs.Delimited.{IsParted, left_wrong, missing, right_wrong}
use Rattle.method_pattern.proofs.Spared.{Spares, spared, starred_all, and_both}
use Rattle.method_pattern.proofs.WordFronts.{not_word}
use Rattle.method_pattern.proofs.OneType.{written}
use Rattle.method_pattern.proofs.ParamSteps.{SparesParam, param_all, parts_all}

-- ---- the bytes of parameters

params_all : (p : ℕ → Bool) → SparesParam p → p 32 ≡ true → p 44 ≡ true → (params : List ParamPattern) (s : List ℕ)
    → AreParams params s → list_all p s ≡ true
params_all p r blank comma params s (last_param param (inl plain) e) = param_all p r (written param false) s plain
params_all p r blank comma params s (last_param param (inr varargs) e) = param_all p r (written param true) s varargs
params_all p r blank comma params s (parted param others front before behind rest param_is before_are behind_are rest_are e is) =
    ap (list_all p) is
    ∙ (list_all-append p front (before ++ 44 ∷ (behind ++ rest))
    ∙ and_both (list_all p front) _ (param_all p r (written param false) front param_is)
    (list_all-append p before (44 ∷ (behind ++ rest))
    ∙ and_both (list_all p before) _ (blanks before before_are)
    (and_both (p 44) (list_all p (behind ++ rest)) comma
    (list_all-append p behind rest
    ∙ and_both (list_all p behind) (list_all p rest) (blanks behind behind_are) (params_all p r blank comma others rest rest_are)))))
  where
    blanks : (t : List ℕ) → AreBlanks t → list_all p t ≡ true
    blanks [] h = refl
    blanks (b ∷ t) h =
        let w = and_parts (b == 32) (list_all (λ c. c == 32) t) h in
        and_both (p b) (list_all p t) (ap p (eqb-true b 32 w.0) ∙ blank) (blanks t w.1)

-- ---- what stands behind `(`

pub list_all_closed : (params : List ParamPattern) (s : List ℕ) → IsParamList params s → list_all (outside (41 ∷ [])) s ≡ true
list_all_closed params s (inl none) = ap (list_all (outside (41 ∷ []))) none.0
list_all_closed params s (inr h) =
    params_all (outside (41 ∷ []))
    (record { letters = spared (41 ∷ []) refl; dot = refl; opened = refl; closed = refl }) refl refl params s h

closed_split : (params : List ParamPattern) (s : List ℕ) → IsClosed params s → IsParted IsParamList (IsExactly []) 41 s
closed_split params s h = record {
  left = params;
  right = tt;
  front = h.0;
  behind = [];
  is = h.1.0;
  left_is = h.1.1;
  right_is = refl;
}

closed_up : (x : List ParamPattern) (y : Unit {0}) (o r : List ℕ) → IsParamList x o → IsExactly [] y r
    → (z : List ParamPattern) × IsClosed z (o ++ 41 ∷ r)
closed_up x y o r h is = (x, (o, (ap (λ t. o ++ 41 ∷ t) is, h)))

pub closed_left : (s : List ℕ) (n m : ℕ) → IsRunSize (outside (41 ∷ [])) s n → IsWrongAt IsParamList (take n s) m → IsWrongAt IsClosed s m
closed_left s n m r w =
    subst (λ t. IsWrongAt IsClosed t m) (take-append-drop n s)
    (left_wrong IsParamList (IsExactly []) IsClosed 41 list_all_closed closed_split closed_up tt [] refl (take n s) (drop n s) m r.run r.ends w)

pub closed_missing : (x : List ParamPattern) (s : List ℕ) → IsParamList x s → IsWrongAt IsClosed s (length s)
closed_missing = missing IsParamList (IsExactly []) IsClosed 41 list_all_closed closed_split closed_up tt [] refl

-- a run and the byte that ends it
pub run_then : (d : ℕ) (s : List ℕ) (n : ℕ) → IsRunSize (outside (d ∷ [])) s n → n < length s
    → s ≡ take n s ++ d ∷ drop (n + 1) s
run_then d s n r lt =
    sym (take-append-drop n s) ∙ ap (λ t. take n s ++ t) (drop_more s n 0 lt ∙ ap (λ b. b ∷ drop (n + 1) s) is)
  where
    ends_is : (b : ℕ) → outside (d ∷ []) b ≡ false → b ≡ d
    ends_is b h = elim (cases_eq d b) [
      | inl same ↦ sym same
      | inr other ↦ absurd (let f : true ≡ false = sym (ap (λ v. not (v || false)) (ne_eqb d b other)) ∙ h in cc)
    ]

    is : get_or s n 0 ≡ d
    is = ends_is (get_or s n 0) (subst (Ends (outside (d ∷ []))) (drop_more s n 0 lt) r.ends)

pub closed_behind : (x : List ParamPattern) (s : List ℕ) (n : ℕ) → IsRunSize (outside (41 ∷ [])) s n → n + 1 < length s
    → IsParamList x (take n s) → IsWrongAt IsClosed s (n + 1)
closed_behind x s n r lt h =
    let less : n < length s = omega arith in
    let rest_some : (drop (n + 1) s ≡ [] → ⊥) = λ e. omega (arith, ap length e, length-drop (n + 1) s) in
    let wrong = right_wrong IsParamList (IsExactly []) IsClosed 41 list_all_closed closed_split closed_up tt [] refl x (take n s)
    (drop (n + 1) s) (common [] (drop (n + 1) s)) h (not_word [] (drop (n + 1) s) rest_some) in
    let size : length (take n s) + 1 + 0 ≡ n + 1 = omega (arith, length-take-le n s r.inside) in
    subst (IsWrongAt IsClosed s) size (subst (λ t. IsWrongAt IsClosed t (length (take n s) + 1 + 0)) (sym (run_then 41 s n r less)) wrong)

pub closed_read : (x : List ParamPattern) (s : List ℕ) (n : ℕ) → IsRunSize (outside (41 ∷ [])) s n → n < length s → length s ≤ n + 1
    → IsParamList x (take n s) → IsClosed x s
closed_read x s n r lt ge h =
    (take n s, (run_then 41 s n r lt ∙ ap (λ t. take n s ++ 41 ∷ t) (drop_all (n + 1) s ge), h))

-- ---- names and what stands behind them

name_all : (p : ℕ → Bool) → Spares p → list_all p (codes "<constructor>") ≡ true → (s : List ℕ) → IsName s → list_all p s ≡ true
name_all p r constructor s (inl star) = ap (list_all p) star ∙ and_both (p 42) true r.star refl
name_all p r constructor s (inr (inl is)) = ap (list_all p) is ∙ constructor
name_all p r constructor s (inr (inr h)) =
    starred_all p r true s (starred_of (h.0 ∷ h.1.0) s h.1.1)

some_name : (s : List ℕ) → IsName s → 0 < length s
some_name s (inl star) = omega (arith, ap length star)
some_name s (inr (inl is)) = omega (arith, ap length is)
some_name [] (inr (inr h)) =
    let none : StarredFrom false false [] = ([], (refl, refl)) in
    absurd (let f : true ≡ false = one_end true false [] (starred_of (h.0 ∷ h.1.0) [] h.1.1) none in cc)
some_name (b ∷ s) (inr (inr h)) = omega arith

pub call_name : (x : Unit {0}) (s : List ℕ) → IsNameText x s → list_all (outside (40 ∷ [])) s ≡ true
call_name x s h = name_all (outside (40 ∷ [])) (spared (40 ∷ []) refl) refl s h

call_split : (x : List ℕ × List ParamPattern) (s : List ℕ) → IsCall x s → IsParted IsNameText IsClosed 40 s
call_split x s h = record {
  left = tt;
  right = x.1;
  front = x.0;
  behind = h.0;
  is = h.1.0;
  left_is = h.1.1;
  right_is = h.1.2;
}

call_up : (x : Unit {0}) (y : List ParamPattern) (o r : List ℕ) → IsNameText x o → IsClosed y r
    → (z : List ℕ × List ParamPattern) × IsCall z (o ++ 40 ∷ r)
call_up x y o r name closed = ((o, y), (r, (refl, name, closed)))

none_closed : IsClosed [] (41 ∷ [])
none_closed = ([], (refl, inl (refl, refl)))

pub call_left : (s : List ℕ) (n m : ℕ) → IsRunSize (outside (40 ∷ [])) s n → IsWrongAt IsNameText (take n s) m → IsWrongAt IsCall s m
call_left s n m r w =
    subst (λ t. IsWrongAt IsCall t m) (take-append-drop n s)
    (left_wrong IsNameText IsClosed IsCall 40 call_name call_split call_up [] (41 ∷ []) none_closed (take n s) (drop n s) m r.run r.ends w)

pub call_missing : (s : List ℕ) → IsName s → IsWrongAt IsCall s (length s)
call_missing s h = missing IsNameText IsClosed IsCall 40 call_name call_split call_up [] (41 ∷ []) none_closed tt s h

pub call_right : (s : List ℕ) (n m : ℕ) → IsRunSize (outside (40 ∷ [])) s n → n < length s → IsName (take n s)
    → IsWrongAt IsClosed (drop (n + 1) s) m → IsWrongAt IsCall s (n + 1 + m)
call_right s n m r lt name w =
    let wrong = right_wrong IsNameText IsClosed IsCall 40 call_name call_split call_up [] (41 ∷ []) none_closed tt (take n s)
    (drop (n + 1) s) m name w in
    let size : length (take n s) + 1 + m ≡ n + 1 + m = omega (arith, length-take-le n s r.inside) in
    subst (IsWrongAt IsCall s) size
    (subst (λ t. IsWrongAt IsCall t (length (take n s) + 1 + m)) (sym (run_then 40 s n r lt)) wrong)

pub call_read : (s name : List ℕ) (params : List ParamPattern) (n : ℕ) → IsRunSize (outside (40 ∷ [])) s n → n < length s
    → name ≡ take n s → IsName (take n s) → IsClosed params (drop (n + 1) s) → IsCall (name, params) s
call_read s name params n r lt same is closed =
    (drop (n + 1) s, (run_then 40 s n r lt ∙ ap (λ t. t ++ 40 ∷ drop (n + 1) s) (sym same), subst IsName (sym same) is, closed))

-- ---- behind the owner

-- spaces, and a name with its parameters
abbrev pub IsSpacedCall : List ℕ × List ParamPattern → List ℕ → Type 0
IsSpacedCall x s = (blanks : List ℕ) × ((rest : List ℕ) × (s ≡ blanks ++ rest) × AreBlanks blanks × IsCall x rest)

-- a call doesn't begin with a space
pub call_first : (x : List ℕ × List ParamPattern) (s : List ℕ) → IsCall x s → Ends (λ b. b == 32) s
call_first x s h =
    subst (Ends (λ b. b == 32)) (sym h.1.0)
    (go x.0 h.0 (some_name x.0 h.1.1) (name_all (outside (32 ∷ [])) (spared (32 ∷ []) refl) refl x.0 h.1.1))
  where
    go : (name rest : List ℕ) → 0 < length name → list_all (outside (32 ∷ [])) name ≡ true → Ends (λ b. b == 32) (name ++ 40 ∷ rest)
    go [] rest some all = absurd (omega arith)
    go (b ∷ name) rest some all =
        let w = and_parts (outside (32 ∷ []) b) (list_all (outside (32 ∷ [])) name) all in
        ne_eqb b 32 (λ same. let f : true ≡ false = sym w.0 ∙ ap (outside (32 ∷ [])) same in cc)

spaced_wrong : (s : List ℕ) (n m : ℕ) → IsRunSize (λ b. b == 32) s n → IsWrongAt IsCall (drop n s) m → IsWrongAt IsSpacedCall s (n + m)
spaced_wrong s n m r w =
    subst (λ t. IsWrongAt IsSpacedCall t (n + m)) (take-append-drop n s)
    (lifted IsCall IsSpacedCall (take n s) (drop n s) (λ x rest h. (x, (take n s, (rest, refl, r.run, h))))
    (λ y rest e h.
    let same = cut (λ b. b == 32) (take n s) h.0 rest h.1.0 r.run h.1.2 (ends_alike (λ b. b == 32) rest (drop n s) e r.ends)
    (call_first y h.1.0 h.1.3) h.1.1 in
    (y, subst (IsCall y) (sym same.1) h.1.3))
    n m (length-take-le n s r.inside) w)

-- ---- patterns

pub owner_all : (x : TypePattern) (s : List ℕ) → IsTypePattern x s → list_all (outside (32 ∷ [])) s ≡ true
owner_all x s h =
    parts_all (outside (32 ∷ [])) (record { letters = spared (32 ∷ []) refl; dot = refl; opened = refl; closed = refl }) x.pieces s h

pattern_split : (x : MethodPattern) (s : List ℕ) → IsMethodPattern x s → IsParted IsTypePattern IsSpacedCall 32 s
pattern_split x s h = record {
  left = x.owner;
  right = (x.name, x.params);
  front = h.owner;
  behind = h.blanks ++ (x.name ++ 40 ∷ (h.params ++ 41 ∷ []));
  is = h.is;
  left_is = h.owner_is;
  right_is = (
    h.blanks,
    (
      x.name ++ 40 ∷ (h.params ++ 41 ∷ []),
      refl,
      h.blanks_are,
      (h.params ++ 41 ∷ [], (refl, h.name_is, (h.params, (refl, h.params_are)))),
    ),
  );
}

pattern_of : (x : TypePattern) (y : List ℕ × List ParamPattern) (o r : List ℕ) → IsTypePattern x o → IsSpacedCall y r
    → IsMethodPattern (record { owner = x; name = y.0; params = y.1 }) (o ++ 32 ∷ r)
pattern_of x y o r owner h =
    let call = h.1.3 in
    record {
      owner = o;
      blanks = h.0;
      params = call.1.2.0;
      is = ap (λ t. o ++ 32 ∷ t) (h.1.1 ∙ (ap (λ t. h.0 ++ t) call.1.0 ∙ ap (λ t. h.0 ++ (y.0 ++ 40 ∷ t)) call.1.2.1.0));
      owner_is = owner;
      blanks_are = h.1.2;
      name_is = call.1.1;
      params_are = call.1.2.1.1;
    }

pattern_up : (x : TypePattern) (y : List ℕ × List ParamPattern) (o r : List ℕ) → IsTypePattern x o → IsSpacedCall y r
    → (z : MethodPattern) × IsMethodPattern z (o ++ 32 ∷ r)
pattern_up x y o r owner h = (record { owner = x; name = y.0; params = y.1 }, pattern_of x y o r owner h)

some_call : IsSpacedCall (codes "*", []) (codes "*()")
some_call = ([], (codes "*()", refl, refl, (41 ∷ [], (refl, inl refl, none_closed))))

pub owner_wrong : (s : List ℕ) (n m : ℕ) → IsRunSize (outside (32 ∷ [])) s n → IsWrongAt IsTypePattern (take n s) m
    → IsWrongAt IsMethodPattern s m
owner_wrong s n m r w =
    subst (λ t. IsWrongAt IsMethodPattern t m) (take-append-drop n s)
    (left_wrong IsTypePattern IsSpacedCall IsMethodPattern 32 owner_all pattern_split pattern_up (codes "*", []) (codes "*()") some_call
    (take n s) (drop n s) m r.run r.ends w)

pub space_missing : (x : TypePattern) (s : List ℕ) → IsTypePattern x s → IsWrongAt IsMethodPattern s (length s)
space_missing =
    missing IsTypePattern IsSpacedCall IsMethodPattern 32 owner_all pattern_split pattern_up (codes "*", []) (codes "*()") some_call

pub call_wrong : (x : TypePattern) (s : List ℕ) (n k m : ℕ) → IsRunSize (outside (32 ∷ [])) s n → n < length s
    → IsTypePattern x (take n s) → IsRunSize (λ b. b == 32) (drop (n + 1) s) k → IsWrongAt IsCall (drop (n + 1 + k) s) m
    → IsWrongAt IsMethodPattern s (n + 1 + k + m)
call_wrong x s n k m r lt owner blanks w =
    let spaced = spaced_wrong (drop (n + 1) s) k m blanks (subst (λ t. IsWrongAt IsCall t m) (sym (drop-drop k (n + 1) s)) w) in
    let wrong = right_wrong IsTypePattern IsSpacedCall IsMethodPattern 32 owner_all pattern_split pattern_up (codes "*", [])
    (codes "*()") some_call x (take n s) (drop (n + 1) s) (k + m) owner spaced in
    let size : length (take n s) + 1 + (k + m) ≡ n + 1 + k + m = omega (arith, length-take-le n s r.inside) in
    subst (IsWrongAt IsMethodPattern s) size
    (subst (λ t. IsWrongAt IsMethodPattern t (length (take n s) + 1 + (k + m))) (sym (run_then 32 s n r lt)) wrong)

pub pattern_read : (x : TypePattern) (y : List ℕ × List ParamPattern) (s : List ℕ) (n k : ℕ) → IsRunSize (outside (32 ∷ [])) s n
    → n < length s → IsTypePattern x (take n s) → IsRunSize (λ b. b == 32) (drop (n + 1) s) k → IsCall y (drop (n + 1 + k) s)
    → IsMethodPattern (record { owner = x; name = y.0; params = y.1 }) s
pattern_read x y s n k r lt owner blanks call =
    subst (IsMethodPattern (record { owner = x; name = y.0; params = y.1 })) (sym (run_then 32 s n r lt))
    (pattern_of x y (take n s) (drop (n + 1) s) owner (
      take k (drop (n + 1) s),
      (
        drop k (drop (n + 1) s),
        sym (take-append-drop k (drop (n + 1) s)),
        blanks.run,
        subst (IsCall y) (sym (drop-drop k (n + 1) s)) call,
      ),
    ))
