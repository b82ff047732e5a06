-- The names of key paths: where they end, and what stands behind them.
use Rattle.std.proofs.Common.{◌≡◌, ℕ, suc, ◌+◌, ◌<◌, inl, inr, Bool, true, false, cond, ◌&&◌}
use Rattle.std.proofs.Common.{List, [], ◌∷◌, ◌++◌, length, take, drop, refl, sym, ap, subst, ◌∙◌, arith, append-nil}
use Rattle.std.specs.Prelude.{Some, ◌==◌}
use Rattle.std.specs.List.{list_all}
use Rattle.std.proofs.lemmas.Bool.{and_parts, cases_eq, cases_Bool, eq-eqb, ne_eqb, cond-true, cond-false}
use Rattle.std.proofs.lemmas.List.{take_at, drop_at}
use Rattle.yaml_tree.specs.declared.key_path.PathStep.{PathStep}
use Rattle.yaml_tree.specs.declared.key_path.PathStep.TheVariants.{Name, AnyName, AnyItem}
use Rattle.yaml_tree.specs.KeyPaths.{ends_name, in_name, IsName, AreNames, last, dotted, over_items}
use Rattle.yaml_tree.specs.PathReading.{run_size, name_size, step_of, IsBehind, ended, dot, items}
use Rattle.yaml_tree.proofs.PathFronts.{first}

-- ---- bytes of names

pub star_ends : in_name 42 ≡ false
unfolding ends_name
star_ends = refl

pub dot_ends : in_name 46 ≡ false
unfolding ends_name
dot_ends = refl

pub bracket_ends : in_name 91 ≡ false
unfolding ends_name
bracket_ends = refl

pub dollar_ends : in_name 36 ≡ false
unfolding ends_name
dollar_ends = refl

no_star : (b : ℕ) → in_name b ≡ true → b ≡ 42 → ⊥
no_star b e same = let f : in_name b ≡ false = ap in_name same ∙ star_ends in absurd (cc)

pub run_none : (b : ℕ) (s : List ℕ) → in_name b ≡ false → run_size (b ∷ s) ≡ 0
run_none b s e = cond-false (in_name b) (run_size s + 1) 0 e

pub run_more : (b : ℕ) (s : List ℕ) → in_name b ≡ true → run_size (b ∷ s) ≡ suc (run_size s)
run_more b s e = cond-true (in_name b) (run_size s + 1) 0 e ∙ omega arith

-- ---- the size of a name

run_all : (s t : List ℕ) → list_all in_name s ≡ true → run_size t ≡ 0 → run_size (s ++ t) ≡ length s
run_all [] t e z = z
run_all (b ∷ s) t e z =
    let w = and_parts (in_name b) (list_all in_name s) e in
    run_more b (s ++ t) w.0 ∙ ap suc (run_all s t w.1 z)

given_size : (s t : List ℕ) → 0 < length s → list_all in_name s ≡ true → run_size t ≡ 0
    → name_size (s ++ t) ≡ length s
given_size [] t some e z = absurd (omega arith)
given_size (b ∷ s) t some e z =
    let w = and_parts (in_name b) (list_all in_name s) e in
    ap (λ v. cond v 1 (run_size (b ∷ (s ++ t)))) (ne_eqb b 42 (no_star b w.0)) ∙ run_all (b ∷ s) t e z

-- a name is as long as the front of which it is told
pub size_of_name : (step : PathStep) (name t : List ℕ) → IsName step name → run_size t ≡ 0
    → name_size (name ++ t) ≡ length name
size_of_name (Name text) name t h z = given_size name t h.1 h.2 z
size_of_name AnyName name t h z = subst (λ (x : List ℕ). name_size (x ++ t) ≡ length x) (sym h) refl
size_of_name AnyItem name t h z = absurd h

some_name : (step : PathStep) (name : List ℕ) → IsName step name → 0 < length name
some_name (Name text) name h = h.1
some_name AnyName name h = subst (λ (x : List ℕ). 0 < length x) (sym h) (omega arith)
some_name AnyItem name h = absurd h

given_step : (s : List ℕ) → 0 < length s → list_all in_name s ≡ true → step_of s ≡ Name s
given_step [] some e = absurd (omega arith)
given_step (b ∷ s) some e =
    let w = and_parts (in_name b) (list_all in_name s) e in
    cond-false (b == 42) AnyName (Name (b ∷ s)) (ne_eqb b 42 (no_star b w.0))

-- a name has one step
pub step_of_name : (step : PathStep) (name : List ℕ) → IsName step name → step_of name ≡ step
step_of_name (Name text) name h = given_step name h.1 h.2 ∙ ap Name h.0
step_of_name AnyName name h = subst (λ (x : List ℕ). step_of x ≡ AnyName) (sym h) refl
step_of_name AnyItem name h = absurd h

-- ---- the front of that size

run_taken : (s : List ℕ) → list_all in_name (take (run_size s) s) ≡ true
run_taken [] = refl
run_taken (b ∷ s) = elim (cases_Bool (in_name b)) [
  | inl e ↦ rw (run_more b s e) (ap (λ v. v && list_all in_name (take (run_size s) s)) e ∙ run_taken s)
  | inr e ↦ rw (run_none b s e) refl
]

given_taken : (b : ℕ) (s : List ℕ) → (b ≡ 42 → ⊥) → 0 < run_size (b ∷ s)
    → IsName (step_of (take (run_size (b ∷ s)) (b ∷ s))) (take (run_size (b ∷ s)) (b ∷ s))
given_taken b s other some = elim (cases_Bool (in_name b)) [
  | inl e ↦
      let front = take (run_size s) s in
      let all : list_all in_name (b ∷ front) ≡ true =
      ap (λ v. v && list_all in_name front) e ∙ run_taken s in
      let is : IsName (Name (b ∷ front)) (b ∷ front) = (refl, omega arith, all) in
      let step : step_of (b ∷ front) ≡ Name (b ∷ front) =
      cond-false (b == 42) AnyName (Name (b ∷ front)) (ne_eqb b 42 other) in
      subst (λ n. IsName (step_of (take n (b ∷ s))) (take n (b ∷ s))) (sym (run_more b s e))
      (subst (λ (x : PathStep). IsName x (b ∷ front)) (sym step) is)
  | inr e ↦ absurd (omega (arith, run_none b s e))
]

-- where a text begins with a name, its front is one
pub is_name : (s : List ℕ) (n : ℕ) → name_size s ≡ n → 0 < n → IsName (step_of (take n s)) (take n s)
is_name [] n e some = absurd (omega arith)
is_name (b ∷ s) n e some = elim (cases_eq b 42) [
  | inl star ↦
      let one : 1 ≡ n = sym (cond-true (b == 42) 1 (run_size (b ∷ s)) (eq-eqb b 42 star)) ∙ e in
      let step : step_of (b ∷ []) ≡ AnyName = cond-true (b == 42) AnyName (Name (b ∷ [])) (eq-eqb b 42 star) in
      subst (λ m. IsName (step_of (take m (b ∷ s))) (take m (b ∷ s))) one
      (subst (λ (x : PathStep). IsName x (b ∷ [])) (sym step) (ap (λ x. x ∷ []) star))
  | inr other ↦
      let run : run_size (b ∷ s) ≡ n =
      sym (cond-false (b == 42) 1 (run_size (b ∷ s)) (ne_eqb b 42 other)) ∙ e in
      subst (λ m. IsName (step_of (take m (b ∷ s))) (take m (b ∷ s))) run
      (given_taken b s other (omega arith))
]

-- ---- the same size before another rest

run_same : (s rest : List ℕ) → first rest ≡ first (drop (run_size s) s)
    → run_size (take (run_size s) s ++ rest) ≡ run_size s
run_same [] [] e = refl
run_same [] (c ∷ rest) e = absurd (cc)
run_same (b ∷ s) rest e = elim (cases_Bool (in_name b)) [
  | inl t ↦
      let left : first rest ≡ first (drop (run_size s) s) =
      e ∙ ap (λ n. first (drop n (b ∷ s))) (run_more b s t) in
      ap (λ n. run_size (take n (b ∷ s) ++ rest)) (run_more b s t)
      ∙ (run_more b (take (run_size s) s ++ rest) t ∙ (ap suc (run_same s rest left) ∙ sym (run_more b s t)))
  | inr f ↦
      let left : first rest ≡ Some b = e ∙ ap (λ n. first (drop n (b ∷ s))) (run_none b s f) in
      ap (λ n. run_size (take n (b ∷ s) ++ rest)) (run_none b s f)
      ∙ (stops rest b left f ∙ sym (run_none b s f))
]
  where
    stops : (rest : List ℕ) (b : ℕ) → first rest ≡ Some b → in_name b ≡ false → run_size rest ≡ 0
    stops [] b left f = refl
    stops (c ∷ rest) b left f =
        let same : c ≡ b = cc in
        run_none c rest (ap in_name same ∙ f)

given_same : (b : ℕ) (s rest : List ℕ) (n : ℕ) → name_size (b ∷ s) ≡ n → (b ≡ 42 → ⊥) → in_name b ≡ true
    → first rest ≡ first (drop n (b ∷ s)) → name_size (take n (b ∷ s) ++ rest) ≡ n
given_same b s rest n is other t e =
    let front = take (run_size s) s in
    let size : n ≡ suc (run_size s) =
    sym is ∙ (cond-false (b == 42) 1 (run_size (b ∷ s)) (ne_eqb b 42 other) ∙ run_more b s t) in
    let left : first rest ≡ first (drop (run_size s) s) = e ∙ ap (λ m. first (drop m (b ∷ s))) size in
    ap (λ m. name_size (take m (b ∷ s) ++ rest)) size
    ∙ (cond-false (b == 42) 1 (run_size (b ∷ (front ++ rest))) (ne_eqb b 42 other)
    ∙ (run_more b (front ++ rest) t ∙ (ap suc (run_same s rest left) ∙ sym size)))

-- a name has the same size before another rest that begins with the same byte
pub same_size : (s rest : List ℕ) (n : ℕ) → name_size s ≡ n → 0 < n → first rest ≡ first (drop n s)
    → name_size (take n s ++ rest) ≡ n
same_size [] rest n is some e = absurd (omega arith)
same_size (b ∷ s) rest n is some e = elim (cases_eq b 42) [
  | inl star ↦
      let one : n ≡ 1 = sym is ∙ cond-true (b == 42) 1 (run_size (b ∷ s)) (eq-eqb b 42 star) in
      ap (λ m. name_size (take m (b ∷ s) ++ rest)) one
      ∙ (cond-true (b == 42) 1 (run_size (b ∷ rest)) (eq-eqb b 42 star) ∙ sym one)
  | inr other ↦ elim (cases_Bool (in_name b)) [
    | inl t ↦ given_same b s rest n is other t e
    | inr f ↦
        let zero_size : name_size (b ∷ s) ≡ 0 =
        cond-false (b == 42) 1 (run_size (b ∷ s)) (ne_eqb b 42 other) ∙ run_none b s f in
        absurd (omega arith)
  ]
]

-- where no name begins, none begins before another rest
pub same_start : (s rest : List ℕ) → name_size s ≡ 0 → first rest ≡ first s → name_size rest ≡ 0
same_start s [] z e = refl
same_start [] (c ∷ rest) z e = absurd (cc)
same_start (b ∷ s) (c ∷ rest) z e =
    let same : c ≡ b = cc in
    subst (λ x. name_size (x ∷ rest) ≡ 0) (sym same) (at (b == 42) (in_name b) (run_size s) (run_size rest) z)
  where
    at : (v w : Bool) (m n : ℕ) → cond v 1 (cond w (m + 1) 0) ≡ 0 → cond v 1 (cond w (n + 1) 0) ≡ 0
    at true w m n z = absurd (omega arith)
    at false true m n z = absurd (omega arith)
    at false false m n z = refl

-- ---- names one behind another

-- a text that begins with a name, in its first step and what stands behind that name
pub record Parted (steps : List PathStep) (s : List ℕ) : Type 0 where
  pub more : List PathStep
  pub is : steps ≡ step_of (take (name_size s) s) ∷ more
  pub behind : IsBehind more (drop (name_size s) s)
  pub some : 0 < name_size s

parted_by : (step : PathStep) (name t : List ℕ) (more : List PathStep) → IsName step name → run_size t ≡ 0
    → IsBehind more t → Parted (step ∷ more) (name ++ t)
parted_by step name t more h z b =
    let size : length name ≡ name_size (name ++ t) = sym (size_of_name step name t h z) in
    let front : name ≡ take (name_size (name ++ t)) (name ++ t) =
    sym (take_at name t (name_size (name ++ t)) size) in
    let back : t ≡ drop (name_size (name ++ t)) (name ++ t) = sym (drop_at name t (name_size (name ++ t)) size) in
    let step_is : step ≡ step_of (take (name_size (name ++ t)) (name ++ t)) =
    sym (step_of_name step name h) ∙ ap step_of front in
    record {
      more = more;
      is = ap (λ x. x ∷ more) step_is;
      behind = subst (IsBehind more) back b;
      some = subst (λ n. 0 < n) size (some_name step name h);
    }

pub parted : (steps : List PathStep) (s : List ℕ) → AreNames steps s → Parted steps s
parted steps s (last step h e) =
    subst (λ (x : List PathStep). Parted x s) (sym e)
    (subst (Parted (step ∷ [])) (append-nil s) (parted_by step s [] [] h refl (ended refl refl)))
parted steps s (dotted step name others rest h names e is) =
    subst (λ (x : List PathStep). Parted x s) (sym e)
    (subst (Parted (step ∷ others)) (sym is)
    (parted_by step name (46 ∷ rest) others h (run_none 46 rest dot_ends) (dot rest names refl)))
parted steps s (over_items step name others rest h names e is) =
    let t : List ℕ = 91 ∷ 42 ∷ 93 ∷ 46 ∷ rest in
    subst (λ (x : List PathStep). Parted x s) (sym e)
    (subst (Parted (step ∷ AnyItem ∷ others)) (sym is)
    (parted_by step name t (AnyItem ∷ others) h (run_none 91 (42 ∷ 93 ∷ 46 ∷ rest) bracket_ends)
    (items others rest names refl refl)))

-- and joined again
pub joined : (step : PathStep) (name t : List ℕ) (more : List PathStep) → IsName step name → IsBehind more t
    → AreNames (step ∷ more) (name ++ t)
joined step name t more h (ended e is) =
    let whole : name ≡ name ++ t = sym (append-nil name) ∙ ap (λ x. name ++ x) (sym is) in
    last step (subst (IsName step) whole h) (ap (λ x. step ∷ x) e)
joined step name t more h (dot rest names is) = dotted step name more rest h names refl (ap (λ x. name ++ x) is)
joined step name t more h (items others rest names e is) =
    over_items step name others rest h names (ap (λ x. step ∷ x) e) (ap (λ x. name ++ x) is)
