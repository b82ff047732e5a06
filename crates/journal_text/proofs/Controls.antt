-- Control characters, and the order of paths.
use Rattle.std.proofs.Common.{◌≡◌, ◌≢◌, ◌⊎◌, inl, inr, ℕ, zero, suc, ◌+◌, ◌<◌, ◌≤◌, Bool, true, false, not, ◌&&◌, nat_lt, cond, List, [], ◌∷◌, ◌++◌, length, get_or, take, drop, refl, sym, ap, ◌∙◌, arith, append_assoc}
use Rattle.std.specs.Prelude.{◌==◌}
use Rattle.std.specs.Ordering.{nat_cmp, ordering_then}
use Rattle.std.specs.Cmp.Lexicographic.{slice_cmp}
use Rattle.std.specs.declared.cmp.Ordering.TheVariants.{Less, Equal, Greater}
use Rattle.std.proofs.lemmas.Bool.{and_parts, false≢true, eqb-true}
use Rattle.std.proofs.lemmas.Bool.Decides.{nat_tests}
use Rattle.std.proofs.lemmas.List.{take_all, take_more, take-append-drop, drop_more}
use Rattle.journal_text.specs.Stops.{StopsAt, no_control, is_below}

pub stops_at_end : (before line : List ℕ) → StopsAt before line (length line)
stops_at_end before line = record { place = omega arith; next = λ lt. absurd (omega arith) }

-- ---- controls
pub control_refuses : (front more : List ℕ) (b : ℕ) → b < 32 → no_control (front ++ b ∷ more) ≡ true → ⊥
control_refuses [] more b lt e = let p = (and_parts (not (nat_lt b 32)) (no_control more) e).0 in absurd (grind (arith, nat_tests, p))
control_refuses (a ∷ front) more b lt e = control_refuses front more b lt (and_parts (not (nat_lt a 32)) (no_control (front ++ b ∷ more)) e).1

pub control_stops : (before line : List ℕ) (i : ℕ) → i < length line → get_or line i 0 < 32 → StopsAt before line i
control_stops before line i lt low = record {
  place = omega arith;
  next = λ l more may. control_refuses (take i line) more (get_or line i 0) low (and_parts (no_control (take i line ++ get_or line i 0 ∷ more)) _ may.is_path_text.parts).0;
}

control_push : (front : List ℕ) (b : ℕ) → 32 ≤ b → no_control front ≡ true → no_control (front ++ b ∷ []) ≡ true
control_push [] b le e = grind (arith, nat_tests)
control_push (a ∷ front) b le e =
    let p = and_parts (not (nat_lt a 32)) (no_control front) e in
    ap (λ x. x && no_control (front ++ b ∷ [])) p.0 ∙ control_push front b le p.1

pub control_more : (line : List ℕ) (i : ℕ) → i < length line → 32 ≤ get_or line i 0 → no_control (take i line) ≡ true → no_control (take (i + 1) line) ≡ true
control_more line i lt le e = ap no_control (take_more line i 0 lt) ∙ control_push (take i line) (get_or line i 0) le e

-- ---- order
same_test : (a b : ℕ) → a ≡ b → (a == b) ≡ true
same_test a b e = grind (arith, nat_tests)

other_test : (a b : ℕ) → a ≢ b → (a == b) ≡ false
other_test a b e = grind (arith, nat_tests)

-- equal so far
abbrev pub Agree : List ℕ → List ℕ → ℕ → Type 0
Agree before line i = (i ≤ length before) × (take i before ≡ take i line)

below_refuses : (before front more : List ℕ) → is_below before front ≡ true → slice_cmp nat_cmp before (front ++ more) ≡ Less → ⊥
below_refuses [] front more e l = false≢true e
below_refuses (a ∷ before) [] more e l = false≢true e
below_refuses (a ∷ before) (b ∷ front) more e l = by_test (below_refuses before front more) (a == b) (nat_lt a b) (nat_lt b a) refl refl refl e l
  where
    by_test : (is_below before front ≡ true → slice_cmp nat_cmp before (front ++ more) ≡ Less → ⊥) → (t u v : Bool) → (a == b) ≡ t → nat_lt a b ≡ u → nat_lt b a ≡ v → cond t (is_below before front) v ≡ true → ordering_then (cond u Less (cond t Equal Greater)) (slice_cmp nat_cmp before (front ++ more)) ≡ Less → ⊥
    by_test rec true true v s u w e l = absurd (grind (arith, nat_tests, s, u))
    by_test rec true false v s u w e l = rec e l
    by_test rec false true true s u w e l = absurd (grind (arith, nat_tests, u, w))
    by_test rec false true false s u w e l = false≢true e
    by_test rec false false v s u w e l = absurd (cc)

-- a front that isn't below is one of the path before, or all that goes on from it is above
pub above : (before front : List ℕ) → is_below before front ≡ false → ((rest : List ℕ) × (before ≡ front ++ rest)) ⊎ ((more : List ℕ) → slice_cmp nat_cmp before (front ++ more) ≡ Less)
above before [] e = inl (before, refl)
above [] (b ∷ front) e = inr (λ more. refl)
above (a ∷ before) (b ∷ front) e = by_test (above before front) (a == b) (nat_lt a b) (nat_lt b a) refl refl refl e
  where
    same : (t u : Bool) (more : List ℕ) → a ≡ b → (a == b) ≡ t → nat_lt a b ≡ u → slice_cmp nat_cmp before (front ++ more) ≡ Less → ordering_then (cond u Less (cond t Equal Greater)) (slice_cmp nat_cmp before (front ++ more)) ≡ Less
    same true true more eq s u l = refl
    same true false more eq s u l = l
    same false u more eq s v l = absurd (grind (arith, nat_tests, s, eq))

    by_test : (is_below before front ≡ false → ((rest : List ℕ) × (before ≡ front ++ rest)) ⊎ ((more : List ℕ) → slice_cmp nat_cmp before (front ++ more) ≡ Less)) → (t u v : Bool) → (a == b) ≡ t → nat_lt a b ≡ u → nat_lt b a ≡ v → cond t (is_below before front) v ≡ false
        → ((rest : List ℕ) × (a ∷ before ≡ b ∷ (front ++ rest))) ⊎ ((more : List ℕ) → ordering_then (cond (nat_lt a b) Less (cond (a == b) Equal Greater)) (slice_cmp nat_cmp before (front ++ more)) ≡ Less)
    by_test rec true u v s p w e =
        let eq : a ≡ b = eqb-true a b s in
        elim (rec e) [
          | inl r ↦ inl (r.0, ap (λ x. x ∷ before) eq ∙ ap (λ l. b ∷ l) r.1)
          | inr h ↦ inr (λ more. same (a == b) (nat_lt a b) more eq refl refl (h more))
        ]
    by_test rec false true v s u w e = inr (λ more. ap (λ x. ordering_then (cond x Less (cond (a == b) Equal Greater)) (slice_cmp nat_cmp before (front ++ more))) u)
    by_test rec false false true s u w e = absurd (false≢true (sym e))
    by_test rec false false false s u w e = absurd (grind (arith, nat_tests, s, u, w))

pub below_shorter : (before front more : List ℕ) → is_below before (front ++ more) ≡ false → is_below before front ≡ false
below_shorter [] front more e = refl
below_shorter (a ∷ before) [] more e = refl
below_shorter (a ∷ before) (b ∷ front) more e = by_test (below_shorter before front more) (a == b) e
  where
    by_test : (is_below before (front ++ more) ≡ false → is_below before front ≡ false) → (t : Bool) → cond t (is_below before (front ++ more)) (nat_lt b a) ≡ false → cond t (is_below before front) (nat_lt b a) ≡ false
    by_test rec true e = rec e
    by_test rec false e = e

agree_below : (before line : List ℕ) (i : ℕ) → i ≤ length before → i ≤ length line → take i before ≡ take i line → is_below before (take i line) ≡ false
agree_below before line zero p q e = nothing before
  where
    nothing : (before : List ℕ) → is_below before [] ≡ false
    nothing [] = refl
    nothing (a ∷ before) = refl
agree_below [] line (suc i) p q e = absurd (omega arith)
agree_below (a ∷ before) [] (suc i) p q e = absurd (omega arith)
agree_below (a ∷ before) (b ∷ line) (suc i) p q e =
    let eq : a ≡ b = cc in let rest : take i before ≡ take i line = cc in
    ap (λ t. cond t (is_below before (take i line)) (nat_lt b a)) (same_test a b eq) ∙ agree_below before line i (omega arith) (omega arith) rest

-- a byte behind an equal front
differs : (before line : List ℕ) (i : ℕ) → i < length before → i < length line → take i before ≡ take i line → get_or before i 0 ≢ get_or line i 0
    → (more : List ℕ) → is_below before (take i line ++ get_or line i 0 ∷ more) ≡ nat_lt (get_or line i 0) (get_or before i 0)
differs [] line i p q e other more = absurd (omega arith)
differs (a ∷ before) [] i p q e other more = absurd (omega arith)
differs (a ∷ before) (b ∷ line) zero p q e other more = ap (λ t. cond t (is_below before more) (nat_lt b a)) (other_test a b other)
differs (a ∷ before) (b ∷ line) (suc i) p q e other more =
    let eq : a ≡ b = cc in let rest : take i before ≡ take i line = cc in
    ap (λ t. cond t (is_below before (take i line ++ get_or line i 0 ∷ more)) (nat_lt b a)) (same_test a b eq) ∙ differs before line i (omega arith) (omega arith) rest other more

below_prefix : (before rest : List ℕ) → is_below before (before ++ rest) ≡ false
below_prefix [] rest = refl
below_prefix (a ∷ before) rest = ap (λ t. cond t (is_below before (before ++ rest)) (nat_lt a a)) (same_test a a refl) ∙ below_prefix before rest

whole_line : (line : List ℕ) (i : ℕ) → i < length line → line ≡ take i line ++ get_or line i 0 ∷ drop (i + 1) line
whole_line line i lt = sym (take-append-drop i line) ∙ ap (λ t. take i line ++ t) (drop_more line i 0 lt)

-- what the loop over a line says of the order
pub order_end : (before line : List ℕ) → length line ≤ length before → take (length line) before ≡ take (length line) line → is_below before (take (length line) line) ≡ false
order_end before line le e = agree_below before line (length line) le (omega arith) e

pub order_past : (before line : List ℕ) (i : ℕ) → i ≡ length before → take i before ≡ take i line → is_below before (take (length line) line) ≡ false
order_past before line i is e =
    let all : before ≡ take i line = sym (take_all i before (omega arith)) ∙ e in
    ap (is_below before) (take_all (length line) line (omega arith) ∙ (sym (take-append-drop i line) ∙ ap (λ t. t ++ drop i line) (sym all))) ∙ below_prefix before (drop i line)

pub order_above : (before line : List ℕ) (i : ℕ) → i < length before → i < length line → take i before ≡ take i line → get_or before i 0 < get_or line i 0 → is_below before (take (length line) line) ≡ false
order_above before line i p q e lt =
    let d = differs before line i p q e (omega arith) (drop (i + 1) line) in
    let v : nat_lt (get_or line i 0) (get_or before i 0) ≡ false = grind (arith, nat_tests) in
    ap (is_below before) (take_all (length line) line (omega arith) ∙ whole_line line i q) ∙ (d ∙ v)

pub order_stops : (before line : List ℕ) (i : ℕ) → i < length before → i < length line → take i before ≡ take i line → get_or line i 0 < get_or before i 0 → StopsAt before line i
order_stops before line i p q e lt = record {
  place = omega arith;
  next = λ l more may.
      let d = differs before line i p q e (omega arith) [] in
      let v : nat_lt (get_or line i 0) (get_or before i 0) ≡ true = grind (arith, nat_tests) in
      below_refuses before (take i line ++ get_or line i 0 ∷ []) more (d ∙ v)
      (ap (slice_cmp nat_cmp before) (append_assoc (take i line) (get_or line i 0 ∷ []) more) ∙ may.less);
}

pub order_front : (before line : List ℕ) (i : ℕ) → i ≤ length before → i ≤ length line → take i before ≡ take i line → is_below before (take i line) ≡ false
order_front before line i p q e = agree_below before line i p q e

pub agree_more : (before line : List ℕ) (i : ℕ) → i < length before → i < length line → take i before ≡ take i line → get_or before i 0 ≡ get_or line i 0 → take (i + 1) before ≡ take (i + 1) line
agree_more before line i p q e same = take_more before i 0 p ∙ (ap (λ t. t ++ get_or before i 0 ∷ []) e ∙ (ap (λ x. take i line ++ x ∷ []) same ∙ sym (take_more line i 0 q)))
