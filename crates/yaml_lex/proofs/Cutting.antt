-- A text cut piece by piece.
use Rattle.std.proofs.Common.{◌≡◌, ℕ, suc, zero, ◌+◌, ◌-◌, ◌<◌, ◌≤◌, ◌⊎◌, inl, inr, Bool, true, false, cond, ◌&&◌, eqb, ltb, List, [], ◌∷◌, ◌++◌, length, take, drop, get_or, reverse, Option, Some, None, refl, sym, ◌∙◌, ap, subst, arith, append_assoc}
use Rattle.std.proofs.lemmas.List.{drop-drop, length-drop, length-take-le, get_or_past, length-reverse}
use Rattle.std.proofs.lemmas.Bool.{cases_lt}
use Rattle.std.proofs.lemmas.Bool.Decides.{nat_tests}
use Rattle.std.proofs.lemmas.Str.{utf8_valid_len_le}
use Rattle.std.specs.Str.Lossy.{utf8_valid_len}
use Rattle.rw_base.specs.declared.tree.Leaf.{Leaf}
use Rattle.rw_base.specs.declared.place.Cause.{Cause}
use Rattle.rw_base.specs.declared.leaves.Bad.{Bad}
use Rattle.yaml_lex.specs.declared.context.Context.{Context}
use Rattle.yaml_lex.specs.declared.collections.Collection.{Collection}
use Rattle.yaml_lex.specs.declared.class.TheConstants.{END}
use Rattle.yaml_lex.specs.Contexts.{start, past, past_leaf}
use Rattle.yaml_lex.specs.Collections.{open_behind, textless_before, closes, is_refused}
use Rattle.rw_base.specs.Utf8.{utf8_front, is_broken, mark_size}
use Rattle.yaml_lex.specs.Leaves.{Cuts, passed, leaf, ended, stopped, IsNext, IsBad, end_leaf, AreYamlLeaves}
use Rattle.yaml_lex.specs.Scanning.{Passes, none, more}

-- What is cut off so far goes on to the leaves of the file with whatever the rest is cut into.
pub record IsSoFar (bytes text : List ℕ) (broken : Bool) (leaves : List Leaf) (from at : ℕ) (p : Context) (os : List Collection) : Type 0 where
  pub order : from ≤ at
  pub inside : at ≤ length text
  pub rest : (more : List Leaf) (bad : Option Bad) → Cuts broken from at p os (drop at text) more bad → AreYamlLeaves bytes (leaves ++ more) bad

plus-zero : (at : ℕ) → at + 0 ≡ at
plus-zero at = omega arith

-- ---- passing over, over the text that is left: s, of which n bytes are passed

take-nil : (n : ℕ) → take {A = ℕ} n [] ≡ []
take-nil zero = refl
take-nil (suc n) = refl

take-two : (m k : ℕ) (s : List ℕ) (p : Context) → past (past p (take m s)) (take k (drop m s)) ≡ past p (take (m + k) s)
take-two zero k s p = ap (λ n. past p (take n s)) (let e : k ≡ 0 + k = omega arith in e)
take-two (suc m) k [] p = ap (past p) (take-nil k ∙ sym (take-nil (suc m + k)))
take-two (suc m) k (b ∷ s) p = take-two m k s _ ∙ ap (λ n. past p (take n (b ∷ s))) (let e : suc (m + k) ≡ suc m + k = omega arith in e)

passes : (broken : Bool) (from at n : ℕ) (p : Context) (os : List Collection) (s : List ℕ) (leaves : List Leaf) (bad : Option Bad) → Passes p s n
    → Cuts broken from (at + n) (past p (take n s)) os (drop n s) leaves bad → Cuts broken from at p os s leaves bad
passes broken from at n p os s leaves bad (none z) h =
    subst (λ a. Cuts broken from a p os s leaves bad) (plus-zero at)
    (subst (λ k. Cuts broken from (at + k) (past p (take k s)) os (drop k s) leaves bad) z h)
passes broken from at n p os s leaves bad (more m k step rest is) h =
    passed m step (passes broken from (at + m) k (past p (take m s)) os (drop m s) leaves bad rest
    (subst (λ a. Cuts broken from a (past (past p (take m s)) (take k (drop m s))) os (drop k (drop m s)) leaves bad) (let e : at + (m + k) ≡ (at + m) + k = omega arith in e)
    (subst (λ q. Cuts broken from (at + (m + k)) q os (drop k (drop m s)) leaves bad) (sym (take-two m k s p))
    (subst (λ t. Cuts broken from (at + (m + k)) (past p (take (m + k) s)) os t leaves bad) (sym (drop-drop k m s))
    (subst (λ j. Cuts broken from (at + j) (past p (take j s)) os (drop j s) leaves bad) is h)))))

-- bytes are passed over. The code's rest of the text is r.
pub past-passed : (bytes text r : List ℕ) (broken : Bool) (leaves : List Leaf) (from at n : ℕ) (p q : Context) (os : List Collection) → IsSoFar bytes text broken leaves from at p os
    → r ≡ drop at text → Passes p r n → n ≤ length r → q ≡ past p (take n r) → IsSoFar bytes text broken leaves from (at + n) q os
past-passed bytes text r broken leaves from at n p q os h is found inside to =
    let fits : n ≤ length text - at = subst (λ k. n ≤ k) (ap length is ∙ length-drop at text) inside in
    record {
      order = omega (arith, h.order);
      inside = omega (arith, h.inside, fits);
      rest = λ ls bad cuts. h.rest ls bad (subst (λ t. Cuts broken from at p os t ls bad) is
          (passes broken from at n p os r ls bad found
          (subst (λ x. Cuts broken from (at + n) x os (drop n r) ls bad) to
          (subst (λ t. Cuts broken from (at + n) q os t ls bad) (sym (ap (drop n) is ∙ drop-drop n at text)) cuts))));
    }

-- a leaf more, with the leaves without text before it
pub past-leaf : (bytes text r : List ℕ) (broken : Bool) (leaves mid after : List Leaf) (from at class n : ℕ) (l : Leaf) (p q : Context) (os vs us : List Collection) → IsSoFar bytes text broken leaves from at p os
    → r ≡ drop at text → vs ≡ os → IsNext p vs r class n → is_refused p class vs ≡ false → n ≤ length r
    → mid ≡ leaves ++ textless_before from p class os → l ≡ record { prefix_from = from; from = at; to = at + n; class = class } → after ≡ mid ++ l ∷ []
    → q ≡ past_leaf class r (past p (take n r)) → us ≡ open_behind p class os
    → IsSoFar bytes text broken after (at + n) (at + n) q us
past-leaf bytes text r broken leaves mid after from at class n l p q os vs us h is same_open next fine inside first leaf_is pushed to opened =
    let fits : n ≤ length text - at = subst (λ k. n ≤ k) (ap length is ∙ length-drop at text) inside in
    let m : Leaf = record { prefix_from = from; from = at; to = at + n; class = class } in
    record {
      order = omega arith;
      inside = omega (arith, h.inside, fits);
      rest = λ ls bad cuts.
          subst (λ all. AreYamlLeaves bytes all bad)
          (sym (ap (λ x. x ++ ls) (pushed ∙ ap (λ x. x ++ l ∷ []) first ∙ append_assoc leaves (textless_before from p class os) (l ∷ []))
          ∙ append_assoc leaves (textless_before from p class os ++ l ∷ []) ls
          ∙ ap (λ x. leaves ++ x) (append_assoc (textless_before from p class os) (l ∷ []) ls ∙ ap (λ x. textless_before from p class os ++ x ∷ ls) leaf_is)))
          (h.rest (textless_before from p class os ++ m ∷ ls) bad
          (subst (λ t. Cuts broken from at p os t (textless_before from p class os ++ m ∷ ls) bad) is
          (leaf class n (subst (λ o. IsNext p o r class n) same_open next) (subst (λ o. is_refused p class o ≡ false) same_open fine)
          (subst (λ x. Cuts broken (at + n) (at + n) x (open_behind p class os) (drop n r) ls bad) to
          (subst (λ x. Cuts broken (at + n) (at + n) q x (drop n r) ls bad) opened
          (subst (λ t. Cuts broken (at + n) (at + n) q us t ls bad) (sym (ap (drop n) is ∙ drop-drop n at text)) cuts))) refl)));
    }

abbrev end_record : ℕ → ℕ → ℕ → Leaf
end_record from at to = record { prefix_from = from; from = at; to = to; class = END }

pub end-is : (from at : ℕ) (l : Leaf) → l ≡ record { prefix_from = from; from = at; to = at + 0; class = END } → l ≡ end_leaf from at
end-is from at l e = e ∙ ap (λ (n : ℕ). end_record from at n) (plus-zero at)

-- a bad place
pub at-bad : (bytes text r : List ℕ) (broken : Bool) (leaves after : List Leaf) (from at n : ℕ) (cause : Cause) (l : Leaf) (p : Context) (os vs : List Collection) → IsSoFar bytes text broken leaves from at p os
    → r ≡ drop at text → vs ≡ os → IsBad broken p vs r n cause → l ≡ end_leaf from (at + n) → after ≡ leaves ++ l ∷ []
    → AreYamlLeaves bytes after (Some (record { byte = at + n; cause = cause }))
at-bad bytes text r broken leaves after from at n cause l p os vs h same same_open found is pushed =
    subst (λ ls. AreYamlLeaves bytes ls (Some (record { byte = at + n; cause = cause }))) (sym (pushed ∙ ap (λ x. leaves ++ x ∷ []) is))
    (h.rest (end_leaf from (at + n) ∷ []) (Some (record { byte = at + n; cause = cause })) (stopped n cause (subst (λ t. IsBad broken p os t n cause) same (subst (λ o. IsBad broken p o r n cause) same_open found))))

-- the end
pub at-end : (bytes text r : List ℕ) (broken : Bool) (leaves mid after : List Leaf) (from at n : ℕ) (l : Leaf) (p : Context) (xs : List Collection) → IsSoFar bytes text broken leaves from at p (reverse xs)
    → r ≡ drop at text → r ≡ [] → broken ≡ false → n ≡ length xs → mid ≡ leaves ++ closes from n → l ≡ end_leaf from at → after ≡ mid ++ l ∷ []
    → AreYamlLeaves bytes after None
at-end bytes text r broken leaves mid after from at n l p xs h same empty fine size closed is pushed =
    subst (λ ls. AreYamlLeaves bytes ls None)
    (sym (pushed ∙ ap (λ x. x ++ l ∷ []) (closed ∙ ap (λ k. leaves ++ closes from k) (size ∙ sym (length-reverse xs))) ∙ append_assoc leaves (closes from (length (reverse xs))) (l ∷ []) ∙ ap (λ x. leaves ++ (closes from (length (reverse xs)) ++ x ∷ [])) is))
    (h.rest (closes from (length (reverse xs)) ++ end_leaf from at ∷ []) None (ended (sym same ∙ empty) fine refl))

-- ---- the beginning

either-true : (x y : Bool) → (x && y) ≡ true → (x ≡ true) × (y ≡ true)
either-true true true e = (refl, refl)
either-true true false e = absurd (cc)
either-true false y e = absurd (cc)

mark-cond : (v : Bool) (n : ℕ) → (v ≡ true → 3 ≤ n) → cond v 3 0 ≤ n
mark-cond true n h = h refl
mark-cond false n h = omega arith

third-inside : (s : List ℕ) → (2 < length s) ⊎ (length s ≤ 2) → get_or s 2 0 ≡ 191 → 3 ≤ length s
third-inside s h e = elim h [
  | inl inside ↦ omega arith
  | inr beyond ↦ absurd (let f : 0 ≡ 191 = sym (get_or_past s 2 0 beyond) ∙ e in cc)
]

pub mark-inside : (s : List ℕ) → mark_size s ≤ length s
mark-inside s = mark-cond _ (length s) (λ e.
    let w = either-true (eqb (get_or s 0 0) 239 && eqb (get_or s 1 0) 187) (eqb (get_or s 2 0) 191) e in
    let third : get_or s 2 0 ≡ 191 = grind (arith, nat_tests) in
    third-inside s (cases_lt 2 (length s)) third)

pub at-start : (bytes text : List ℕ) (broken : Bool) (leaves : List Leaf) (at : ℕ) → text ≡ utf8_front bytes → broken ≡ ltb (length text) (length bytes)
    → leaves ≡ [] → at ≡ mark_size text → IsSoFar bytes text broken leaves 0 at start []
unfolding AreYamlLeaves
at-start bytes text broken leaves at text_is broken_is empty at_is =
    let n_is : length text ≡ utf8_valid_len bytes = ap length text_is ∙ length-take-le (utf8_valid_len bytes) bytes (utf8_valid_len_le bytes) in
    let broken_here : broken ≡ is_broken bytes = broken_is ∙ ap (λ n. ltb n (length bytes)) n_is in
    record {
      order = omega arith;
      inside = subst (λ n. n ≤ length text) (sym at_is) (mark-inside text);
      rest = λ ls bad cuts.
          subst (λ all. Cuts (is_broken bytes) 0 (mark_size (utf8_front bytes)) start [] (drop (mark_size (utf8_front bytes)) (utf8_front bytes)) all bad) (sym (ap (λ x. x ++ ls) empty))
          (subst (λ t. Cuts (is_broken bytes) 0 (mark_size t) start [] (drop (mark_size t) t) ls bad) text_is
          (subst (λ n. Cuts (is_broken bytes) 0 n start [] (drop n text) ls bad) at_is
          (subst (λ b. Cuts b 0 at start [] (drop at text) ls bad) broken_here cuts)));
    }

pub at-first : (bytes text : List ℕ) (broken : Bool) (leaves : List Leaf) (at : ℕ) (p : Context) (xs : List Collection) → text ≡ utf8_front bytes → broken ≡ ltb (length text) (length bytes)
    → leaves ≡ [] → at ≡ mark_size text → p ≡ start → xs ≡ [] → IsSoFar bytes text broken leaves 0 at p (reverse xs)
at-first bytes text broken leaves at p xs text_is broken_is empty at_is p_is xs_is =
    subst (λ q. IsSoFar bytes text broken leaves 0 at q (reverse xs)) (sym p_is)
    (subst (λ os. IsSoFar bytes text broken leaves 0 at start os) (sym (ap reverse xs_is)) (at-start bytes text broken leaves at text_is broken_is empty at_is))

pub start-column : (p : Context) (at : ℕ) → p ≡ start → p.column ≤ at
start-column p at e = let f : p.column ≡ 0 = ap (λ (q : Context). q.column) e in omega arith

pub start-depth : (p : Context) (at : ℕ) → p ≡ start → p.depth ≤ at
start-depth p at e = let f : p.depth ≡ 0 = ap (λ (q : Context). q.depth) e in omega arith

pub rest-column : (text r : List ℕ) (at n a b : ℕ) → n ≤ length r → a ≤ b + length (take n r) → b ≤ at → a ≤ at + n
rest-column text r at n a b inside e h = let f : length (take n r) ≡ n = length-take-le n r inside in omega arith
