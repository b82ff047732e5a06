-- A text cut piece by piece.
use Rattle.std.proofs.Common.{◌≡◌, ℕ, suc, zero, ◌+◌, ◌-◌, ◌<◌, ◌≤◌, ◌⊎◌, inl, inr, Bool, true, false, cond, ◌&&◌, eqb, ltb, List, [], ◌∷◌, ◌++◌, length, take, drop, get_or, Option, Some, None, refl, sym, ◌∙◌, ap, subst, arith, append_assoc}
use Rattle.std.proofs.lemmas.List.{drop-drop, length-drop, length-take-le, get_or_past, take_rest}
use Rattle.std.proofs.lemmas.Bool.{cases_lt}
use Rattle.std.proofs.lemmas.Bool.Decides.{nat_tests}
use Rattle.std.proofs.lemmas.Str.{utf8_valid_len_le}
use Rattle.std.specs.Str.Lossy.{utf8_valid_len}
use Rattle.rw_base.specs.declared.tree.Leaf.{Leaf}
use Rattle.rw_base.specs.declared.place.Cause.{Cause}
use Rattle.rw_base.specs.declared.leaves.Bad.{Bad}
use Rattle.java_lex.specs.declared.class.TheConstants.{END}
use Rattle.java_lex.specs.Blanks.{is_white}
use Rattle.rw_base.specs.Utf8.{utf8_front, is_broken, mark_size}
use Rattle.java_lex.specs.Leaves.{Cuts, passed, leaf, ended, stopped, IsBlank, white, IsNextLeaf, IsBad, end_leaf, AreJavaLeaves}
use Rattle.java_lex.specs.Scanning.{IsWhite}
use Rattle.java_lex.proofs.Following.{either-true}

-- What is cut off so far goes on to the leaves of the file with whatever the rest is cut into.
pub record IsSoFar (bytes text : List ℕ) (broken : Bool) (leaves : List Leaf) (from at : ℕ) : Type 0 where
  pub order : from ≤ at
  pub inside : at ≤ length text
  pub rest : (more : List Leaf) (bad : Option Bad) → Cuts broken from at (drop at text) more bad → AreJavaLeaves bytes (leaves ++ more) bad

one-more : (at w : ℕ) → at + suc w ≡ (at + 1) + w
one-more at w = omega arith

plus-zero : (at : ℕ) → at + 0 ≡ at
plus-zero at = omega arith

plus-inside : (at n k : ℕ) → at ≤ k → n ≤ k - at → at + n ≤ k
plus-inside at n k h i = omega arith

≤-plus : (a b n : ℕ) → a ≤ b → a ≤ b + n
≤-plus a b n h = omega arith

≤-same : (a : ℕ) → a ≤ a
≤-same a = omega arith

less-suc : (k n : ℕ) → k < n → suc k < suc n
less-suc k n h = omega arith

low-suc : (k n : ℕ) → suc k ≤ suc n → k ≤ n
low-suc k n h = omega arith

white-passes : (broken : Bool) (from at w : ℕ) (s : List ℕ) (leaves : List Leaf) (bad : Option Bad) → w ≤ length s
    → ((k : ℕ) → k < w → is_white (get_or s k 0) ≡ true) → Cuts broken from (at + w) (drop w s) leaves bad → Cuts broken from at s leaves bad
white-passes broken from at zero s leaves bad inside all h = subst (λ n. Cuts broken from n s leaves bad) (plus-zero at) h
white-passes broken from at (suc w) [] leaves bad inside all h = absurd (omega arith)
white-passes broken from at (suc w) (b ∷ s) leaves bad inside all h =
    passed 1 (white (omega arith) (all 0 (omega arith)) refl)
    (white-passes broken from (at + 1) w s leaves bad (low-suc w (length s) inside) (λ k low. all (suc k) (less-suc k w low))
    (subst (λ n. Cuts broken from n (drop w s) leaves bad) (one-more at w) h))

-- the white space here is passed
pub past-white : (bytes text : List ℕ) (broken : Bool) (leaves : List Leaf) (from at w : ℕ) → IsSoFar bytes text broken leaves from at
    → IsWhite (take (length text - at) (drop at text)) w → IsSoFar bytes text broken leaves from (at + w)
past-white bytes text broken leaves from at w h found =
    let here = subst (λ t. IsWhite t w) (take_rest text at) found in
    record {
      order = ≤-plus from at w h.order;
      inside = plus-inside at w (length text) h.inside (subst (λ n. w ≤ n) (length-drop at text) here.inside);
      rest = λ more bad cuts. h.rest more bad
          (white-passes broken from at w (drop at text) more bad here.inside here.white
          (subst (λ t. Cuts broken from (at + w) t more bad) (sym (drop-drop w at text)) cuts));
    }

-- a comment more
pub past-comment : (bytes text : List ℕ) (broken : Bool) (leaves : List Leaf) (from at n : ℕ) → IsSoFar bytes text broken leaves from at
    → IsBlank (take (length text - at) (drop at text)) n × (0 < n) × (n ≤ length (take (length text - at) (drop at text)))
    → IsSoFar bytes text broken leaves from (at + n)
past-comment bytes text broken leaves from at n h found =
    let blank = subst (λ t. IsBlank t n) (take_rest text at) found.0 in
    let fits = subst (λ t. n ≤ length t) (take_rest text at) found.2 in
    record {
      order = ≤-plus from at n h.order;
      inside = plus-inside at n (length text) h.inside (subst (λ k. n ≤ k) (length-drop at text) fits);
      rest = λ more bad cuts. h.rest more bad
          (passed n blank (subst (λ t. Cuts broken from (at + n) t more bad) (sym (drop-drop n at text)) cuts));
    }

joined : (leaves after more : List Leaf) (l m : Leaf) → l ≡ m → after ≡ leaves ++ l ∷ [] → after ++ more ≡ leaves ++ m ∷ more
joined leaves after more l m is pushed = ap (λ x. x ++ more) (pushed ∙ ap (λ x. leaves ++ x ∷ []) is) ∙ append_assoc leaves (m ∷ []) more

-- a leaf more
pub past-leaf : (bytes text : List ℕ) (broken : Bool) (leaves after : List Leaf) (from at class n : ℕ) (l : Leaf) → IsSoFar bytes text broken leaves from at
    → IsNextLeaf (take (length text - at) (drop at text)) class n × (0 < n)
    → l ≡ record { prefix_from = from; from = at; to = at + n; class = class } → after ≡ leaves ++ l ∷ []
    → IsSoFar bytes text broken after (at + n) (at + n)
past-leaf bytes text broken leaves after from at class n l h found is pushed =
    let next = subst (λ t. IsNextLeaf t class n) (take_rest text at) found.0 in
    record {
      order = ≤-same (at + n);
      inside = plus-inside at n (length text) h.inside (subst (λ k. n ≤ k) (length-drop at text) next.longest.inside);
      rest = λ more bad cuts.
          subst (λ ls. AreJavaLeaves bytes ls bad) (sym (joined leaves after more l (record { prefix_from = from; from = at; to = at + n; class = class }) is pushed))
          (h.rest (record { prefix_from = from; from = at; to = at + n; class = class } ∷ more) bad
          (leaf class n next (subst (λ t. Cuts broken (at + n) (at + n) t more bad) (sym (drop-drop n at text)) cuts)));
    }

abbrev end_record : ℕ → ℕ → ℕ → Leaf
end_record from at to = record { prefix_from = from; from = at; to = to; class = END }

pub end-is : (from at : ℕ) (l : Leaf) → l ≡ record { prefix_from = from; from = at; to = at + 0; class = END } → l ≡ end_leaf from at
end-is from at l e = e ∙ ap (λ (n : ℕ). end_record from at n) (plus-zero at)

-- a bad place
pub at-bad : (bytes text : List ℕ) (broken : Bool) (leaves after : List Leaf) (from at n : ℕ) (cause : Cause) (l : Leaf) → IsSoFar bytes text broken leaves from at
    → IsBad broken (take (length text - at) (drop at text)) n cause × (n ≤ length (take (length text - at) (drop at text)))
    → l ≡ end_leaf from (at + n) → after ≡ leaves ++ l ∷ [] → AreJavaLeaves bytes after (Some (record { byte = at + n; cause = cause }))
at-bad bytes text broken leaves after from at n cause l h found is pushed =
    let bad_here = subst (λ t. IsBad broken t n cause) (take_rest text at) found.0 in
    subst (λ ls. AreJavaLeaves bytes ls (Some (record { byte = at + n; cause = cause }))) (sym (pushed ∙ ap (λ x. leaves ++ x ∷ []) is))
    (h.rest (end_leaf from (at + n) ∷ []) (Some (record { byte = at + n; cause = cause })) (stopped n cause bad_here))

-- the end
pub at-end : (bytes text : List ℕ) (broken : Bool) (leaves after : List Leaf) (from at : ℕ) (l : Leaf) → IsSoFar bytes text broken leaves from at
    → (take (length text - at) (drop at text) ≡ []) × (broken ≡ false)
    → l ≡ end_leaf from at → after ≡ leaves ++ l ∷ [] → AreJavaLeaves bytes after None
at-end bytes text broken leaves after from at l h found is pushed =
    subst (λ ls. AreJavaLeaves bytes ls None) (sym (pushed ∙ ap (λ x. leaves ++ x ∷ []) is))
    (h.rest (end_leaf from at ∷ []) None (ended (sym (take_rest text at) ∙ found.0) found.1))

mark-cond : (v : Bool) (n : ℕ) → (v ≡ true → 3 ≤ n) → cond v 3 0 ≤ n
mark-cond true n h = h refl
mark-cond false n h = omega arith

third-inside : (s : List ℕ) → (2 < length s) ⊎ (length s ≤ 2) → get_or s 2 0 ≡ 191 → 3 ≤ length s
third-inside s h e = elim h [
  | inl inside ↦ omega arith
  | inr beyond ↦ absurd (let f : 0 ≡ 191 = sym (get_or_past s 2 0 beyond) ∙ e in cc)
]

pub mark-inside : (s : List ℕ) → mark_size s ≤ length s
mark-inside s = mark-cond _ (length s) (λ e.
    let w = either-true (eqb (get_or s 0 0) 239 && eqb (get_or s 1 0) 187) (eqb (get_or s 2 0) 191) e in
    let third : get_or s 2 0 ≡ 191 = grind (arith, nat_tests) in
    third-inside s (cases_lt 2 (length s)) third)

-- the beginning
pub at-start : (bytes text : List ℕ) (broken : Bool) (leaves : List Leaf) (at : ℕ) → text ≡ utf8_front bytes → broken ≡ ltb (length text) (length bytes)
    → leaves ≡ [] → at ≡ mark_size text → IsSoFar bytes text broken leaves 0 at
unfolding AreJavaLeaves
at-start bytes text broken leaves at text_is broken_is none at_is =
    let n_is : length text ≡ utf8_valid_len bytes = ap length text_is ∙ length-take-le (utf8_valid_len bytes) bytes (utf8_valid_len_le bytes) in
    let broken_here : broken ≡ is_broken bytes = broken_is ∙ ap (λ n. ltb n (length bytes)) n_is in
    record {
      order = omega arith;
      inside = subst (λ n. n ≤ length text) (sym at_is) (mark-inside text);
      rest = λ more bad cuts.
          subst (λ ls. Cuts (is_broken bytes) 0 (mark_size (utf8_front bytes)) (drop (mark_size (utf8_front bytes)) (utf8_front bytes)) ls bad) (sym (ap (λ ls. ls ++ more) none))
          (subst (λ t. Cuts (is_broken bytes) 0 (mark_size t) (drop (mark_size t) t) more bad) text_is
          (subst (λ n. Cuts (is_broken bytes) 0 n (drop n text) more bad) at_is
          (subst (λ b. Cuts b 0 at (drop at text) more bad) broken_here cuts)));
    }
