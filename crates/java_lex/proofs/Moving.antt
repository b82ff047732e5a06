-- A text is cut alike wherever it stands, and what is behind a leaf is cut as a text of its own.
use Rattle.std.proofs.Common.{◌≡◌, ℕ, ◌+◌, ◌-◌, ◌≤◌, Bool, List, [], ◌∷◌, ◌++◌, drop, Option, Some, sym, ◌∙◌, ap, subst, arith}
use Rattle.std.proofs.lemmas.List.{drop-drop}
use Rattle.rw_base.specs.declared.tree.Leaf.{Leaf}
use Rattle.rw_base.specs.declared.leaves.Bad.{Bad}
use Rattle.java_lex.specs.Leaves.{Cuts, passed, leaf, ended, stopped, end_leaf}
use Rattle.java_lex.specs.Laws.{offset_leaves, offset_bad}
use Rattle.java_lex.proofs.Steps.{leaf_record, bad_record}
use Rattle.java_lex.proofs.Alike.{Cut, here, later, cut-list, not-end, stands}

plus-moved : (at n by : ℕ) → (at + n) + by ≡ (at + by) + n
plus-moved at n by = omega arith

pub cut-moved : (by : ℕ) (broken : Bool) (from at : ℕ) (s : List ℕ) (ls : List Leaf) (a : Option Bad) → Cuts broken from at s ls a
    → Cuts broken (from + by) (at + by) s (offset_leaves by ls) (offset_bad by a)
cut-moved by broken from at s ls a (passed n blank c) =
    passed n blank (subst (λ k. Cuts broken (from + by) k (drop n s) (offset_leaves by ls) (offset_bad by a)) (plus-moved at n by) (cut-moved by broken from (at + n) (drop n s) ls a c))
cut-moved by broken from at s ls a (leaf {leaves = leaves} class n next c) =
    subst (λ k. Cuts broken (from + by) (at + by) s (leaf_record (from + by) (at + by) k class ∷ offset_leaves by leaves) (offset_bad by a)) (sym (plus-moved at n by))
    (leaf class n next
    (subst (λ k. Cuts broken k k (drop n s) (offset_leaves by leaves) (offset_bad by a)) (plus-moved at n by) (cut-moved by broken (at + n) (at + n) (drop n s) leaves a c)))
cut-moved by broken from at s ls a (ended e b) = ended e b
cut-moved by broken from at s ls a (stopped n cause h) =
    subst (λ k. Cuts broken (from + by) (at + by) s (end_leaf (from + by) k ∷ []) (Some (bad_record k cause))) (sym (plus-moved at n by)) (stopped n cause h)

both-is : (at n k : ℕ) → at + n ≤ k → n + (k - (at + n)) ≡ k - at
both-is at n k h = omega arith

size-is : (at n k : ℕ) → at + n ≡ k → n ≡ k - at
size-is at n k e = omega arith

low-to : (m f k : ℕ) → m ≤ f → k ≡ f + 1 → m ≤ k
low-to m f k h e = omega arith

behind-drop : (broken : Bool) (from at n : ℕ) (s : List ℕ) (more : List Leaf) (l : Leaf) (a : Option Bad) → at + n ≤ l.to
    → Cuts broken l.to l.to (drop (l.to - (at + n)) (drop n s)) more a → Cuts broken l.to l.to (drop (l.to - at) s) more a
behind-drop broken from at n s more l a low c =
    subst (λ t. Cuts broken l.to l.to t more a) (drop-drop (l.to - (at + n)) n s ∙ ap (λ k. drop k s) (both-is at n l.to low)) c

behind-leaf : (broken : Bool) (from at : ℕ) (s : List ℕ) (front more leaves : List Leaf) (l : Leaf) (a : Option Bad) (class n : ℕ)
    → Cuts broken (at + n) (at + n) (drop n s) leaves a
    → ((fs : List Leaf) → leaves ≡ fs ++ l ∷ more → Cuts broken l.to l.to (drop (l.to - at) s) more a)
    → Cut (leaf_record from at (at + n) class) leaves front l more → Cuts broken l.to l.to (drop (l.to - at) s) more a
behind-leaf broken from at s front more leaves l a class n c further (here e is rest) =
    let to_is : at + n ≡ l.to = ap (λ (x : Leaf). x.to) is in
    subst (λ ms. Cuts broken l.to l.to (drop (l.to - at) s) ms a) rest
    (subst (λ k. Cuts broken l.to l.to (drop k s) leaves a) (size-is at n l.to to_is)
    (subst (λ k. Cuts broken k k (drop n s) leaves a) to_is c))
behind-leaf broken from at s front more leaves l a class n c further (later fs e rest) = further fs rest

pub cut-behind : (broken : Bool) (from at : ℕ) (s : List ℕ) (ls front more : List Leaf) (l : Leaf) (a : Option Bad) → Cuts broken from at s ls a
    → ls ≡ front ++ l ∷ more → l.to ≡ l.from + 1 → Cuts broken l.to l.to (drop (l.to - at) s) more a
cut-behind broken from at s ls front more l a (passed n blank c) e one =
    let low = (stands broken from (at + n) (drop n s) ls front more l a c e one).low in
    behind-drop broken from at n s more l a (low-to (at + n) l.from l.to low one) (cut-behind broken from (at + n) (drop n s) ls front more l a c e one)
cut-behind broken from at s ls front more l a (leaf {leaves = leaves} class n next c) e one =
    behind-leaf broken from at s front more leaves l a class n c
    (λ fs rest.
    let low = (stands broken (at + n) (at + n) (drop n s) leaves fs more l a c rest one).low in
    behind-drop broken from at n s more l a (low-to (at + n) l.from l.to low one) (cut-behind broken (at + n) (at + n) (drop n s) leaves fs more l a c rest one))
    (cut-list (leaf_record from at (at + n) class) leaves front l more e)
cut-behind broken from at s ls front more l a (ended x y) e one = absurd (not-end from at front more l one (cut-list (end_leaf from at) [] front l more e))
cut-behind broken from at s ls front more l a (stopped n cause h) e one =
    absurd (not-end from (at + n) front more l one (cut-list (end_leaf from (at + n)) [] front l more e))
