-- The bytes and the front of a node.
use Rattle.std.proofs.Common.{◌≡◌, ℕ, ◌+◌, ◌-◌, ◌<◌, ◌≤◌, List, [], ◌++◌, length, drop, refl, sym, ap, ◌∙◌, arith}
use Rattle.std.specs.Prelude.{slice_range}
use Rattle.std.proofs.lemmas.Bool.{eq-eqb, ne_eqb}
use Rattle.std.proofs.lemmas.List.{drop_at, drop-drop}
use Rattle.rw_base.specs.declared.tree.Leaf.{Leaf}
use Rattle.rw_base.specs.Arena.{Arena, IsTree, leaf_at, no_leaf, first_of, past_of, prefix_of, end_of}
use Rattle.rw_base.specs.NewText.{front_of}
use Rattle.rw_base.specs.Gaps.{start_of, range_of}
use Rattle.rw_base.specs.Joins.{empty_slice}
use Rattle.rw_base.specs.Starts.{there, start_rises, start_inside}

pub no_front : (t : Arena) (bytes : List ℕ) (n : ℕ) → first_of t.nodes n ≡ past_of t.nodes n → front_of t bytes n ≡ []
unfolding front_of
no_front t bytes n e = rw (eq-eqb (first_of t.nodes n) (past_of t.nodes n) e) refl

pub some_front : (t : Arena) (bytes : List ℕ) (n : ℕ) → (first_of t.nodes n ≡ past_of t.nodes n → ⊥) → front_of t bytes n ≡ prefix_of bytes (leaf_at t.leaves (first_of t.nodes n))
unfolding front_of
some_front t bytes n e = rw (ne_eqb (first_of t.nodes n) (past_of t.nodes n) e) refl

pub empty_range : (t : Arena) (bytes : List ℕ) (n : ℕ) → first_of t.nodes n ≡ past_of t.nodes n → [] ≡ range_of t bytes n
empty_range t bytes n e = sym (ap (λ a. slice_range bytes (start_of t.leaves a) (start_of t.leaves (past_of t.nodes n))) e ∙ empty_slice bytes (start_of t.leaves (past_of t.nodes n)))

-- The bytes of a node lie between two places of its leaves.
pub record Lies (t : Arena) (bytes : List ℕ) (n from to : ℕ) : Type 0 where
  pub order : from ≤ to
  pub inside : to ≤ end_of t
  pub range : slice_range bytes from to ≡ range_of t bytes n

pub node_lies : (t : Arena) (bytes : List ℕ) (n first past : ℕ) (l k : Leaf) → IsTree t → n < length t.nodes → first ≡ first_of t.nodes n → past ≡ past_of t.nodes n → (first ≡ past → ⊥)
    → l ≡ leaf_at t.leaves first → k ≡ leaf_at t.leaves (past - 1) → Lies t bytes n l.prefix_from k.to
unfolding leaf_at
node_lies t bytes n first past l k tree lt first_is past_is some l_is k_is =
    let order = tree.ordered n lt in
    let inside = tree.inside n lt in
    let front = there 0 t.leaves first no_leaf tree.tile (omega arith) in
    let back = there 0 t.leaves (past - 1) no_leaf tree.tile (omega arith) in
    let last : (past - 1) + 1 ≡ past_of t.nodes n = omega arith in
    let from_is : l.prefix_from ≡ start_of t.leaves (first_of t.nodes n) = ap (λ (x : Leaf). x.prefix_from) l_is ∙ (sym front.begins ∙ ap (start_of t.leaves) first_is) in
    let to_is : k.to ≡ start_of t.leaves (past_of t.nodes n) = ap (λ (x : Leaf). x.to) k_is ∙ (sym back.ends ∙ ap (start_of t.leaves) last) in
    record {
      order = omega (arith, from_is, to_is, start_rises t.leaves (first_of t.nodes n) (past_of t.nodes n) tree.tile order);
      inside = omega (arith, to_is, start_inside t tree (past_of t.nodes n) inside);
      range = ap (λ a. slice_range bytes a k.to) from_is ∙ ap (slice_range bytes (start_of t.leaves (first_of t.nodes n))) to_is;
    }

-- a buffer that has grown at its front
pub grown_front : (zeros old : List ℕ) (from more : ℕ) → length zeros ≡ more → drop (from + more) (zeros ++ old) ≡ drop from old
grown_front zeros old from more e =
    let turned : from + more ≡ more + from = omega arith in
    ap (λ n. drop n (zeros ++ old)) turned ∙ (sym (drop-drop from more (zeros ++ old)) ∙ ap (drop from) (drop_at zeros old more e))
