-- Leaves that a text is cut into lie in it.
use Rattle.std.proofs.Common.{◌≡◌, ℕ, zero, suc, ◌<◌, ◌≤◌, ◌^◌, List, [], ◌∷◌, length, Bool, true, false, refl, subst, arith}
use Rattle.std.specs.Prelude.{Option, Some, nat_lt, if◌then◌else◌}
use Rattle.std.proofs.lemmas.Bool.Decides.{nat_tests}
use Rattle.rw_base.specs.declared.tree.Leaf.{Leaf}
use Rattle.rw_base.specs.declared.leaves.Bad.{Bad}
use Rattle.rw_base.specs.Arena.{Tile, end_from, leaf_at}
use Rattle.rw_base.specs.Cut.{AreCutLeaves, ends_at}
use Rattle.rw_base.specs.Laws.{end_rises}
use Rattle.rw_grammar.specs.Reading.{begin_of}
use Rattle.rw_grammar.specs.Results.{AreTreeLeaves}

tile_inside : (at : ℕ) (ls : List Leaf) (i : ℕ) → Tile at ls → i < length ls → (leaf_at ls i).from ≤ end_from at ls
unfolding leaf_at
tile_inside at [] i t lt = absurd (omega (arith, lt))
tile_inside at (l ∷ ls) zero t lt = omega (arith, t.2, end_rises l.to ls t.3)
tile_inside at (l ∷ ls) (suc i) t lt = tile_inside l.to ls i t.3 (omega (arith, lt))

pub begin_inside : (bytes : List ℕ) (leaves : List Leaf) (bad : Option Bad) (i : ℕ) → AreCutLeaves bytes leaves bad → begin_of bytes leaves i ≤ length bytes
begin_inside bytes leaves bad i cut = go (nat_lt i (length leaves)) refl
  where
    go : (b : Bool) → nat_lt i (length leaves) ≡ b → (if b then (leaf_at leaves i).from else length bytes) ≤ length bytes
    go true e =
        let lt : i < length leaves = grind (arith, nat_tests, e) in
        omega (arith, tile_inside 0 leaves i cut.tile lt, cut.ends, cut.inside)
    go false e = omega arith

pub bad_inside : (bytes : List ℕ) (leaves : List Leaf) (bad : Option Bad) (b : Bad) → AreCutLeaves bytes leaves bad → bad ≡ Some b → b.byte ≤ length bytes
bad_inside bytes leaves bad b cut is = subst (λ (x : Option Bad). ends_at bytes x ≤ length bytes) is cut.inside

-- they are leaves of a tree
pub cut_tree_leaves : (bytes : List ℕ) (leaves : List Leaf) (bad : Option Bad) → AreCutLeaves bytes leaves bad → length leaves < 2 ^ 32 → AreTreeLeaves leaves
cut_tree_leaves bytes leaves bad cut few = record { some = cut.some; few = few; tile = cut.tile; empty_end = cut.empty_end }
