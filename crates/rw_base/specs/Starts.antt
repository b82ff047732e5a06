-- Where leaves that lie one behind another begin and end.
use Rattle.std.proofs.Common.{◌≡◌, ℕ, zero, suc, ◌+◌, ◌<◌, ◌≤◌, List, [], ◌∷◌, ◌++◌, length, take, get_or, refl, sym}
use Rattle.std.proofs.Common.{ap, ◌∙◌, arith, add-one}
use Rattle.std.specs.Prelude.{slice_range}
use Rattle.std.proofs.lemmas.List.{take_all}
use Rattle.rw_base.specs.declared.tree.Leaf.{Leaf}
use Rattle.rw_base.specs.Arena.{Arena, IsTree, Tile, end_from, end_of, leaf_at, no_leaf, prefix_of, text_of}
use Rattle.rw_base.specs.Gaps.{start_of}
use Rattle.rw_base.specs.Joins.{joined_slices, whole_slice}

pub record IsThere (at : ℕ) (ls : List Leaf) (i : ℕ) (l : Leaf) : Type 0 where
  pub begins : end_from at (take i ls) ≡ l.prefix_from
  pub ends : end_from at (take (i + 1) ls) ≡ l.to
  pub prefix : l.prefix_from ≤ l.from
  pub text : l.from ≤ l.to

pub there : (at : ℕ) (ls : List Leaf) (i : ℕ) (d : Leaf) → Tile at ls → i < length ls → IsThere at ls i (get_or ls i d)
there at [] i d h lt = absurd (omega arith)
there at (l ∷ ls) zero d h lt = record { begins = sym h.0; ends = refl; prefix = h.1; text = h.2 }
there at (l ∷ ls) (suc i) d h lt =
    let t = there l.to ls i d h.3 (omega arith) in
    record { begins = t.begins; ends = rw add-one (rw add-one at t.ends); prefix = t.prefix; text = t.text }

starts_rise : (at : ℕ) (ls : List Leaf) (a b : ℕ) → Tile at ls → a ≤ b
    → end_from at (take a ls) ≤ end_from at (take b ls)
starts_rise at [] zero zero h le = omega arith
starts_rise at [] zero (suc b) h le = omega arith
starts_rise at [] (suc a) zero h le = omega arith
starts_rise at [] (suc a) (suc b) h le = omega arith
starts_rise at (l ∷ ls) zero zero h le = omega arith
starts_rise at (l ∷ ls) zero (suc b) h le = omega (arith, starts_rise l.to ls 0 b h.3 (omega arith), h.0, h.1, h.2)
starts_rise at (l ∷ ls) (suc a) zero h le = absurd (omega arith)
starts_rise at (l ∷ ls) (suc a) (suc b) h le = starts_rise l.to ls a b h.3 (omega arith)

pub start_rises : (ls : List Leaf) (a b : ℕ) → Tile 0 ls → a ≤ b → start_of ls a ≤ start_of ls b
start_rises ls a b h le = starts_rise 0 ls a b h le

pub start_last : (ls : List Leaf) (n : ℕ) → length ls ≤ n → start_of ls n ≡ end_from 0 ls
start_last ls n le = ap (end_from 0) (take_all n ls le)

pub start_inside : (t : Arena) → IsTree t → (a : ℕ) → a ≤ length t.leaves → start_of t.leaves a ≤ end_of t
start_inside t tree a le = omega
    (arith, start_rises t.leaves a (length t.leaves) tree.tile le, start_last t.leaves (length t.leaves) (omega arith))

-- the bytes from the start of one leaf to that of another
abbrev pub leaf_range : List Leaf → List ℕ → ℕ → ℕ → List ℕ
leaf_range ls bytes a b = slice_range bytes (start_of ls a) (start_of ls b)

pub ranges_meet : (ls : List Leaf) (bytes : List ℕ) → Tile 0 ls → (a b c : ℕ) → a ≤ b → b ≤ c
    → leaf_range ls bytes a b ++ leaf_range ls bytes b c ≡ leaf_range ls bytes a c
ranges_meet ls bytes h a b c ab bc =
    joined_slices bytes (start_of ls a) (start_of ls b) (start_of ls c) (start_rises ls a b h ab)
    (start_rises ls b c h bc)

-- a leaf's prefix and text are its bytes
pub one_range : (ls : List Leaf) (bytes : List ℕ) → Tile 0 ls → (i : ℕ) → i < length ls
    → prefix_of bytes (leaf_at ls i) ++ text_of bytes (leaf_at ls i) ≡ leaf_range ls bytes i (i + 1)
unfolding leaf_at
one_range ls bytes h i lt =
    let l = get_or ls i no_leaf in
    let at = there 0 ls i no_leaf h lt in
    joined_slices bytes l.prefix_from l.from l.to at.prefix at.text
    ∙ (ap (λ a. slice_range bytes a l.to) (sym at.begins) ∙ ap (slice_range bytes (start_of ls i)) (sym at.ends))

pub whole_range : (t : Arena) (bytes : List ℕ) → length bytes ≡ end_of t
    → leaf_range t.leaves bytes 0 (length t.leaves) ≡ bytes
whole_range t bytes size = whole_slice bytes (start_of t.leaves (length t.leaves))
    (start_last t.leaves (length t.leaves) (omega arith) ∙ sym size)
