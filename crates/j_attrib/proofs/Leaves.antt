-- The text of no leaf.
use Rattle.std.proofs.Common.{◌≡◌, ℕ, ◌≤◌, List, [], length, ap}
use Rattle.std.proofs.lemmas.List.{get_or_past}
use Rattle.rw_base.specs.Arena.{leaf_at, no_leaf, text_of}
use Rattle.rw_base.specs.declared.tree.Leaf.{Leaf}
use Rattle.j_attrib.specs.Around.{Around, name_at}

no_leaf_at : (leaves : List Leaf) (i : ℕ) → length leaves ≤ i → leaf_at leaves i ≡ no_leaf
unfolding leaf_at
no_leaf_at leaves i h = get_or_past leaves i no_leaf h

pub no_name : (u : Around) (i : ℕ) → length u.tree.leaves ≤ i → name_at u i ≡ []
no_name u i h = ap (text_of u.bytes) (no_leaf_at u.tree.leaves i h)
