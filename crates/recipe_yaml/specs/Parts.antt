-- What the small functions need and give that look at nodes and leaves.
use Rattle.std.specs.Prelude.{ℕ, ◌<◌, List, length, map, IfSome}
use Rattle.std.specs.List.{All}
use Rattle.rw_base.specs.declared.place.Place.{Place}
use Rattle.rw_base.specs.declared.tree.NodeId.{NodeId}
use Rattle.rw_base.specs.Arena.{Arena}
use Rattle.rw_base.specs.Places.{place_at}
use Rattle.recipe_yaml.specs.declared.node.Slot.{Slot}
use Rattle.recipe_yaml.specs.declared.node.Value.{Value}
use Rattle.recipe_yaml.specs.declared.node.Value.TheVariants as value

-- nodes of a tree
abbrev pub IsNode : Arena → NodeId → Type 0
IsNode t n = n.0 < length t.nodes

abbrev pub AreNodes : Arena → List NodeId → Type 0
AreNodes t ns = All (IsNode t) ns

pub record IsSlot (t : Arena) (s : Slot) : Type 0 where
  pub outer : IsNode t s.outer
  pub inside : IfSome s.node (IsNode t)

abbrev pub IsValue : Arena → Value → Type 0
IsValue t (value.Mapping n) = IsNode t n
IsValue t (value.Sequence n) = IsNode t n
IsValue t (value.Scalar text) = Unit {0}
IsValue t value.Other = Unit {0}

-- the places of all leaves
unfoldable pub leaf_places : List ℕ → Arena → List Place
leaf_places bytes t = map (λ l. place_at bytes l.from) t.leaves
