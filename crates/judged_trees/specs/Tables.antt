-- What a judgement of a tree says of each kind of node: four tables without recursion.
use Rattle.std.specs.Prelude.{ℕ, List}
use Rattle.rw_base.specs.Trees.{Numbered}
use Rattle.j_names.specs.declared.context.Frame.{Frame}
use Rattle.judging.specs.Judging.{Judging}

-- a node: its number, its kind, its trees, and what the node around it gives it
pub record Site (G : Type 0) : Type 0 where
  pub number : ℕ
  pub kind : ℕ
  pub trees : Numbered
  pub given : G

-- `V` is what a node gives to the node around it, and `G` what it is given by that node
pub record Tables (V G : Type 0) : Type 0 where
  -- what a part of a node is given, by the trees from that part on and the values of the parts before it
  pub given_to : Site G → Numbered → List V → G
  -- the scopes between those around the node and the part, where the parts before it have left some
  pub scope_for : Site G → Numbered → List V → List Frame → List Frame → Judging (List Frame)
  -- what the node gives, by the values of all its parts and the scopes at its end
  pub value_of : Site G → List V → List Frame → Judging V
  -- the scopes that it leaves to what stands behind it, of those that its parts have left
  pub left_in_scope : Site G → List V → List Frame → List Frame
