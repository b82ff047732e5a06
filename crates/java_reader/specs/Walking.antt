-- What the code knows where it stands before some parts of a node.
use Rattle.std.specs.Prelude.{◌≡◌, ℕ, ◌+◌, ◌<◌, ◌^◌, List, ◌++◌, drop, length, Option}
use Rattle.rw_base.specs.declared.tree.Part.{Part}
use Rattle.rw_base.specs.declared.tree.Part.TheVariants as part
use Rattle.rw_base.specs.declared.tree.NodeRow.{NodeRow}
use Rattle.rw_base.specs.Arena.{Arena, first_of, past_of, parts_of}
use Rattle.rw_base.specs.WalkLaws.{Stands}
use Rattle.rw_base.specs.Trees.{size}
use Rattle.rw_base.specs.Laid.{forest_of}
use Rattle.rw_grammar.specs.Results.{class_in}
use Rattle.java_reader.specs.declared.unit.UnitRef.{UnitRef}
use Rattle.java_reader.specs.Units.{units_in, head_width}
use Rattle.java_reader.specs.declared.call.CallView.{CallView}
use Rattle.java_reader.specs.Calls.{calls_in, within}

-- With the units of the parts that are left, `out` is all.
pub record Walking (t : Arena) (n past owner : ℕ) (outer : Option ℕ) (ps : List Part) (all out : List UnitRef)
    : Type 0 where
  pub at : ℕ
  pub stands : Stands t n past ps at
  pub few : length out + size (forest_of t.nodes ps) < 2 ^ 32
  pub same : out ++ units_in (class_in t.leaves) (length out) owner outer at (forest_of t.nodes ps) ≡ all

-- The head of the parts that are left ends before leaf `end`.
pub record Heading (t : Arena) (n past : ℕ) (ps : List Part) (end : ℕ) : Type 0 where
  pub at : ℕ
  pub stands : Stands t n past ps at
  pub same : at + head_width (class_in t.leaves) (forest_of t.nodes ps) ≡ end

-- ---- parts of a node that lie before some leaves or behind them

-- the part is a leaf or a node of the tree
abbrev pub IsPartIn : Arena → Part → Type 0
IsPartIn t (part.Leaf i) = i < length t.leaves
IsPartIn t (part.Node m) = m.0 < length t.nodes

-- its first leaf, and the one behind its last
abbrev pub begin_at : List NodeRow → Part → ℕ
begin_at rows (part.Leaf i) = i
begin_at rows (part.Node m) = first_of rows m.0

abbrev pub end_at : List NodeRow → Part → ℕ
end_at rows (part.Leaf i) = i + 1
end_at rows (part.Node m) = past_of rows m.0

-- The calls of these leaves that stand in the parts of a node, from part p on.
abbrev pub calls_from : Arena → ℕ → ℕ → ℕ → ℕ → List CallView
calls_from t n first past p =
    within first past (calls_in (class_in t.leaves) n p (forest_of t.nodes (drop p (parts_of t.nodes n))))

-- the parts before part p have none of them
abbrev pub BeginsBefore : Arena → ℕ → ℕ → ℕ → Type 0
BeginsBefore t n first p = (past : ℕ) → calls_from t n first past 0 ≡ calls_from t n first past p
