-- The kinds of nodes by their numbers: rule number k of the table makes nodes of kind number k.
use Rattle.std.specs.Prelude.{ℕ, ◌<◌, List, length, Option, IsSome, slice_get}
use Rattle.rw_base.specs.declared.tree.NodeRow.{NodeRow}
use Rattle.rw_base.specs.Arena.{kind_of}
use Rattle.java_reader.specs.declared.kind.Kind.{Kind}
use Rattle.java_reader.specs.declared.kind.TheConstants.{KINDS}

-- the kind of a number
unfoldable pub kind_in : ℕ → Option Kind
kind_in number = slice_get KINDS number

-- each node is of a kind
abbrev pub AreKinds : List NodeRow → Type 0
AreKinds nodes = (n : ℕ) → n < length nodes → IsSome (kind_in (kind_of nodes n))
