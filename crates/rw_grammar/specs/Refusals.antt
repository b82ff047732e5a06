-- What a fault of the derivation is for the text.
use Rattle.std.specs.Prelude.{ℕ, List, Option, Some, None}
use Rattle.rw_base.specs.declared.tree.Leaf.{Leaf}
use Rattle.rw_base.specs.declared.leaves.Bad.{Bad}
use Rattle.rw_base.specs.declared.place.Cause.TheVariants.{TooDeep}
use Rattle.rw_base.specs.declared.place.Refused.{Refused}
use Rattle.rw_base.specs.declared.place.ReadFault.{ReadFault}
use Rattle.rw_base.specs.declared.place.ReadFault.TheVariants as read
use Rattle.rw_grammar.specs.declared.greedy.DeriveFault.{DeriveFault}
use Rattle.rw_grammar.specs.declared.greedy.DeriveFault.TheVariants as derive
use Rattle.rw_grammar.specs.Reading.{refused_at, refused_first, begin_of}

-- a node lies too deep, and its first leaf begins here; a bad place comes first
abbrev pub refused_deep : List ℕ → Option Bad → ℕ → Refused
refused_deep bytes None at = refused_at bytes at TooDeep
refused_deep bytes (Some bad) at = refused_at bytes bad.byte bad.cause

abbrev pub read_fault : List ℕ → List Leaf → Option Bad → DeriveFault → ReadFault
read_fault bytes leaves bad (derive.Stop i) = read.Refused (refused_first bytes bad (begin_of bytes leaves i))
read_fault bytes leaves bad (derive.TooDeep i) = read.Refused (refused_deep bytes bad (begin_of bytes leaves i))
read_fault bytes leaves bad derive.NoMemory = read.NoMemory
