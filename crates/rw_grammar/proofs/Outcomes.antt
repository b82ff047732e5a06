-- What comes of a text whose derivation has a fault.
use Rattle.std.proofs.Common.{◌≡◌, ℕ, List, refl, ap}
use Rattle.std.specs.Prelude.{Option, Some, None, Err}
use Rattle.rw_base.specs.declared.tree.Leaf.{Leaf}
use Rattle.rw_base.specs.declared.leaves.Bad.{Bad}
use Rattle.rw_base.specs.declared.place.Refused.{Refused}
use Rattle.rw_base.specs.declared.place.ReadFault.TheVariants as read
use Rattle.rw_grammar.specs.declared.greedy.DeriveFault.{DeriveFault}
use Rattle.rw_grammar.specs.declared.greedy.DeriveFault.TheVariants as derive
use Rattle.rw_grammar.specs.Parts.{Parts}
use Rattle.rw_grammar.specs.Results.{Stops, IsTooDeep}
use Rattle.rw_grammar.specs.Reading.{IsOutcome, stops-at-leaf, ends-at-bad, is-too-deep}
use Rattle.rw_grammar.specs.Refusals.{read_fault}

same_refusal : (a b : Refused) → read.Refused a ≡ read.Refused b → a ≡ b
same_refusal a b e = cc

no_refusal : (a : Refused) → read.Refused a ≡ read.NoMemory → ⊥
no_refusal a e = cc

pub faulted : (rules : List Parts) (start : ℕ) (bytes : List ℕ) (leaves : List Leaf) (bad : Option Bad) (fault : DeriveFault) (r : Refused)
    → ((i : ℕ) → fault ≡ derive.Stop i → Stops rules start leaves i) → ((i : ℕ) → fault ≡ derive.TooDeep i → IsTooDeep rules start leaves i)
    → read.Refused r ≡ read_fault bytes leaves bad fault → IsOutcome rules start bytes leaves bad (Err r)
faulted rules start bytes leaves bad (derive.Stop i) r stops deep e = stops-at-leaf i (stops i refl) (ap Err (same_refusal r _ e))
faulted rules start bytes leaves None (derive.TooDeep i) r stops deep e = is-too-deep i refl (deep i refl) (ap Err (same_refusal r _ e))
faulted rules start bytes leaves (Some b) (derive.TooDeep i) r stops deep e =
    let d = deep i refl in
    ends-at-bad b refl (d.kind, d.kids, d.derived) (ap Err (same_refusal r _ e))
faulted rules start bytes leaves bad derive.NoMemory r stops deep e = absurd (no_refusal r e)
