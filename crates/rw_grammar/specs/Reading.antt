-- Reading by a table, in any language. The language cuts a text into leaves, up to its first bad place where it has
-- one, and a rule derives a tree from them. What comes of it is the tree, or the place and the cause of a refusal.
use Rattle.std.specs.Prelude.{◌≡◌, ℕ, ◌<◌, ◌≤◌, ◌==◌, nat_lt, if◌then◌else◌, List, length}
use Rattle.std.specs.Prelude.{Option, Some, None, Result, Ok, Err}
use Rattle.rw_base.specs.declared.tree.Leaf.{Leaf}
use Rattle.rw_base.specs.declared.leaves.Bad.{Bad}
use Rattle.rw_base.specs.declared.leaves.TheConstants.{MOST_BYTES}
use Rattle.rw_base.specs.declared.place.Cause.{Cause}
use Rattle.rw_base.specs.declared.place.Cause.TheVariants.{Unexpected, Unfinished, TooLarge, TooDeep}
use Rattle.rw_base.specs.declared.place.Refused.{Refused}
use Rattle.rw_base.specs.Arena.{Arena, leaf_at}
use Rattle.rw_base.specs.Places.{place_at}
use Rattle.rw_grammar.specs.Parts.{Parts}
use Rattle.rw_grammar.specs.Results.{Stops, IsDerivable, IsDerived, IsTooDeep}

-- refused at a byte
abbrev pub refused_at : List ℕ → ℕ → Cause → Refused
refused_at bytes at cause = record { place = place_at bytes at; cause = cause }

-- where the text of a leaf begins; for the number of leaves, the end of the text
abbrev pub begin_of : List ℕ → List Leaf → ℕ → ℕ
begin_of bytes leaves i = if nat_lt i (length leaves) then (leaf_at leaves i).from else length bytes

-- A leaf that begins here can't stand: at the end of the text something is missing.
abbrev pub refused_leaf : List ℕ → ℕ → Refused
refused_leaf bytes at = refused_at bytes at (if at == length bytes then Unfinished else Unexpected)

-- The earlier of a leaf that can't stand and the bad place. Where both are one, the bad place counts.
abbrev pub refused_first : List ℕ → Option Bad → ℕ → Refused
refused_first bytes None at = refused_leaf bytes at
refused_first bytes (Some bad) at =
    if nat_lt at bad.byte then refused_leaf bytes at else refused_at bytes bad.byte bad.cause

-- What comes of a text with these leaves up to this bad place, if it has one.
pub data IsOutcome (rules : List Parts) (start : ℕ) (bytes : List ℕ) (leaves : List Leaf) (bad : Option Bad)
    (outcome : Result Arena Refused) : Type 0 where
  -- the derivation stops at a leaf
  stops-at-leaf : (i : ℕ) → Stops rules start leaves i
      → outcome ≡ Err (refused_first bytes bad (begin_of bytes leaves i))
      → IsOutcome rules start bytes leaves bad outcome
  -- the leaves up to the bad place are derived
  ends-at-bad : (b : Bad) → bad ≡ Some b → IsDerivable rules start leaves
      → outcome ≡ Err (refused_at bytes b.byte b.cause)
      → IsOutcome rules start bytes leaves bad outcome
  -- all leaves are derived, and this is the first leaf of the first node that lies too deep
  is-too-deep : (i : ℕ) → bad ≡ None → IsTooDeep rules start leaves i
      → outcome ≡ Err (refused_at bytes (begin_of bytes leaves i) TooDeep)
      → IsOutcome rules start bytes leaves bad outcome
  -- all leaves are derived, and this is the tree
  is-tree : (t : Arena) → bad ≡ None → IsDerived rules start leaves t
      → outcome ≡ Ok t
      → IsOutcome rules start bytes leaves bad outcome

-- What comes of a text. `cut leaves bad` says of the language that the text has these leaves up to this bad place.
pub data IsRead (cut : List Leaf → Option Bad → Type 0) (rules : List Parts) (start : ℕ) (bytes : List ℕ)
    (outcome : Result Arena Refused) : Type 0 where
  is-too-large : MOST_BYTES < length bytes → outcome ≡ Err (refused_at bytes MOST_BYTES TooLarge)
      → IsRead cut rules start bytes outcome
  is-cut : (leaves : List Leaf) (bad : Option Bad) → length bytes ≤ MOST_BYTES → cut leaves bad
      → IsOutcome rules start bytes leaves bad outcome
      → IsRead cut rules start bytes outcome
