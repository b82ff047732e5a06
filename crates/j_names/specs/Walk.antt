-- The walk over a class and the types that it inherits from (JLS 8.2, 9.2): each class with its supertypes in order,
-- none twice.
use Rattle.std.specs.Prelude.{ℕ, List, [], ◌∷◌, ◌++◌, Option, None, Some, Bool, true, false, ◌||◌, zero, suc}
use Rattle.std.specs.Prelude.{if◌then◌else◌}
use Rattle.std.specs.List.{list_any}
use Rattle.dialogue.specs.Dialogue.{done, ask, bind, in_turn}
use Rattle.jtypes.specs.World.{Rule, name_eq}
use Rattle.jtypes.specs.Subtype.{object_name}
use Rattle.jtypes.specs.declared.ask.Ask.TheVariants.{Class as AskClass}
use Rattle.jtypes.specs.declared.signatures.ClassKind.{ClassKind}
use Rattle.jtypes.specs.declared.signatures.ClassKind.TheVariants.{Interface}
use Rattle.jtypes.specs.declared.signatures.Header.{Header}

abbrev pub is_in : List (List ℕ) → List ℕ → Bool
is_in names name = list_any (λ n. name_eq name n) names

-- annotation types aren't interfaces here
abbrev pub is_interface : ClassKind → Bool
is_interface Interface = true
is_interface kind = false

-- what a walk has found so far, and the classes that it has visited
pub record Walked (S : Type 0) : Type 0 where
  pub found : S
  pub seen : List (List ℕ)

abbrev pub walked : {S : Type 0} → S → List (List ℕ) → Walked S
walked s names = record { found = s; seen = names }

abbrev pub with_seen : {S : Type 0} → Walked S → List ℕ → S → Walked S
with_seen at name s = walked s (at.seen ++ name ∷ [])

-- what is sought: when a walk is over, and what the visit of a class that is there finds
pub record Sought (S : Type 0) : Type 0 where
  pub over : S → Bool
  pub visit : List ℕ → Header → S → Rule S

abbrev pub sought : {S : Type 0} → (S → Bool) → (List ℕ → Header → S → Rule S) → Sought S
sought o v = record { over = o; visit = v }

-- how a walk goes on from a class
abbrev pub Onward : Type 0 → Type 0
Onward S = Walked S → Header → Rule (Walked S)

abbrev pub after_visit : {S : Type 0} → Sought S → Onward S → Walked S → List ℕ → Header → S → Rule (Walked S)
after_visit what onward at name header s =
    if what.over s then done (walked s at.seen) else onward (with_seen at name s) header

abbrev pub class_there : {S : Type 0} → Sought S → Onward S → Walked S → List ℕ → Option Header → Rule (Walked S)
class_there what onward at name None = done (with_seen at name at.found)
class_there what onward at name (Some header) =
    bind (what.visit name header at.found) (after_visit what onward at name header)

-- the visit of a class, unless the walk is over or was there: it asks for the class by the name that was met, and
-- where the class is there finds what is sought; then the walk goes on from it
unfoldable pub visited : {S : Type 0} → Sought S → Onward S → Walked S → List ℕ → Rule (Walked S)
visited what onward at name =
    if what.over at.found || is_in at.seen name then done at
    else ask (AskClass name) (class_there what onward at name)

-- from a class to its supertypes in order, each with its own, at most so many in a row
unfoldable pub walk_up : {S : Type 0} → Sought S → ℕ → Walked S → List ℕ → Rule (Walked S)
walk_up what zero = visited what (λ at header. done at)
walk_up what (suc n) = visited what (λ at header. in_turn (walk_up what n) at header.supertypes)

-- a walk from an interface ends with Object (JLS 9.2)
abbrev pub first_supertypes : Header → List (List ℕ)
first_supertypes header =
    if is_interface header.kind then header.supertypes ++ object_name ∷ [] else header.supertypes

-- how many supertypes in a row are walked behind a first one: 64 with it
unfoldable pub most_behind : ℕ
most_behind = 63

abbrev pub from_start : {S : Type 0} → Sought S → Onward S
from_start what at header = in_turn (walk_up what most_behind) at (first_supertypes header)

-- the walk from a class, from what was found before it
unfoldable pub walk : {S : Type 0} → Sought S → S → List ℕ → Rule S
walk what none start = bind (visited what (from_start what) (walked none []) start) (λ at. done at.found)
