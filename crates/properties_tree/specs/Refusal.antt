-- Why a properties file is refused.
use Rattle.std.specs.Prelude.{◌≡◌, ℕ, ◌<◌, List, length}
use Rattle.rw_base.specs.Places.{place_at}
use Rattle.rw_base.specs.declared.place.Refused.{Refused}
use Rattle.rw_base.specs.declared.place.Cause.TheVariants as cause
use Rattle.rw_base.specs.declared.leaves.TheConstants.{MOST_BYTES}

-- a file with more bytes than are read, refused at the first of them that is too many
unfoldable pub too_large : List ℕ → Refused
too_large bytes = record { place = place_at bytes MOST_BYTES; cause = cause.TooLarge }

-- A file is refused with its cause and place for having more bytes than that.
abbrev pub IsTooLarge : List ℕ → Refused → Type 0
IsTooLarge bytes refused = (MOST_BYTES < length bytes) × (refused ≡ too_large bytes)
