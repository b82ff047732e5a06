-- Between the moments of a commit. These serve private functions alone.
use Rattle.std.specs.Prelude.{◌⊎◌, List}
use Rattle.rw_host.specs.Files.{Files, SameElsewhere}
use Rattle.journal_text.specs.Changes.{Change, gate}
use Rattle.run_journal.specs.Standing.{applied, SameBut}

-- some of the changes are made, or all of them, and then the gate may hold anything
abbrev pub Unfinished : List Change → Files → Files → Type 0
Unfinished changes old new = SameBut changes old new ⊎ SameElsewhere gate (applied changes old) new
