-- What the journal beside some files says, and what they stand for.
use Rattle.std.specs.Prelude.{◌≡◌, ℕ, false, List}
use Rattle.std.specs.FinMap as map
use Rattle.rw_host.specs.Files.{Files}
use Rattle.journal_text.specs.Changes.{Change, changes_of, gate}
use Rattle.journal_text.specs.declared.batch.Entry.{Entry}
use Rattle.run_journal.specs.Standing.{IsDamaged, IsRead, applied, is_open}

-- The gate is closed; or it is open, and these changes are still to be made; or it is open over a journal that has no
-- reading from this byte on.
pub data Journal : Type 0 where
  closed : Journal
  pending : List Change → Journal
  damaged : ℕ → Journal

-- files have such a journal
unfoldable pub IsJournalOf : Files → Journal → Type 0
IsJournalOf files closed = is_open files ≡ false
IsJournalOf files (pending changes) = IsRead files changes
IsJournalOf files (damaged at) = IsDamaged files at

-- the files with entries laid over them, the first of them first
abbrev pub laid : List Entry → Files → Files
laid entries files = applied (changes_of entries) files

-- the files with the changes made that are still to be made
abbrev pub stood : Journal → Files → Files
stood closed files = files
stood (pending changes) files = applied changes files
stood (damaged at) files = files

-- and with the gate closed then
unfoldable pub recovered : Journal → Files → Files
recovered closed files = files
recovered (pending changes) files = map.remove (applied changes files) gate
recovered (damaged at) files = files
