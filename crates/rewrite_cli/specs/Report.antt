-- What `run` and `dry` tell.
use Rattle.std.specs.Prelude.{ℕ, ◌+◌, Bool, true, false, List, [], ◌∷◌, ◌++◌, decimal, codes, if◌then◌else◌, None, Some}
use Rattle.rw_base.specs.declared.place.Place.{Place}
use Rattle.kept_files.specs.States.{State}
use Rattle.scheduler.specs.declared.event.DropCause.{DropCause}
use Rattle.scheduler.specs.declared.event.DropCause.TheVariants as drop_cause
use Rattle.scheduler.specs.declared.event.Event.{Event}
use Rattle.scheduler.specs.declared.event.Event.TheVariants as event
use Rattle.rewrite_cli.specs.declared.changes.Change.{Change}
use Rattle.rewrite_cli.specs.declared.changes.Change.TheVariants.{Created, Changed, Removed}
use Rattle.rewrite_cli.specs.declared.report.ChangeKind.{ChangeKind}
use Rattle.rewrite_cli.specs.declared.report.ChangeKind.TheVariants as kind
use Rattle.rewrite_cli.specs.Changes.{changes}
use Rattle.rewrite_cli.specs.Checking.{name_of, refused_line}
use Rattle.rewrite_cli.specs.Running.{Ran}
use Rattle.command_words.specs.Words.{Asked}

-- ---- numbers

-- how many of these files were read
unfoldable pub count_read_in : State → ℕ
count_read_in [] = 0
count_read_in (f ∷ fs) = (elim f.bytes [ Some bytes ↦ 1 | None ↦ 0 ]) + count_read_in fs

-- whether a change is of a kind, and how many are
unfoldable pub has_kind : ChangeKind → Change → Bool
has_kind kind.Created (Created f) = true
has_kind kind.Changed (Changed f) = true
has_kind kind.Removed (Removed f) = true
has_kind _ _ = false

unfoldable pub count_of : ChangeKind → List Change → ℕ
count_of k [] = 0
count_of k (c ∷ cs) = (if has_kind k c then 1 else 0) + count_of k cs

-- ---- lines

-- the line of a number, behind its name
unfoldable pub number_line : List ℕ → ℕ → List ℕ
number_line name n = name ++ (codes " " ++ (decimal n ++ codes "\n"))

unfoldable pub text_line : List ℕ → List ℕ → List ℕ
text_line name text = name ++ (codes " " ++ (text ++ codes "\n"))

unfoldable pub change_line : Change → List ℕ
change_line (Created f) = text_line (codes "created") f.path
change_line (Changed f) = text_line (codes "changed") f.path
change_line (Removed f) = text_line (codes "removed") f.path

unfoldable pub change_lines : List Change → List ℕ
change_lines [] = []
change_lines (c ∷ cs) = change_line c ++ change_lines cs

abbrev pub drop_name : DropCause → List ℕ
drop_name (drop_cause.Refused cause) = name_of cause
drop_name drop_cause.Taken = codes "Taken"

-- an edit that was dropped: the path, the line and the column, the cause, and the recipe
unfoldable pub dropped_line : List ℕ → Place → DropCause → List ℕ → List ℕ
dropped_line path place cause recipe =
    codes "dropped " ++ path ++ codes " " ++ decimal place.line ++ codes ":" ++ decimal place.column ++ codes " "
    ++ drop_name cause ++ codes " " ++ recipe ++ codes "\n"

unfoldable pub event_line : Event → List ℕ
event_line (event.Refused path place cause) = refused_line path (record { place = place; cause = cause })
event_line (event.Dropped path place cause recipe) = dropped_line path place cause recipe

unfoldable pub event_lines : List Event → List ℕ
event_lines [] = []
event_lines (e ∷ es) = event_line e ++ event_lines es

unfoldable pub still_line : Bool → List ℕ
still_line still = if still then codes "still changing\n" else []

-- ---- the report

unfoldable pub head_lines : Asked → Ran → List ℕ
head_lines asked r =
    text_line (codes "recipe") asked.recipe
    ++ number_line (codes "cycles") r.cycles
    ++ number_line (codes "files") (count_read_in r.first)

unfoldable pub count_lines : List Change → List ℕ
count_lines cs =
    number_line (codes "changed") (count_of kind.Changed cs)
    ++ number_line (codes "created") (count_of kind.Created cs)
    ++ number_line (codes "removed") (count_of kind.Removed cs)

-- How many cycles there were, how many files were read, what was changed, and the events.
unfoldable pub report : Asked → Ran → List ℕ
report asked r =
    head_lines asked r ++ count_lines (changes r.first r.last) ++ change_lines (changes r.first r.last)
    ++ event_lines r.events ++ still_line r.still_changing
