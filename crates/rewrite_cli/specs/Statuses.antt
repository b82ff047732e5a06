-- How a command ended, as its status and its text.
use Rattle.std.specs.Prelude.{◌≡◌, ℕ, ◌⊎◌, ◌≤◌, List, Result, Ok, Err}
use Rattle.rw_host.specs.Files.{Files}
use Rattle.rw_host.specs.declared.fault.StoreFault.{StoreFault}
use Rattle.rw_host.specs.declared.fault.StoreFault.TheVariants as fault
use Rattle.rewrite_cli.specs.declared.limits.Limit.TheVariants as limit
use Rattle.rewrite_cli.specs.declared.stop.Done.{Done}
use Rattle.rewrite_cli.specs.declared.stop.Stop.{Stop}
use Rattle.rewrite_cli.specs.declared.stop.Stop.TheVariants as stop
use Rattle.rewrite_cli.specs.Limits.{limit_line}
use Rattle.rewrite_cli.specs.Answers.{Answer, done, fault_line}
use Rattle.rewrite_cli.specs.Journals.{Journal, recovered}

-- a status of the program: done, done with something told of a file, usage, recipe fault, read fault, write fault, no
-- memory, output fault, limit, damage
abbrev pub IsStatus : ℕ → Type 0
IsStatus n = n ≤ 9

-- a status that is the answer's: no fault came in between
abbrev pub NamesNoFault : ℕ → Type 0
NamesNoFault n = n ≤ 1 ⊎ (n ≡ 3 ⊎ (n ≡ 8 ⊎ n ≡ 9))

-- how a fault of `list`, `read` or `reserve` ends a command
abbrev pub stop_of : StoreFault → Stop
stop_of fault.Failed = stop.ReadFault
stop_of fault.TooMany = stop.Limit limit.Paths
stop_of fault.NoMemory = stop.NoMemory

abbrev pub status_of : Result Done Stop → ℕ
status_of (Ok d) = done d.tells_of_files
status_of (Err (stop.Recipe line)) = 3
status_of (Err stop.ReadFault) = 4
status_of (Err stop.WriteFault) = 5
status_of (Err stop.NoMemory) = 6
status_of (Err (stop.Limit l)) = 8
status_of (Err (stop.Damaged line)) = 9

abbrev pub text_of : Result Done Stop → List ℕ
text_of (Ok d) = d.text.items
text_of (Err (stop.Recipe line)) = line
text_of (Err stop.ReadFault) = fault_line 4
text_of (Err stop.WriteFault) = fault_line 5
text_of (Err stop.NoMemory) = fault_line 6
text_of (Err (stop.Limit l)) = limit_line l
text_of (Err (stop.Damaged line)) = line

-- a command was done, or stopped by a fault of its recipe, a limit or damage, as its answer says
unfoldable pub IsAnswered : Answer → Result Done Stop → Files → Type 0
IsAnswered a (Ok d) after = (done d.tells_of_files ≡ a.status) × ((d.text.items ≡ a.text) × (after ≡ a.left))
IsAnswered a (Err (stop.Recipe line)) after = (3 ≡ a.status) × ((line ≡ a.text) × (after ≡ a.left))
IsAnswered a (Err (stop.Limit l)) after = (8 ≡ a.status) × ((limit_line l ≡ a.text) × (after ≡ a.left))
IsAnswered a (Err (stop.Damaged line)) after = (9 ≡ a.status) × ((line ≡ a.text) × (after ≡ a.left))
IsAnswered a (Err _) after = Unit {0}

-- a command ended before it wrote anything but what a recovery writes
abbrev pub IsHalted : ℕ → Type 0
IsHalted n = n ≡ 3 ⊎ (n ≡ 4 ⊎ (n ≡ 6 ⊎ (n ≡ 8 ⊎ n ≡ 9)))

-- files are what they were, or what a recovery makes of them
abbrev pub IsAsBefore : Journal → Files → Files → Type 0
IsAsBefore opened before after = (after ≡ before) ⊎ (after ≡ recovered opened before)
