-- Files in memory, as a caller hands them in and as contracts see them.
use Rattle.std.specs.Prelude.{◌≢◌, ℕ, Bool, List, Vec, map, refl}
use Rattle.std.specs.Global.{Global}
use Rattle.std.specs.List.{AllPairs}
use Rattle.std.specs.Coded.{Coded, code_by, coded×, coded_ℕ, coded_bool, coded_list}
use Rattle.std.specs.FinMap as finmap
use Rattle.rw_host.specs.Files.{Files}
use Rattle.memory_stores.specs.States.{States, states_code, state_of_write}
use Rattle.memory_stores.specs.declared.state.FileState.{FileState}

-- what a store in memory holds, for how many writes it has room, and whether there was one since the last sync
pub record Content : Type 0 where
  pub files : Files
  pub spare : ℕ
  pub is_unsynced : Bool

abbrev pub files_code : Coded Files
files_code = finmap.code (coded_list coded_ℕ) (coded_list coded_ℕ)

abbrev pub content_code : Coded Content
content_code =
    code_by (Files × (ℕ × Bool)) (coded× files_code (coded× coded_ℕ coded_bool))
    (λ c. (c.files, (c.spare, c.is_unsynced)))
    (λ p. record { files = p.0; spare = p.1.0; is_unsynced = p.1.1 })
    (λ _. refl)

-- what a table knows of paths, and for how many more it has room
pub record Knowledge : Type 0 where
  pub states : States
  pub spare : ℕ

abbrev pub knowledge_code : Coded Knowledge
knowledge_code =
    code_by (States × ℕ) (coded× states_code coded_ℕ)
    (λ k. (k.states, k.spare))
    (λ p. record { states = p.0; spare = p.1 })
    (λ _. refl)

-- paths with the bytes of their files
abbrev pub GivenFiles : Type 0
GivenFiles = List (List ℕ × Vec ℕ Global)

abbrev pub entries_of : GivenFiles → List (List ℕ × List ℕ)
entries_of files = map (λ file. (file.0, file.1.items)) files

-- what a store in memory knows of them
abbrev pub initial_states : GivenFiles → List (List ℕ × FileState)
initial_states files = map (λ file. (file.0, state_of_write file.1.items 0)) files

-- no path comes twice
abbrev pub IsEachOnce : GivenFiles → Type 0
IsEachOnce files = AllPairs (λ one other. one ≢ other) (map (λ file. file.0) files)
