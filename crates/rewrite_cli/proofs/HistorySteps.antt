-- The history, read and told.
use Rattle.std.proofs.Common.{◌≡◌, ◌≢◌, ℕ, ◌<◌, ◌≤◌, ◌+◌, ◌++◌, false, List, [], ◌∷◌, length, drop, get_or, Option, Result, Ok, Err, refl, sym, ap, subst, ◌∙◌, append_assoc, append-nil, add-one, drop-cons}
use Rattle.std.specs.Prelude.{codes, decimal, Vec, unwrap_or}
use Rattle.std.specs.Global.{Global}
use Rattle.std.proofs.lemmas.List.{drop_all}
use Rattle.std.specs.Option.{option_map}
use Rattle.std.specs.FinMap as map
use Rattle.hex.specs.Hex.{encode_lower}
use Rattle.rw_host.specs.Files.{Files, first_bytes}
use Rattle.rw_host.specs.declared.fault.StoreFault.{StoreFault}
use Rattle.rw_host.specs.declared.fault.StoreFault.TheVariants as store_fault
use Rattle.run_history.specs.History.{IsHistory}
use Rattle.run_history.specs.Faults.{IfAt, StopsAt}
use Rattle.run_history.specs.declared.reading.HistoryFault.{HistoryFault}
use Rattle.run_history.specs.declared.reading.HistoryFault.TheVariants as history_fault
use Rattle.run_history.specs.declared.row.RunRow.{RunRow}
use Rattle.rewrite_cli.specs.declared.histories.TheConstants.{MOST_HISTORY}
use Rattle.rewrite_cli.specs.declared.stop.Done.{Done}
use Rattle.rewrite_cli.specs.declared.stop.Stop.{Stop}
use Rattle.rewrite_cli.specs.declared.stop.Stop.TheVariants as stop
use Rattle.rewrite_cli.specs.Answers.{damaged_line, history_answer}
use Rattle.rewrite_cli.specs.Ends.{IsFault, IsHistoryEnd, IsStopOfHistory, TellsDamage}
use Rattle.rewrite_cli.specs.Histories.{History, rows, damaged, IsHistoryOf, count_text, history_bytes, history_path, run_line, run_lines}
use Rattle.rewrite_cli.specs.Meanings.{Meanings}
use Rattle.rewrite_cli.specs.Statuses.{IsAnswered, stop_of}

-- ---- stops of which no answer speaks

pub fault_read : IsFault stop.ReadFault
unfolding IsFault
fault_read = tt

pub fault_write : IsFault stop.WriteFault
unfolding IsFault
fault_write = tt

pub fault_memory : IsFault stop.NoMemory
unfolding IsFault
fault_memory = tt

pub fault_of_store : (f : StoreFault) (s : Stop) → s ≡ stop_of f → f ≢ store_fault.TooMany → IsFault s
unfolding IsFault
fault_of_store store_fault.Failed s e n = rw e tt
fault_of_store store_fault.TooMany s e n = absurd (n refl)
fault_of_store store_fault.NoMemory s e n = rw e tt

-- ---- the file

pub history_read : (files : Files) (path bytes : List ℕ) (found : Option (List ℕ)) → path ≡ history_path → found ≡ option_map (first_bytes MOST_HISTORY) (map.get files path)
    → bytes ≡ unwrap_or found [] → bytes ≡ history_bytes files
unfolding history_bytes
history_read files path bytes found p e b =
    b ∙ ap (λ o. unwrap_or o []) (e ∙ ap (λ q. option_map (first_bytes MOST_HISTORY) (map.get files q)) p)

pub ruleset read = (fault_of_store)

-- ---- lines

more : (old front back b : List ℕ) → back ≡ old ++ front → back ++ b ≡ old ++ (front ++ b)
more old front back b e = ap (λ t. t ++ b) e ∙ append_assoc old front b

pub run_joined : (old : List ℕ) (row : RunRow)
    → old ++ decimal row.run ++ codes " " ++ row.recipe ++ count_text (codes " cycles ") row.cycles ++ count_text (codes " changed ") row.changed ++ count_text (codes " created ") row.created
    ++ count_text (codes " removed ") row.removed ++ codes " " ++ encode_lower row.digest ++ codes "\n" ≡ old ++ run_line row
unfolding run_line
run_joined old row =
    more old _ _ (codes "\n") (more old _ _ (encode_lower row.digest) (more old _ _ (codes " ") (more old _ _ (count_text (codes " removed ") row.removed)
    (more old _ _ (count_text (codes " created ") row.created) (more old _ _ (count_text (codes " changed ") row.changed) (more old _ _ (count_text (codes " cycles ") row.cycles)
    (more old _ _ row.recipe (more old (decimal row.run) _ (codes " ") refl))))))))

-- the texts after each part of a line
module _ (row : RunRow) (t0 t1 t2 t3 t4 t5 t6 t7 t8 t9 t10 : List ℕ) where
  pub run_by : t1 ≡ t0 ++ decimal row.run → t2 ≡ t1 ++ codes " " → t3 ≡ t2 ++ row.recipe → t4 ≡ t3 ++ count_text (codes " cycles ") row.cycles → t5 ≡ t4 ++ count_text (codes " changed ") row.changed
      → t6 ≡ t5 ++ count_text (codes " created ") row.created → t7 ≡ t6 ++ count_text (codes " removed ") row.removed → t8 ≡ t7 ++ codes " " → t9 ≡ t8 ++ encode_lower row.digest
      → t10 ≡ t9 ++ codes "\n" → t10 ≡ t0 ++ run_line row
  run_by e1 e2 e3 e4 e5 e6 e7 e8 e9 e10 =
      e10 ∙ ap (λ t. t ++ codes "\n") (e9 ∙ ap (λ t. t ++ encode_lower row.digest) (e8 ∙ ap (λ t. t ++ codes " ") (e7 ∙ ap (λ t. t ++ count_text (codes " removed ") row.removed)
      (e6 ∙ ap (λ t. t ++ count_text (codes " created ") row.created) (e5 ∙ ap (λ t. t ++ count_text (codes " changed ") row.changed) (e4 ∙ ap (λ t. t ++ count_text (codes " cycles ") row.cycles)
      (e3 ∙ ap (λ t. t ++ row.recipe) (e2 ∙ ap (λ t. t ++ codes " ") e1)))))))) ∙ run_joined t0 row

pub ruleset lines = (run_joined)

cut_to : {A : Type 0} (xs : List A) (i : ℕ) (x : A) → i < length xs → x ≡ get_or xs i x → drop i xs ≡ x ∷ drop (i + 1) xs
cut_to xs i x lt is = drop-cons xs i x lt ∙ rw add-one refl ∙ ap (λ y. y ∷ drop (i + 1) xs) (sym is)

pub runs_more : (rs : List RunRow) (i : ℕ) (r : RunRow) (out new all : List ℕ) → i < length rs → r ≡ get_or rs i r → new ≡ out ++ run_line r → out ++ run_lines (drop i rs) ≡ all
    → new ++ run_lines (drop (i + 1) rs) ≡ all
unfolding run_lines
runs_more rs i r out new all lt is e h =
    ap (λ t. t ++ run_lines (drop (i + 1) rs)) e
    ∙ (append_assoc out (run_line r) (run_lines (drop (i + 1) rs))
    ∙ (sym (ap (λ xs. out ++ run_lines xs) (cut_to rs i r lt is)) ∙ h))

pub runs_end : (rs : List RunRow) (i : ℕ) (out all : List ℕ) → length rs ≤ i → out ++ run_lines (drop i rs) ≡ all → out ≡ all
unfolding run_lines
runs_end rs i out all le h = sym (ap (λ xs. out ++ run_lines xs) (drop_all i rs le) ∙ append-nil out) ∙ h

pub ruleset listed = (runs_more, runs_end)

-- ---- damage

pub damage_is : (path : List ℕ) (at : ℕ) → codes "damaged: " ++ path ++ codes " at " ++ decimal at ++ codes "\n" ≡ damaged_line path at
unfolding damaged_line
damage_is path at = refl

pub damage_told : (path line : List ℕ) (at : ℕ) → line ≡ damaged_line path at → TellsDamage path at (stop.Damaged line)
unfolding TellsDamage
damage_told path line at e = e

pub damage_untold : (path : List ℕ) (at : ℕ) → TellsDamage path at stop.NoMemory
unfolding TellsDamage
damage_untold path at = tt

pub ruleset damages = (damage_is, damage_told, damage_untold)

-- a stop of damage is none of the store
pub damage_no_read : (path : List ℕ) (at : ℕ) (s : Stop) → TellsDamage path at s → s ≢ stop.ReadFault
unfolding TellsDamage
damage_no_read path at s t e = subst (TellsDamage path at) e t

pub damage_no_write : (path : List ℕ) (at : ℕ) (s : Stop) → TellsDamage path at s → s ≢ stop.WriteFault
unfolding TellsDamage
damage_no_write path at s t e = subst (TellsDamage path at) e t

-- ---- how the reading of a history ends

pub is_rows : (bytes : List ℕ) (h : History) (runs : List RunRow) → IsHistoryOf bytes h → ((rs : List RunRow) → IsHistory bytes rs → runs ≡ rs) → ((n : ℕ) → StopsAt bytes n → ⊥) → h ≡ rows runs
unfolding IsHistoryOf
is_rows bytes (rows rs) runs i f g = ap rows (sym (f rs i))
is_rows bytes (damaged n) runs i f g = absurd (g n i)

pub is_damaged : (bytes : List ℕ) (h : History) (at : ℕ) → IsHistoryOf bytes h → ((rs : List RunRow) → IsHistory bytes rs → ⊥) → ((n : ℕ) → StopsAt bytes n → n ≡ at) → h ≡ damaged at
unfolding IsHistoryOf
is_damaged bytes (rows rs) at i f g = absurd (f rs i)
is_damaged bytes (damaged n) at i f g = ap damaged (g n i)

module _ (h : History) where
  pub rows_end : (runs : Vec RunRow Global) → h ≡ rows runs.items → IsHistoryEnd h (Ok runs)
  unfolding IsHistoryEnd
  rows_end runs e = e

  pub damage_end : (at : ℕ) (path : List ℕ) (s : Stop) → h ≡ damaged at → path ≡ history_path → TellsDamage path at s → IsHistoryEnd h (Err s)
  unfolding IsHistoryEnd TellsDamage
  damage_end at path (stop.Damaged line) e p t = (at, (e, t ∙ ap (λ q. damaged_line q at) p))
  damage_end at path stop.NoMemory e p t = tt
  damage_end at path stop.ReadFault e p t = absurd t
  damage_end at path stop.WriteFault e p t = absurd t
  damage_end at path (stop.Recipe line) e p t = absurd t
  damage_end at path (stop.Limit l) e p t = absurd t

  pub memory_end : IsHistoryEnd h (Err stop.NoMemory)
  unfolding IsHistoryEnd
  memory_end = tt

  pub fault_end : (s : Stop) → IsFault s → s ≢ stop.WriteFault → IsHistoryEnd h (Err s)
  unfolding IsHistoryEnd IsFault
  fault_end stop.ReadFault f n = tt
  fault_end stop.WriteFault f n = absurd (n refl)
  fault_end stop.NoMemory f n = tt
  fault_end (stop.Recipe line) f n = absurd f
  fault_end (stop.Limit l) f n = absurd f
  fault_end (stop.Damaged line) f n = absurd f

-- a fault of the history, by what its bytes are
pub stop_end : (bytes : List ℕ) (h : History) (f : HistoryFault) (s : Stop) → IsHistoryOf bytes h → ((rs : List RunRow) → IsHistory bytes rs → f ≡ history_fault.NoMemory)
    → ((n : ℕ) → StopsAt bytes n → IfAt f (λ at. at ≡ n)) → IsStopOfHistory f s → IsHistoryEnd h (Err s)
unfolding IsStopOfHistory
stop_end bytes h (history_fault.At at) s i r n t =
    damage_end h at history_path s (is_damaged bytes h at i (λ rs is. absurd (let bad = r rs is in cc)) (λ m is. sym (n m is))) refl t
stop_end bytes h history_fault.NoMemory s i r n t = rw t (memory_end h)

pub stop_damaged : (at : ℕ) (path : List ℕ) (s : Stop) → path ≡ history_path → TellsDamage path at s → IsStopOfHistory (history_fault.At at) s
unfolding IsStopOfHistory
stop_damaged at path s p t = subst (λ q. TellsDamage q at s) p t

pub stop_memory : IsStopOfHistory history_fault.NoMemory stop.NoMemory
unfolding IsStopOfHistory
stop_memory = refl

pub stop_no_read : (f : HistoryFault) (s : Stop) → IsStopOfHistory f s → s ≢ stop.ReadFault
unfolding IsStopOfHistory TellsDamage
stop_no_read (history_fault.At at) s t e = subst (TellsDamage history_path at) e t
stop_no_read history_fault.NoMemory s t e = absurd (let bad : stop.NoMemory ≡ stop.ReadFault = sym t ∙ e in cc)

pub stop_no_write : (f : HistoryFault) (s : Stop) → IsStopOfHistory f s → s ≢ stop.WriteFault
unfolding IsStopOfHistory TellsDamage
stop_no_write (history_fault.At at) s t e = subst (TellsDamage history_path at) e t
stop_no_write history_fault.NoMemory s t e = absurd (let bad : stop.NoMemory ≡ stop.WriteFault = sym t ∙ e in cc)

pub ruleset stops = (stop_damaged, stop_memory)

pub end_at : (history : List ℕ → History) (a b : List ℕ) (r : Result (Vec RunRow Global) Stop) → a ≡ b → IsHistoryEnd (history a) r → IsHistoryEnd (history b) r
end_at history a b r e i = subst (λ x. IsHistoryEnd (history x) r) e i

pub ruleset ends = (memory_end, fault_end, stop_no_read, stop_no_write)

-- ---- the answer of `history`

module _ (meanings : Meanings) (files standing after : Files) (same : after ≡ files) where
  pub history_told : (runs : List RunRow) (d : Done) → meanings.history (history_bytes standing) ≡ rows runs → d.text.items ≡ run_lines runs → d.tells_of_files ≡ false
      → IsAnswered (history_answer meanings files standing) (Ok d) after
  unfolding IsAnswered history_answer
  history_told runs d e t n = rw e (rw n refl, (t, same))

  pub history_stopped : (s : Stop) → IsHistoryEnd (meanings.history (history_bytes standing)) (Err s) → IsAnswered (history_answer meanings files standing) (Err s) after
  unfolding IsAnswered history_answer IsHistoryEnd
  history_stopped (stop.Damaged line) i = rw i.1.0 (refl, (i.1.1, same))
  history_stopped stop.ReadFault i = tt
  history_stopped stop.WriteFault i = tt
  history_stopped stop.NoMemory i = tt
  history_stopped (stop.Recipe line) i = absurd i
  history_stopped (stop.Limit l) i = absurd i

pub rows_are : (h : History) (runs : Vec RunRow Global) → IsHistoryEnd h (Ok runs) → h ≡ rows runs.items
unfolding IsHistoryEnd
rows_are h runs e = e

pub no_memory : (meanings : Meanings) (files standing after : Files) → IsAnswered (history_answer meanings files standing) (Err stop.NoMemory) after
unfolding IsAnswered
no_memory meanings files standing after = tt

pub ruleset told = (history_told, history_stopped, rows_are, no_memory)
