-- Runs and their records, in turn.
use Rattle.std.specs.Prelude.{Option, None, Some, length}
use Rattle.std.proofs.Common.{◌≡◌, ℕ, zero, suc, ◌+◌, ◌≤◌, ◌∙◌, List, [], ◌∷◌, ◌++◌, arith, sym, refl, ap, inl, inr}
use Rattle.std.proofs.Common.{append_assoc, length-append}
use Rattle.std.proofs.lemmas.List.{append-nil}
use Rattle.std.proofs.lemmas.Bool.{cases_Bool}
use Rattle.csv.specs.Machine.{Read, next_record}
use Rattle.csv.specs.Reading.{default_config, is_bom, records_from, records_next, strip_bom}
use Rattle.csv.specs.declared.parser.State.{State}
use Rattle.csv.specs.declared.parser.State.TheVariants as st
use Rattle.run_history.specs.Faults.{IfAt, IsFirstOutOfForm, IsOutOfForm, StopsAt}
use Rattle.run_history.specs.History.{AreNumbered, AreRecordsOf, IsHistory, IsRecordOf, most_bytes, records_of}
use Rattle.run_history.specs.Reader.{OneMore}
use Rattle.run_history.specs.declared.reading.HistoryFault.{HistoryFault}
use Rattle.run_history.specs.declared.reading.HistoryFault.TheVariants as variant
use Rattle.run_history.specs.declared.row.RunRow.{RunRow}
use Rattle.run_history.proofs.Fields.{one_run}

-- one more run
pub numbered_more : (n : ℕ) (rows : List RunRow) (row : RunRow) → AreNumbered n rows → row.run ≡ length rows + n
    → AreNumbered n (rows ++ (row ∷ []))
unfolding AreNumbered
numbered_more n [] row h e = (omega (arith, e), tt)
numbered_more n (r ∷ rows) row h e = (h.0, numbered_more (n + 1) rows row h.1 (omega (arith, e)))

pub records_more : (rows : List RunRow) (records : List (List (List ℕ))) (row : RunRow) (fields : List (List ℕ))
    → AreRecordsOf rows records → IsRecordOf row fields
    → AreRecordsOf (rows ++ (row ∷ [])) (records ++ (fields ∷ []))
unfolding AreRecordsOf
records_more [] [] row fields h r = (r, tt)
records_more (x ∷ rows) (y ∷ records) row fields h r = (h.0, records_more rows records row fields h.1 r)
records_more [] (y ∷ records) row fields h r = absurd h
records_more (x ∷ rows) [] row fields h r = absurd h

pub as_many : (rows : List RunRow) (records : List (List (List ℕ))) → AreRecordsOf rows records
    → length rows ≡ length records
unfolding AreRecordsOf
as_many [] [] h = refl
as_many (x ∷ rows) (y ∷ records) h = let e = as_many rows records h.1 in omega (arith, e)
as_many [] (y ∷ records) h = absurd h
as_many (x ∷ rows) [] h = absurd h

-- records are those of one list of runs at most
pub one_list : (rows others : List RunRow) (records : List (List (List ℕ))) → AreRecordsOf rows records
    → AreRecordsOf others records → rows ≡ others
unfolding AreRecordsOf
one_list [] [] [] h g = refl
one_list (x ∷ rows) (y ∷ others) (fields ∷ records) h g = let first = one_run x y fields h.0 g.0 in let rest = one_list rows others records h.1 g.1 in cc (first, rest)
one_list [] (y ∷ others) [] h g = absurd g
one_list (x ∷ rows) others [] h g = absurd h
one_list [] others (fields ∷ records) h g = absurd h
one_list (x ∷ rows) [] (fields ∷ records) h g = absurd g

-- where a record is out of form, there are no runs
pub no_list : (n : ℕ) (rows : List RunRow) (before : List (List (List ℕ))) (fields : List (List ℕ)) (behind : List (List (List ℕ)))
    → AreNumbered n rows → AreRecordsOf rows (before ++ (fields ∷ behind)) → IsOutOfForm (length before + n) fields → ⊥
unfolding AreRecordsOf AreNumbered
no_list n [] [] fields behind ns h out = h
no_list n (x ∷ rows) [] fields behind ns h out = let number = ns.0 in out x (omega arith) h.0
no_list n [] (y ∷ before) fields behind ns h out = h
no_list n (x ∷ rows) (y ∷ before) fields behind ns h out =
    let e : length before + (n + 1) ≡ length (y ∷ before) + n = omega arith in
    no_list (n + 1) rows before fields behind ns.1 h.1 (rw e out)

few_next : (n : ℕ) (o : Option Read) → ((p : Read) → length (records_from default_config n p.1 p.2) ≤ n)
    → length (records_next (records_from default_config n) o) ≤ suc n
few_next n None few = omega arith
few_next n (Some p) few = let rest = few p in omega arith

-- a text has no more records than the bound for them
few_records : (n : ℕ) (s : State) (xs : List ℕ) → length (records_from default_config n s xs) ≤ n
unfolding records_from
few_records zero s xs = omega arith
few_records (suc n) s xs = few_next n (next_record default_config s [] [] xs) (λ p. few_records n p.1 p.2)

strip_shortens : (xs : List ℕ) → length (strip_bom xs) ≤ length xs
unfolding strip_bom
strip_shortens [] = omega arith
strip_shortens (a ∷ []) = omega arith
strip_shortens (a ∷ b ∷ []) = omega arith
strip_shortens (a ∷ b ∷ c ∷ rest) =
    elim (cases_Bool (is_bom a b c)) [
      | inl mark ↦ rw mark (omega arith)
      | inr none ↦ rw none (omega arith)
    ]

pub few_of : (bytes : List ℕ) → length (records_of bytes) ≤ length bytes + 1
few_of bytes =
    let few = few_records (length (strip_bom bytes) + 1) st.StartRecord (strip_bom bytes) in
    let short = strip_shortens bytes in
    omega arith

-- these runs are those of the records so far, and these records are left
pub record IsReadSoFar (bytes : List ℕ) (rows : List RunRow) (left : List (List (List ℕ))) : Type 0 where
  pub numbered : AreNumbered 1 rows
  pub before : List (List (List ℕ))
  pub in_form : AreRecordsOf rows before
  pub split : records_of bytes ≡ before ++ left

-- none is read yet
pub read_start : (bytes : List ℕ) (rows : List RunRow) (left : List (List (List ℕ))) → rows ≡ []
    → left ≡ records_of bytes → IsReadSoFar bytes rows left
unfolding AreNumbered AreRecordsOf
read_start bytes rows left none all = record {
  numbered = rw none tt;
  before = [];
  in_form = rw none tt;
  split = sym all;
}

-- one more run is read
pub read_more : (bytes : List ℕ) (rows after : List RunRow) (left rest : List (List (List ℕ))) (fields : List (List ℕ))
    → IsReadSoFar bytes rows left → left ≡ fields ∷ rest → OneMore rows after fields → IsReadSoFar bytes after rest
read_more bytes rows after left rest fields h next more = record {
  numbered = rw more.items (numbered_more 1 rows more.row h.numbered more.number);
  before = h.before ++ (fields ∷ []);
  in_form = rw more.items (records_more rows h.before more.row fields h.in_form more.in_form);
  split = h.split ∙ rw next (sym (append_assoc h.before (fields ∷ []) rest));
}

-- there are few runs
pub few_rows : (bytes : List ℕ) (rows : List RunRow) (left : List (List (List ℕ))) → IsReadSoFar bytes rows left
    → length rows ≤ length bytes + 1
few_rows bytes rows left h =
    let all = few_of bytes in
    let same = as_many rows h.before h.in_form in
    let parts : length (records_of bytes) ≡ length h.before + length left = ap length h.split ∙ length-append h.before left in
    omega arith

-- all records are read
pub read_all : (bytes : List ℕ) (rows : List RunRow) (left : List (List (List ℕ))) → IsReadSoFar bytes rows left
    → left ≡ [] → length bytes ≤ most_bytes
    → IsHistory bytes rows
read_all bytes rows left h none short = record {
  short = short;
  numbered = h.numbered;
  records = rw (h.split, none, append-nil) h.in_form;
}

-- the next record is out of form
pub read_bad : (bytes : List ℕ) (rows : List RunRow) (left rest : List (List (List ℕ))) (fields : List (List ℕ)) (place : ℕ)
    → IsReadSoFar bytes rows left → left ≡ fields ∷ rest → place ≡ length rows → IsOutOfForm (place + 1) fields
    → IsFirstOutOfForm bytes place
read_bad bytes rows left rest fields place h next at out = record {
  rows = rows;
  before = h.before;
  fields = fields;
  behind = rest;
  split = h.split ∙ ap (λ (more : List (List (List ℕ))). h.before ++ more) next;
  number = sym (as_many rows h.before h.in_form) ∙ sym at;
  numbered = h.numbered;
  in_form = h.in_form;
  out_of_form = out;
}

-- bytes are a history of one list of runs at most
pub one_history : (bytes : List ℕ) (rows others : List RunRow) → IsHistory bytes rows → IsHistory bytes others
    → rows ≡ others
one_history bytes rows others h g = one_list rows others (records_of bytes) h.records g.records

-- bytes that stop are no history
pub no_history : (bytes : List ℕ) (place : ℕ) (rows : List RunRow) → StopsAt bytes place → IsHistory bytes rows → ⊥
no_history bytes place rows (inl long) h = let short = h.short in let more = long.0 in omega arith
no_history bytes place rows (inr stop) h =
    let at = stop.1 in
    no_list 1 rows at.before at.fields at.behind h.numbered (rw at.split at h.records) (rw (at.number) at.out_of_form)

-- why the run of a record wasn't taken
pub bad_fault : (bytes : List ℕ) (rows : List RunRow) (left rest : List (List (List ℕ))) (fields : List (List ℕ))
    (fault : HistoryFault) → IsReadSoFar bytes rows left
    → left ≡ fields ∷ rest → length bytes ≤ most_bytes → IfAt fault (λ place. place ≡ length rows)
    → IfAt fault (λ place. IsOutOfForm (place + 1) fields)
    → IfAt fault (StopsAt bytes)
bad_fault bytes rows left rest fields (variant.At place) h next short at out = inr (short, read_bad bytes rows left rest fields place h next at out)
bad_fault bytes rows left rest fields variant.NoMemory h next short at out = tt

-- a place is named only where there is no reading
pub only_memory : (bytes : List ℕ) (rows : List RunRow) (fault : HistoryFault) → IfAt fault (StopsAt bytes)
    → IsHistory bytes rows → fault ≡ variant.NoMemory
only_memory bytes rows (variant.At place) stop h = absurd (no_history bytes place rows stop h)
only_memory bytes rows variant.NoMemory stop h = refl

-- of a list of records one place at most is that of the first out of form
one_first : (n : ℕ) (rows others : List RunRow) (before front : List (List (List ℕ))) (fields entry : List (List ℕ))
    (behind rest : List (List (List ℕ))) → before ++ (fields ∷ behind) ≡ front ++ (entry ∷ rest)
    → AreNumbered n rows → AreNumbered n others → AreRecordsOf rows before → AreRecordsOf others front
    → IsOutOfForm (length before + n) fields → IsOutOfForm (length front + n) entry → length before ≡ length front
unfolding AreRecordsOf AreNumbered
one_first n rows others [] [] fields entry behind rest same ns ms h g out bad = refl
one_first n rows (y ∷ others) [] (z ∷ front) fields entry behind rest same ns ms h g out bad =
    let head : fields ≡ z = cc in
    let number = ms.0 in
    absurd (out y (omega arith) (rw head g.0))
one_first n rows [] [] (z ∷ front) fields entry behind rest same ns ms h g out bad = absurd g
one_first n (x ∷ rows) others (z ∷ before) [] fields entry behind rest same ns ms h g out bad =
    let head : entry ≡ z = cc in
    let number = ns.0 in
    absurd (bad x (omega arith) (rw head h.0))
one_first n [] others (z ∷ before) [] fields entry behind rest same ns ms h g out bad = absurd h
one_first n (x ∷ rows) (y ∷ others) (w ∷ before) (z ∷ front) fields entry behind rest same ns ms h g out bad =
    let e : length before + (n + 1) ≡ length (w ∷ before) + n = omega arith in
    let f : length front + (n + 1) ≡ length (z ∷ front) + n = omega arith in
    let tails : before ++ (fields ∷ behind) ≡ front ++ (entry ∷ rest) = cc in
    let shorter = one_first (n + 1) rows others before front fields entry behind rest tails ns.1 ms.1 h.1 g.1 (rw e out) (rw f bad) in
    omega (arith, shorter)
one_first n [] others (w ∷ before) (z ∷ front) fields entry behind rest same ns ms h g out bad = absurd h
one_first n (x ∷ rows) [] (w ∷ before) (z ∷ front) fields entry behind rest same ns ms h g out bad = absurd g

-- bytes stop at one place at most
pub one_place : (bytes : List ℕ) (place other : ℕ) → StopsAt bytes place → StopsAt bytes other → place ≡ other
one_place bytes place other (inl long) (inl same) = long.1 ∙ sym same.1
one_place bytes place other (inl long) (inr stop) = let more = long.0 in let short = stop.0 in absurd (omega arith)
one_place bytes place other (inr stop) (inl long) = let more = long.0 in let short = stop.0 in absurd (omega arith)
one_place bytes place other (inr stop) (inr same) =
    let a = stop.1 in
    let b = same.1 in
    sym a.number ∙ one_first 1 a.rows b.rows a.before b.before a.fields b.fields a.behind b.behind (sym a.split ∙ b.split) a.numbered b.numbered a.in_form b.in_form
    (rw a.number a.out_of_form) (rw b.number b.out_of_form) ∙ b.number

-- a fault names no other place
pub only_place : (bytes : List ℕ) (place : ℕ) (fault : HistoryFault) → IfAt fault (StopsAt bytes)
    → StopsAt bytes place → IfAt fault (λ at. at ≡ place)
only_place bytes place (variant.At at) stop h = one_place bytes at place stop h
only_place bytes place variant.NoMemory stop h = tt
