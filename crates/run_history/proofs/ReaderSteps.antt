-- What one read does to the records that a reader has left.
use Rattle.std.specs.Prelude.{Option, None, length}
use Rattle.std.proofs.Common.{◌≡◌, ℕ, zero, suc, ◌+◌, ◌<◌, ◌≤◌, ◌==◌, ◌||◌, ◌∙◌, Bor, Bool, List, [], ◌∷◌, Some, true}
use Rattle.std.proofs.Common.{false, arith, sym, refl, ap, add-one, inl, inr, if◌then◌else◌}
use Rattle.std.proofs.lemmas.Bool.{cases_Bool, false≢true}
use Rattle.csv.specs.Machine.{Read, ends_at_end, in_field, is_end, next_record, start_field, start_record, step}
use Rattle.csv.specs.Reading.{ExplainsRead, Reached, ReadRecord, default_config, is_flexible, names_headers}
use Rattle.csv.specs.Reading.{reader_config, reader_headers, reader_state, reader_trim, records_from, records_next}
use Rattle.csv.specs.Reading.{source_of, strip_bom, took_first}
use Rattle.csv.specs.declared.error.ErrorKind.{ErrorKind}
use Rattle.csv.specs.declared.error.ErrorKind.TheVariants as kind
use Rattle.csv.specs.declared.parser.Action.{Action}
use Rattle.csv.specs.declared.parser.Action.TheVariants as act
use Rattle.csv.specs.declared.parser.State.{State}
use Rattle.csv.specs.declared.parser.State.TheVariants as st
use Rattle.csv.specs.declared.reader.Reader.{Reader}
use Rattle.csv.specs.declared.reader.Trim.TheVariants as trim
use Rattle.csv.proofs.ReadFacts.{rows-end, rows-more}
use Rattle.run_history.specs.History.{records_of}
use Rattle.run_history.specs.Reader.{IsBetween, IsOfMemory, known, left_bytes, left_in}

-- what ends a record leaves the machine where the text may end
abbrev EndsWell : State × Action → Type 0
EndsWell after = is_end after.1 ≡ true → ends_at_end after.0 ≡ false

-- of two ways on, where the first doesn't end a record
other_way : (b : Bool) (first second : State × Action) → is_end first.1 ≡ false → EndsWell second
    → EndsWell (if b then first else second)
other_way true first second none well = λ h. absurd (false≢true (sym none ∙ h))
other_way false first second none well = well

end_is_start : (cr : Bool) → ends_at_end (if cr then st.AfterCr else st.StartRecord) ≡ false
end_is_start true = refl
end_is_start false = refl

line_or_copy : (end : Bool) (after : State) → ends_at_end after ≡ false
    → EndsWell (if end then (after, act.EndRecord) else (st.InField, act.Copy))
line_or_copy true after start = λ h. start
line_or_copy false after start = λ h. absurd (false≢true h)

in_field_ends : (c : ℕ) → EndsWell (in_field default_config c)
in_field_ends c = other_way (c == 44) (st.StartField, act.EndField) _ refl (line_or_copy ((c == 13) || (c == 10)) _ (end_is_start (c == 13)))

start_field_ends : (c : ℕ) → EndsWell (start_field default_config c)
start_field_ends c = other_way (c == 34) (st.InQuoted, act.Skip) _ refl (in_field_ends c)

start_record_ends : (c : ℕ) → EndsWell (start_record default_config c)
start_record_ends c = other_way ((c == 13) || (c == 10)) (st.StartRecord, act.Skip) _ refl (start_field_ends c)

step_ends : (s : State) (c : ℕ) → EndsWell (step default_config s c)
step_ends st.StartRecord c = start_record_ends c
step_ends st.StartField c = start_field_ends c
step_ends st.InField c = in_field_ends c
step_ends st.InQuoted c = other_way (c == 34) (st.AfterQuote, act.Skip) _ refl (λ h. absurd (false≢true h))
step_ends st.InEscape c = λ h. absurd (false≢true h)
step_ends st.AfterQuote c = other_way (c == 34) (st.InQuoted, act.Copy) _ refl (in_field_ends c)
step_ends st.InComment c = other_way (c == 10) (st.StartRecord, act.Skip) _ refl (λ h. absurd (false≢true h))
step_ends st.AfterCr c = other_way (c == 10) (st.StartRecord, act.Skip) _ refl (start_record_ends c)

same_read : (fields : List (List ℕ)) (s : State) (rest : List ℕ) (p : Read) → Some (fields, s, rest) ≡ Some p
    → (s ≡ p.1) × (rest ≡ p.2)
same_read fields s rest p e = let same : (fields, s, rest) ≡ p = cc in (ap (λ (q : Read). q.1) same, ap (λ (q : Read). q.2) same)

-- a record that was read ends where the text may end, and leaves no more bytes than there were
ended : (s : State) (fields : List (List ℕ)) (field xs : List ℕ) (p : Read)
    → next_record default_config s fields field xs ≡ Some p
    → (ends_at_end p.1 ≡ false) × (length p.2 ≤ length xs)
unfolding next_record
ended s fields field [] p h =
    elim (cases_Bool (ends_at_end s)) [
      | inl at_end ↦
          let same = same_read _ st.StartRecord [] p (rw at_end at h) in
          (rw (← same.0) refl, rw (← same.1) (omega arith))
      | inr start ↦ cc (rw start at h)
    ]
ended s fields field (c ∷ rest) p h =
    elim (cases_Bool (is_end (step default_config s c).1)) [
      | inl end ↦
          let same = same_read _ (step default_config s c).0 rest p (rw end at h) in
          (rw (← same.0) (step_ends s c end), rw (← same.1) (omega arith))
      | inr more ↦
          let r = ended (step default_config s c).0 _ _ rest p (rw more at h) in
          let short = r.1 in
          (r.0, omega arith)
    ]

-- where a record may begin, one that is read takes a byte
shorter : (s : State) (xs : List ℕ) (p : Read) → ends_at_end s ≡ false
    → next_record default_config s [] [] xs ≡ Some p → length p.2 < length xs
unfolding next_record
shorter s [] p start h = cc (rw start at h)
shorter s (c ∷ rest) p start h =
    elim (cases_Bool (is_end (step default_config s c).1)) [
      | inl end ↦
          let same = same_read _ (step default_config s c).0 rest p (rw end at h) in
          rw (← same.1) (omega arith)
      | inr more ↦
          let r = ended (step default_config s c).0 _ _ rest p (rw more at h) in
          let short = r.1 in
          omega arith
    ]

same_next : (n m : ℕ) (o : Option Read)
    → ((p : Read) → o ≡ Some p → records_from default_config n p.1 p.2 ≡ records_from default_config m p.1 p.2)
    → records_next (records_from default_config n) o ≡ records_next (records_from default_config m) o
same_next n m None same = refl
same_next n m (Some p) same = ap (λ (rest : List (List (List ℕ))). p.0 ∷ rest) (same p refl)

-- all bounds above the length of the text give the same records
same_records : (n m : ℕ) (s : State) (xs : List ℕ) → ends_at_end s ≡ false → length xs < n → length xs < m
    → records_from default_config n s xs ≡ records_from default_config m s xs
unfolding records_from
same_records zero m s xs start ln lm = absurd (omega arith)
same_records (suc n) zero s xs start ln lm = absurd (omega arith)
same_records (suc n) (suc m) s xs start ln lm =
    same_next n m (next_record default_config s [] [] xs) (λ p h.
    let less = shorter s xs p start h in
    same_records n m p.1 p.2 (ended s [] [] xs p h).0 (omega arith) (omega arith))

-- the records of a text: the first, and those of what is left behind it
pub read_one : (s : State) (xs : List ℕ) (p : Read) → ends_at_end s ≡ false
    → next_record default_config s [] [] xs ≡ Some p
    → records_from default_config (length xs + 1) s xs ≡ p.0 ∷ records_from default_config (length p.2 + 1) p.1 p.2
unfolding records_from
read_one s xs p start h =
    let less = shorter s xs p start h in
    rw (add-one, h) (ap (λ (rest : List (List (List ℕ))). p.0 ∷ rest) (same_records (length xs) (length p.2 + 1) p.1 p.2 (ended s [] [] xs p h).0 (omega arith) (omega arith)))

pub read_none : (s : State) (xs : List ℕ) → next_record default_config s [] [] xs ≡ None
    → records_from default_config (length xs + 1) s xs ≡ []
unfolding records_from
read_none s xs h = rw (add-one, h) refl

found_left : (all : List (List (List ℕ))) (fields : List (List ℕ)) (p : Read) (s : State) (z : List ℕ)
    → all ≡ p.0 ∷ records_from default_config (length p.2 + 1) p.1 p.2 → fields ≡ p.0 → p.1 ≡ s → p.2 ≡ z
    → all ≡ fields ∷ records_from default_config (length z + 1) s z
found_left all fields p s z e same state rest = rw (same, ← state, ← rest) e

-- a read that finds a record
pub next_found : (a b : Reader (Bor (List ℕ))) (fields : List (List ℕ)) → IsBetween a → took_first b ≡ true
    → is_flexible b ≡ is_flexible a → ReadRecord known a b true fields
    → IsBetween b × (left_in a ≡ fields ∷ left_in b)
unfolding Reached
next_found a b fields h first flexible r =
    let (z, source, reached) = rows-more known a b fields default_config a.state (left_bytes a) (left_bytes a) [] h.config h.source (refl, refl) r in
    let (p, next, same, rest) = reached in
    let left : left_bytes b ≡ z = rw source refl in
    let e = ended a.state [] [] (left_bytes a) p next in (
      record {
        ready = inl first;
        trim = r.3 ∙ h.trim;
        config = r.2 ∙ h.config;
        flexible = flexible ∙ h.flexible;
        state = rw (← rest.0) e.0;
        source = source ∙ ap Some (sym left);
      },
      found_left (left_in a) fields p b.state (left_bytes b) (read_one a.state (left_bytes a) p h.state next) same rest.0 (rest.1 ∙ sym left),
    )

-- a read that finds none
pub next_none : (a b : Reader (Bor (List ℕ))) (fields : List (List ℕ)) → IsBetween a
    → ReadRecord known a b false fields → left_in a ≡ []
next_none a b fields h r = read_none a.state (left_bytes a) (rows-end known a b fields default_config (left_bytes a) h.config h.source r)

-- a reader that has just been made
pub at_start : (reader : Reader (Bor (List ℕ))) (bytes : List ℕ) → reader_trim reader ≡ trim.None
    → names_headers reader ≡ false → reader_headers reader ≡ None
    → reader_config reader ≡ default_config → is_flexible reader ≡ true → reader_state reader ≡ st.StartRecord
    → source_of known reader ≡ Some (strip_bom bytes)
    → IsBetween reader × (left_in reader ≡ records_of bytes)
at_start reader bytes trim no_headers headers config flexible state source =
    let left : left_bytes reader ≡ strip_bom bytes = rw source refl in (
      record {
        ready = inr (inr (no_headers, headers));
        trim = trim;
        config = config;
        flexible = flexible;
        state = rw state refl;
        source = source ∙ ap Some (sym left);
      },
      rw (state, left) refl,
    )

-- a read of bytes, of records of any length, fails for no other reason
pub of_memory : {R : Type 0} (rem : R → Option (List ℕ)) (old new : Reader R) (why : ErrorKind)
    → is_flexible old ≡ true → ExplainsRead rem old new false why → IsOfMemory why
of_memory rem old new kind.OutOfMemory flexible e = tt
of_memory rem old new (kind.Io x) flexible e = tt
of_memory rem old new (kind.UnequalLengths pos expected len) flexible e = false≢true (sym e.0 ∙ flexible)
of_memory rem old new (kind.Utf8 pos err) flexible e = false≢true e.0
of_memory rem old new (kind.Serialize x) flexible e = e
of_memory rem old new (kind.Deserialize pos err) flexible e = e
