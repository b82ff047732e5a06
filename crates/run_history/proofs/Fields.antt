-- The seven fields of a run's record, each at its place.
use Rattle.std.specs.Prelude.{Ok, Err, Option, None, Result, length, ◌↔◌}
use Rattle.std.specs.Result.{result_ok}
use Rattle.std.proofs.Common.{◌≡◌, ℕ, ◌^◌, ◌<◌, ◌∙◌, List, [], ◌∷◌, Some, decimal, arith, sym, refl}
use Rattle.std.proofs.lemmas.Fmt.{decimal_injective}
use Rattle.csv.specs.Records.{field_at}
use Rattle.hex.specs.Hex.{decode_sized}
use Rattle.run_history.specs.History.{IsRecordOf}
use Rattle.run_history.specs.Said.{digest_told}
use Rattle.run_history.specs.declared.row.RunRow.{RunRow}

-- what an answer tells of the number in a field
abbrev pub IsNumberAt : List (List ℕ) → ℕ → Option ℕ → Type 0
IsNumberAt fields place found = (n : ℕ) → n < 2 ^ 32 → (found ≡ Some n) ↔ (field_at fields place ≡ Some (decimal n))

pub none_some : {A : Type 0} (o : Option A) (x : A) → o ≡ None → o ≡ Some x → ⊥
none_some o x none some = let e : None ≡ Some x = sym none ∙ some in cc e

-- no number was found where one stands
pub missing_number : (fields : List (List ℕ)) (place n : ℕ) (found : Option ℕ) → IsNumberAt fields place found
    → found ≡ None → n < 2 ^ 32
    → field_at fields place ≡ Some (decimal n) → ⊥
missing_number fields place n found exact none small is = none_some found n none ((exact n small).1 is)

pub run_stands : (row : RunRow) (fields : List (List ℕ)) → IsRecordOf row fields
    → field_at fields 0 ≡ Some (decimal row.run)
unfolding field_at
run_stands row fields h = rw h.spelled refl

pub recipe_stands : (row : RunRow) (fields : List (List ℕ)) → IsRecordOf row fields
    → field_at fields 1 ≡ Some row.recipe
unfolding field_at
recipe_stands row fields h = rw h.spelled refl

pub cycles_stand : (row : RunRow) (fields : List (List ℕ)) → IsRecordOf row fields
    → field_at fields 2 ≡ Some (decimal row.cycles)
unfolding field_at
cycles_stand row fields h = rw h.spelled refl

pub changed_stand : (row : RunRow) (fields : List (List ℕ)) → IsRecordOf row fields
    → field_at fields 3 ≡ Some (decimal row.changed)
unfolding field_at
changed_stand row fields h = rw h.spelled refl

pub created_stand : (row : RunRow) (fields : List (List ℕ)) → IsRecordOf row fields
    → field_at fields 4 ≡ Some (decimal row.created)
unfolding field_at
created_stand row fields h = rw h.spelled refl

pub removed_stand : (row : RunRow) (fields : List (List ℕ)) → IsRecordOf row fields
    → field_at fields 5 ≡ Some (decimal row.removed)
unfolding field_at
removed_stand row fields h = rw h.spelled refl

pub digits_stand : (row : RunRow) (fields : List (List ℕ)) (h : IsRecordOf row fields)
    → field_at fields 6 ≡ Some h.digits
unfolding field_at
digits_stand row fields h = rw h.spelled refl

-- the digest of the fields, if they have one
abbrev pub digest_in : List (List ℕ) → Option (List ℕ)
digest_in fields = digest_told (field_at fields 6)

pub digest_found : (row : RunRow) (fields : List (List ℕ)) → IsRecordOf row fields → digest_in fields ≡ Some row.digest
digest_found row fields h = rw (digits_stand row fields h, h.digest) refl

-- a text that decodes
result_found : {E : Type 0} (r : Result (List ℕ) E) (digest : List ℕ) → result_ok r ≡ Some digest → r ≡ Ok digest
result_found (Ok x) digest e = cc
result_found (Err x) digest e = cc e

digest_read : (o : Option (List ℕ)) (digest : List ℕ) → digest_told o ≡ Some digest
    → (digits : List ℕ) × (o ≡ Some digits) × (decode_sized digits 32 ≡ Ok digest)
digest_read None digest e = cc e
digest_read (Some digits) digest e = (digits, refl, result_found (decode_sized digits 32) digest e)

-- seven fields by their places
seven : (fields : List (List ℕ)) (a b c d e f g : List ℕ) → length fields ≡ 7 → field_at fields 0 ≡ Some a
    → field_at fields 1 ≡ Some b
    → field_at fields 2 ≡ Some c → field_at fields 3 ≡ Some d → field_at fields 4 ≡ Some e
    → field_at fields 5 ≡ Some f → field_at fields 6 ≡ Some g
    → fields ≡ a ∷ b ∷ c ∷ d ∷ e ∷ f ∷ g ∷ []
unfolding field_at
seven (a' ∷ b' ∷ c' ∷ d' ∷ e' ∷ f' ∷ g' ∷ []) a b c d e f g len p0 p1 p2 p3 p4 p5 p6 = cc
seven [] a b c d e f g len p0 p1 p2 p3 p4 p5 p6 = cc len
seven (a' ∷ []) a b c d e f g len p0 p1 p2 p3 p4 p5 p6 = cc p1
seven (a' ∷ b' ∷ []) a b c d e f g len p0 p1 p2 p3 p4 p5 p6 = cc p2
seven (a' ∷ b' ∷ c' ∷ []) a b c d e f g len p0 p1 p2 p3 p4 p5 p6 = cc p3
seven (a' ∷ b' ∷ c' ∷ d' ∷ []) a b c d e f g len p0 p1 p2 p3 p4 p5 p6 = cc p4
seven (a' ∷ b' ∷ c' ∷ d' ∷ e' ∷ []) a b c d e f g len p0 p1 p2 p3 p4 p5 p6 = cc p5
seven (a' ∷ b' ∷ c' ∷ d' ∷ e' ∷ f' ∷ []) a b c d e f g len p0 p1 p2 p3 p4 p5 p6 = cc p6
seven (a' ∷ b' ∷ c' ∷ d' ∷ e' ∷ f' ∷ g' ∷ h' ∷ more) a b c d e f g len p0 p1 p2 p3 p4 p5 p6 = absurd (omega (arith, len))

-- a number that was found stands there
found_number : (fields : List (List ℕ)) (place n : ℕ) (found : Option ℕ) → IsNumberAt fields place found
    → found ≡ Some n → n < 2 ^ 32
    → field_at fields place ≡ Some (decimal n)
found_number fields place n found exact some small = (exact n small).0 some

-- what was found in the seven fields is the run
pub is_record : (row : RunRow) (fields : List (List ℕ)) → length fields ≡ 7
    → field_at fields 0 ≡ Some (decimal row.run) → field_at fields 1 ≡ Some row.recipe
    → field_at fields 2 ≡ Some (decimal row.cycles) → field_at fields 3 ≡ Some (decimal row.changed)
    → field_at fields 4 ≡ Some (decimal row.created) → field_at fields 5 ≡ Some (decimal row.removed)
    → digest_in fields ≡ Some row.digest
    → row.run < 2 ^ 32 → row.cycles < 2 ^ 32 → row.changed < 2 ^ 32 → row.created < 2 ^ 32 → row.removed < 2 ^ 32
    → IsRecordOf row fields
is_record row fields len p0 p1 p2 p3 p4 p5 p6 s0 s2 s3 s4 s5 =
    let (digits, at, digest) = digest_read (field_at fields 6) row.digest p6 in
    record {
      in_bounds = record { run = s0; cycles = s2; changed = s3; created = s4; removed = s5 };
      digits = digits;
      digest = digest;
      spelled = seven fields _ _ _ _ _ _ digits len p0 p1 p2 p3 p4 p5 at;
    }

same_text : (o : Option (List ℕ)) (x y : List ℕ) → o ≡ Some x → o ≡ Some y → x ≡ y
same_text o x y one other = let e : Some x ≡ Some y = sym one ∙ other in cc

same_number : (o : Option (List ℕ)) (m n : ℕ) → m < 2 ^ 32 → n < 2 ^ 32 → o ≡ Some (decimal m) → o ≡ Some (decimal n) → m ≡ n
same_number o m n small less one other =
    decimal_injective m n (omega arith) (omega arith) (same_text o (decimal m) (decimal n) one other)

-- a record is that of one run at most
pub one_run : (row other : RunRow) (fields : List (List ℕ)) → IsRecordOf row fields → IsRecordOf other fields
    → row ≡ other
one_run row other fields h g =
    let a = h.in_bounds in
    let b = g.in_bounds in
    let run = same_number _ _ _ a.run b.run (run_stands row fields h) (run_stands other fields g) in
    let recipe = same_text _ _ _ (recipe_stands row fields h) (recipe_stands other fields g) in
    let cycles = same_number _ _ _ a.cycles b.cycles (cycles_stand row fields h) (cycles_stand other fields g) in
    let changed = same_number _ _ _ a.changed b.changed (changed_stand row fields h) (changed_stand other fields g) in
    let created = same_number _ _ _ a.created b.created (created_stand row fields h) (created_stand other fields g) in
    let removed = same_number _ _ _ a.removed b.removed (removed_stand row fields h) (removed_stand other fields g) in
    let digest = same_text _ _ _ (digest_found row fields h) (digest_found other fields g) in
    λ i. record {
      run = run i;
      recipe = recipe i;
      cycles = cycles i;
      changed = changed i;
      created = created i;
      removed = removed i;
      digest = digest i;
    }
