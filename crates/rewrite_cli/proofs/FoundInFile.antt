-- What `check` finds of one file.
use Rattle.std.specs.Prelude.{codes, decimal, is_some}
use Rattle.std.specs.Option.{option_map}
use Rattle.std.proofs.Common.{◌≡◌, ℕ, ◌+◌, ◌++◌, ◌||◌, Bool, true, false, List, length, Option, None, Some, refl, sym, ap, ◌∙◌, append_assoc, append-nil, if◌then◌else◌}
use Rattle.std.specs.FinMap as map
use Rattle.rw_base.specs.declared.place.Cause.{Cause}
use Rattle.rw_base.specs.declared.place.Place.{Place}
use Rattle.rw_base.specs.declared.place.Refused.{Refused}
use Rattle.kept_files.specs.declared.reading.Reading.{Reading}
use Rattle.kept_files.specs.declared.reading.Reading.TheVariants as reading
use Rattle.rw_host.specs.Files.{Files, first_bytes}
use Rattle.rw_host.specs.FileLaws.{length-first_bytes}
use Rattle.kept_files.specs.Readings.{Reads, AreReadings, IsReading}
use Rattle.rewrite_cli.specs.declared.sources.TheConstants.{MOST_READ}
use Rattle.rewrite_cli.specs.Sources.{is_counted, bytes_at, length_read}
use Rattle.rewrite_cli.specs.Stubs.{is_stub, stub_reading}
use Rattle.rewrite_cli.specs.Checking.{refused_line, name_of, reading_of, reading_at, line_of, refusal_in, refusal_at}

-- nothing behind a text, and no refusal more
pub no_more_text : (text path : List ℕ) (refusal : Option Refused) → refusal ≡ None → text ≡ text ++ line_of path refusal
no_more_text text path refusal e = sym (ap (λ r. text ++ line_of path r) e ∙ append-nil text)

pub no_more_refused : (any : Bool) (refusal : Option Refused) → refusal ≡ None → any ≡ (any || is_some refusal)
no_more_refused true refusal e = refl
no_more_refused false refusal e = sym (ap is_some e)

-- ---- what a file without bytes reads as

pub unread : (read : Reads) → AreReadings read → (path : List ℕ) → read path None ≡ reading.Unread
unfolding AreReadings IsReading
unread read are path = sym (are path None reading.Unread tt refl)

unread_too : (read : Reads) → AreReadings read → (path : List ℕ) → reading_of read path None ≡ reading.Unread
unread_too read are path = by_test (is_stub path) where
  by_test : (b : Bool) → (if b then stub_reading read None else read path None) ≡ reading.Unread
  by_test true = unread read are (codes "Stub.java")
  by_test false = unread read are path

-- a file is read at its path, or a stub at that of a Java file
pub read_by_path : (read : Reads) (path at : List ℕ) (bytes : Option (List ℕ)) (r : Reading) → r ≡ read at bytes → at ≡ (if is_stub path then codes "Stub.java" else path)
    → refusal_in r ≡ refusal_in (reading_of read path bytes)
read_by_path read path at bytes r e is = ap refusal_in (e ∙ (ap (λ p. read p bytes) is ∙ by_test (is_stub path))) where
  by_test : (b : Bool) → read (if b then codes "Stub.java" else path) bytes ≡ (if b then stub_reading read bytes else read path bytes)
  by_test true = refl
  by_test false = refl

module _ (files : Files) (path : List ℕ) where
  -- ---- a file that doesn't count

  pub not_read : (read : Reads) → is_counted path ≡ false → refusal_at read files path ≡ None
  unfolding refusal_at
  not_read read e = rw e refl

  pub no_bytes : is_counted path ≡ false → bytes_at files path ≡ 0
  unfolding bytes_at
  no_bytes e = rw e refl

  -- ---- a file that isn't there

  by_reading : (read : Reads) (r : Reading) → is_counted path ≡ true → reading_at read files path ≡ r → refusal_at read files path ≡ refusal_in r
  unfolding refusal_at
  by_reading read r is e = rw is (ap refusal_in e)

  pub absent : (read : Reads) → AreReadings read → is_counted path ≡ true → None ≡ option_map (first_bytes MOST_READ) (map.get files path) → refusal_at read files path ≡ None
  absent read are is e = by_reading read reading.Unread is (ap (reading_of read path) (sym e) ∙ unread_too read are path)

  none_counted : (f : Option (List ℕ)) → None ≡ option_map (first_bytes MOST_READ) f → length_read f ≡ 0
  none_counted None e = refl
  none_counted (Some bytes) e = absurd (cc)

  pub absent_bytes : is_counted path ≡ true → None ≡ option_map (first_bytes MOST_READ) (map.get files path) → bytes_at files path ≡ 0
  unfolding bytes_at
  absent_bytes is e = rw is (none_counted (map.get files path) e)

  -- ---- a file that was read

  pub found : (read : Reads) (bytes : List ℕ) → is_counted path ≡ true → Some bytes ≡ option_map (first_bytes MOST_READ) (map.get files path)
      → refusal_in (reading_of read path (Some bytes)) ≡ refusal_at read files path
  found read bytes is e = sym (by_reading read (reading_of read path (Some bytes)) is (ap (reading_of read path) (sym e)))

  counted : (f : Option (List ℕ)) (bytes : List ℕ) → Some bytes ≡ option_map (first_bytes MOST_READ) f → length_read f ≡ length bytes
  counted None bytes e = absurd (cc)
  counted (Some all) bytes e = sym (length-first_bytes MOST_READ all) ∙ ap length (let same : bytes ≡ first_bytes MOST_READ all = cc in sym same)

  pub found_bytes : (bytes : List ℕ) → is_counted path ≡ true → Some bytes ≡ option_map (first_bytes MOST_READ) (map.get files path) → bytes_at files path ≡ length bytes
  unfolding bytes_at
  found_bytes bytes is e = rw is (counted (map.get files path) bytes e)

-- a piece more behind a text
more : (old xs ys c : List ℕ) → ys ≡ old ++ xs → ys ++ c ≡ old ++ (xs ++ c)
more old xs ys c e = ap (λ y. y ++ c) e ∙ append_assoc old xs c

-- the pieces of a line behind a text
pub joined : (old path : List ℕ) (place : Place) (cause : Cause)
    → old ++ codes "refused " ++ path ++ codes " " ++ decimal place.line ++ codes ":" ++ decimal place.column ++ codes " " ++ name_of cause ++ codes "\n" ≡ old ++ refused_line path (record { place = place; cause = cause })
unfolding refused_line
joined old path place cause =
    more old _ _ (codes "\n") (more old _ _ (name_of cause) (more old _ _ (codes " ") (more old _ _ (decimal place.column) (more old _ _ (codes ":")
    (more old _ _ (decimal place.line) (more old _ _ (codes " ") (more old (codes "refused ") _ path refl)))))))

module _ (files : Files) (path : List ℕ) (read : Reads) (bytes : List ℕ) (refusal : Option Refused) (is : is_counted path ≡ true)
    (there : Some bytes ≡ option_map (first_bytes MOST_READ) (map.get files path)) (same : refusal ≡ refusal_in (reading_of read path (Some bytes))) where
  pub found_text : (old new : List ℕ) → new ≡ old ++ line_of path refusal → new ≡ old ++ line_of path (refusal_at read files path)
  found_text old new e = e ∙ ap (λ r. old ++ line_of path r) (same ∙ found files path read bytes is there)

  pub found_refused : (old new : Bool) → new ≡ (old || is_some refusal) → new ≡ (old || is_some (refusal_at read files path))
  found_refused old new e = e ∙ ap (λ r. old || is_some r) (same ∙ found files path read bytes is there)

pub ruleset found_there = (no_more_text, no_more_refused, not_read, no_bytes, absent, absent_bytes, found_text, found_refused, found_bytes)
