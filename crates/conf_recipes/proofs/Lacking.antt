-- Whether an entry has a key is told by where the next entry with the key stands; a file in which none has it stays.
use Rattle.std.proofs.Common.{◌≡◌, ℕ, suc, ◌+◌, ◌≤◌, Bool, true, false, ◌||◌, List, [], ◌∷◌, ◌++◌, length}
use Rattle.std.proofs.Common.{replicate, refl, sym, ap, ◌∙◌, arith, Option, Some, None}
use Rattle.std.proofs.lemmas.List.{length-append, length-replicate}
use Rattle.std.specs.Prelude.{is_some, slice_range, drop}
use Rattle.std.specs.Str.{bytes_eq}
use Rattle.properties_tree.specs.declared.keys.KeyPlace.{KeyPlace}
use Rattle.properties_tree.specs.declared.option.AddProperty.{AddProperty}
use Rattle.properties_tree.specs.declared.option.ChangePropertyValue.{ChangePropertyValue}
use Rattle.properties_tree.specs.Decoding.{key_text}
use Rattle.properties_tree.specs.Entries.{Entry, properties_of, bytes_of}
use Rattle.properties_tree.specs.Keys.{key_or, entry_with, entries_with, with_key, IsNextKey, IsKeyPlace}
use Rattle.conf_recipes.specs.PropertiesEdits.{key_edits}
use Rattle.conf_recipes.specs.PropertiesRecipes.{has_entry, deletes, all_value_edits, adds_of}

first_not : (a b : Bool) → (a || b) ≡ false → a ≡ false
first_not true b h = absurd (let bad : true ≡ false = h in cc)
first_not false b h = refl

rest_not : (a b : Bool) → (a || b) ≡ false → b ≡ false
rest_not true b h = absurd (let bad : true ≡ false = h in cc)
rest_not false b h = h

-- ---- a key that is written anew and long makes the file long

abbrev behind_key : Entry → List ℕ
behind_key e = bytes_of e.separator ++ (bytes_of e.value ++ e.ending)

long_here : (key written : List ℕ) (e : Entry) → bytes_eq (key_text e) key ≡ true
    → length written ≤ length (entry_with key written e)
long_here key written e h =
    let same : key_or key written e ≡ written = rw h refl in
    let first : length (entry_with key written e) ≡ length e.prefix + length (key_or key written e ++ behind_key e) =
    length-append e.prefix (key_or key written e ++ behind_key e) in
    let second : length (key_or key written e ++ behind_key e) ≡ length (key_or key written e) + length (behind_key e) =
    length-append (key_or key written e) (behind_key e) in
    let third : length (key_or key written e) ≡ length written = ap length same in
    omega (arith, first, second, third)

longer : (key written : List ℕ) (e : Entry) (behind : List ℕ) (b c : Bool) → bytes_eq (key_text e) key ≡ b
    → (c ≡ true → length written ≤ length behind) → (b || c) ≡ true
    → length written ≤ length (entry_with key written e ++ behind)
longer key written e behind true c is later h =
    let both : length (entry_with key written e ++ behind) ≡ length (entry_with key written e) + length behind =
    length-append (entry_with key written e) behind in
    omega (arith, both, long_here key written e is)
longer key written e behind false c is later h =
    let both : length (entry_with key written e ++ behind) ≡ length (entry_with key written e) + length behind =
    length-append (entry_with key written e) behind in
    omega (arith, both, later h)

long_with : (key written : List ℕ) (es : List Entry) (rest : List ℕ) → has_entry key es ≡ true
    → length written ≤ length (entries_with key written es rest)
unfolding has_entry
long_with key written [] rest h = absurd (let bad : false ≡ true = h in cc)
long_with key written (e ∷ es) rest h =
    longer key written e (entries_with key written es rest) (bytes_eq (key_text e) key) (has_entry key es) refl
    (long_with key written es rest) h

-- where no entry has the key, nothing of how it is written is seen
same_here : (key one other : List ℕ) (e : Entry) → bytes_eq (key_text e) key ≡ false
    → entry_with key one e ≡ entry_with key other e
same_here key one other e h = ap (λ k. e.prefix ++ (k ++ behind_key e)) (own one ∙ sym (own other))
  where
    own : (written : List ℕ) → key_or key written e ≡ bytes_of e.key
    own written = rw h refl

same_with : (key one other : List ℕ) (es : List Entry) (rest : List ℕ) → has_entry key es ≡ false
    → entries_with key one es rest ≡ entries_with key other es rest
unfolding has_entry
same_with key one other [] rest h = refl
same_with key one other (e ∷ es) rest h =
    ap (λ w. w ++ entries_with key one es rest)
    (same_here key one other e (first_not (bytes_eq (key_text e) key) (has_entry key es) h))
    ∙ ap (λ w. entry_with key other e ++ w)
    (same_with key one other es rest (rest_not (bytes_eq (key_text e) key) (has_entry key es) h))

-- ---- the next entry with a key tells whether there is one

abbrev pub entries_in : List ℕ → List Entry
entries_in bytes = (properties_of bytes).entries

-- a text of so many bytes
abbrev zeros : ℕ → List ℕ
zeros n = replicate n 0

zeros_size : (n : ℕ) → length (zeros n) ≡ n
zeros_size n = length-replicate n 0

none_long : (key bytes : List ℕ) (b : Bool) → has_entry key (entries_in bytes) ≡ b → IsNextKey key bytes 0 None
    → b ≡ false
unfolding with_key
none_long key bytes false h next = refl
none_long key bytes true h next =
    let long : List ℕ = zeros (suc (length bytes)) in
    let size : length long ≡ suc (length bytes) = zeros_size (suc (length bytes)) in
    let same : length (entries_with key long (entries_in bytes) (properties_of bytes).rest) ≡ length bytes =
    ap length (next long) in
    absurd (omega (arith, size, same, long_with key long (entries_in bytes) (properties_of bytes).rest h))

pub none_told : (key bytes : List ℕ) → IsNextKey key bytes 0 None → has_entry key (entries_in bytes) ≡ false
none_told key bytes next = none_long key bytes (has_entry key (entries_in bytes)) refl next

some_long : (key bytes : List ℕ) (p : KeyPlace) (b : Bool) → has_entry key (entries_in bytes) ≡ b
    → IsKeyPlace key bytes 0 p → b ≡ true
unfolding with_key
some_long key bytes p true h place = refl
some_long key bytes p false h place =
    let size : ℕ = length (entries_with key [] (entries_in bytes) (properties_of bytes).rest) in
    let long : List ℕ = zeros (suc size) in
    let after : List ℕ = slice_range bytes p.to p.next ++ with_key key long (drop p.next bytes) in
    let all : length (entries_with key long (entries_in bytes) (properties_of bytes).rest)
    ≡ length (slice_range bytes 0 p.from ++ (long ++ after)) = ap length (place.new long) in
    let one : length (slice_range bytes 0 p.from ++ (long ++ after))
    ≡ length (slice_range bytes 0 p.from) + length (long ++ after) =
    length-append (slice_range bytes 0 p.from) (long ++ after) in
    let two : length (long ++ after) ≡ length long + length after = length-append long after in
    let same : size ≡ length (entries_with key long (entries_in bytes) (properties_of bytes).rest) =
    ap length (same_with key [] long (entries_in bytes) (properties_of bytes).rest h) in
    absurd (omega (arith, zeros_size (suc size), all, one, two, same))

pub some_told : (key bytes : List ℕ) (p : KeyPlace) → IsNextKey key bytes 0 (Some p)
    → has_entry key (entries_in bytes) ≡ true
some_told key bytes p place = some_long key bytes p (has_entry key (entries_in bytes)) refl place

pub entry_told : (key bytes : List ℕ) (found : Option KeyPlace) → IsNextKey key bytes 0 found
    → is_some found ≡ has_entry key (properties_of bytes).entries
entry_told key bytes None next = sym (none_told key bytes next)
entry_told key bytes (Some p) next = sym (some_told key bytes p next)

pub ruleset entries_told = (entry_told)

-- ---- no edits without the key

pub no_key_edits : (old new : List ℕ) (n : ℕ) (es : List Entry) → has_entry old es ≡ false
    → key_edits old new n es ≡ []
unfolding has_entry key_edits
no_key_edits old new n [] h = refl
no_key_edits old new n (e ∷ es) h =
    rw (first_not (bytes_eq (key_text e) old) (has_entry old es) h)
    (no_key_edits old new (n + 1) es (rest_not (bytes_eq (key_text e) old) (has_entry old es) h))

pub no_deletes : (key : List ℕ) (n : ℕ) (es : List Entry) → has_entry key es ≡ false
    → deletes (λ k. bytes_eq k key) n es ≡ []
unfolding has_entry deletes
no_deletes key n [] h = refl
no_deletes key n (e ∷ es) h =
    rw (first_not (bytes_eq (key_text e) key) (has_entry key es) h)
    (no_deletes key (n + 1) es (rest_not (bytes_eq (key_text e) key) (has_entry key es) h))

pub no_value_edits : (o : ChangePropertyValue) (n : ℕ) (es : List Entry) → has_entry o.property_key es ≡ false
    → all_value_edits o n es ≡ []
unfolding has_entry all_value_edits
no_value_edits o n [] h = refl
no_value_edits o n (e ∷ es) h =
    rw (first_not (bytes_eq (key_text e) o.property_key) (has_entry o.property_key es) h)
    (no_value_edits o (n + 1) es (rest_not (bytes_eq (key_text e) o.property_key) (has_entry o.property_key es) h))

pub has_none : (bytes : List ℕ) (o : AddProperty) → has_entry o.property (properties_of bytes).entries ≡ true
    → adds_of bytes o ≡ []
unfolding adds_of
has_none bytes o e = rw e refl
