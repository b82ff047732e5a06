-- A properties file in which the keys that say one text are written anew.
use Rattle.std.specs.Prelude.{◌≡◌, ℕ, ◌<◌, ◌≤◌, List, [], ◌∷◌, ◌++◌, length, drop, slice_range}
use Rattle.std.specs.Prelude.{Option, None, Some, if◌then◌else◌}
use Rattle.std.specs.Str.{bytes_eq}
use Rattle.properties_tree.specs.Entries.{Entry, Properties, properties_of, bytes_of}
use Rattle.properties_tree.specs.Decoding.{key_text}
use Rattle.properties_tree.specs.declared.keys.KeyPlace.{KeyPlace}

-- the bytes of an entry's key: these where it says the key, else its own
abbrev pub key_or : List ℕ → List ℕ → Entry → List ℕ
key_or key written e = if bytes_eq (key_text e) key then written else bytes_of e.key

-- an entry whose key is so
abbrev pub entry_with : List ℕ → List ℕ → Entry → List ℕ
entry_with key written e =
    e.prefix ++ (key_or key written e ++ (bytes_of e.separator ++ (bytes_of e.value ++ e.ending)))

-- entries whose keys are so, and what stands behind them
abbrev pub entries_with : List ℕ → List ℕ → List Entry → List ℕ → List ℕ
entries_with key written [] rest = rest
entries_with key written (e ∷ es) rest = entry_with key written e ++ entries_with key written es rest

abbrev pub all_with : List ℕ → List ℕ → Properties → List ℕ
all_with key written p = entries_with key written p.entries p.rest

-- the bytes of a file in which each key that says this text is written so
unfoldable pub with_key : List ℕ → List ℕ → List ℕ → List ℕ
with_key key written bytes = all_with key written (properties_of bytes)

-- ---- the next entry with a key, from a place on at which a line begins

-- where its key stands, and where the next line begins
pub record IsKeyPlace (key bytes : List ℕ) (at : ℕ) (p : KeyPlace) : Type 0 where
  pub from : at ≤ p.from
  pub ordered : p.from ≤ p.to
  pub behind : p.to ≤ p.next
  pub further : at < p.next
  pub inside : p.next ≤ length bytes
  pub new : (written : List ℕ) →
      let after = slice_range bytes p.to p.next ++ with_key key written (drop p.next bytes) in
      with_key key written (drop at bytes) ≡ slice_range bytes at p.from ++ (written ++ after)

-- where there is none, nothing is written anew
abbrev pub IsNextKey : List ℕ → List ℕ → ℕ → Option KeyPlace → Type 0
IsNextKey key bytes at None = (written : List ℕ) → with_key key written (drop at bytes) ≡ drop at bytes
IsNextKey key bytes at (Some p) = IsKeyPlace key bytes at p
