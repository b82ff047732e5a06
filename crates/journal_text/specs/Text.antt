-- The text of a journal.
use Rattle.std.specs.Prelude.{ℕ, List, [], ◌∷◌, ◌++◌, length, codes, Option, Some, None}
use Rattle.hex.specs.Hex.{encode_lower}
use Rattle.sha2.specs.Sha256.{sha256}
use Rattle.journal_text.specs.Changes.{Change}
use Rattle.journal_text.specs.Numerals.{numeral}

-- `put LEN PATH`, LF, the bytes, LF; or `del PATH`, LF
abbrev pub entry_with : List ℕ → Option (List ℕ) → List ℕ
entry_with path (Some bytes) =
    codes "put " ++ numeral (length bytes) ++ codes " " ++ path ++ codes "\n" ++ bytes ++ codes "\n"
entry_with path None = codes "del " ++ path ++ codes "\n"

abbrev pub entry_text : Change → List ℕ
entry_text change = entry_with change.0 change.1

abbrev pub entries_text : List Change → List ℕ
entries_text [] = []
entries_text (change ∷ changes) = entry_text change ++ entries_text changes

-- the first two lines
unfoldable pub head_text : ℕ → List ℕ
head_text count = codes "rewrite-journal 1\n" ++ numeral count ++ codes "\n"

-- all that stands before the line of the digest
abbrev pub body_text : List Change → List ℕ
body_text changes = head_text (length changes) ++ entries_text changes

-- the last line, of the text before it
abbrev pub digest_line : List ℕ → List ℕ
digest_line body = codes "sha256 " ++ encode_lower (sha256 body) ++ codes "\n"

-- the whole journal of a batch
unfoldable pub journal_text : List Change → List ℕ
journal_text changes = body_text changes ++ digest_line (body_text changes)
