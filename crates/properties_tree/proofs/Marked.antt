-- Each joint has a backslash, so a text without one says what it is.
use Rattle.std.proofs.Common.{◌≡◌, ℕ, zero, suc, true, false, List, [], ◌∷◌, ◌++◌, get_or, drop, refl, sym, ◌∙◌, ap, inl, inr}
use Rattle.std.specs.Prelude.{◌==◌}
use Rattle.std.proofs.lemmas.Bool.{cases_Bool, false≢true, or_parts}
use Rattle.properties_tree.specs.Characters.{backslash}
use Rattle.properties_tree.specs.Plain.{has_backslash}
use Rattle.rw_base.specs.NaturalLines.{Line, lines_of, whole_line}
use Rattle.properties_tree.specs.Lines.{leading_blanks, behind_blanks, is_continued}
use Rattle.properties_tree.specs.Entries.{LogicalLine, passed, entry, Piece, char, joint, bytes_of, characters_of, chars, without_last, key_length, separator_length, JoinedLine, join_lines, take_characters, drop_characters, Entry, entry_of, entries_of, properties_of, no_entry, logical_lines}
use Rattle.properties_tree.specs.Decoding.{elements_behind, utf8_of, decode, key_text, entry_at}
use Rattle.properties_tree.proofs.Plain.{characters_of-chars}

abbrev pub AreMarked : List Piece → Type 0
AreMarked [] = Unit {0}
AreMarked (char b ∷ ps) = AreMarked ps
AreMarked (joint text ∷ ps) = (has_backslash text ≡ true) × AreMarked ps

marked-chars : (s : List ℕ) (ps : List Piece) → AreMarked ps → AreMarked (chars s ++ ps)
marked-chars [] ps m = m
marked-chars (b ∷ rest) ps m = marked-chars rest ps m

alone : (s : List ℕ) → AreMarked (chars s)
alone [] = tt
alone (b ∷ rest) = alone rest

marked-joined : (text ending : List ℕ) (more : List Line) → AreMarked (join_lines text ending more).pieces
unfolding join_lines
marked-joined text ending [] =
    elim (cases_Bool (is_continued text)) [
      | inl e ↦ rw e (marked-chars (without_last text) (joint (backslash ∷ ending) ∷ []) (refl, tt))
      | inr e ↦ rw e (alone text)
    ]
marked-joined text ending (next ∷ more) =
    let rest = join_lines (behind_blanks next.text) next.ending more in
    marked-chars (without_last text) (joint ((backslash ∷ ending) ++ leading_blanks next.text) ∷ rest.pieces) (refl, marked-joined (behind_blanks next.text) next.ending more)

marked-through : (n : ℕ) (ps : List Piece) → AreMarked ps → AreMarked (take_characters n ps)
marked-through zero ps m = tt
marked-through (suc n) [] m = tt
marked-through (suc n) (char b ∷ ps) m = marked-through n ps m
marked-through (suc n) (joint text ∷ ps) m = (m.0, marked-through (suc n) ps m.1)

marked-behind : (n : ℕ) (ps : List Piece) → AreMarked ps → AreMarked (drop_characters n ps)
marked-behind zero ps m = m
marked-behind (suc n) [] m = tt
marked-behind (suc n) (char b ∷ ps) m = marked-behind n ps m
marked-behind (suc n) (joint text ∷ ps) m = marked-behind (suc n) ps m.1

pub record IsMarked (e : Entry) : Type 0 where
  pub key : AreMarked e.key
  pub value : AreMarked e.value

marked-entry_of : (prefix : List ℕ) (line : JoinedLine) → AreMarked line.pieces → IsMarked (entry_of prefix line)
unfolding entry_of
marked-entry_of prefix line m =
    let k = key_length (characters_of line.pieces) in
    record { key = marked-through k line.pieces m; value = marked-behind (separator_length (drop k (characters_of line.pieces))) (drop_characters k line.pieces) (marked-behind k line.pieces m) }

marked-at : (before : List ℕ) (lines : List LogicalLine) (k : ℕ) → IsMarked (get_or (entries_of before lines).entries k no_entry)
unfolding entries_of
marked-at before [] k = record { key = tt; value = tt }
marked-at before (passed line ∷ lines) k = marked-at (before ++ whole_line line) lines k
marked-at before (entry line more ∷ lines) zero = marked-entry_of (before ++ leading_blanks line.text) (join_lines (behind_blanks line.text) line.ending more) (marked-joined (behind_blanks line.text) line.ending more)
marked-at before (entry line more ∷ lines) (suc k) = marked-at [] lines k

pub marked-entry_at : (bytes : List ℕ) (k : ℕ) → IsMarked (entry_at bytes k)
unfolding properties_of
marked-entry_at bytes k = marked-at [] (logical_lines (lines_of bytes)) k

-- ---- plain texts

pub has_in-append : (s t : List ℕ) → has_backslash (s ++ t) ≡ false → (has_backslash s ≡ false) × (has_backslash t ≡ false)
has_in-append [] t none = (refl, none)
has_in-append (b ∷ rest) t none =
    let parts = or_parts (b == 92) (has_backslash (rest ++ t)) none in
    let more = has_in-append rest t parts.1 in
    (rw (parts.0) (more.0), more.1)

chars_alone : (ps : List Piece) → AreMarked ps → has_backslash (bytes_of ps) ≡ false → ps ≡ chars (bytes_of ps)
chars_alone [] m none = refl
chars_alone (char b ∷ ps) m none = ap (λ qs. char b ∷ qs) (chars_alone ps m (or_parts (b == 92) (has_backslash (bytes_of ps)) none).1)
chars_alone (joint text ∷ ps) m none = absurd (false≢true (sym ((has_in-append text (bytes_of ps) none).0) ∙ m.0))

pub decode-plain : (s : List ℕ) → has_backslash s ≡ false → decode s ≡ s
unfolding elements_behind utf8_of
decode-plain [] none = refl
decode-plain (b ∷ rest) none =
    let parts = or_parts (b == 92) (has_backslash rest) none in
    rw (parts.0) (ap (λ t. b ∷ t) (decode-plain rest parts.1))

pub plain_key : (bytes : List ℕ) (k : ℕ) → has_backslash (bytes_of (entry_at bytes k).key) ≡ false → key_text (entry_at bytes k) ≡ bytes_of (entry_at bytes k).key
plain_key bytes k none =
    let ps = (entry_at bytes k).key in
    ap (λ qs. decode (characters_of qs)) (chars_alone ps (marked-entry_at bytes k).key none)
    ∙ (ap decode (characters_of-chars (bytes_of ps)) ∙ decode-plain (bytes_of ps) none)
