-- A spelled value, read.
use Rattle.std.proofs.Common.{◌≡◌, ℕ, suc, Bool, true, false, List, [], ◌∷◌, ◌++◌, length, drop, refl, sym, ◌∙◌, ap, subst, arith, inl, inr}
use Rattle.std.specs.Prelude.{◌==◌, map}
use Rattle.std.proofs.lemmas.Bool.{cases_Bool, eqb-true, or_cases}
use Rattle.std.proofs.lemmas.List.{drop_at}
use Rattle.properties_tree.specs.Characters.{is_line_end, is_blank, is_separator, is_comment_mark, ends_key}
use Rattle.properties_tree.specs.Lines.{leading_blanks, behind_blanks}
use Rattle.properties_tree.specs.Entries.{char, bytes_of, characters_of, chars, take_characters, Entry, Properties, properties_of}
use Rattle.properties_tree.specs.Sizes.{begins_no_entry, entries_from, ending_length}
use Rattle.properties_tree.specs.Cutting.{joins, pieces_in, key_front, separator_front, separator_from, key_size, separator_size, line_size}
use Rattle.properties_tree.specs.Decoding.{byte, elements_of, utf8_of, decode, key_text, value_text, escaped_byte}
use Rattle.properties_tree.specs.Spelling.{spell_byte, spelled_key, spelled_rest, spelled_spaces, spelled_value}
use Rattle.properties_tree.specs.Laws.{IsEnding, by_lf, by_cr_lf, by_cr, at_file_end, BeginsWithEntry, ValuesReadBack, ValuesReadBackBehindSome, KeysReadBackAlone, spelled_file, FilesReadBack}
use Rattle.properties_tree.proofs.FirstLine.{ending_text}
use Rattle.properties_tree.proofs.Plain.{characters_of-chars, bytes_of-chars}
use Rattle.properties_tree.proofs.Cut.{at_none, at_char, at_pair, at_end}
use Rattle.properties_tree.proofs.EntryAt.{entry_begins, behind_key, behind_separator, behind_line, behind_entry, cut_entry}
use Rattle.properties_tree.proofs.First.{passed_over}
use Rattle.properties_tree.proofs.Goes.{entries-none}
use Rattle.properties_tree.proofs.Decoded.{at_byte, at_escape, none_said}
use Rattle.properties_tree.proofs.ReadBack.{StartsEntry, some_starts, mark_starts, spelled_front, separator_stops, decode-spelled}

-- how a character of a value is spelled: behind a backslash, or as it stands
data Way (b : ℕ) : List ℕ → Type 0 where
  marked : {c : ℕ} → is_line_end c ≡ false → (c == 117) ≡ false → escaped_byte c ≡ b → Way b (92 ∷ c ∷ [])
  alone : is_line_end b ≡ false → (b == 92) ≡ false → Way b (b ∷ [])

way : (b : ℕ) → Way b (spell_byte (b == 92) b)
way b =
    elim (cases_Bool (b == 9)) [
      | inl tab ↦ rw tab (marked refl refl (sym (eqb-true b 9 tab)))
      | inr not_tab ↦ elim (cases_Bool (b == 10)) [
        | inl lf ↦ rw (not_tab, lf) (marked refl refl (sym (eqb-true b 10 lf)))
        | inr not_lf ↦ elim (cases_Bool (b == 13)) [
          | inl cr ↦ rw (not_tab, not_lf, cr) (marked refl refl (sym (eqb-true b 13 cr)))
          | inr not_cr ↦ elim (cases_Bool (b == 12)) [
            | inl feed ↦ rw (not_tab, not_lf, not_cr, feed) (marked refl refl (sym (eqb-true b 12 feed)))
            | inr not_feed ↦ elim (cases_Bool (b == 92)) [
              | inl slash ↦ rw (not_tab, not_lf, not_cr, not_feed) (rw slash (subst (λ k. Way b (92 ∷ k ∷ [])) (sym (eqb-true b 92 slash)) (marked refl refl (sym (eqb-true b 92 slash)))))
              | inr other ↦ rw (not_tab, not_lf, not_cr, not_feed) (rw other (alone (rw (not_lf, not_cr) refl) other))
            ]
          ]
        ]
      ]
    ]

-- what is spelled is characters, and says what was spelled
record IsSpelled (v w : List ℕ) : Type 0 where
  pieces : (behind : List ℕ) → joins behind ≡ true → pieces_in (w ++ behind) ≡ chars w
  text : decode w ≡ v

one_spelled : (b : ℕ) (w v rest : List ℕ) → Way b w → IsSpelled v rest → IsSpelled (b ∷ v) (w ++ rest)
unfolding utf8_of
one_spelled b _ v rest (marked {c = c} inside other says) more = record {
  pieces = λ behind ends. at_pair 92 c (rest ++ behind) refl inside ∙ ap (λ ps. char 92 ∷ char c ∷ ps) (more.pieces behind ends);
  text = ap utf8_of (at_escape 92 (c ∷ rest) refl ∙ (rw other refl ∙ ap (λ k. byte k ∷ elements_of rest) says)) ∙ ap (λ t. b ∷ t) more.text;
}
one_spelled b _ v rest (alone inside other) more = record {
  pieces = λ behind ends. at_char b (rest ++ behind) inside other ∙ ap (λ ps. char b ∷ ps) (more.pieces behind ends);
  text = ap utf8_of (at_byte b rest other) ∙ ap (λ t. b ∷ t) more.text;
}

-- nothing of a logical line stands behind its end
no_pieces : (behind : List ℕ) → joins behind ≡ true → pieces_in behind ≡ []
no_pieces [] ends = at_none
no_pieces (b ∷ rest) ends = at_end b rest ends

nothing_spelled : IsSpelled [] []
unfolding utf8_of
nothing_spelled = record { pieces = no_pieces; text = ap utf8_of none_said }

rest_spelled : (v : List ℕ) → IsSpelled v (spelled_rest v)
unfolding spelled_rest
rest_spelled [] = nothing_spelled
rest_spelled (b ∷ v) = one_spelled b (spell_byte (b == 92) b) v (spelled_rest v) (way b) (rest_spelled v)

spaces_spelled : (v : List ℕ) → IsSpelled v (spelled_spaces v)
unfolding spelled_spaces
spaces_spelled [] = nothing_spelled
spaces_spelled (b ∷ v) =
    elim (cases_Bool (b == 32)) [
      | inl space ↦ rw space (subst (λ k. IsSpelled (k ∷ v) (92 ∷ k ∷ spelled_spaces v)) (sym (eqb-true b 32 space)) (one_spelled 32 (92 ∷ 32 ∷ []) v (spelled_spaces v) (marked refl refl refl) (spaces_spelled v)))
      | inr other ↦ rw other (rest_spelled (b ∷ v))
    ]

separator_spelled : (b n : ℕ) (v : List ℕ) → (b == n) ≡ true → Way n (92 ∷ n ∷ []) → IsSpelled (b ∷ v) (92 ∷ b ∷ spelled_rest v)
separator_spelled b n v e w = subst (λ k. IsSpelled (k ∷ v) (92 ∷ k ∷ spelled_rest v)) (sym (eqb-true b n e)) (one_spelled n (92 ∷ n ∷ []) v (spelled_rest v) w (rest_spelled v))

value_spelled : (v : List ℕ) → IsSpelled v (spelled_value v)
unfolding spelled_value
value_spelled [] = nothing_spelled
value_spelled (b ∷ v) =
    elim (cases_Bool (is_separator b)) [
      | inl mark ↦ rw mark (elim (or_cases (b == 61) (b == 58) mark) [ inl equals ↦ separator_spelled b 61 v equals (marked refl refl refl) | inr colon ↦ separator_spelled b 58 v colon (marked refl refl refl) ])
      | inr other ↦ rw other (spaces_spelled (b ∷ v))
    ]

-- no character of a separator begins a spelled value
slash_counts : (m : Bool) (rest : List ℕ) → separator_from m (92 ∷ rest) ≡ 0
slash_counts true rest = refl
slash_counts false rest = refl

other_counts : (m : Bool) (b : ℕ) (rest : List ℕ) → is_blank b ≡ false → is_separator b ≡ false → separator_from m (b ∷ rest) ≡ 0
other_counts true b rest blank other = rw blank refl
other_counts false b rest blank other = rw (blank, other) refl

first_counts : (m : Bool) (b : ℕ) (rest : List ℕ) → is_separator b ≡ false → (b == 32) ≡ false → separator_from m (spell_byte (b == 92) b ++ rest) ≡ 0
first_counts m b rest separator space =
    elim (cases_Bool (b == 9)) [
      | inl tab ↦ rw tab (slash_counts m (116 ∷ rest))
      | inr not_tab ↦ elim (cases_Bool (b == 10)) [
        | inl lf ↦ rw (not_tab, lf) (slash_counts m (110 ∷ rest))
        | inr not_lf ↦ elim (cases_Bool (b == 13)) [
          | inl cr ↦ rw (not_tab, not_lf, cr) (slash_counts m (114 ∷ rest))
          | inr not_cr ↦ elim (cases_Bool (b == 12)) [
            | inl feed ↦ rw (not_tab, not_lf, not_cr, feed) (slash_counts m (102 ∷ rest))
            | inr not_feed ↦ elim (cases_Bool (b == 92)) [
              | inl slash ↦ rw (not_tab, not_lf, not_cr, not_feed) (rw slash (slash_counts m (b ∷ rest)))
              | inr other ↦ rw (not_tab, not_lf, not_cr, not_feed) (rw other (other_counts m b rest (rw (space, not_tab, not_feed) refl) separator))
            ]
          ]
        ]
      ]
    ]

value_counts : (m : Bool) (v : List ℕ) → separator_from m (spelled_value v) ≡ 0
unfolding spelled_value spelled_spaces spelled_rest
value_counts m [] = refl
value_counts m (b ∷ v) =
    elim (cases_Bool (is_separator b)) [
      | inl mark ↦ rw mark (slash_counts m (b ∷ spelled_rest v))
      | inr separator ↦ elim (cases_Bool (b == 32)) [
        | inl space ↦ rw (separator, space) (slash_counts m (b ∷ spelled_spaces v))
        | inr other ↦ rw (separator, other) (first_counts m b (spelled_rest v) separator other)
      ]
    ]

-- ---- one separator alone

pub mark_counts : (s : ℕ) → is_blank s ≡ false → is_separator s ≡ true → (w : List ℕ) → ((m : Bool) → separator_from m w ≡ 0) → separator_from false (s ∷ w) ≡ 1
mark_counts s blank mark w none = rw (blank, mark) (ap suc (none true))

pub blank_counts : (s : ℕ) → is_blank s ≡ true → (w : List ℕ) → ((m : Bool) → separator_from m w ≡ 0) → separator_from false (s ∷ w) ≡ 1
blank_counts s blank w none = rw blank (ap suc (none false))

-- ---- a line end, as the reader cuts it off

record IsCutOff (ending rest : List ℕ) : Type 0 where
  joins_is : joins (ending ++ rest) ≡ true
  text_is : ending_text (ending ++ rest) ≡ ending
  rest_is : drop (ending_length (ending ++ rest)) (ending ++ rest) ≡ rest

cut_off : (ending rest : List ℕ) → IsEnding ending rest → IsCutOff ending rest
cut_off _ rest by_lf = record { joins_is = refl; text_is = refl; rest_is = refl }
cut_off _ rest by_cr_lf = record { joins_is = refl; text_is = refl; rest_is = refl }
cut_off _ rest (by_cr no_lf) = record { joins_is = refl; text_is = rw no_lf refl; rest_is = rw no_lf refl }
cut_off _ _ at_file_end = record { joins_is = refl; text_is = refl; rest_is = refl }

-- ---- an entry, up to its line end

module _ (key value tail ending rest : List ℕ) (is : IsEnding ending rest) (stops : key_front (pieces_in tail) ≡ []) (left : drop (separator_size tail) tail ≡ spelled_value value ++ (ending ++ rest)) where
  abbrev all : List ℕ
  all = spelled_key key ++ tail

  abbrev behind : List ℕ
  behind = spelled_value value ++ (ending ++ rest)

  cut_is : IsCutOff ending rest
  cut_is = cut_off ending rest is

  pieces_are : pieces_in behind ≡ chars (spelled_value value)
  pieces_are = (value_spelled value).pieces (ending ++ rest) cut_is.joins_is

  front_is : key_front (pieces_in all) ≡ chars (spelled_key key)
  front_is = spelled_front tail stops key

  value_left : behind_separator all ≡ behind
  value_left =
      let size : key_size all ≡ length (spelled_key key) = ap (λ ps. length (bytes_of ps)) front_is ∙ ap length (bytes_of-chars (spelled_key key)) in
      let key_left : behind_key all ≡ tail = ap (λ n. drop n all) size ∙ drop_at (spelled_key key) tail (length (spelled_key key)) refl in
      ap (λ t. drop (separator_size t) t) key_left ∙ left

  line_left : drop (line_size all) all ≡ ending ++ rest
  line_left =
      let size : line_size behind ≡ length (spelled_value value) = ap (λ ps. length (bytes_of ps)) pieces_are ∙ ap length (bytes_of-chars (spelled_value value)) in
      sym (behind_line all)
      ∙ (ap (λ t. drop (line_size t) t) value_left
      ∙ (ap (λ n. drop n behind) size ∙ drop_at (spelled_value value) (ending ++ rest) (length (spelled_value value)) refl))

  pub begins : StartsEntry all → BeginsWithEntry all key value ending rest
  unfolding properties_of entries_from
  begins starts =
      let line : behind_entry all ≡ ending ++ rest = ap (λ t. drop (line_size t) t) starts.blanks ∙ line_left in
      let found = entry_begins all (passed_over all ∙ (ap begins_no_entry starts.blanks ∙ starts.starts)) [] in
      let first : Entry = cut_entry (behind_blanks all) ([] ++ leading_blanks all) (ending_text (behind_entry all)) in
      record {
        first = first;
        key_is = ap (λ t. decode (characters_of (key_front (pieces_in t)))) starts.blanks
            ∙ (ap (λ ps. decode (characters_of ps)) front_is ∙ (ap decode (characters_of-chars (spelled_key key)) ∙ decode-spelled key));
        value_is = ap (λ t. decode (characters_of (pieces_in (behind_separator t)))) starts.blanks
            ∙ (ap (λ t. decode (characters_of (pieces_in t))) value_left
            ∙ (ap (λ ps. decode (characters_of ps)) pieces_are ∙ (ap decode (characters_of-chars (spelled_value value)) ∙ (value_spelled value).text)));
        ending_is = ap ending_text line ∙ cut_is.text_is;
        entries = ap (λ (p : Properties). p.entries) found
            ∙ ap (λ (t : List ℕ). first ∷ (entries_from [] t).entries) (ap (λ t. drop (ending_length t) t) line ∙ cut_is.rest_is);
      }

-- ---- a key, a separator and a value

module _ (separator : ℕ) (inside : is_line_end separator ≡ false) (other : (separator == 92) ≡ false) (ends : ends_key separator ≡ true)
    (one : (w : List ℕ) → ((m : Bool) → separator_from m w ≡ 0) → separator_from false (separator ∷ w) ≡ 1) where
  one_byte : (value behind : List ℕ) → joins behind ≡ true → separator_size (separator ∷ (spelled_value value ++ behind)) ≡ 1
  one_byte value behind ended =
      let v = spelled_value value in
      let pieces : pieces_in (separator ∷ (v ++ behind)) ≡ char separator ∷ chars v = at_char separator (v ++ behind) inside other ∙ ap (λ ps. char separator ∷ ps) ((value_spelled value).pieces behind ended) in
      let count : separator_from false (separator ∷ characters_of (chars v)) ≡ 1 = ap (λ w. separator_from false (separator ∷ w)) (characters_of-chars v) ∙ one v (λ m. value_counts m value) in
      ap (λ ps. length (bytes_of (separator_front false ps))) pieces ∙ ap (λ n. length (bytes_of (take_characters n (char separator ∷ chars v)))) count

  entry_back : (key value ending rest : List ℕ) → IsEnding ending rest → StartsEntry (spelled_key key ++ separator ∷ (spelled_value value ++ (ending ++ rest)))
      → BeginsWithEntry (spelled_key key ++ separator ∷ (spelled_value value ++ (ending ++ rest))) key value ending rest
  entry_back key value ending rest is starts =
      let tail = separator ∷ (spelled_value value ++ (ending ++ rest)) in
      begins key value tail ending rest is (separator_stops separator (spelled_value value ++ (ending ++ rest)) inside other ends)
      (ap (λ n. drop n tail) (one_byte value (ending ++ rest) (cut_off ending rest is).joins_is)) starts

  pub value_behind_some : ValuesReadBackBehindSome separator
  value_behind_some key value ending rest some is = entry_back key value ending rest is (some_starts (separator ∷ (spelled_value value ++ (ending ++ rest))) key some)

  pub value_reads_back : is_blank separator ≡ false → is_comment_mark separator ≡ false → ValuesReadBack separator
  unfolding spelled_key
  value_reads_back dark mark [] value ending rest is = entry_back [] value ending rest is (mark_starts separator (spelled_value value ++ (ending ++ rest)) inside dark mark)
  value_reads_back dark mark (b ∷ more) value ending rest is = value_behind_some (b ∷ more) value ending rest (omega arith) is

-- ---- a key alone

pub key_alone_reads_back : KeysReadBackAlone
unfolding spelled_value
key_alone_reads_back key ending rest some is =
    let behind = ending ++ rest in
    let none = no_pieces behind (cut_off ending rest is).joins_is in
    begins key [] behind ending rest is (ap key_front none) (ap (λ ps. drop (length (bytes_of (separator_front false ps))) behind) none) (some_starts behind key some)

-- ---- a file, line by line

nothing_read : (properties_of []).entries ≡ []
unfolding properties_of entries_from
nothing_read = ap (λ (p : Properties). p.entries) (entries-none [])

pub file_reads_back : ValuesReadBack 61 → FilesReadBack
unfolding spelled_file
file_reads_back values [] = ap (map (λ (e : Entry). (key_text e, value_text e))) nothing_read
file_reads_back values (pair ∷ pairs) =
    let line = values pair.0 pair.1 (10 ∷ []) (spelled_file pairs) by_lf in
    ap (map (λ (e : Entry). (key_text e, value_text e))) line.entries
    ∙ (ap (λ (k : List ℕ). (k, value_text line.first) ∷ map (λ (e : Entry). (key_text e, value_text e)) (properties_of (spelled_file pairs)).entries) line.key_is
    ∙ (ap (λ (v : List ℕ). (pair.0, v) ∷ map (λ (e : Entry). (key_text e, value_text e)) (properties_of (spelled_file pairs)).entries) line.value_is
    ∙ ap (λ (ps : List (List ℕ × List ℕ)). pair ∷ ps) (file_reads_back values pairs)))
