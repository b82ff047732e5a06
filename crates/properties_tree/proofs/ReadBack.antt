-- A spelled key, read.
use Rattle.std.proofs.Common.{◌≡◌, ℕ, ◌<◌, true, false, List, [], ◌∷◌, ◌++◌, length, get_or, refl, sym, ◌∙◌, ap, subst, arith, inl, inr, append_assoc}
use Rattle.std.specs.Prelude.{◌==◌, ◌||◌}
use Rattle.std.proofs.lemmas.Bool.{cases_Bool, eqb-true, or_parts, or_cases, or_from}
use Rattle.properties_tree.specs.Characters.{is_line_end, is_blank, is_separator, is_comment_mark, ends_key}
use Rattle.properties_tree.specs.Lines.{behind_blanks}
use Rattle.properties_tree.specs.Entries.{char, characters_of, chars, Properties, properties_of, no_entry}
use Rattle.properties_tree.specs.Sizes.{begins_no_entry, entries_from}
use Rattle.properties_tree.specs.Cutting.{pieces_in, key_front}
use Rattle.properties_tree.specs.Decoding.{byte, elements_of, utf8_of, decode, key_text}
use Rattle.properties_tree.specs.Spelling.{spell_byte, is_marked_in_key, spelled_key}
use Rattle.properties_tree.specs.Laws.{BeginsWithKey}
use Rattle.properties_tree.proofs.Plain.{characters_of-chars}
use Rattle.properties_tree.proofs.Cut.{at_char, at_pair}
use Rattle.properties_tree.proofs.EntryAt.{entry_begins}
use Rattle.properties_tree.proofs.First.{passed_over}
use Rattle.properties_tree.specs.Decoding.{escaped_byte}
use Rattle.properties_tree.proofs.Decoded.{at_byte, at_escape, none_said}

-- how a character is spelled: behind a backslash, or as it stands
data Way (b : ℕ) : List ℕ → Type 0 where
  marked : {c : ℕ} → is_line_end c ≡ false → (c == 117) ≡ false → escaped_byte c ≡ b → Way b (92 ∷ c ∷ [])
  alone : is_line_end b ≡ false → (b == 92) ≡ false → ends_key b ≡ false → is_comment_mark b ≡ false → Way b (b ∷ [])

-- a character that a backslash stands before is that character
itself : (b n : ℕ) → (b == n) ≡ true → Way n (92 ∷ n ∷ []) → Way b (92 ∷ b ∷ [])
itself b n e way = subst (λ k. Way k (92 ∷ k ∷ [])) (sym (eqb-true b n e)) way

way_marked : (b : ℕ) → is_marked_in_key b ≡ true → Way b (92 ∷ b ∷ [])
way_marked b mark =
    elim (or_cases (b == 32 || is_separator b || is_comment_mark b) (b == 92) mark) [
      | inr slash ↦ itself b 92 slash (marked refl refl refl)
      | inl three ↦ elim (or_cases (b == 32 || is_separator b) (is_comment_mark b) three) [
        | inr comment ↦ elim (or_cases (b == 35) (b == 33) comment) [ inl hash ↦ itself b 35 hash (marked refl refl refl) | inr bang ↦ itself b 33 bang (marked refl refl refl) ]
        | inl two ↦ elim (or_cases (b == 32) (is_separator b) two) [
          | inl space ↦ itself b 32 space (marked refl refl refl)
          | inr mark ↦ elim (or_cases (b == 61) (b == 58) mark) [ inl equals ↦ itself b 61 equals (marked refl refl refl) | inr colon ↦ itself b 58 colon (marked refl refl refl) ]
        ]
      ]
    ]

way_plain : (b : ℕ) → (b == 9) ≡ false → (b == 10) ≡ false → (b == 13) ≡ false → (b == 12) ≡ false → is_marked_in_key b ≡ false → Way b (b ∷ [])
way_plain b tab lf cr feed none =
    let parts = or_parts (b == 32 || is_separator b || is_comment_mark b) (b == 92) none in
    let three = or_parts (b == 32 || is_separator b) (is_comment_mark b) parts.0 in
    let two = or_parts (b == 32) (is_separator b) three.0 in
    let space = two.0 in
    let separator = two.1 in
    alone (rw (lf, cr) refl) parts.1 (or_from (is_separator b) (is_blank b) separator (rw (space, tab, feed) refl)) three.1

way : (b : ℕ) → Way b (spell_byte (is_marked_in_key b) b)
way b =
    elim (cases_Bool (b == 9)) [
      | inl tab ↦ rw tab (marked refl refl (sym (eqb-true b 9 tab)))
      | inr not_tab ↦ elim (cases_Bool (b == 10)) [
        | inl lf ↦ rw (not_tab, lf) (marked refl refl (sym (eqb-true b 10 lf)))
        | inr not_lf ↦ elim (cases_Bool (b == 13)) [
          | inl cr ↦ rw (not_tab, not_lf, cr) (marked refl refl (sym (eqb-true b 13 cr)))
          | inr not_cr ↦ elim (cases_Bool (b == 12)) [
            | inl feed ↦ rw (not_tab, not_lf, not_cr, feed) (marked refl refl (sym (eqb-true b 12 feed)))
            | inr not_feed ↦ elim (cases_Bool (is_marked_in_key b)) [
              | inl mark ↦ rw (not_tab, not_lf, not_cr, not_feed) (rw mark (way_marked b mark))
              | inr none ↦ rw (not_tab, not_lf, not_cr, not_feed) (rw none (way_plain b not_tab not_lf not_cr not_feed none))
            ]
          ]
        ]
      ]
    ]

-- ---- a spelled key is a key

key_grows : (b : ℕ) (w x : List ℕ) (front : List ℕ) → Way b w → key_front (pieces_in x) ≡ chars front → key_front (pieces_in (w ++ x)) ≡ chars (w ++ front)
key_grows b _ x front (marked {c = c} inside other says) more = ap key_front (at_pair 92 c x refl inside) ∙ ap (λ ps. char 92 ∷ char c ∷ ps) more
key_grows b _ x front (alone inside other key comment) more = ap key_front (at_char b x inside other) ∙ (rw (other, key) refl ∙ ap (λ ps. char b ∷ ps) more)

-- before a text that begins with no character of a key
pub spelled_front : (tail : List ℕ) → key_front (pieces_in tail) ≡ [] → (key : List ℕ) → key_front (pieces_in (spelled_key key ++ tail)) ≡ chars (spelled_key key)
unfolding spelled_key
spelled_front tail stops [] = stops
spelled_front tail stops (b ∷ rest) =
    let w = spell_byte (is_marked_in_key b) b in
    ap (λ t. key_front (pieces_in t)) (append_assoc w (spelled_key rest) tail)
    ∙ key_grows b w (spelled_key rest ++ tail) (spelled_key rest) (way b) (spelled_front tail stops rest)

-- as one that begins with a separator
pub separator_stops : (separator : ℕ) (text : List ℕ) → is_line_end separator ≡ false → (separator == 92) ≡ false → ends_key separator ≡ true → key_front (pieces_in (separator ∷ text)) ≡ []
separator_stops separator text inside other ends = ap key_front (at_char separator text inside other) ∙ rw (other, ends) refl

says_one : (b : ℕ) (w x : List ℕ) → Way b w → elements_of (w ++ x) ≡ byte b ∷ elements_of x
says_one b _ x (marked {c = c} inside other says) =
    at_escape 92 (c ∷ x) refl ∙ (rw other refl ∙ ap (λ k. byte k ∷ elements_of x) says)
says_one b _ x (alone inside other key comment) = at_byte b x other

pub decode-spelled : (key : List ℕ) → decode (spelled_key key) ≡ key
unfolding spelled_key utf8_of
decode-spelled [] = ap utf8_of none_said
decode-spelled (b ∷ rest) = ap utf8_of (says_one b (spell_byte (is_marked_in_key b) b) (spelled_key rest) (way b)) ∙ ap (λ t. b ∷ t) (decode-spelled rest)

-- ---- a line that begins with a spelled key begins an entry

pub record StartsEntry (s : List ℕ) : Type 0 where
  pub blanks : behind_blanks s ≡ s
  pub starts : begins_no_entry s ≡ false

starts_with : (b : ℕ) (w x : List ℕ) → Way b w → StartsEntry (w ++ x)
starts_with b _ x (marked inside other says) = record { blanks = refl; starts = refl }
starts_with b _ x (alone inside other key comment) =
    let parts = or_parts (is_separator b) (is_blank b) key in
    let blank = parts.1 in
    record { blanks = rw blank refl; starts = or_from (is_line_end b) (is_comment_mark b) inside comment }

pub some_starts : (tail key : List ℕ) → 0 < length key → StartsEntry (spelled_key key ++ tail)
unfolding spelled_key
some_starts tail [] some = absurd (omega arith)
some_starts tail (b ∷ rest) some =
    let w = spell_byte (is_marked_in_key b) b in
    subst StartsEntry (sym (append_assoc w (spelled_key rest) tail)) (starts_with b w (spelled_key rest ++ tail) (way b))

-- a mark of a separator does too
pub mark_starts : (separator : ℕ) (text : List ℕ) → is_line_end separator ≡ false → is_blank separator ≡ false → is_comment_mark separator ≡ false → StartsEntry (separator ∷ text)
mark_starts separator text inside dark mark = record { blanks = rw dark refl; starts = or_from (is_line_end separator) (is_comment_mark separator) inside mark }

first_entry : (s : List ℕ) (key : List ℕ) → StartsEntry s → key_front (pieces_in s) ≡ chars (spelled_key key) → BeginsWithKey s key
unfolding properties_of entries_from
first_entry s key starts front =
    let all = entry_begins s (passed_over s ∙ (ap begins_no_entry starts.blanks ∙ starts.starts)) [] in
    record {
      some = subst (λ (p : Properties). 0 < length p.entries) (sym all) (omega arith);
      same = subst (λ (p : Properties). key_text (get_or p.entries 0 no_entry) ≡ key) (sym all)
          (ap (λ t. decode (characters_of (key_front (pieces_in t)))) starts.blanks ∙ (ap (λ ps. decode (characters_of ps)) front ∙ (ap decode (characters_of-chars (spelled_key key)) ∙ decode-spelled key)));
    }

pub some_reads_back : (separator : ℕ) → is_line_end separator ≡ false → (separator == 92) ≡ false → ends_key separator ≡ true
    → (key text : List ℕ) → 0 < length key → BeginsWithKey (spelled_key key ++ separator ∷ text) key
some_reads_back separator inside other ends key text some =
    first_entry (spelled_key key ++ separator ∷ text) key (some_starts (separator ∷ text) key some) (spelled_front (separator ∷ text) (separator_stops separator text inside other ends) key)

pub reads_back : (separator : ℕ) → is_line_end separator ≡ false → (separator == 92) ≡ false → ends_key separator ≡ true → is_blank separator ≡ false → is_comment_mark separator ≡ false
    → (key text : List ℕ) → BeginsWithKey (spelled_key key ++ separator ∷ text) key
unfolding spelled_key
reads_back separator inside other ends dark mark [] text =
    first_entry (separator ∷ text) [] (mark_starts separator text inside dark mark) (spelled_front (separator ∷ text) (separator_stops separator text inside other ends) [])
reads_back separator inside other ends dark mark (b ∷ rest) text = some_reads_back separator inside other ends (b ∷ rest) text (omega arith)
