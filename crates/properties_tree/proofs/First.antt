-- What a text begins with, as the reader finds it.
use Rattle.std.proofs.Common.{◌≡◌, ℕ, ◌+◌, ◌-◌, ◌<◌, ◌≤◌, true, false, List, [], ◌∷◌, ◌++◌, length, take, drop, refl, sym, ◌∙◌, ap, subst, arith, inl, inr, length-drop}
use Rattle.std.specs.Prelude.{◌==◌, IsTrue, slice_range}
use Rattle.std.proofs.lemmas.Bool.{cases_Bool, false≢true, or_parts, eqb-true}
use Rattle.std.proofs.lemmas.List.{take_rest, drop-drop, length-take-le}
use Rattle.properties_tree.specs.Characters.{is_line_end, is_comment_mark}
use Rattle.properties_tree.specs.Plain.{has_backslash}
use Rattle.properties_tree.specs.Lines.{leading_blanks, behind_blanks, is_empty_or_comment}
use Rattle.properties_tree.specs.Sizes.{text_length, ending_length, begins_no_entry, entries_from, with_entry, BeginsPassed, BeginsEntry}
use Rattle.properties_tree.specs.Cutting.{pieces_in, key_front, separator_front, key_size, separator_size, line_size}
use Rattle.properties_tree.specs.Starts.{IsKeyStart}
use Rattle.properties_tree.specs.declared.starts.KeyStart.{KeyStart}
use Rattle.properties_tree.proofs.Lengths.{behind_blanks_is, leading_is}
use Rattle.properties_tree.proofs.FirstLine.{line_text, behind_text, ending_text, some_line}
use Rattle.properties_tree.proofs.Plain.{passes}
use Rattle.properties_tree.proofs.Cut.{cut, IsCut, nothing, ended, by_char, by_pair, by_joint, at_char, at_pair, at_joint}
use Rattle.properties_tree.proofs.Logical.{blanked}
use Rattle.properties_tree.proofs.EntryAt.{behind_key, behind_separator, behind_line, sizes, cut_entry, behind_entry, entry_begins}

no_entry_begins : (u : List ℕ) → is_empty_or_comment (line_text u) ≡ begins_no_entry u
no_entry_begins [] = refl
no_entry_begins (b ∷ rest) = elim (cases_Bool (is_line_end b)) [ inl e ↦ rw e refl | inr e ↦ rw e refl ]

-- whether a line is passed over, by what stands behind its blanks
pub passed_over : (s : List ℕ) → is_empty_or_comment (behind_blanks (line_text s)) ≡ begins_no_entry (behind_blanks s)
passed_over s = ap is_empty_or_comment (blanked s).text ∙ no_entry_begins (behind_blanks s)

some_pieces : (u : List ℕ) → IsCut u → begins_no_entry u ≡ false → 0 < line_size u
some_pieces [] nothing starts = absurd (false≢true (sym starts))
some_pieces (b ∷ rest) (ended e) starts = absurd (false≢true (sym ((or_parts (is_line_end b) (is_comment_mark b) starts).0) ∙ e))
some_pieces (b ∷ rest) (by_char inside other more) starts = rw (at_char b rest inside other) (omega arith)
some_pieces (b ∷ c ∷ rest) (by_pair slash inside more) starts = rw (at_pair b c rest slash inside) (omega arith)
some_pieces (b ∷ rest) (by_joint slash j e more) starts = rw (at_joint b rest slash j) (omega arith)

pub some_line_size : (u : List ℕ) → begins_no_entry u ≡ false → 0 < line_size u
some_line_size u starts = some_pieces u (cut u) starts

module _ (s : List ℕ) (some : 0 < length s) where
  pub passed_found : (n e : ℕ) → n ≡ text_length s → n ≤ length s → e ≡ ending_length (take (length s - n) (drop n s)) → e ≤ length (take (length s - n) (drop n s))
      → (b : ℕ) → b ≡ length (leading_blanks s) → begins_no_entry (take (length s - b) (drop b s)) ≡ true → BeginsPassed s (n + e)
  passed_found n e n_is n_in e_is e_in b b_is comment =
      let rest : take (length s - n) (drop n s) ≡ drop n s = take_rest s n in
      let left : length (take (length s - n) (drop n s)) ≡ length s - n = ap length rest ∙ length-drop n s in
      let ending : e ≡ ending_length (behind_text s) = e_is ∙ (ap ending_length rest ∙ ap (λ k. ending_length (drop k s)) n_is) in
      let whole : n + e ≡ text_length s + ending_length (behind_text s) = rw (n_is, ending) refl in
      let line : take (length s - b) (drop b s) ≡ behind_blanks s = take_rest s b ∙ (ap (λ k. drop k s) b_is ∙ sym (behind_blanks_is s)) in
      record {
        some = rw whole (some_line s some);
        inside = omega arith;
        entries = rw whole (passes s (passed_over s ∙ (ap begins_no_entry (sym line) ∙ comment)));
      }

-- an entry's blanks and key, as the code finds them
pub key_started : (s : List ℕ) (b k n : ℕ) → b ≡ length (leading_blanks s) → b ≤ length s → begins_no_entry (take (length s - b) (drop b s)) ≡ false
    → k ≡ key_size (take (length s - b) (drop b s)) → k ≤ length (take (length s - b) (drop b s)) → has_backslash (take n (take (length s - b) (drop b s))) ≡ false
    → IsKeyStart s (record { blanks = b; key = k; plain = (k == n) })
key_started s b k n b_is b_in starts k_is k_in none =
    let line : take (length s - b) (drop b s) ≡ drop b s = take_rest s b in
    let long : length (take (length s - b) (drop b s)) ≡ length s - b = ap length line ∙ length-drop b s in
    record {
      blanks_is = b_is;
      starts = ap begins_no_entry (sym line) ∙ starts;
      key_is = k_is ∙ ap key_size line;
      inside = omega arith;
      plain = λ same. ap (λ m. has_backslash (take m (drop b s))) (eqb-true k n same) ∙ (ap (λ (t : List ℕ). has_backslash (take n t)) (sym line) ∙ none);
    }

-- ---- the parts of an entry whose start is found

module _ (s : List ℕ) (z : KeyStart) (is : IsKeyStart s z) where
  abbrev pub after_key : List ℕ
  after_key = take (length s - (z.blanks + z.key)) (drop (z.blanks + z.key) s)

  abbrev u : List ℕ
  u = behind_blanks s

  line_is : drop z.blanks s ≡ u
  line_is = ap (λ n. drop n s) is.blanks_is ∙ sym (behind_blanks_is s)

  starts_is : begins_no_entry u ≡ false
  starts_is = ap begins_no_entry (sym line_is) ∙ is.starts

  k_size : z.key ≡ key_size u
  k_size = is.key_is ∙ ap key_size line_is

  key_is : after_key ≡ behind_key u
  key_is =
      take_rest s (z.blanks + z.key)
      ∙ (sym (drop-drop z.key z.blanks s) ∙ (ap (λ n. drop n (drop z.blanks s)) k_size ∙ ap (drop (key_size u)) line_is))

  key_left : length after_key ≡ length s - (z.blanks + z.key)
  key_left = ap length (take_rest s (z.blanks + z.key)) ∙ length-drop (z.blanks + z.key) s

  module _ (m v e : ℕ) where
    abbrev pub after_separator : List ℕ
    after_separator = take (length after_key - m) (drop m after_key)

    abbrev pub after_value : List ℕ
    after_value = take (length after_separator - v) (drop v after_separator)

    module _ (m_is : m ≡ separator_size after_key) (m_in : m ≤ length after_key)
        (v_is : v ≡ line_size after_separator) (v_in : v ≤ length after_separator) (e_is : e ≡ ending_length after_value) (e_in : e ≤ length after_value) where
      separator_is : after_separator ≡ behind_separator u
      separator_is = take_rest after_key m ∙ (ap (λ n. drop n after_key) m_is ∙ ap (λ x. drop (separator_size x) x) key_is)

      value_is : after_value ≡ behind_entry s
      value_is = take_rest after_separator v ∙ (ap (λ n. drop n after_separator) v_is ∙ (ap (λ x. drop (line_size x) x) separator_is ∙ behind_line u))

      m_size : m ≡ separator_size (behind_key u)
      m_size = m_is ∙ ap separator_size key_is

      v_size : v ≡ line_size (behind_separator u)
      v_size = v_is ∙ ap line_size separator_is

      e_size : e ≡ ending_length (behind_entry s)
      e_size = e_is ∙ ap ending_length value_is

      line_total : z.key + m + v ≡ line_size u
      line_total = let all = sizes u in omega (arith, k_size, m_size, v_size)

      fits : z.blanks + z.key + m + v + e ≤ length s
      fits =
          let l1 = is.inside in
          let l2 = key_left in
          let l3 : length after_separator ≡ length after_key - m = ap length (take_rest after_key m) ∙ length-drop m after_key in
          let l4 : length after_value ≡ length after_separator - v = ap length (take_rest after_separator v) ∙ length-drop v after_separator in
          omega arith

      rest_is : drop (ending_length (behind_entry s)) (behind_entry s) ≡ drop (z.blanks + z.key + m + v + e) s
      rest_is =
          let total : z.blanks + (line_size u + e) ≡ z.blanks + z.key + m + v + e = omega (arith, line_total) in
          ap (λ n. drop n (behind_entry s)) (sym e_size)
          ∙ (drop-drop e (line_size u) u
          ∙ (ap (drop (line_size u + e)) (sym line_is)
          ∙ (drop-drop (line_size u + e) z.blanks s ∙ ap (λ n. drop n s) total)))

      pub entry_found : BeginsEntry s (record { blanks = z.blanks; key = z.key; separator = m; value = v; ending = e })
      entry_found = record {
        key = key_front (pieces_in u);
        separator = separator_front false (pieces_in (behind_key u));
        value = pieces_in (behind_separator u);
        ending = ending_text (behind_entry s);
        key_size = sym k_size;
        separator_size = sym m_size;
        value_size = sym v_size;
        ending_size = let short : ending_length (behind_entry s) ≤ length (behind_entry s) = subst (λ x. ending_length x ≤ length x) value_is (subst (λ n. n ≤ length after_value) e_is e_in) in
            length-take-le (ending_length (behind_entry s)) (behind_entry s) short ∙ sym e_size;
        some = let long = some_line_size u starts_is in omega (arith, line_total);
        inside = fits;
        entries = λ before.
            let prefix : leading_blanks s ≡ take z.blanks s = leading_is s ∙ ap (λ n. take n s) (sym is.blanks_is) in
            entry_begins s (passed_over s ∙ starts_is) before
            ∙ (ap (λ (p : List ℕ). with_entry (cut_entry u (before ++ p) (ending_text (behind_entry s))) (entries_from [] (drop (ending_length (behind_entry s)) (behind_entry s)))) prefix
            ∙ ap (λ (t : List ℕ). with_entry (cut_entry u (before ++ take z.blanks s) (ending_text (behind_entry s))) (entries_from [] t)) rest_is);
      }

  -- the bytes of the key, where it is known to have no backslash
  pub no_slash_in : (from to : ℕ) → from ≡ z.blanks → to ≡ z.blanks + z.key → IsTrue z.plain → has_backslash (slice_range s from to) ≡ false
  no_slash_in from to from_is to_is plain =
      let long : to - from ≡ z.key = omega arith in
      ap (λ n. has_backslash (take n (drop from s))) long ∙ (ap (λ n. has_backslash (take z.key (drop n s))) from_is ∙ is.plain plain)
