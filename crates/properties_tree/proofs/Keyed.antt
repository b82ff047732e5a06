-- Keys written anew, line by line.
use Rattle.std.proofs.Common.{◌≡◌, ℕ, Bool, inl, inr, ◌+◌, ◌-◌, ◌≤◌, true, false, List, [], ◌∷◌, ◌++◌, length, get_or, take, drop, refl, sym, ◌∙◌, ap, subst, arith, length-append, length-drop, append_assoc, append-nil}
use Rattle.std.specs.Prelude.{slice_range, None, IsTrue, ◌↔◌}
use Rattle.std.proofs.lemmas.Bool.{cases_Bool, false≢true}
use Rattle.std.proofs.lemmas.Slice.Eq.{bytes_eq-Decides}
use Rattle.std.specs.Str.{bytes_eq}
use Rattle.std.proofs.lemmas.List.{drop-drop, drop_all, length-take-le, take_at, take_all, take_rest}
use Rattle.rw_base.specs.Joins.{joined_slices}
use Rattle.rw_base.specs.NaturalLines.{whole_line}
use Rattle.properties_tree.specs.Lines.{leading_blanks, behind_blanks}
use Rattle.properties_tree.specs.Entries.{LogicalLine, passed, entry, bytes_of, join_lines, Entry, entry_of, Properties, entries_of, properties_of, no_entry}
use Rattle.properties_tree.specs.Decoding.{key_text, entry_at}
use Rattle.properties_tree.specs.Sizes.{ending_length, entries_from, whole_size, BeginsPassed, BeginsEntry}
use Rattle.properties_tree.specs.Laws.{whole_entry, whole_of}
use Rattle.properties_tree.specs.Keys.{key_or, all_with, with_key, IsKeyPlace, IsNextKey}
use Rattle.properties_tree.specs.Starts.{IsKeyStart, IsKept, BeginsKey}
use Rattle.properties_tree.specs.declared.starts.KeyStart.{KeyStart}
use Rattle.properties_tree.specs.declared.keys.KeyPlace.{KeyPlace}
use Rattle.properties_tree.proofs.Goes.{entries-none}
use Rattle.properties_tree.specs.Cutting.{separator_size, line_size}
use Rattle.properties_tree.proofs.First.{entry_found}
use Rattle.properties_tree.proofs.EntryAt.{line-le, line_parts, size-le}
use Rattle.properties_tree.proofs.Whole.{whole-entries_from, part_at}

-- an answer that says when two texts are equal is their test
pub told_by : (same : Bool) (a b : List ℕ) → IsTrue same ↔ (a ≡ b) → bytes_eq a b ≡ same
told_by true a b told = (bytes_eq-Decides a b).1 (told.0 refl)
told_by false a b told = elim (cases_Bool (bytes_eq a b)) [ inl e ↦ absurd (false≢true (told.1 ((bytes_eq-Decides a b).0 e))) | inr e ↦ e ]

-- what stands before the entries stands before all
prefix_first : (key w before : List ℕ) (lines : List LogicalLine) → all_with key w (entries_of before lines) ≡ before ++ all_with key w (entries_of [] lines)
unfolding entries_of entry_of
prefix_first key w before [] = sym (append-nil before)
prefix_first key w before (passed line ∷ lines) =
    prefix_first key w (before ++ whole_line line) lines
    ∙ (append_assoc before (whole_line line) (all_with key w (entries_of [] lines))
    ∙ ap (λ t. before ++ t) (sym (prefix_first key w (whole_line line) lines)))
prefix_first key w before (entry line more ∷ lines) =
    let e = entry_of (leading_blanks line.text) (join_lines (behind_blanks line.text) line.ending more) in
    regrouped before e.prefix (key_or key w e ++ (bytes_of e.separator ++ (bytes_of e.value ++ e.ending))) (all_with key w (entries_of [] lines))
  where
    regrouped : (a b c d : List ℕ) → ((a ++ b) ++ c) ++ d ≡ a ++ ((b ++ c) ++ d)
    regrouped a b c d = simp append_assoc

-- the entries of a text, from its lines on
pub with_key-from : (key w text : List ℕ) → with_key key w text ≡ all_with key w (entries_from [] text)
unfolding with_key properties_of entries_from
with_key-from key w text = refl

prefix_before : (key w before text : List ℕ) → all_with key w (entries_from before text) ≡ before ++ with_key key w text
unfolding with_key properties_of entries_from
prefix_before key w before text = prefix_first key w before _

pub with_key-none : (key w : List ℕ) → with_key key w [] ≡ []
with_key-none key w = with_key-from key w [] ∙ ap (all_with key w) (entries-none [])

-- ---- one line

pub passed_kept : (key text : List ℕ) (size : ℕ) → BeginsPassed text size → IsKept key text size
passed_kept key text size line = record {
  some = line.some;
  inside = line.inside;
  new = λ w. with_key-from key w text ∙ (ap (all_with key w) (line.entries []) ∙ prefix_before key w (take size text) (drop size text));
}

module _ (text : List ℕ) (p : KeyPlace) (line : BeginsKey text p) where
  abbrev b : BeginsEntry text line.sizes
  b = line.begins

  abbrev e : Entry
  e = record { prefix = take line.sizes.blanks text; key = b.key; separator = b.separator; value = b.value; ending = b.ending }

  abbrev rest : List ℕ
  rest = drop (whole_size line.sizes) text

  abbrev behind : List ℕ
  behind = bytes_of e.separator ++ (bytes_of e.value ++ e.ending)

  whole : text ≡ whole_entry e ++ rest
  whole =
      sym (whole-entries_from [] text)
      ∙ (ap (λ (p : Properties). whole_of p.entries p.rest) (b.entries []) ∙ ap (λ t. whole_entry e ++ t) (whole-entries_from [] rest))

  blanks_long : length (take line.sizes.blanks text) ≡ line.sizes.blanks
  blanks_long = length-take-le line.sizes.blanks text (omega (arith, b.inside))

  behind_long : length behind ≡ line.sizes.separator + line.sizes.value + line.sizes.ending
  behind_long = length-append (bytes_of e.separator) (bytes_of e.value ++ e.ending) ∙ omega (arith, length-append (bytes_of e.value) e.ending, b.separator_size, b.value_size, b.ending_size)

  entry_long : length (whole_entry e) ≡ whole_size line.sizes
  entry_long =
      length-append (take line.sizes.blanks text) (bytes_of e.key ++ behind)
      ∙ omega (arith, blanks_long, length-append (bytes_of e.key) behind, behind_long, b.key_size)

  pub first_entry : entry_at text 0 ≡ e
  unfolding properties_of entries_from
  first_entry = ap (λ (p : Properties). get_or p.entries 0 no_entry) (b.entries [])

  -- its key's bytes
  pub key_bytes : slice_range text p.from p.to ≡ bytes_of (entry_at text 0).key
  key_bytes =
      part_at text (take line.sizes.blanks text) (bytes_of e.key) (behind ++ rest) p.from p.to
      (whole ∙ (append_assoc (take line.sizes.blanks text) (bytes_of e.key ++ behind) rest ∙ ap (λ t. take line.sizes.blanks text ++ t) (append_assoc (bytes_of e.key) behind rest)))
      (blanks_long ∙ sym line.from_is) (omega (arith, line.from_is, line.to_is, b.key_size))
      ∙ ap (λ (x : Entry). bytes_of x.key) (sym first_entry)

  behind_is : slice_range text p.to p.next ≡ behind
  behind_is =
      part_at text (take line.sizes.blanks text ++ bytes_of e.key) behind rest p.to p.next
      (whole ∙ regrouped (take line.sizes.blanks text) (bytes_of e.key) behind rest)
      (length-append (take line.sizes.blanks text) (bytes_of e.key) ∙ omega (arith, blanks_long, b.key_size, line.to_is))
      (omega (arith, behind_long, line.to_is, line.next_is))
    where
      regrouped : (w x y z : List ℕ) → (w ++ (x ++ y)) ++ z ≡ (w ++ x) ++ (y ++ z)
      regrouped w x y z = simp append_assoc

  rest_is : rest ≡ drop p.next text
  rest_is = ap (λ n. drop n text) (sym line.next_is)

  module _ (key : List ℕ) where
    step : (w : List ℕ) → with_key key w text ≡ (e.prefix ++ (key_or key w e ++ behind)) ++ with_key key w (drop p.next text)
    step w =
        with_key-from key w text
        ∙ (ap (all_with key w) (b.entries [])
        ∙ ap (λ t. (e.prefix ++ (key_or key w e ++ behind)) ++ t) (sym (with_key-from key w rest) ∙ ap (with_key key w) rest_is))

    pub entry_kept : bytes_eq (key_text (entry_at text 0)) key ≡ false → IsKept key text p.next
    entry_kept other = record {
      some = omega (arith, b.some, line.next_is);
      inside = omega (arith, b.inside, line.next_is);
      new = λ w.
          let own : key_or key w e ≡ bytes_of e.key = rw (sym (ap (λ (x : Entry). bytes_eq (key_text x) key) first_entry) ∙ other) refl in
          let front : whole_entry e ≡ take p.next text = sym (ap (take p.next) whole ∙ take_at (whole_entry e) rest p.next (entry_long ∙ sym line.next_is)) in
          step w ∙ ap (λ t. t ++ with_key key w (drop p.next text)) (ap (λ k. e.prefix ++ (k ++ behind)) own ∙ front);
    }

    pub has_it : bytes_eq (key_text (entry_at text 0)) key ≡ true → IsKeyPlace key text 0 p
    has_it same = record {
      from = omega arith;
      ordered = omega (arith, line.from_is, line.to_is);
      behind = omega (arith, line.to_is, line.next_is);
      further = omega (arith, b.some, line.next_is);
      inside = omega (arith, b.inside, line.next_is);
      new = λ w.
          let anew : key_or key w e ≡ w = rw (sym (ap (λ (x : Entry). bytes_eq (key_text x) key) first_entry) ∙ same) refl in
          let zero_less : line.sizes.blanks ≡ p.from - 0 = omega (arith, line.from_is) in
          let front : e.prefix ≡ slice_range text 0 p.from = ap (λ n. take n text) zero_less in
          step w
          ∙ (ap (λ k. (e.prefix ++ (k ++ behind)) ++ with_key key w (drop p.next text)) anew
          ∙ (regrouped e.prefix w behind (with_key key w (drop p.next text))
          ∙ (ap (λ t. t ++ (w ++ (behind ++ with_key key w (drop p.next text)))) front
          ∙ ap (λ t. slice_range text 0 p.from ++ (w ++ (t ++ with_key key w (drop p.next text)))) (sym behind_is))));
    }
      where
        regrouped : (a x c d : List ℕ) → (a ++ (x ++ c)) ++ d ≡ a ++ (x ++ (c ++ d))
        regrouped a x c d = simp append_assoc

-- ---- where the key of an entry stands, as the code finds it

module _ (s : List ℕ) (z : KeyStart) (is : IsKeyStart s z) (v e : ℕ) where
  abbrev behind_key : List ℕ
  behind_key = take (length s - (z.blanks + z.key)) (drop (z.blanks + z.key) s)

  abbrev behind_line : List ℕ
  behind_line = take (length behind_key - v) (drop v behind_key)

  pub place_found : v ≡ line_size behind_key → v ≤ length behind_key → e ≡ ending_length behind_line → e ≤ length behind_line
      → BeginsKey s (record { from = z.blanks; to = z.blanks + z.key; next = z.blanks + z.key + v + e })
  place_found v_is v_in e_is e_in =
      let m = separator_size behind_key in
      let behind_separator = take (length behind_key - m) (drop m behind_key) in
      let l = line_size behind_separator in
      let m_in : m ≤ length behind_key = size-le behind_key in
      let same : behind_separator ≡ drop m behind_key = take_rest behind_key m in
      let v_all : line_size behind_key ≡ m + l = line_parts behind_key ∙ ap (λ t. m + line_size t) (sym same) in
      let l_in : l ≤ length behind_separator = line-le behind_separator in
      let after_line : take (length behind_separator - l) (drop l behind_separator) ≡ behind_line =
      take_rest behind_separator l ∙ (ap (drop l) same ∙ (drop-drop l m behind_key ∙ (ap (λ n. drop n behind_key) (sym v_all ∙ sym v_is) ∙ sym (take_rest behind_key v)))) in
      let found = entry_found s z is m l e refl m_in refl l_in (e_is ∙ ap ending_length (sym after_line)) (subst (λ (t : List ℕ). e ≤ length t) (sym after_line) e_in) in
      record {
        sizes = record { blanks = z.blanks; key = z.key; separator = m; value = l; ending = e };
        begins = found;
        from_is = refl;
        to_is = refl;
        next_is = omega (arith, v_is, v_all);
      }

-- ---- lines, one behind another

-- from a place to a later one each line keeps its bytes
pub record AreKept (key bytes : List ℕ) (at line : ℕ) : Type 0 where
  pub new : (w : List ℕ) → with_key key w (drop at bytes) ≡ slice_range bytes at line ++ with_key key w (drop line bytes)
  pub ordered : at ≤ line
  pub inside : line ≤ length bytes

module _ (key bytes : List ℕ) (at : ℕ) where
  pub none_kept : at ≤ length bytes → AreKept key bytes at at
  none_kept inside = record {
    new = λ w. let none : at - at ≡ 0 = omega arith in sym (ap (λ n. take n (drop at bytes) ++ with_key key w (drop at bytes)) none);
    ordered = omega arith;
    inside = inside;
  }

  pub all_kept : (line : ℕ) → length bytes ≤ line → AreKept key bytes at line → IsNextKey key bytes at None
  all_kept line end kept =
      λ w. let long = length-drop at bytes in
      kept.new w
      ∙ (ap (λ t. slice_range bytes at line ++ with_key key w t) (drop_all line bytes end)
      ∙ (ap (λ t. slice_range bytes at line ++ t) (with_key-none key w)
      ∙ (append-nil (slice_range bytes at line) ∙ take_all (line - at) (drop at bytes) (omega arith))))

  module _ (line : ℕ) (kept : AreKept key bytes at line) where
    -- a part of the text from the line on, as a part of the bytes
    part : (from to : ℕ) → slice_range (drop line bytes) from to ≡ slice_range bytes (line + from) (line + to)
    part from to =
        let size : to - from ≡ line + to - (line + from) = omega arith in
        ap (λ n. take n (drop from (drop line bytes))) size ∙ ap (take (line + to - (line + from))) (drop-drop from line bytes)

    pub one_kept : (size : ℕ) → IsKept key (drop line bytes) size → AreKept key bytes at (line + size)
    one_kept size next = record {
      new = λ w.
          let less : size ≡ line + size - line = omega arith in
          kept.new w
          ∙ (ap (λ t. slice_range bytes at line ++ t) (next.new w)
          ∙ (sym (append_assoc (slice_range bytes at line) (take size (drop line bytes)) (with_key key w (drop size (drop line bytes))))
          ∙ (ap (λ t. (slice_range bytes at line ++ take size (drop line bytes)) ++ with_key key w t) (drop-drop size line bytes)
          ∙ ap (λ t. t ++ with_key key w (drop (line + size) bytes))
          (ap (λ n. slice_range bytes at line ++ take n (drop line bytes)) less ∙ joined_slices bytes at line (line + size) kept.ordered (omega arith)))));
      ordered = omega (arith, kept.ordered);
      inside = omega (arith, next.inside, length-drop line bytes, kept.inside);
    }

    pub key_found : (p : KeyPlace) → IsKeyPlace key (drop line bytes) 0 p → IsKeyPlace key bytes at (record { from = line + p.from; to = line + p.to; next = line + p.next })
    key_found p found = record {
      from = omega (arith, kept.ordered);
      ordered = omega (arith, found.ordered);
      behind = omega (arith, found.behind);
      further = omega (arith, found.further, kept.ordered);
      inside = omega (arith, found.inside, length-drop line bytes, kept.inside);
      new = λ w.
          let tail = with_key key w (drop (line + p.next) bytes) in
          let here : line + 0 ≡ line = omega arith in
          kept.new w
          ∙ (ap (λ t. slice_range bytes at line ++ t) (found.new w)
          ∙ (ap (λ t. slice_range bytes at line ++ (slice_range (drop line bytes) 0 p.from ++ (w ++ (slice_range (drop line bytes) p.to p.next ++ with_key key w t)))) (drop-drop p.next line bytes)
          ∙ (ap (λ t. slice_range bytes at line ++ (t ++ (w ++ (slice_range (drop line bytes) p.to p.next ++ tail)))) (part 0 p.from ∙ ap (λ n. slice_range bytes n (line + p.from)) here)
          ∙ (ap (λ t. slice_range bytes at line ++ (slice_range bytes line (line + p.from) ++ (w ++ (t ++ tail)))) (part p.to p.next)
          ∙ (sym (append_assoc (slice_range bytes at line) (slice_range bytes line (line + p.from)) (w ++ (slice_range bytes (line + p.to) (line + p.next) ++ tail)))
          ∙ ap (λ t. t ++ (w ++ (slice_range bytes (line + p.to) (line + p.next) ++ tail))) (joined_slices bytes at line (line + p.from) kept.ordered (omega arith)))))));
    }
