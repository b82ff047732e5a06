-- One piece more of a logical line, as the reader's loops go over it.
use Rattle.std.proofs.Common.{◌≡◌, ℕ, zero, suc, ◌+◌, ◌<◌, ◌≤◌, Bool, true, false, List, [], ◌∷◌, ◌++◌, length, get_or, take, drop, refl, sym, ◌∙◌, ap, arith, append_assoc, append-nil, length-append, length-drop, add-one}
use Rattle.std.specs.Prelude.{◌==◌, ◌||◌}
use Rattle.std.proofs.lemmas.Bool.{false≢true, eqb-true, or_parts, not-true}
use Rattle.std.proofs.lemmas.List.{drop_more, drop_all, drop-drop, length-take-le}
use Rattle.properties_tree.specs.Characters.{is_line_end, is_blank, is_separator, ends_key, backslash}
use Rattle.properties_tree.specs.Plain.{has_backslash, is_plain, is_plain_in_key}
use Rattle.properties_tree.specs.Entries.{Piece, char, joint, bytes_of, characters_of, take_characters, key_length}
use Rattle.properties_tree.specs.Cutting.{joins, joint_size, pieces_in, key_front, separator_front, separator_from, key_size, separator_size, line_size, ends_at, key_end, IsChar, IsPair, IsJoint}
use Rattle.properties_tree.proofs.Lengths.{plain_more}
use Rattle.properties_tree.proofs.Cut.{at_none, at_end, at_char, at_pair, at_joint, joint_size-le}

-- ---- the next piece

pub next_none : (s : List ℕ) (at : ℕ) → length s ≤ at → pieces_in (drop at s) ≡ []
next_none s at h = ap pieces_in (drop_all at s h) ∙ at_none

module _ (s : List ℕ) (at : ℕ) (inside : at < length s) where
  here : drop at s ≡ get_or s at 0 ∷ drop (at + 1) s
  here = drop_more s at 0 inside

  pub next_end : is_line_end (get_or s at 0) ≡ true → pieces_in (drop at s) ≡ []
  next_end e = ap pieces_in here ∙ at_end (get_or s at 0) (drop (at + 1) s) e

  pub next_char : is_line_end (get_or s at 0) ≡ false → (get_or s at 0 == 92) ≡ false → IsChar s at (get_or s at 0)
  next_char e other = record { pieces = ap pieces_in here ∙ at_char (get_or s at 0) (drop (at + 1) s) e other; plain = other; inside = omega arith }

  pub next_joint : (n : ℕ) → (get_or s at 0 == 92) ≡ true → joins (drop (at + 1) s) ≡ true → n ≡ joint_size (drop (at + 1) s) → IsJoint s at (1 + n)
  next_joint n slash j size =
      let rest = drop (at + 1) s in
      let le = joint_size-le rest j in
      let left = length-drop (at + 1) s in
      let sum : at + 1 + n ≡ at + (1 + n) = omega arith in
      record {
        bytes = backslash ∷ take (joint_size rest) rest;
        pieces = ap pieces_in here ∙ (at_joint (get_or s at 0) rest slash j ∙ ap (λ t. joint (backslash ∷ take (joint_size rest) rest) ∷ pieces_in t)
            (ap (λ k. drop k rest) (sym size) ∙ (drop-drop n (at + 1) s ∙ ap (λ k. drop k s) sum)));
        length_is = let long = length-take-le (joint_size rest) rest le in omega (arith, size, long);
        some = omega arith;
        inside = omega (arith, size, le, left);
      }

  pair_in : (t : List ℕ) → drop (at + 1) s ≡ t → (get_or s at 0 == 92) ≡ true → joins t ≡ false → IsPair s at (get_or t 0 0)
  pair_in [] e slash j = absurd (false≢true (sym j))
  pair_in (c ∷ rest) e slash j =
      let long = length-drop (at + 1) s in
      let same = ap length e in
      let two : at + 1 + 1 ≡ at + 2 = omega arith in
      let rest_is : rest ≡ drop (at + 2) s = sym (ap (drop 1) e) ∙ (drop-drop 1 (at + 1) s ∙ ap (λ k. drop k s) two) in
      record {
        pieces =
            ap pieces_in here
            ∙ (ap (λ x. pieces_in (get_or s at 0 ∷ x)) e
            ∙ (at_pair (get_or s at 0) c rest slash j
            ∙ (ap (λ b. char b ∷ char c ∷ pieces_in rest) (eqb-true (get_or s at 0) 92 slash) ∙ ap (λ x. char backslash ∷ char c ∷ pieces_in x) rest_is)));
        inside = omega arith;
      }

  pub next_pair : (get_or s at 0 == 92) ≡ true → joins (drop (at + 1) s) ≡ false → IsPair s at (get_or (drop (at + 1) s) 0 0)
  next_pair slash j = pair_in (drop (at + 1) s) refl slash j

-- ---- the end of a key

one_more : (n e a b : ℕ) (ps : List Piece) → ends_at (suc n) e (a + length (bytes_of (take_characters (suc n) (char b ∷ ps)))) ≡ ends_at n (a + 1) (a + 1 + length (bytes_of (take_characters n ps)))
one_more zero e a b ps = omega arith
one_more (suc n) e a b ps = omega arith

two_more : (n e a b c : ℕ) (ps : List Piece) → ends_at (suc (suc n)) e (a + length (bytes_of (take_characters (suc (suc n)) (char b ∷ char c ∷ ps)))) ≡ ends_at n (a + 2) (a + 2 + length (bytes_of (take_characters n ps)))
two_more zero e a b c ps = omega arith
two_more (suc n) e a b c ps = omega arith

past_joint : (n e a : ℕ) (t : List ℕ) (ps : List Piece) → ends_at n e (a + length (bytes_of (take_characters n (joint t ∷ ps)))) ≡ ends_at n e (a + length t + length (bytes_of (take_characters n ps)))
past_joint zero e a t ps = refl
past_joint (suc n) e a t ps = omega (arith, length-append t (bytes_of (take_characters (suc n) ps)))

at_start : (n : ℕ) (ps : List Piece) → length (bytes_of (take_characters n ps)) ≡ ends_at n 0 (0 + length (bytes_of (take_characters n ps)))
at_start zero ps = refl
at_start (suc n) ps = omega arith

module _ (s : List ℕ) (e a : ℕ) where
  pub key_char : (b : ℕ) → IsChar s a b → ends_key b ≡ false → key_end e a (pieces_in (drop a s)) ≡ key_end (a + 1) (a + 1) (pieces_in (drop (a + 1) s))
  key_char b next inside =
      let ps = pieces_in (drop (a + 1) s) in
      let plain = next.plain in
      ap (key_end e a) next.pieces ∙ rw (plain, inside) (one_more (key_length (characters_of ps)) e a b ps)

  pub key_stop : (b : ℕ) → IsChar s a b → ends_key b ≡ true → key_end e a (pieces_in (drop a s)) ≡ e
  key_stop b next stops = let plain = next.plain in ap (key_end e a) next.pieces ∙ rw (plain, stops) refl

  pub key_pair : (c : ℕ) → IsPair s a c → key_end e a (pieces_in (drop a s)) ≡ key_end (a + 2) (a + 2) (pieces_in (drop (a + 2) s))
  key_pair c next =
      let ps = pieces_in (drop (a + 2) s) in
      ap (key_end e a) next.pieces ∙ two_more (key_length (characters_of ps)) e a backslash c ps

  pub key_joint : (n : ℕ) → IsJoint s a n → key_end e a (pieces_in (drop a s)) ≡ key_end e (a + n) (pieces_in (drop (a + n) s))
  key_joint n next =
      let ps = pieces_in (drop (a + n) s) in
      ap (key_end e a) next.pieces ∙ (past_joint (key_length (characters_of ps)) e a next.bytes ps ∙ ap (λ k. ends_at (key_length (characters_of ps)) e (a + k + length (bytes_of (key_front ps)))) next.length_is)

  pub key_over : pieces_in (drop a s) ≡ [] → key_end e a (pieces_in (drop a s)) ≡ e
  key_over none = ap (key_end e a) none

pub key_from_start : (s : List ℕ) → key_size s ≡ key_end 0 0 (pieces_in (drop 0 s))
key_from_start s = at_start (key_length (characters_of (pieces_in s))) (pieces_in s)

pub ruleset over_key = (key_char, key_stop, key_pair, key_joint, key_over, key_from_start, next_none)

-- ---- the end of a separator

abbrev pub separator_end : Bool → ℕ → ℕ → List Piece → ℕ
separator_end m e a ps = ends_at (separator_from m (characters_of ps)) e (a + length (bytes_of (separator_front m ps)))

-- a character that is no blank and no mark
other_ends : (m : Bool) (e a b : ℕ) (ps : List Piece) → is_blank b ≡ false → is_separator b ≡ false → separator_end m e a (char b ∷ ps) ≡ e
other_ends true e a b ps blank other = rw blank refl
other_ends false e a b ps blank other = rw (blank, other) refl

module _ (s : List ℕ) (m : Bool) (e a : ℕ) where
  pub separator_blank : (b : ℕ) → IsChar s a b → is_blank b ≡ true → separator_end m e a (pieces_in (drop a s)) ≡ separator_end m (a + 1) (a + 1) (pieces_in (drop (a + 1) s))
  separator_blank b next blank =
      let ps = pieces_in (drop (a + 1) s) in
      ap (separator_end m e a) next.pieces ∙ rw blank (one_more (separator_from m (characters_of ps)) e a b ps)

  pub separator_mark : (b : ℕ) → IsChar s a b → is_blank b ≡ false → m ≡ false → is_separator b ≡ true
      → separator_end m e a (pieces_in (drop a s)) ≡ separator_end true (a + 1) (a + 1) (pieces_in (drop (a + 1) s))
  separator_mark b next blank fresh mark =
      let ps = pieces_in (drop (a + 1) s) in
      ap (separator_end m e a) next.pieces ∙ rw (blank, fresh, mark) (one_more (separator_from true (characters_of ps)) e a b ps)

  pub separator_stop : (b : ℕ) → IsChar s a b → is_blank b ≡ false → is_separator b ≡ false → separator_end m e a (pieces_in (drop a s)) ≡ e
  separator_stop b next blank other = ap (separator_end m e a) next.pieces ∙ other_ends m e a b (pieces_in (drop (a + 1) s)) blank other

  pub separator_full : (b : ℕ) → IsChar s a b → is_blank b ≡ false → m ≡ true → separator_end m e a (pieces_in (drop a s)) ≡ e
  separator_full b next blank full = ap (separator_end m e a) next.pieces ∙ rw (blank, full) refl

  pub separator_pair : (c : ℕ) → IsPair s a c → separator_end m e a (pieces_in (drop a s)) ≡ e
  separator_pair c next = ap (separator_end m e a) next.pieces ∙ other_ends m e a 92 (char c ∷ pieces_in (drop (a + 2) s)) refl refl

  pub separator_joint : (n : ℕ) → IsJoint s a n → separator_end m e a (pieces_in (drop a s)) ≡ separator_end m e (a + n) (pieces_in (drop (a + n) s))
  separator_joint n next =
      let ps = pieces_in (drop (a + n) s) in
      ap (separator_end m e a) next.pieces ∙ (past_joint (separator_from m (characters_of ps)) e a next.bytes ps ∙ ap (λ k. ends_at (separator_from m (characters_of ps)) e (a + k + length (bytes_of (separator_front m ps)))) next.length_is)

  pub separator_over : pieces_in (drop a s) ≡ [] → separator_end m e a (pieces_in (drop a s)) ≡ e
  separator_over none = ap (separator_end m e a) none

pub separator_from_start : (s : List ℕ) → separator_size s ≡ separator_end false 0 0 (pieces_in (drop 0 s))
separator_from_start s = at_start (separator_from false (characters_of (pieces_in s))) (pieces_in s)

pub ruleset over_separator = (separator_blank, separator_mark, separator_stop, separator_full, separator_pair, separator_joint, separator_over, separator_from_start, next_none)

-- ---- the end of a logical line, and its characters

module _ (s : List ℕ) (a : ℕ) where
  pub line_char : (b : ℕ) → IsChar s a b → line_size (drop a s) ≡ 1 + line_size (drop (a + 1) s)
  line_char b next = ap (λ ps. length (bytes_of ps)) next.pieces ∙ omega arith

  pub line_pair : (c : ℕ) → IsPair s a c → line_size (drop a s) ≡ 2 + line_size (drop (a + 2) s)
  line_pair c next = ap (λ ps. length (bytes_of ps)) next.pieces ∙ omega arith

  pub line_joint : (n : ℕ) → IsJoint s a n → line_size (drop a s) ≡ n + line_size (drop (a + n) s)
  line_joint n next =
      ap (λ ps. length (bytes_of ps)) next.pieces
      ∙ (length-append next.bytes (bytes_of (pieces_in (drop (a + n) s))) ∙ ap (λ k. k + line_size (drop (a + n) s)) next.length_is)

  pub line_over : pieces_in (drop a s) ≡ [] → line_size (drop a s) ≡ 0
  line_over none = ap (λ ps. length (bytes_of ps)) none

  module _ (out : List ℕ) where
    pub characters_char : (b : ℕ) → IsChar s a b → out ++ characters_of (pieces_in (drop a s)) ≡ (out ++ b ∷ []) ++ characters_of (pieces_in (drop (a + 1) s))
    characters_char b next = ap (λ ps. out ++ characters_of ps) next.pieces ∙ sym (append_assoc out (b ∷ []) (characters_of (pieces_in (drop (a + 1) s))))

    pub characters_pair : (c : ℕ) → IsPair s a c → out ++ characters_of (pieces_in (drop a s)) ≡ ((out ++ 92 ∷ []) ++ c ∷ []) ++ characters_of (pieces_in (drop (a + 2) s))
    characters_pair c next =
        ap (λ ps. out ++ characters_of ps) next.pieces
        ∙ (sym (append_assoc out (92 ∷ []) (c ∷ characters_of (pieces_in (drop (a + 2) s)))) ∙ sym (append_assoc (out ++ 92 ∷ []) (c ∷ []) (characters_of (pieces_in (drop (a + 2) s)))))

    pub characters_joint : (n : ℕ) → IsJoint s a n → out ++ characters_of (pieces_in (drop a s)) ≡ out ++ characters_of (pieces_in (drop (a + n) s))
    characters_joint n next = ap (λ ps. out ++ characters_of ps) next.pieces

    pub characters_over : pieces_in (drop a s) ≡ [] → out ++ characters_of (pieces_in (drop a s)) ≡ out
    characters_over none = ap (λ ps. out ++ characters_of ps) none ∙ append-nil out

  -- a character and a run of them behind it
  pub line_run : (b n : ℕ) (t : List ℕ) → IsChar s a b → t ≡ drop (a + 1) s → line_size t ≡ n + line_size (drop n t) → line_size (drop a s) ≡ 1 + n + line_size (drop (a + (1 + n)) s)
  line_run b n t next is run =
      let sum : a + 1 + n ≡ a + (1 + n) = omega arith in
      let rest : drop n t ≡ drop (a + (1 + n)) s = ap (drop n) is ∙ (drop-drop n (a + 1) s ∙ ap (λ k. drop k s) sum) in
      line_char b next ∙ (ap (λ u. 1 + line_size u) (sym is) ∙ (ap (λ k. 1 + k) (run ∙ ap (λ u. n + line_size u) rest) ∙ omega arith))

-- ---- runs of characters that stand for themselves

plain_parts : (b : ℕ) → is_plain b ≡ true → (is_line_end b ≡ false) × ((b == 92) ≡ false)
plain_parts b plain = or_parts (is_line_end b) (b == 92) (not-true _ plain)

module _ (s : List ℕ) (i : ℕ) (inside : i < length s) where
  pub plain_char : is_plain (get_or s i 0) ≡ true → line_size (drop i s) ≡ 1 + line_size (drop (i + 1) s)
  plain_char plain = let parts = plain_parts (get_or s i 0) plain in line_char s i (get_or s i 0) (next_char s i inside parts.0 parts.1)

  pub plain_in_key : is_plain_in_key (get_or s i 0) ≡ true → key_end i i (pieces_in (drop i s)) ≡ key_end (i + 1) (i + 1) (pieces_in (drop (i + 1) s))
  plain_in_key plain =
      let all = or_parts (is_line_end (get_or s i 0) || (get_or s i 0 == 92)) (ends_key (get_or s i 0)) (not-true _ plain) in
      let parts = or_parts (is_line_end (get_or s i 0)) (get_or s i 0 == 92) all.0 in
      key_char s i i (get_or s i 0) (next_char s i inside parts.0 parts.1) all.1

  pub plain_no_slash : is_plain_in_key (get_or s i 0) ≡ true → has_backslash (take i s) ≡ false → has_backslash (take (i + 1) s) ≡ false
  plain_no_slash plain none =
      let all = or_parts (is_line_end (get_or s i 0) || (get_or s i 0 == 92)) (ends_key (get_or s i 0)) (not-true _ plain) in
      rw add-one (plain_more i s inside none (or_parts (is_line_end (get_or s i 0)) (get_or s i 0 == 92) all.0).1)

pub ruleset over_runs = (plain_char, plain_in_key, plain_no_slash, key_from_start)

pub ruleset over_line = (line_char, line_pair, line_joint, line_over, next_none)

pub ruleset over_characters = (characters_char, characters_pair, characters_joint, characters_over, next_none)
