-- The natural lines behind the first one, a line further.
use Rattle.std.proofs.Common.{◌≡◌, ℕ, zero, suc, ◌+◌, ◌-◌, ◌<◌, ◌≤◌, true, false, List, [], ◌∷◌, length, take, drop, get_or}
use Rattle.std.proofs.Common.{inl, inr, refl, sym, ◌∙◌, ap, subst, arith}
use Rattle.std.specs.Prelude.{◌==◌}
use Rattle.std.proofs.lemmas.Bool.{cases_Bool, or_cases, or_parts, not-false, not-true}
use Rattle.std.proofs.lemmas.List.{drop-drop, length-drop}
use Rattle.rw_base.specs.NaturalLines.{Line, lines_of, with_text, begins_with_lf}
use Rattle.yaml_lex.specs.Characters.{is_line_end, begins}
use Rattle.yaml_lex.specs.Scalars.{IsRun, in_line}
use Rattle.yaml_lex.specs.BlockScalars.{ending_size}
use Rattle.yaml_texts.specs.Texts.{further_lines}
use Rattle.yaml_texts.specs.Steps.{IsNextLine}

-- the lines of a text whose first one is `text` with some line end, where the rest s stands behind that text
pub record IsFirst (lines : List Line) (text s : List ℕ) : Type 0 where
  pub line : Line
  pub text_is : line.text ≡ text
  pub ending : begins is_line_end line.ending ≡ begins is_line_end s
  pub lines_are : lines ≡ line ∷ further_lines s

by_lf : (b : ℕ) (rest : List ℕ) → (b == 10) ≡ true → lines_of (b ∷ rest) ≡ record { text = []; ending = b ∷ [] } ∷ lines_of rest
unfolding lines_of
by_lf b rest e = rw e refl

by_cr_lf : (b c : ℕ) (rest : List ℕ) → (b == 10) ≡ false → (b == 13) ≡ true → (c == 10) ≡ true
    → lines_of (b ∷ c ∷ rest) ≡ record { text = []; ending = b ∷ c ∷ [] } ∷ lines_of rest
unfolding lines_of
by_cr_lf b c rest other cr lf = rw (other, cr, lf) refl

by_cr : (b : ℕ) (rest : List ℕ) → (b == 10) ≡ false → (b == 13) ≡ true → begins_with_lf rest ≡ false
    → lines_of (b ∷ rest) ≡ record { text = []; ending = b ∷ [] } ∷ lines_of rest
unfolding lines_of
by_cr b rest other cr apart = rw (other, cr, apart) refl

by_text : (b : ℕ) (rest : List ℕ) → is_line_end b ≡ false → lines_of (b ∷ rest) ≡ with_text b (lines_of rest)
unfolding lines_of
by_text b rest e = let parts = or_parts (b == 10) (b == 13) e in let lf = parts.0 in let cr = parts.1 in rw (lf, cr) refl

-- where a line ends: its line end, and what stands behind it
pub record IsEnd (s : List ℕ) : Type 0 where
  pub ending : List ℕ
  pub ended : begins is_line_end ending ≡ true
  pub lines_are : lines_of s ≡ record { text = []; ending = ending } ∷ lines_of (drop (ending_size s) s)

size_lf : (b : ℕ) (rest : List ℕ) → (b == 10) ≡ true → ending_size (b ∷ rest) ≡ 1
size_lf b rest lf = rw lf refl

size_cr_lf : (b c : ℕ) (rest : List ℕ) → (b == 10) ≡ false → (b == 13) ≡ true → (c == 10) ≡ true → ending_size (b ∷ c ∷ rest) ≡ 2
size_cr_lf b c rest other cr lf = rw (other, cr, lf) refl

size_cr : (b : ℕ) (rest : List ℕ) → (b == 10) ≡ false → (b == 13) ≡ true → begins (λ c. c == 10) rest ≡ false → ending_size (b ∷ rest) ≡ 1
size_cr b rest other cr apart = rw (other, cr, apart) refl

at_cr : (b : ℕ) (rest : List ℕ) → (b == 10) ≡ false → (b == 13) ≡ true → is_line_end b ≡ true → IsEnd (b ∷ rest)
at_cr b [] other cr e = record {
  ending = b ∷ [];
  ended = e;
  lines_are = by_cr b [] other cr refl ∙ ap (λ n. record { text = []; ending = b ∷ [] } ∷ lines_of (drop n (b ∷ []))) (sym (size_cr b [] other cr refl));
}
at_cr b (c ∷ rest) other cr e = elim (cases_Bool (c == 10)) [
  | inl lf ↦ record {
    ending = b ∷ c ∷ [];
    ended = e;
    lines_are = by_cr_lf b c rest other cr lf ∙ ap (λ n. record { text = []; ending = b ∷ c ∷ [] } ∷ lines_of (drop n (b ∷ c ∷ rest))) (sym (size_cr_lf b c rest other cr lf));
  }
  | inr apart ↦ record {
    ending = b ∷ [];
    ended = e;
    lines_are = by_cr b (c ∷ rest) other cr apart ∙ ap (λ n. record { text = []; ending = b ∷ [] } ∷ lines_of (drop n (b ∷ c ∷ rest))) (sym (size_cr b (c ∷ rest) other cr apart));
  }
]

at_ending : (b : ℕ) (rest : List ℕ) → is_line_end b ≡ true → IsEnd (b ∷ rest)
at_ending b rest e = elim (cases_Bool (b == 10)) [
  | inl lf ↦ record {
    ending = b ∷ [];
    ended = e;
    lines_are = by_lf b rest lf ∙ ap (λ n. record { text = []; ending = b ∷ [] } ∷ lines_of (drop n (b ∷ rest))) (sym (size_lf b rest lf));
  }
  | inr other ↦ elim (or_cases (b == 10) (b == 13) e) [ inl lf ↦ absurd (let f : true ≡ false = sym lf ∙ other in cc) | inr cr ↦ at_cr b rest other cr e ]
]

pub is_end : (s : List ℕ) → 0 < length s → begins in_line s ≡ false → IsEnd s
is_end [] some e = absurd (omega arith)
is_end (b ∷ rest) some e = at_ending b rest (not-false (is_line_end b) e)

-- a size of a line end is one or two
pub ending_some : (s : List ℕ) → 0 < length s → begins in_line s ≡ false → 0 < ending_size s
ending_some [] some e = absurd (omega arith)
ending_some (b ∷ rest) some e = elim (cases_Bool (b == 10)) [
  | inl lf ↦ rw lf (omega arith)
  | inr other ↦ elim (or_cases (b == 10) (b == 13) (not-false (is_line_end b) e)) [
    | inl lf ↦ absurd (let f : true ≡ false = sym lf ∙ other in cc)
    | inr cr ↦ elim (cases_Bool (begins (λ c. c == 10) rest)) [ inl lf ↦ rw (other, cr, lf) (omega arith) | inr none ↦ rw (other, cr, none) (omega arith) ]
  ]
]

pub behind_end : (s : List ℕ) → 0 < length s → begins in_line s ≡ false → further_lines s ≡ lines_of (drop (ending_size s) s)
behind_end s some e = ap (drop 1) (is_end s some e).lines_are

none_left : lines_of [] ≡ record { text = []; ending = [] } ∷ []
unfolding lines_of
none_left = refl

first_at_end : (s : List ℕ) → begins in_line s ≡ false → IsFirst (lines_of s) [] s
first_at_end [] e = record { line = record { text = []; ending = [] }; text_is = refl; ending = refl; lines_are = none_left ∙ ap (λ (ls : List Line). record { text = []; ending = [] } ∷ ls) (sym (ap (drop 1) none_left)) }
first_at_end (b ∷ rest) e =
    let h = is_end (b ∷ rest) (omega arith) e in
    record {
      line = record { text = []; ending = h.ending };
      text_is = refl;
      ending = h.ended ∙ sym (not-false (is_line_end b) e);
      lines_are = h.lines_are ∙ ap (λ (ls : List Line). record { text = []; ending = h.ending } ∷ ls) (sym (behind_end (b ∷ rest) (omega arith) e));
    }

with_one : (b : ℕ) (lines : List Line) (text s : List ℕ) → IsFirst lines text s → IsFirst (with_text b lines) (b ∷ text) s
with_one b lines text s h = record {
  line = record { text = b ∷ h.line.text; ending = h.line.ending };
  text_is = ap (λ (t : List ℕ). b ∷ t) h.text_is;
  ending = h.ending;
  lines_are = ap (with_text b) h.lines_are;
}

first_behind : (n : ℕ) (s : List ℕ) → n ≤ length s → ((k : ℕ) → k < n → in_line (get_or s k 0) ≡ true) → begins in_line (drop n s) ≡ false
    → IsFirst (lines_of s) (take n s) (drop n s)
first_behind zero s inside all e = first_at_end s e
first_behind (suc n) [] inside all e = absurd (omega arith)
first_behind (suc n) (b ∷ rest) inside all e =
    subst (λ (ls : List Line). IsFirst ls (b ∷ take n rest) (drop n rest)) (sym (by_text b rest (not-true (is_line_end b) (all 0 (omega arith)))))
    (with_one b (lines_of rest) (take n rest) (drop n rest) (first_behind n rest (omega arith) (λ k low. all (suc k) (omega arith)) e))

pub first_run : (s : List ℕ) (n : ℕ) → IsRun in_line s n → IsFirst (lines_of s) (take n s) (drop n s)
first_run s n h = first_behind n s h.inside h.all h.ends

-- the lines behind the head, from its line's end on
pub further_run : (s : List ℕ) (n : ℕ) → IsRun in_line s n → further_lines (drop n s) ≡ further_lines s
further_run s n h = sym (ap (drop 1) (first_run s n h).lines_are)

pub next-line : (s T U : List ℕ) (at e n : ℕ) → at < length s → begins in_line (drop at s) ≡ false → T ≡ drop at s → e ≡ ending_size T → U ≡ drop (at + e) s
    → at + e ≤ length s → IsRun in_line U n → IsNextLine s at (at + e) (at + e + n)
next-line s T U at e n low ends same size rest inside run =
    let size_is : e ≡ ending_size (drop at s) = size ∙ ap ending_size same in
    let some : 0 < length (drop at s) = omega (arith, length-drop at s) in
    let long : 0 < ending_size (drop at s) = ending_some (drop at s) some ends in
    let run_is : IsRun in_line (drop (at + e) s) n = subst (λ (t : List ℕ). IsRun in_line t n) rest run in
    let first = first_run (drop (at + e) s) n run_is in
    let moved : drop n (drop (at + e) s) ≡ drop (at + e + n) s = drop-drop n (at + e) s in
    let count : n ≡ at + e + n - (at + e) = omega arith in
    record {
      further = omega (arith, long, size_is);
      order = omega arith;
      inside = omega (arith, run_is.inside, length-drop (at + e) s);
      ends = subst (λ t. begins in_line t ≡ false) moved run_is.ends;
      line = first.line;
      text = first.text_is ∙ ap (λ k. take k (drop (at + e) s)) count;
      ending = first.ending ∙ ap (begins is_line_end) moved;
      lines = behind_end (drop at s) some ends ∙ (ap lines_of (drop-drop (ending_size (drop at s)) at s ∙ ap (λ k. drop (at + k) s) (sym size_is))
          ∙ (first.lines_are ∙ ap (λ t. first.line ∷ further_lines t) moved));
    }
