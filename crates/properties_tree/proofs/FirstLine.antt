-- The first natural line of a text, and the lines behind it.
use Rattle.std.proofs.Common.{◌≡◌, ℕ, ◌+◌, ◌<◌, true, false, List, [], ◌∷◌, length, take, drop, refl, sym, ap, arith, inl, inr}
use Rattle.std.specs.Prelude.{◌==◌, if◌then◌else◌}
use Rattle.std.proofs.lemmas.Bool.{cases_Bool, eqb-true}
use Rattle.std.proofs.lemmas.List.{append-nil}
use Rattle.properties_tree.specs.Characters.{is_line_end}
use Rattle.rw_base.specs.NaturalLines.{Line, begins_with_lf, lines_of}
use Rattle.properties_tree.specs.Entries.{entries_of, group_lines, logical_lines}
use Rattle.properties_tree.specs.Sizes.{text_length, ending_length, entries_from}

-- the line end that a text begins with, and the lines behind it
abbrev pub ending_text : List ℕ → List ℕ
ending_text t = take (ending_length t) t

abbrev pub lines_behind : List ℕ → List Line
lines_behind t = if ending_length t == 0 then [] else lines_of (drop (ending_length t) t)

abbrev pub line_text : List ℕ → List ℕ
line_text s = take (text_length s) s

abbrev pub behind_text : List ℕ → List ℕ
behind_text s = drop (text_length s) s

abbrev pub line_of : List ℕ → Line
line_of s = record { text = line_text s; ending = ending_text (behind_text s) }

at_lf : (b : ℕ) (rest : List ℕ) → (b == 10) ≡ true → lines_of (b ∷ rest) ≡ line_of (b ∷ rest) ∷ lines_behind (behind_text (b ∷ rest))
unfolding lines_of
at_lf b rest lf = rw lf (rw lf refl)

at_crlf : (b c : ℕ) (rest : List ℕ) → (b == 10) ≡ false → (b == 13) ≡ true → (c == 10) ≡ true
    → lines_of (b ∷ c ∷ rest) ≡ line_of (b ∷ c ∷ rest) ∷ lines_behind (behind_text (b ∷ c ∷ rest))
unfolding lines_of
at_crlf b c rest not_lf cr lf = rw (not_lf, cr) (rw (not_lf, cr) (rw lf refl))

at_cr : (b : ℕ) (rest : List ℕ) → (b == 10) ≡ false → (b == 13) ≡ true → begins_with_lf rest ≡ false
    → lines_of (b ∷ rest) ≡ line_of (b ∷ rest) ∷ lines_behind (behind_text (b ∷ rest))
unfolding lines_of
at_cr b rest not_lf cr alone = rw (not_lf, cr) (rw (not_lf, cr) (rw alone refl))

at_other : (b : ℕ) (rest : List ℕ) → (b == 10) ≡ false → (b == 13) ≡ false → lines_of rest ≡ line_of rest ∷ lines_behind (behind_text rest)
    → lines_of (b ∷ rest) ≡ line_of (b ∷ rest) ∷ lines_behind (behind_text (b ∷ rest))
unfolding lines_of
at_other b rest not_lf not_cr more = rw (not_lf, not_cr, more) refl

at_13 : (b : ℕ) (rest : List ℕ) → (b == 10) ≡ false → (b == 13) ≡ true → lines_of (b ∷ rest) ≡ line_of (b ∷ rest) ∷ lines_behind (behind_text (b ∷ rest))
at_13 b [] not_lf cr = at_cr b [] not_lf cr refl
at_13 b (c ∷ rest) not_lf cr = elim (cases_Bool (c == 10)) [ inl lf ↦ at_crlf b c rest not_lf cr lf | inr alone ↦ at_cr b (c ∷ rest) not_lf cr alone ]

-- the lines of a text are its first line and those behind it
pub first_line : (s : List ℕ) → lines_of s ≡ line_of s ∷ lines_behind (behind_text s)
unfolding lines_of
first_line [] = refl
first_line (b ∷ rest) =
    elim (cases_Bool (b == 10)) [
      | inl lf ↦ at_lf b rest lf
      | inr not_lf ↦ elim (cases_Bool (b == 13)) [ inl cr ↦ at_13 b rest not_lf cr | inr not_cr ↦ at_other b rest not_lf not_cr (first_line rest) ]
    ]

-- where no line end stands behind a line, nothing does
pub some_ending : (b : ℕ) (rest : List ℕ) → is_line_end b ≡ true → ending_length (b ∷ rest) ≡ 0 → ⊥
some_ending b rest e none =
    elim (cases_Bool (b == 10)) [
      | inl lf ↦ absurd (let h = rw lf at none in omega (arith, h))
      | inr not_lf ↦ let cr : (b == 13) ≡ true = rw not_lf at e in
          elim (cases_Bool (begins_with_lf rest)) [ inl two ↦ absurd (let h = rw (not_lf, cr, two) at none in omega (arith, h)) | inr one ↦ absurd (let h = rw (not_lf, cr, one) at none in omega (arith, h)) ]
    ]

pub at_end : (s : List ℕ) → ending_length (behind_text s) ≡ 0 → behind_text s ≡ []
at_end [] none = refl
at_end (b ∷ rest) none =
    elim (cases_Bool (is_line_end b)) [
      | inl e ↦ absurd (some_ending b rest e (rw e at none))
      | inr e ↦ rw e (at_end rest (rw e at none))
    ]

pub some_line : (s : List ℕ) → 0 < length s → 0 < text_length s + ending_length (behind_text s)
some_line [] h = absurd (omega arith)
some_line (b ∷ rest) h =
    elim (cases_Bool (is_line_end b)) [
      | inl e ↦ rw e (let some : ending_length (b ∷ rest) ≡ 0 → ⊥ = some_ending b rest e in omega arith)
      | inr e ↦ rw e (omega arith)
    ]

-- the entries of the lines behind a line are those of the text behind it
pub entries_behind : (before t : List ℕ) → (ending_length t ≡ 0 → t ≡ []) → entries_of before (logical_lines (lines_behind t)) ≡ entries_from before (drop (ending_length t) t)
unfolding entries_from entries_of group_lines lines_of
entries_behind before t at_end =
    elim (cases_Bool (ending_length t == 0)) [
      | inl e ↦ let zero = eqb-true (ending_length t) 0 e in rw e (rw (zero, at_end zero) (ap (λ (r : List ℕ). record { entries = []; rest = r }) (sym (append-nil before))))
      | inr e ↦ rw e refl
    ]
