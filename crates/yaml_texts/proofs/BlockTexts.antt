-- What the further lines of a block scalar say, a line further.
use Rattle.std.proofs.Common.{◌≡◌, ℕ, ◌+◌, ◌-◌, ◌<◌, ◌≤◌, min, true, false, List, [], ◌∷◌, ◌++◌, length, take, drop, refl, sym, ◌∙◌, ap, arith, append_assoc}
use Rattle.std.specs.Prelude.{◌&&◌}
use Rattle.std.proofs.lemmas.Bool.{and_left, and_right, not-false}
use Rattle.std.proofs.lemmas.List.{drop_all, length-drop}
use Rattle.rw_base.specs.NaturalLines.{Line, lines_of}
use Rattle.yaml_lex.specs.Characters.{is_line_end, begins}
use Rattle.yaml_lex.specs.Scalars.{in_line}
use Rattle.yaml_lex.specs.BlockScalars.{is_blank_line, indentation}
use Rattle.yaml_texts.specs.Texts.{further_lines, first_indentation, contents_of, blank_lines}
use Rattle.yaml_texts.specs.Steps.{IsNextLine}

none_further : further_lines [] ≡ []
unfolding lines_of
none_further = refl

pub no_lines : (s : List ℕ) (at : ℕ) → length s ≤ at → further_lines (drop at s) ≡ []
no_lines s at past = ap further_lines (drop_all at s past) ∙ none_further

line_end : (s : List ℕ) → begins in_line s ≡ false → 0 < length s → begins is_line_end s ≡ true
line_end [] e some = absurd (omega arith)
line_end (b ∷ rest) e some = not-false (is_line_end b) e

no_end : (s : List ℕ) → length s ≡ 0 → begins is_line_end s ≡ false
no_end [] none = refl
no_end (b ∷ rest) none = absurd (omega arith)

counts : (line : Line) (lines : List Line) → is_blank_line line.text ≡ true → begins is_line_end line.ending ≡ true → blank_lines (line ∷ lines) ≡ blank_lines lines + 1
counts line lines e f = rw (e, f) refl

ends_count : (line : Line) (lines : List Line) → (is_blank_line line.text && begins is_line_end line.ending) ≡ false → blank_lines (line ∷ lines) ≡ 0
ends_count line lines e = rw e refl

module _ (s : List ℕ) (at from to : ℕ) (next : IsNextLine s at from to) (text : List ℕ) (is : text ≡ take (to - from) (drop from s)) where
  same_text : next.line.text ≡ text
  same_text = next.text ∙ sym is

  -- ---- the first indentation

  pub past_blank : is_blank_line text ≡ true → first_indentation (further_lines (drop at s)) ≡ first_indentation (further_lines (drop to s))
  past_blank blank =
      let e : is_blank_line next.line.text ≡ true = ap is_blank_line same_text ∙ blank in
      ap first_indentation next.lines ∙ rw e refl

  pub at_text : is_blank_line text ≡ false → first_indentation (further_lines (drop at s)) ≡ indentation text
  at_text other =
      let e : is_blank_line next.line.text ≡ false = ap is_blank_line same_text ∙ other in
      ap first_indentation next.lines ∙ (rw e refl ∙ ap indentation same_text)

  -- ---- contents

  pub one_more : (lost : ℕ) (out now : List ℕ) → now ≡ out ++ (drop (min lost (indentation text)) text ++ 10 ∷ [])
      → out ++ contents_of lost (further_lines (drop at s)) ≡ now ++ contents_of lost (further_lines (drop to s))
  one_more lost out now grown =
      ap (λ (ls : List Line). out ++ contents_of lost ls) next.lines
      ∙ (ap (λ (t : List ℕ). out ++ ((drop (min lost (indentation t)) t ++ 10 ∷ []) ++ contents_of lost (further_lines (drop to s)))) same_text
      ∙ (sym (append_assoc out (drop (min lost (indentation text)) text ++ 10 ∷ []) (contents_of lost (further_lines (drop to s))))
      ∙ ap (λ (o : List ℕ). o ++ contents_of lost (further_lines (drop to s))) (sym grown)))

  -- ---- blank lines

  pub counted : is_blank_line text ≡ true → to < length s → blank_lines (further_lines (drop at s)) ≡ blank_lines (further_lines (drop to s)) + 1
  counted blank more =
      ap blank_lines next.lines
      ∙ counts next.line (further_lines (drop to s)) (ap is_blank_line same_text ∙ blank) (next.ending ∙ line_end (drop to s) next.ends (omega (arith, length-drop to s)))

  pub at_other : is_blank_line text ≡ false → blank_lines (further_lines (drop at s)) ≡ 0
  at_other other =
      ap blank_lines next.lines
      ∙ ends_count next.line (further_lines (drop to s)) (and_left (is_blank_line next.line.text) (begins is_line_end next.line.ending) (ap is_blank_line same_text ∙ other))

  pub at_last : to ≡ length s → blank_lines (further_lines (drop at s)) ≡ 0
  at_last last =
      ap blank_lines next.lines
      ∙ ends_count next.line (further_lines (drop to s)) (and_right (is_blank_line next.line.text) (begins is_line_end next.line.ending) (next.ending ∙ no_end (drop to s) (omega (arith, length-drop to s))))
