-- Blank lines.
use Rattle.std.proofs.Common.{◌≡◌, ℕ, ◌+◌, ◌<◌, ◌≤◌, inl, inr, true, false, List, length, drop, refl, sym, ◌∙◌, ap, subst, arith}
use Rattle.std.proofs.lemmas.List.{drop_all, drop-drop, length-drop}
use Rattle.yaml_lex.specs.Characters.{is_blank}
use Rattle.yaml_lex.specs.Scalars.{IsRun}
use Rattle.yaml_lex.specs.BlockScalars.{ending_size, is_blank_line, BlankLines, at_end, no_more, more}
use Rattle.yaml_lex.specs.Scanning.{IsBlankLine, AtLineEnd}

-- whatever blank lines stand from byte `at` on, the text has them with what is in front
pub record IsSoFar (s : List ℕ) (at : ℕ) : Type 0 where
  pub inside : at ≤ length s
  pub line : AtLineEnd (drop at s)
  pub on : (m : ℕ) → BlankLines (drop at s) m → BlankLines s (at + m)

pub start : (s : List ℕ) → AtLineEnd s → IsSoFar s 0
start s h = record {
  inside = omega arith;
  line = h;
  on = λ m b. subst (λ n. BlankLines s n) (let e : m ≡ 0 + m = omega arith in e) b;
}

some-end : (s : List ℕ) (at : ℕ) → AtLineEnd (drop at s) → at < length s → 0 < ending_size (drop at s)
some-end s at h low = elim h [
  | inl e ↦ absurd (let f : length (drop at s) ≡ 0 = ap length e in omega (arith, length-drop at s))
  | inr some ↦ some
]

-- one more blank line: e is the size of the line end here, and n that of the blanks behind it
pub one-more : (s : List ℕ) (at e n : ℕ) → IsSoFar s at → at < length s → e ≡ ending_size (drop at s) → at + e ≤ length s → IsBlankLine (drop (at + e) s) n → IsSoFar s (at + e + n)
one-more s at e n h low is inside b =
    let some : 0 < ending_size (drop at s) = some-end s at h.line low in
    let here : drop (ending_size (drop at s)) (drop at s) ≡ drop (at + e) s = drop-drop (ending_size (drop at s)) at s ∙ ap (λ (k : ℕ). drop (at + k) s) (sym is) in
    let next : drop (ending_size (drop at s) + n) (drop at s) ≡ drop (at + e + n) s =
    drop-drop (ending_size (drop at s) + n) at s ∙ ap (λ (k : ℕ). drop k s) (let f : at + (ending_size (drop at s) + n) ≡ at + e + n = omega (arith, is) in f) in
    record {
      inside = omega (arith, inside, b.run.inside, length-drop (at + e) s);
      line = subst (λ t. AtLineEnd t) (drop-drop n (at + e) s) b.ends;
      on = λ m lines. subst (λ k. BlankLines s k) (let f : at + (ending_size (drop at s) + n + m) ≡ at + e + n + m = omega (arith, is) in f)
          (h.on (ending_size (drop at s) + n + m)
          (more n some (subst (λ t. is_blank_line t ≡ true) (sym here) b.blank) (subst (λ t. IsRun is_blank t n) (sym here) b.run)
          (subst (λ t. BlankLines t m) (sym next) lines) refl));
    }

pub stops : (s : List ℕ) (at e : ℕ) → IsSoFar s at → at < length s → e ≡ ending_size (drop at s) → is_blank_line (drop (at + e) s) ≡ false → BlankLines s (at + e)
stops s at e h low is other =
    let here : drop (ending_size (drop at s)) (drop at s) ≡ drop (at + e) s = drop-drop (ending_size (drop at s)) at s ∙ ap (λ (k : ℕ). drop (at + k) s) (sym is) in
    h.on e (no_more (some-end s at h.line low) (subst (λ t. is_blank_line t ≡ false) (sym here) other) is)

pub ends : (s : List ℕ) (at : ℕ) → IsSoFar s at → length s ≤ at → BlankLines s at
ends s at h past = subst (λ n. BlankLines s n) (let f : at + 0 ≡ at = omega arith in f) (h.on 0 (at_end (drop_all at s past) refl))
