-- What is passed over.
use Rattle.std.proofs.Common.{◌≡◌, ℕ, suc, zero, ◌+◌, ◌<◌, ◌≤◌, Bool, true, false, cond, not, ◌&&◌, ◌||◌, eqb, List, [], ◌∷◌, length, get_or, refl, sym, ◌∙◌, ap, subst, arith}
use Rattle.std.proofs.lemmas.Bool.Decides.{nat_tests}
use Rattle.yaml_lex.specs.declared.context.Context.{Context}
use Rattle.yaml_lex.specs.Characters.{is_blank, is_line_end, is_white, begins, is_line_over}
use Rattle.yaml_lex.specs.Contexts.{past_byte}
use Rattle.yaml_lex.specs.Scalars.{IsRun, in_line}
use Rattle.yaml_lex.specs.BlockScalars.{indentation}
use Rattle.yaml_lex.specs.Leaves.{white, comment, forbids_tab, is_bad_tab, begins_comment}
use Rattle.yaml_lex.specs.Scanning.{Passes, none, more}
use Rattle.yaml_lex.proofs.RunLemmas.{not-both}

-- ---- one blank

blank-no_end : (b : ℕ) → is_blank b ≡ true → is_line_end b ≡ false
blank-no_end b h = grind (arith, nat_tests)

blank-no_hash : (b : ℕ) → is_blank b ≡ true → eqb b 35 ≡ false
blank-no_hash b h = grind (arith, nat_tests)

blank-white : (b : ℕ) → is_blank b ≡ true → is_white b ≡ true
blank-white b h = grind (arith, nat_tests)

end-white : (b : ℕ) → is_line_end b ≡ true → is_white b ≡ true
end-white b h = grind (arith, nat_tests)

end-no_tab : (b : ℕ) → is_line_end b ≡ true → eqb b 9 ≡ false
end-no_tab b h = grind (arith, nat_tests)

space-blank : (b : ℕ) → eqb b 32 ≡ true → is_blank b ≡ true
space-blank b h = grind (arith, nat_tests)

space-no_tab : (b : ℕ) → eqb b 32 ≡ true → eqb b 9 ≡ false
space-no_tab b h = grind (arith, nat_tests)

first-of : (v : Bool) (x y : Context) → v ≡ false → (cond v x y).first ≡ y.first
first-of false x y e = refl
first-of true x y e = absurd (cc)

step-first : (p : Context) (b : ℕ) → is_line_end b ≡ false → (past_byte p b).first ≡ p.first
unfolding past_byte
step-first p b e = first-of (is_line_end b) _ _ e

pick : (x y z w : Bool) → x ≡ false → y ≡ false → z ≡ true → (x || y || (z && w)) ≡ w
pick false false true w e f g = refl
pick true y z w e f g = absurd (cc)
pick false true z w e f g = absurd (cc)
pick false false false w e f g = absurd (cc)

over-blank : (b : ℕ) (s : List ℕ) → is_blank b ≡ true → is_line_over (b ∷ s) ≡ is_line_over s
over-blank b s h = pick (is_line_end b) (eqb b 35) (is_blank b) (is_line_over s) (blank-no_end b h) (blank-no_hash b h) h

-- ---- tabs that don't matter

no-tab : (w t : Bool) → w ≡ false → (w && t) ≡ false
no-tab false t e = refl
no-tab true t e = absurd (cc)

allowed : (w t : Bool) → t ≡ false → (w && t) ≡ false
allowed false t e = refl
allowed true t e = e

allowed-next : (p : Context) (b : ℕ) (s : List ℕ) → is_blank b ≡ true → forbids_tab p (b ∷ s) ≡ false → forbids_tab (past_byte p b) s ≡ false
allowed-next p b s h calm =
    ap (λ v. v && not (is_line_over s)) (step-first p b (blank-no_end b h)) ∙ ap (λ v. p.first && not v) (sym (over-blank b s h)) ∙ calm

low-suc : (k n : ℕ) → suc k ≤ suc n → k ≤ n
low-suc k n h = omega arith

less-suc : (k n : ℕ) → k < n → suc k < suc n
less-suc k n h = omega arith

one-more : (n : ℕ) → suc n ≡ 1 + n
one-more n = omega arith

zero-less : (n : ℕ) → 0 < suc n
zero-less n = omega arith

pub blanks-pass : (n : ℕ) (p : Context) (s : List ℕ) → n ≤ length s → ((k : ℕ) → k < n → is_blank (get_or s k 0) ≡ true) → forbids_tab p s ≡ false → Passes p s n
blanks-pass zero p s inside all calm = none refl
blanks-pass (suc n) p [] inside all calm = absurd (omega arith)
blanks-pass (suc n) p (b ∷ s) inside all calm =
    let e : is_blank b ≡ true = all 0 (zero-less n) in
    more 1 n (white (blank-white b e) (allowed (eqb b 9) (forbids_tab p (b ∷ s)) calm) refl)
    (blanks-pass n (past_byte p b) s (low-suc n (length s) inside) (λ k low. all (suc k) (less-suc k n low)) (allowed-next p b s e calm)) (one-more n)

-- ---- spaces

spaces-rest : (n b : ℕ) (s : List ℕ) → eqb b 32 ≡ true → suc n ≤ indentation (b ∷ s) → n ≤ indentation s
spaces-rest n b s e h = let f : suc n ≤ indentation s + 1 = subst (λ v. suc n ≤ cond v (indentation s + 1) 0) e h in omega arith

spaces-none : (n b : ℕ) (s : List ℕ) → eqb b 32 ≡ false → suc n ≤ indentation (b ∷ s) → ⊥
spaces-none n b s e h = let f : suc n ≤ 0 = subst (λ v. suc n ≤ cond v (indentation s + 1) 0) e h in omega arith

spaces-cons : (n : ℕ) (p : Context) (b : ℕ) (s : List ℕ) (v : Bool) → eqb b 32 ≡ v → suc n ≤ indentation (b ∷ s)
    → (n ≤ indentation s → Passes (past_byte p b) s n) → Passes p (b ∷ s) (suc n)
spaces-cons n p b s false e h rest = absurd (spaces-none n b s e h)
spaces-cons n p b s true e h rest =
    more 1 n (white (blank-white b (space-blank b e)) (no-tab (eqb b 9) (forbids_tab p (b ∷ s)) (space-no_tab b e)) refl)
    (rest (spaces-rest n b s e h)) (one-more n)

pub spaces-pass : (n : ℕ) (p : Context) (s : List ℕ) → n ≤ indentation s → Passes p s n
spaces-pass zero p s h = none refl
spaces-pass (suc n) p [] h = absurd (omega arith)
spaces-pass (suc n) p (b ∷ s) h = spaces-cons n p b s (eqb b 32) refl h (λ fits. spaces-pass n (past_byte p b) s fits)

-- ---- the pieces

-- a line end is passed
pub end-passes : (p : Context) (s : List ℕ) → begins is_white s ≡ true → is_line_end (get_or s 0 0) ≡ true → Passes p s 1 × (0 < 1) × (1 ≤ length s)
end-passes p [] some e = absurd (let f : false ≡ true = some in cc)
end-passes p (b ∷ s) some e = (
  more 1 0 (white (end-white b e) (no-tab (eqb b 9) (forbids_tab p (b ∷ s)) (end-no_tab b e)) refl) (none refl) refl,
  omega arith,
  omega arith,
)

white-blank : (b : ℕ) → is_white b ≡ true → is_line_end b ≡ false → is_blank b ≡ true
white-blank b e f = grind (arith, nat_tests)

pub run-some : (p : ℕ → Bool) (s : List ℕ) (n : ℕ) → IsRun p s n → begins p s ≡ true → 0 < n
run-some p s zero run e = absurd (not-both (begins p s) e run.ends)
run-some p s (suc n) run e = zero-less n

-- a run of blanks is passed
pub run-passes : (p : Context) (s : List ℕ) (n : ℕ) → begins is_white s ≡ true → is_line_end (get_or s 0 0) ≡ false → IsRun is_blank s n → forbids_tab p s ≡ false
    → Passes p s n × (0 < n) × (n ≤ length s)
run-passes p [] n e f run calm = absurd (let g : false ≡ true = e in cc)
run-passes p (b ∷ s) n e f run calm =
    (blanks-pass n p (b ∷ s) run.inside run.all calm, run-some is_blank (b ∷ s) n run (white-blank b e f), run.inside)

-- spaces are passed
pub spaces-passes : (p : Context) (s : List ℕ) (n : ℕ) → n ≡ indentation s → (n ≡ 0 → ⊥) → n ≤ length s → Passes p s n × (0 < n) × (n ≤ length s)
spaces-passes p s n is some inside = (spaces-pass n p s (omega (arith, is)), omega arith, inside)

-- a comment is passed
hash-in_line : (b : ℕ) → b ≡ 35 → in_line b ≡ true
hash-in_line b e = ap in_line e

pub comment-begins : (s : List ℕ) → get_or s 0 0 ≡ 35 → begins in_line s ≡ true
comment-begins [] e = absurd (let f : 0 ≡ 35 = e in cc)
comment-begins (b ∷ s) e = hash-in_line b e

plus-none : (n : ℕ) → n ≡ n + 0
plus-none n = omega arith

eqb-is : (m n : ℕ) → eqb m n ≡ true → m ≡ n
eqb-is m n e = grind (arith, nat_tests)

second : (x y : Bool) → (x && y) ≡ true → y ≡ true
second true y e = e
second false y e = absurd (let f : false ≡ true = e in cc)

pub hash-here : (p : Context) (s : List ℕ) → begins_comment p s ≡ true → get_or s 0 0 ≡ 35
hash-here p s e = eqb-is (get_or s 0 0) 35 (second p.spaced (eqb (get_or s 0 0) 35) e)

pub comment-passes : (p : Context) (s : List ℕ) (n : ℕ) → begins_comment p s ≡ true → IsRun in_line s n → Passes p s n × (0 < n) × (n ≤ length s)
comment-passes p s n is run =
    (more n 0 (comment is run) (none refl) (plus-none n), run-some in_line s n run (comment-begins s (hash-here p s is)), run.inside)

-- ---- a bad tab

both-true : (w t : Bool) → w ≡ true → t ≡ true → (w && t) ≡ true
both-true true t e f = f
both-true false t e f = absurd (cc)

blank-tab : (b : ℕ) → is_white b ≡ true → is_line_end b ≡ false → eqb b 32 ≡ false → eqb b 9 ≡ true
blank-tab b e f g = grind (arith, nat_tests)

spaces-start : (b : ℕ) (s : List ℕ) (v : Bool) → eqb b 32 ≡ v → cond v (indentation s + 1) 0 ≡ 0 → eqb b 32 ≡ false
spaces-start b s false e z = e
spaces-start b s true e z = absurd (omega arith)

pub tab-here : (p : Context) (s : List ℕ) → begins is_white s ≡ true → is_line_end (get_or s 0 0) ≡ false → indentation s ≡ 0 → forbids_tab p s ≡ true
    → is_bad_tab p s ≡ true
tab-here p [] e f z bad = absurd (let g : false ≡ true = e in cc)
tab-here p (b ∷ s) e f z bad = both-true (eqb b 9) (forbids_tab p (b ∷ s)) (blank-tab b e f (spaces-start b s (eqb b 32) refl z)) bad
