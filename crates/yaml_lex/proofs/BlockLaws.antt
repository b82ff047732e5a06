-- Block scalars: whether a text begins with one is settled, one alone begins there, and it ends in the text.
use Rattle.std.proofs.Common.{◌≡◌, ℕ, suc, zero, ◌+◌, ◌<◌, ◌≤◌, ◌⊎◌, inl, inr, Bool, true, false, not, cond, ◌&&◌, ◌||◌, eqb, List, [], ◌∷◌, length, drop, Option, refl, sym, ◌∙◌, ap, subst, arith}
use Rattle.std.proofs.lemmas.Bool.Decides.{nat_tests}
use Rattle.std.proofs.lemmas.List.{drop-drop, length-drop}
use Rattle.yaml_lex.specs.Characters.{is_blank, is_line_end, begins}
use Rattle.yaml_lex.specs.Scalars.{IsRun, in_line}
use Rattle.yaml_lex.specs.BlockScalars.{chomp_size, is_chomp, has_digit, signs_size, digit_of, is_head_over, IsHead, ending_size, is_blank_line, BlankLines, at_end, no_more, more, belongs, Lines, over, line, IsBlock, least_of}
use Rattle.yaml_lex.specs.Scanning.{NoHead, NoBlock, AtLineEnd}
use Rattle.yaml_lex.proofs.RunLemmas.{not-both, run-one, run-of}
use Rattle.yaml_lex.proofs.Heads.{is-head, no-head, head-line, at-ending, digit-inside}
use Rattle.yaml_lex.proofs.Lines.{is-block, no-block, blanks-some, belongs-some}

-- ---- heads

chomp-inside : (s : List ℕ) (v : Bool) → begins is_chomp (drop 1 s) ≡ v → 0 < length s → 1 + cond v 1 0 ≤ length s
chomp-inside [] v e some = absurd (omega arith)
chomp-inside (b ∷ []) true e some = absurd (let f : false ≡ true = e in cc)
chomp-inside (b ∷ c ∷ s) true e some = omega arith
chomp-inside (b ∷ s) false e some = omega arith

signs-with : (s : List ℕ) (v : Bool) → has_digit s ≡ v → 1 + chomp_size s ≤ length s → 1 + chomp_size s + cond v 1 0 ≤ length s
signs-with s true e h = let f = digit-inside s (1 + chomp_size s) refl e in omega (arith, f)
signs-with s false e h = omega (arith, h)

pub signs-inside : (s : List ℕ) → 0 < length s → signs_size s ≤ length s
signs-inside s some = signs-with s (has_digit s) refl (chomp-inside s (begins is_chomp (drop 1 s)) refl some)

head-from : (s : List ℕ) (v : Bool) → is_head_over (drop (signs_size s) s) ≡ v → ((n : ℕ) × IsHead s n) ⊎ NoHead s
head-from s true e = let r = run-of in_line (drop (signs_size s) s) in inl (signs_size s + r.0, is-head s (drop (signs_size s) s) (signs_size s) r.0 refl refl e r.1)
head-from s false e = inr (no-head s (drop (signs_size s) s) (signs_size s) refl refl e)

head-of : (s : List ℕ) → ((n : ℕ) × IsHead s n) ⊎ NoHead s
head-of s = head-from s (is_head_over (drop (signs_size s) s)) refl

head-one : (s : List ℕ) (m n : ℕ) → IsHead s m → IsHead s n → m ≡ n
head-one s m n f g = f.size ∙ ap (λ k. signs_size s + k) (run-one in_line (drop (signs_size s) s) f.rest g.rest f.line g.line) ∙ sym g.size

head-ends : (s : List ℕ) (n : ℕ) → 0 < length s → IsHead s n → (n ≤ length s) × AtLineEnd (drop n s)
head-ends s n some h =
    subst (λ k. (k ≤ length s) × AtLineEnd (drop k s)) (sym h.size)
    (head-line s (drop (signs_size s) s) (signs_size s) h.rest (signs-inside s some) refl h.line)

head-some : (s : List ℕ) (n : ℕ) → IsHead s n → 0 < n
head-some s n h = omega (arith, h.size)

-- ---- blank lines

end-empty : (s : List ℕ) → s ≡ [] → 0 < ending_size s → ⊥
end-empty s e some = absurd (let f : ending_size s ≡ 0 = ap ending_size e in omega arith)

pub blank-one : (s : List ℕ) (m n : ℕ) → BlankLines s m → BlankLines s n → m ≡ n
blank-one s m n (at_end e z) (at_end f y) = z ∙ sym y
blank-one s m n (at_end e z) (no_more some other is) = absurd (end-empty s e some)
blank-one s m n (at_end e z) (more size some blank run rest is) = absurd (end-empty s e some)
blank-one s m n (no_more some other is) (at_end e z) = absurd (end-empty s e some)
blank-one s m n (no_more some other is) (no_more some_too other_too is_too) = is ∙ sym is_too
blank-one s m n (no_more some other is) (more size some_too blank run rest is_too) = absurd (not-both _ blank other)
blank-one s m n (more size some blank run rest is) (at_end e z) = absurd (end-empty s e some)
blank-one s m n (more size some blank run rest is) (no_more some_too other is_too) = absurd (not-both _ blank other)
blank-one s m n (more {m = j} size some blank run rest is) (more {m = k} size_too some_too blank_too run_too rest_too is_too) =
    let same : size_too ≡ size = run-one is_blank (drop (ending_size s) s) size_too size run_too run in
    let e : j ≡ k = blank-one (drop (ending_size s + size) s) j k rest (subst (λ x. BlankLines (drop (ending_size s + x) s) k) same rest_too) in
    omega (arith, is, is_too, same, e)

two-inside : (s : List ℕ) (a n m : ℕ) → a ≤ length s → n ≤ length (drop a s) → m ≤ length (drop (a + n) s) → a + n + m ≤ length s
two-inside s a n m h f g = omega (arith, length-drop a s, length-drop (a + n) s, h, f, g)

few-one : (u v : Bool) (n : ℕ) → 1 ≤ n → cond u 1 (cond v 1 0) ≤ n
few-one true v n h = h
few-one false true n h = h
few-one false false n h = omega arith

few-two : (u v w : Bool) (n : ℕ) → 2 ≤ n → cond u 1 (cond v (cond w 2 1) 0) ≤ n
few-two true v w n h = omega arith
few-two false true true n h = h
few-two false true false n h = omega arith
few-two false false w n h = omega arith

ending-inside : (s : List ℕ) → ending_size s ≤ length s
ending-inside [] = omega arith
ending-inside (b ∷ []) = few-one (eqb b 10) (eqb b 13) _ (omega arith)
ending-inside (b ∷ c ∷ s) = few-two (eqb b 10) (eqb b 13) (eqb c 10) _ (omega arith)

pub blank-inside : (s : List ℕ) (n : ℕ) → BlankLines s n → n ≤ length s
blank-inside s n (at_end e z) = omega (arith, z)
blank-inside s n (no_more some other is) = omega (arith, is, ending-inside s)
blank-inside s n (more {m = m} size some blank run rest is) =
    let h = blank-inside (drop (ending_size s + size) s) m rest in
    subst (λ k. k ≤ length s) (sym is) (two-inside s (ending_size s) size m (ending-inside s) run.inside h)

end-of : (u v w : Bool) → (u || (v && w)) ≡ true → v ≡ false → u ≡ true
end-of true v w e f = refl
end-of false true w e f = absurd (cc)
end-of false false w e f = absurd (let g : false ≡ true = e in cc)

rest-of : (u v w : Bool) → (u || (v && w)) ≡ true → u ≡ false → w ≡ true
rest-of true v w e f = absurd (cc)
rest-of false true w e f = e
rest-of false false w e f = absurd (let g : false ≡ true = e in cc)

blank-no_end : (b : ℕ) → is_blank b ≡ true → is_line_end b ≡ false
blank-no_end b h = grind (arith, nat_tests)

less-suc : (k n : ℕ) → k < n → suc k < suc n
less-suc k n h = omega arith

low-suc : (k n : ℕ) → suc k ≤ suc n → k ≤ n
low-suc k n h = omega arith

-- a blank line's blanks go up to a line end or the end
blank-ends : (n : ℕ) (s : List ℕ) → IsRun is_blank s n → is_blank_line s ≡ true → AtLineEnd (drop n s)
blank-ends zero [] run e = inl refl
blank-ends zero (b ∷ s) run e = at-ending (b ∷ s) (ap not (end-of (is_line_end b) (is_blank b) (is_blank_line s) e run.ends))
blank-ends (suc n) [] run e = absurd (let h = run.inside in omega arith)
blank-ends (suc n) (b ∷ s) run e =
    blank-ends n s (record { inside = low-suc n (length s) run.inside; all = λ k low. run.all (suc k) (less-suc k n low); ends = run.ends })
    (rest-of (is_line_end b) (is_blank b) (is_blank_line s) e (blank-no_end b (run.all 0 (omega arith))))

-- what is settled of all shorter texts
abbrev Shorter : (List ℕ → ℕ → Type 0) → ℕ → Type 0
Shorter P k = (t : List ℕ) → length t ≤ k → AtLineEnd t → (n : ℕ) × P t n

shorter-by : (s : List ℕ) (k a n : ℕ) → length s ≤ suc k → 0 < a → a ≤ length s → length (drop (a + n) s) ≤ k
shorter-by s k a n h some low = omega (arith, length-drop (a + n) s)

blank-more : (k : ℕ) (s : List ℕ) (v : Bool) → is_blank_line (drop (ending_size s) s) ≡ v → 0 < ending_size s → length s ≤ suc k
    → Shorter BlankLines k → (n : ℕ) × BlankLines s n
blank-more k s false e some low rest = (ending_size s, no_more some e refl)
blank-more k s true e some low rest =
    let r = run-of is_blank (drop (ending_size s) s) in
    let l = rest (drop (ending_size s + r.0) s) (shorter-by s k (ending_size s) r.0 low some (ending-inside s))
    (subst (λ t. AtLineEnd t) (drop-drop r.0 (ending_size s) s) (blank-ends r.0 (drop (ending_size s) s) r.1 e)) in
    (ending_size s + r.0 + l.0, more r.0 some e r.1 l.1 refl)

no-ending : (s : List ℕ) → length s ≤ 0 → 0 < ending_size s → ⊥
no-ending s low some = let h = ending-inside s in omega arith

-- the blank lines, where at most k bytes are left
blank-from : (k : ℕ) (s : List ℕ) → length s ≤ k → AtLineEnd s → (n : ℕ) × BlankLines s n
blank-from zero s low h = elim h [ inl e ↦ (0, at_end e refl) | inr some ↦ absurd (no-ending s low some) ]
blank-from (suc k) s low h = elim h [
  | inl e ↦ (0, at_end e refl)
  | inr some ↦ blank-more k s (is_blank_line (drop (ending_size s) s)) refl some low (λ t fits end. blank-from k t fits end)
]

blank-of : (s : List ℕ) → AtLineEnd s → (n : ℕ) × BlankLines s n
blank-of s h = blank-from (length s) s (omega arith) h

-- ---- lines

pub lines-one : (least : ℕ) (s : List ℕ) (m n : ℕ) → Lines least s m → Lines least s n → m ≡ n
lines-one least s m n (over skip blank other z) (over skip_too blank_too other_too y) = z ∙ sym y
lines-one least s m n (over skip blank other z) (line skip_too size blank_too here run rest is) =
    let same = blank-one s skip_too skip blank_too blank in
    absurd (not-both (belongs least (drop skip s)) (subst (λ k. belongs least (drop k s) ≡ true) same here) other)
lines-one least s m n (line skip size blank here run rest is) (over skip_too blank_too other z) =
    let same = blank-one s skip skip_too blank blank_too in
    absurd (not-both (belongs least (drop skip_too s)) (subst (λ k. belongs least (drop k s) ≡ true) same here) other)
lines-one least s m n (line {m = j} skip size blank here run rest is) (line {m = k} skip_too size_too blank_too here_too run_too rest_too is_too) =
    let same : skip_too ≡ skip = blank-one s skip_too skip blank_too blank in
    let size_same : size_too ≡ size = run-one in_line (drop skip s) size_too size (subst (λ x. IsRun in_line (drop x s) size_too) same run_too) run in
    let to : skip_too + size_too ≡ skip + size = omega (arith, same, size_same) in
    let e : j ≡ k = lines-one least (drop (skip + size) s) j k rest (subst (λ x. Lines least (drop x s) k) to rest_too) in
    omega (arith, is, is_too, to, e)

pub lines-inside : (least : ℕ) (s : List ℕ) (n : ℕ) → Lines least s n → n ≤ length s
lines-inside least s n (over skip blank other z) = omega (arith, z)
lines-inside least s n (line {m = m} skip size blank here run rest is) =
    let h = lines-inside least (drop (skip + size) s) m rest in
    subst (λ k. k ≤ length s) (sym is) (two-inside s skip size m (blank-inside s skip blank) run.inside h)

line-next : (k least : ℕ) (s : List ℕ) (skip : ℕ) → BlankLines s skip → belongs least (drop skip s) ≡ true → length s ≤ suc k
    → Shorter (Lines least) k → (n : ℕ) × Lines least s n
line-next k least s skip blank here low rest =
    let r = run-of in_line (drop skip s) in
    let some = belongs-some least (drop skip s) here in
    let long : 0 < length s = omega (arith, length-drop skip s, some) in
    let l = rest (drop (skip + r.0) s) (shorter-by s k skip r.0 low (blanks-some s skip blank long) (blank-inside s skip blank))
    (subst (λ t. AtLineEnd t) (drop-drop r.0 skip s) (at-ending (drop r.0 (drop skip s)) r.1.ends)) in
    (skip + r.0 + l.0, line skip r.0 blank here r.1 l.1 refl)

line-more : (k least : ℕ) (s : List ℕ) (skip : ℕ) (v : Bool) → belongs least (drop skip s) ≡ v → BlankLines s skip → length s ≤ suc k
    → Shorter (Lines least) k → (n : ℕ) × Lines least s n
line-more k least s skip false e blank low rest = (0, over skip blank e refl)
line-more k least s skip true e blank low rest = line-next k least s skip blank e low rest

no-rest : (least : ℕ) (s : List ℕ) (skip : ℕ) (v : Bool) → belongs least (drop skip s) ≡ v → length s ≤ 0 → belongs least (drop skip s) ≡ false
no-rest least s skip false e low = e
no-rest least s skip true e low = absurd (let some = belongs-some least (drop skip s) e in omega (arith, length-drop skip s, some))

lines-from : (k least : ℕ) (s : List ℕ) → length s ≤ k → AtLineEnd s → (n : ℕ) × Lines least s n
lines-from zero least s low h =
    let b = blank-of s h in (0, over b.0 b.1 (no-rest least s b.0 (belongs least (drop b.0 s)) refl low) refl)
lines-from (suc k) least s low h =
    let b = blank-of s h in
    line-more k least s b.0 (belongs least (drop b.0 s)) refl b.1 low (λ t fits end. lines-from k least t fits end)

lines-of : (least : ℕ) (s : List ℕ) → AtLineEnd s → (n : ℕ) × Lines least s n
lines-of least s h = lines-from (length s) least s (omega arith) h

-- ---- the whole

pub block-of : (column : Option ℕ) (s : List ℕ) → 0 < length s → ((n : ℕ) × IsBlock column s n) ⊎ NoBlock column s
block-of column s some = elim (head-of s) [
  | inr none ↦ inr (no-block column s none)
  | inl w ↦
      let l = lines-of (least_of column (digit_of s)) (drop w.0 s) (head-ends s w.0 some w.1).1 in
      inl (w.0 + l.0, is-block column (digit_of s) s (drop w.0 s) w.0 (least_of column (digit_of s)) l.0 w.1 refl refl refl l.1)
]

pub block-one : (column : Option ℕ) (s : List ℕ) (m n : ℕ) → IsBlock column s m → IsBlock column s n → m ≡ n
block-one column s m n f g =
    let same : g.head ≡ f.head = head-one s g.head f.head g.is_head f.is_head in
    let rest : f.rest ≡ g.rest = lines-one (least_of column (digit_of s)) (drop f.head s) f.rest g.rest f.lines
    (subst (λ k. Lines (least_of column (digit_of s)) (drop k s) g.rest) same g.lines) in
    omega (arith, f.size, g.size, same, rest)

pub block-inside : (column : Option ℕ) (s : List ℕ) (n : ℕ) → 0 < length s → IsBlock column s n → (0 < n) × (n ≤ length s)
block-inside column s n some h = (
  omega (arith, h.size, head-some s h.head h.is_head),
  omega (arith, h.size, (head-ends s h.head some h.is_head).0, lines-inside (least_of column (digit_of s)) (drop h.head s) h.rest h.lines, length-drop h.head s),
)
