-- Plain and quoted scalars, and names: whether a text begins with one is settled, one alone begins there, and it ends
-- in the text.
use Rattle.std.proofs.Common.{◌≡◌, ℕ, suc, zero, ◌+◌, ◌-◌, ◌<◌, ◌≤◌, ◌⊎◌, inl, inr, Bool, true, false, eqb, List, [], ◌∷◌, length, drop, get_or, refl, sym, ◌∙◌, ap, subst, arith}
use Rattle.std.proofs.lemmas.Bool.{cases_lt}
use Rattle.std.proofs.lemmas.Bool.Decides.{nat_tests}
use Rattle.std.proofs.lemmas.List.{length-drop}
use Rattle.yaml_lex.specs.Characters.{is_blank}
use Rattle.yaml_lex.specs.Scalars.{IsRun, begins_plain, ends_plain, IsPlain, Closes, closing, pair, char, is_pair, IsQuoted, IsName, in_name}
use Rattle.yaml_lex.specs.Scanning.{IsPlainEnd, NoPlain, NoQuoted, NoName}
use Rattle.yaml_lex.proofs.RunLemmas.{not-both, run-one, run-of}
use Rattle.yaml_lex.proofs.Plain.{IsSoFar, none-yet, more-blank, more-text, ended, at-end, is-plain, no-begin, none-here}
use Rattle.yaml_lex.proofs.Names.{is-name, no-name}

-- ---- plain scalars

-- the whole, with the blanks behind it, isn't longer in one reading than in the other
plain-whole : (flow : Bool) (s : List ℕ) (m n : ℕ) (f : IsPlain flow s m) (g : IsPlain flow s n) → m + f.blanks < n + g.blanks → ⊥
plain-whole flow s m n f g less = not-both (ends_plain flow (drop (m + f.blanks) s)) f.ends (g.goes (m + f.blanks) less)

plain-same : (flow : Bool) (s : List ℕ) (m n : ℕ) (f : IsPlain flow s m) (g : IsPlain flow s n) → m + f.blanks ≡ n + g.blanks
plain-same flow s m n f g = elim (cases_lt (m + f.blanks) (n + g.blanks)) [
  | inl less ↦ absurd (plain-whole flow s m n f g less)
  | inr most ↦ elim (cases_lt (n + g.blanks) (m + f.blanks)) [ inl less ↦ absurd (plain-whole flow s n m g f less) | inr least ↦ omega arith ]
]

plain-longer : (flow : Bool) (s : List ℕ) (m n : ℕ) → IsPlain flow s m → IsPlain flow s n → m < n → ⊥
plain-longer flow s m n f g less =
    let same = plain-same flow s m n f g in
    not-both (is_blank (get_or s (n - 1) 0)) (f.trailing (n - 1) (omega arith) (omega (arith, same))) g.last

pub plain-one : (flow : Bool) (s : List ℕ) (m n : ℕ) → IsPlain flow s m → IsPlain flow s n → m ≡ n
plain-one flow s m n f g = elim (cases_lt m n) [
  | inl less ↦ absurd (plain-longer flow s m n f g less)
  | inr most ↦ elim (cases_lt n m) [ inl less ↦ absurd (plain-longer flow s n m g f less) | inr least ↦ omega arith ]
]

next-end : (flow : Bool) (s : List ℕ) (at end : ℕ) (v : Bool) → is_blank (get_or s at 0) ≡ v → ends_plain flow (drop at s) ≡ false → IsSoFar flow s at end
    → (next : ℕ) × IsSoFar flow s (at + 1) next
next-end flow s at end true blank goes h = (end, more-blank flow s at end h goes blank)
next-end flow s at end false text goes h = (at + 1, more-text flow s at end h goes text)

end-step : (flow : Bool) (s : List ℕ) (at end : ℕ) (v : Bool) → ends_plain flow (drop at s) ≡ v → at < length s → IsSoFar flow s at end
    → (((next : ℕ) × IsSoFar flow s (at + 1) next) → (n : ℕ) × IsPlainEnd flow s n) → (n : ℕ) × IsPlainEnd flow s n
end-step flow s at end true e low h rest = (end, ended flow s at end h (omega arith) e)
end-step flow s at end false e low h rest = rest (next-end flow s at end (is_blank (get_or s at 0)) refl e h)

left-more : (at k n : ℕ) → at + suc k ≡ n → at + 1 + k ≡ n
left-more at k n e = omega (arith, e)

left-low : (at k n : ℕ) → at + suc k ≡ n → at < n
left-low at k n e = omega (arith, e)

left-none : (at n : ℕ) → at + 0 ≡ n → at ≡ n
left-none at n e = omega (arith, e)

-- the end, where k bytes are left
end-from : (k : ℕ) (flow : Bool) (s : List ℕ) (at end : ℕ) → at + k ≡ length s → IsSoFar flow s at end → (n : ℕ) × IsPlainEnd flow s n
end-from zero flow s at end e h =
    let same = left-none at (length s) e in
    (end, ended flow s at end h (omega (arith, same)) (subst (λ n. ends_plain flow (drop n s) ≡ true) (sym same) (at-end flow s)))
end-from (suc k) flow s at end e h =
    end-step flow s at end (ends_plain flow (drop at s)) refl (left-low at k (length s) e) h
    (λ next. end-from k flow s (at + 1) next.0 (left-more at k (length s) e) next.1)

plain-end : (flow : Bool) (s : List ℕ) → (n : ℕ) × IsPlainEnd flow s n
plain-end flow s = end-from (length s) flow s 0 0 (omega arith) (none-yet flow s)

of-end : (flow : Bool) (s : List ℕ) (n : ℕ) → begins_plain s ≡ true → IsPlainEnd flow s n → ((n : ℕ) × IsPlain flow s n) ⊎ NoPlain flow s
of-end flow s zero e h = inr (none-here flow s 0 refl e h)
of-end flow s (suc n) e h = inl (suc n, is-plain flow s (suc n) e (omega arith) h)

plain-from : (flow : Bool) (s : List ℕ) (v : Bool) → begins_plain s ≡ v → ((n : ℕ) × IsPlain flow s n) ⊎ NoPlain flow s
plain-from flow s false e = inr (no-begin flow s e)
plain-from flow s true e = let h = plain-end flow s in of-end flow s h.0 e h.1

pub plain-of : (flow : Bool) (s : List ℕ) → ((n : ℕ) × IsPlain flow s n) ⊎ NoPlain flow s
plain-of flow s = plain-from flow s (begins_plain s) refl

pub plain-inside : (flow : Bool) (s : List ℕ) (n : ℕ) → IsPlain flow s n → (0 < n) × (n ≤ length s)
plain-inside flow s n h = (h.some, omega (arith, h.inside))

-- ---- quoted scalars

closes-empty : (q n : ℕ) → Closes q [] n → ⊥
closes-empty q n h = elim h [ ]

-- what stands first
closing-only : (q b n : ℕ) (rest : List ℕ) → is_pair q (b ∷ rest) ≡ false → b ≡ q → Closes q (b ∷ rest) n → n ≡ 1
closing-only q b n rest e is (closing p same one) = one
closing-only q b n _ e is (pair p h size) = absurd (not-both _ p e)
closing-only q b n rest e is (char p other h size) = absurd (other is)

pair-only : (q b c n : ℕ) (rest : List ℕ) → is_pair q (b ∷ c ∷ rest) ≡ true → Closes q (b ∷ c ∷ rest) n → (m : ℕ) × Closes q rest m × (n ≡ m + 2)
pair-only q b c n rest e (closing p same one) = absurd (not-both _ e p)
pair-only q b c n rest e (pair {m = m} p h size) = (m, h, size)
pair-only q b c n rest e (char p other h size) = absurd (not-both _ e p)

char-only : (q b n : ℕ) (rest : List ℕ) → is_pair q (b ∷ rest) ≡ false → (b ≡ q → ⊥) → Closes q (b ∷ rest) n → (m : ℕ) × Closes q rest m × (n ≡ m + 1)
char-only q b n rest e other (closing p same one) = absurd (other same)
char-only q b n _ e other (pair p h size) = absurd (not-both _ p e)
char-only q b n rest e other (char {m = m} p o h size) = (m, h, size)

pub closes-one : (q : ℕ) (s : List ℕ) (m n : ℕ) → Closes q s m → Closes q s n → m ≡ n
closes-one q _ m n (closing {b = b} {rest = rest} p is one) g = one ∙ sym (closing-only q b n rest p is g)
closes-one q _ m n (pair {b = b} {c = c} {rest = rest} {m = k} p h size) g =
    let w = pair-only q b c n rest p g in size ∙ ap (λ j. j + 2) (closes-one q rest k w.0 h w.1) ∙ sym w.2
closes-one q _ m n (char {b = b} {rest = rest} {m = k} p other h size) g =
    let w = char-only q b n rest p other g in size ∙ ap (λ j. j + 1) (closes-one q rest k w.0 h w.1) ∙ sym w.2

pub closes-inside : (q : ℕ) (s : List ℕ) (n : ℕ) → Closes q s n → n ≤ length s
closes-inside q _ n (closing {rest = rest} p is one) = omega (arith, one)
closes-inside q _ n (pair {rest = rest} {m = m} p h size) = let f = closes-inside q rest m h in omega (arith, size)
closes-inside q _ n (char {rest = rest} {m = m} p other h size) = let f = closes-inside q rest m h in omega (arith, size)

abbrev NoneCloses : ℕ → List ℕ → Type 0
NoneCloses q s = (n : ℕ) → Closes q s n → ⊥

abbrev Settled : ℕ → List ℕ → Type 0
Settled q s = ((n : ℕ) × Closes q s n) ⊎ NoneCloses q s

lone-pair : (q b n : ℕ) → is_pair q (b ∷ []) ≡ true → Closes q (b ∷ []) n → ⊥
lone-pair q b n e (closing p is one) = not-both _ e p
lone-pair q b n e (char p other h size) = not-both _ e p

pair-settled : (q b c : ℕ) (s : List ℕ) → is_pair q (b ∷ c ∷ s) ≡ true → Settled q s → Settled q (b ∷ c ∷ s)
pair-settled q b c s e r = elim r [
  | inl w ↦ inl (w.0 + 2, pair e w.1 refl)
  | inr none ↦ inr (λ n h. let w = pair-only q b c n s e h in none w.0 w.1)
]

char-settled : (q b : ℕ) (s : List ℕ) → is_pair q (b ∷ s) ≡ false → (b ≡ q → ⊥) → Settled q s → Settled q (b ∷ s)
char-settled q b s e other r = elim r [
  | inl w ↦ inl (w.0 + 1, char e other w.1 refl)
  | inr none ↦ inr (λ n h. let w = char-only q b n s e other h in none w.0 w.1)
]

eqb-same : (m n : ℕ) → eqb m n ≡ true → m ≡ n
eqb-same m n e = grind (arith, nat_tests)

eqb-other : (m n : ℕ) → eqb m n ≡ false → m ≡ n → ⊥
eqb-other m n e f = grind (arith, nat_tests)

quote-settled : (q b : ℕ) (s : List ℕ) (v : Bool) → eqb b q ≡ v → is_pair q (b ∷ s) ≡ false → Settled q s → Settled q (b ∷ s)
quote-settled q b s true e f r = inl (1, closing f (eqb-same b q e) refl)
quote-settled q b s false e f r = char-settled q b s f (eqb-other b q e) r

lone-settled : (q b : ℕ) (v : Bool) → is_pair q (b ∷ []) ≡ v → Settled q (b ∷ [])
lone-settled q b true e = inr (λ n h. lone-pair q b n e h)
lone-settled q b false e = quote-settled q b [] (eqb b q) refl e (inr (λ n h. closes-empty q n h))

two-settled : (q b c : ℕ) (s : List ℕ) (v : Bool) → is_pair q (b ∷ c ∷ s) ≡ v → Settled q s → Settled q (c ∷ s) → Settled q (b ∷ c ∷ s)
two-settled q b c s true e r t = pair-settled q b c s e r
two-settled q b c s false e r t = quote-settled q b (c ∷ s) (eqb b q) refl e t

closes-of : (q : ℕ) (s : List ℕ) → Settled q s
closes-of q [] = inr (λ n h. closes-empty q n h)
closes-of q (b ∷ []) = lone-settled q b (is_pair q (b ∷ [])) refl
closes-of q (b ∷ c ∷ s) = two-settled q b c s (is_pair q (b ∷ c ∷ s)) refl (closes-of q s) (closes-of q (c ∷ s))

pub quoted-of : (s : List ℕ) → ((n : ℕ) × IsQuoted s n) ⊎ NoQuoted s
quoted-of s = elim (closes-of (get_or s 0 0) (drop 1 s)) [
  | inl w ↦
      inl (w.0 + 1, record { some = omega arith; closes = subst (λ n. Closes (get_or s 0 0) (drop 1 s) n) (let e : w.0 ≡ w.0 + 1 - 1 = omega arith in e) w.1 })
  | inr none ↦ inr (λ n h. none (n - 1) h.closes)
]

less-one : (m n : ℕ) → 0 < m → 0 < n → m - 1 ≡ n - 1 → m ≡ n
less-one m n h k e = omega (arith, e)

pub quoted-one : (s : List ℕ) (m n : ℕ) → IsQuoted s m → IsQuoted s n → m ≡ n
quoted-one s m n f g = less-one m n f.some g.some (closes-one (get_or s 0 0) (drop 1 s) (m - 1) (n - 1) f.closes g.closes)

pub quoted-inside : (s : List ℕ) (n : ℕ) → 0 < length s → IsQuoted s n → (0 < n) × (n ≤ length s)
quoted-inside s n some h =
    (h.some, omega (arith, closes-inside (get_or s 0 0) (drop 1 s) (n - 1) h.closes, length-drop 1 s, h.some, some))

-- ---- names

name-from : (s : List ℕ) (n : ℕ) → IsRun in_name (drop 1 s) n → ((n : ℕ) × IsName s n) ⊎ NoName s
name-from s zero run = inr (no-name s (drop 1 s) 0 refl run refl)
name-from s (suc n) run = inl (1 + suc n, is-name s (drop 1 s) (suc n) refl run (λ e. absurd (omega arith)))

pub name-of : (s : List ℕ) → ((n : ℕ) × IsName s n) ⊎ NoName s
name-of s = let r = run-of in_name (drop 1 s) in name-from s r.0 r.1

pub name-one : (s : List ℕ) (m n : ℕ) → IsName s m → IsName s n → m ≡ n
name-one s m n f g = less-one m n (omega (arith, f.some)) (omega (arith, g.some)) (run-one in_name (drop 1 s) (m - 1) (n - 1) f.run g.run)

pub name-inside : (s : List ℕ) (n : ℕ) → IsName s n → (0 < n) × (n ≤ length s)
name-inside s n h = (omega (arith, h.some), omega (arith, h.some, h.run.inside, length-drop 1 s))
