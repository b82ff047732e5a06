-- Plain scalars and the ends of keys.
use Rattle.std.proofs.Common.{◌≡◌, ℕ, suc, zero, ◌+◌, ◌-◌, ◌<◌, ◌≤◌, ◌⊎◌, Bool, true, false, ◌&&◌, ◌||◌, eqb, List, [], ◌∷◌, length, drop, get_or, inl, inr, refl, sym, ◌∙◌, ap, subst, arith, below_more}
use Rattle.std.proofs.lemmas.List.{drop_more, drop_all}
use Rattle.std.proofs.lemmas.Bool.Decides.{nat_tests}
use Rattle.yaml_lex.specs.Characters.{is_blank, is_gap, is_colon_gap, is_key_end}
use Rattle.yaml_lex.specs.Scalars.{ends_plain, begins_plain, IsPlain}
use Rattle.yaml_lex.specs.Scanning.{IsPlainEnd, NoPlain}

-- what is known of a plain scalar in front of byte `at`, whose last character that isn't blank ends at byte `end`
pub record IsSoFar (flow : Bool) (s : List ℕ) (at end : ℕ) : Type 0 where
  pub order : end ≤ at
  pub goes : (k : ℕ) → k < at → ends_plain flow (drop k s) ≡ false
  pub last : 0 < end → is_blank (get_or s (end - 1) 0) ≡ false
  pub trailing : (k : ℕ) → k < at → end ≤ k → is_blank (get_or s k 0) ≡ true

pub none-yet : (flow : Bool) (s : List ℕ) → IsSoFar flow s 0 0
none-yet flow s = record {
  order = omega arith;
  goes = λ k low. absurd (omega arith);
  last = λ some. absurd (omega arith);
  trailing = λ k low high. absurd (omega arith);
}

pub more-blank : (flow : Bool) (s : List ℕ) (at end : ℕ) → IsSoFar flow s at end → ends_plain flow (drop at s) ≡ false
    → is_blank (get_or s at 0) ≡ true → IsSoFar flow s (at + 1) end
more-blank flow s at end h goes blank = record {
  order = omega arith;
  goes = below_more (λ k. ends_plain flow (drop k s) ≡ false) at h.goes goes;
  last = h.last;
  trailing = below_more (λ k. end ≤ k → is_blank (get_or s k 0) ≡ true) at h.trailing (λ high. blank);
}

pub more-text : (flow : Bool) (s : List ℕ) (at end : ℕ) → IsSoFar flow s at end → ends_plain flow (drop at s) ≡ false
    → is_blank (get_or s at 0) ≡ false → IsSoFar flow s (at + 1) (at + 1)
more-text flow s at end h goes text = record {
  order = omega arith;
  goes = below_more (λ k. ends_plain flow (drop k s) ≡ false) at h.goes goes;
  last = λ some. subst (λ k. is_blank (get_or s k 0) ≡ false) (let e : at ≡ at + 1 - 1 = omega arith in e) text;
  trailing = λ k low high. absurd (omega arith);
}

pub ended : (flow : Bool) (s : List ℕ) (at end : ℕ) → IsSoFar flow s at end → at ≤ length s → ends_plain flow (drop at s) ≡ true
    → IsPlainEnd flow s end
ended flow s at end h inside ends =
    let same : at ≡ end + (at - end) = omega (arith, h.order) in
    record {
      blanks = at - end;
      inside = subst (λ k. k ≤ length s) same inside;
      goes = subst (λ (n : ℕ). (k : ℕ) → k < n → ends_plain flow (drop k s) ≡ false) same h.goes;
      ends = subst (λ k. ends_plain flow (drop k s) ≡ true) same ends;
      last = h.last;
      trailing = λ k low high. h.trailing k (subst (λ n. k < n) (sym same) high) low;
    }

pub at-end : (flow : Bool) (s : List ℕ) → ends_plain flow (drop (length s) s) ≡ true
unfolding ends_plain
at-end flow s = ap (λ t. ends_plain flow t) (drop_all (length s) s (let e : length s ≤ length s = omega arith in e))

-- ---- from the end to the scalar

pub is-plain : (flow : Bool) (s : List ℕ) (n : ℕ) → begins_plain s ≡ true → 0 < n → IsPlainEnd flow s n → IsPlain flow s n
is-plain flow s n begins some h = record {
  begins = begins;
  some = some;
  blanks = h.blanks;
  inside = h.inside;
  goes = h.goes;
  ends = h.ends;
  last = h.last some;
  trailing = h.trailing;
}

pub no-begin : (flow : Bool) (s : List ℕ) → begins_plain s ≡ false → NoPlain flow s
no-begin flow s e n h = let f : true ≡ false = sym h.begins ∙ e in absurd (cc)

not-blank : (s : List ℕ) → begins_plain s ≡ true → is_blank (get_or s 0 0) ≡ true → ⊥
unfolding begins_plain
not-blank [] e blank = absurd (let f : false ≡ true = e in cc)
not-blank (b ∷ rest) e blank = grind (arith, nat_tests)

zero-or : (n : ℕ) → (n ≡ 0) ⊎ (0 < n)
zero-or zero = inl refl
zero-or (suc n) = inr (omega arith)

no-blanks : (flow : Bool) (s : List ℕ) (n : ℕ) → n ≡ 0 → begins_plain s ≡ true → (h : IsPlainEnd flow s n) → h.blanks ≡ 0
no-blanks flow s n none begins h = elim (zero-or h.blanks) [
  | inl z ↦ z
  | inr some ↦ absurd (not-blank s begins (h.trailing 0 (omega arith) (omega arith)))
]

pub none-here : (flow : Bool) (s : List ℕ) (n : ℕ) → n ≡ 0 → begins_plain s ≡ true → IsPlainEnd flow s n → NoPlain flow s
none-here flow s n none begins h m is =
    let here : n + h.blanks ≡ 0 = omega (arith, no-blanks flow s n none begins h) in
    let yes : ends_plain flow (drop 0 s) ≡ true = subst (λ k. ends_plain flow (drop k s) ≡ true) here h.ends in
    let no : ends_plain flow (drop 0 s) ≡ false = is.goes 0 (omega (arith, is.some)) in
    absurd (let f : true ≡ false = sym yes ∙ no in cc)

-- ---- the end of a key

pick : (x z y w : Bool) → x ≡ false → y ≡ true → (x && z) || (y && w) ≡ w
pick false z true w e f = refl
pick true z y w e f = absurd (cc)
pick false z false w e f = absurd (cc)

pick-first : (x z y w : Bool) → y ≡ false → (x && z) || (y && w) ≡ (x && z)
pick-first true true y w f = refl
pick-first true false false w f = refl
pick-first true false true w f = absurd (cc)
pick-first false z false w f = refl
pick-first false z true w f = absurd (cc)

blank-no-colon : (b : ℕ) → is_blank b ≡ true → eqb b 58 ≡ false
blank-no-colon b h = grind (arith, nat_tests)

pub key-blank : (s : List ℕ) (at : ℕ) → at < length s → is_blank (get_or s at 0) ≡ true → is_key_end (drop at s) ≡ is_key_end (drop (at + 1) s)
key-blank s at low blank =
    ap is_key_end (drop_more s at 0 low)
    ∙ pick (eqb (get_or s at 0) 58) (is_gap (drop (at + 1) s)) (is_blank (get_or s at 0)) (is_key_end (drop (at + 1) s)) (blank-no-colon (get_or s at 0) blank) blank

pub key-other : (s : List ℕ) (at : ℕ) → at < length s → is_blank (get_or s at 0) ≡ false → is_key_end (drop at s) ≡ is_colon_gap (drop at s)
key-other s at low text =
    ap is_key_end (drop_more s at 0 low)
    ∙ pick-first (eqb (get_or s at 0) 58) (is_gap (drop (at + 1) s)) (is_blank (get_or s at 0)) (is_key_end (drop (at + 1) s)) text
    ∙ sym (ap is_colon_gap (drop_more s at 0 low))

pub key-none : (s : List ℕ) → is_key_end (drop (length s) s) ≡ false
key-none s = ap is_key_end (drop_all (length s) s (let e : length s ≤ length s = omega arith in e))

pub ruleset of_plain = (is-plain, no-begin, none-here)
