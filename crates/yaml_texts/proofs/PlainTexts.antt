-- Texts that are one plain scalar.
use Rattle.std.proofs.Common.{◌≡◌, ℕ, zero, suc, ◌+◌, ◌-◌, ◌<◌, ◌≤◌, Bool, true, false, List, [], ◌∷◌, ◌++◌, length, drop, get_or}
use Rattle.std.proofs.Common.{inl, inr, refl, sym, ◌∙◌, ap, subst, arith, append-nil}
use Rattle.std.specs.Prelude.{not, ◌==◌, ◌&&◌, ◌||◌}
use Rattle.std.proofs.lemmas.Bool.{cases_Bool, cases_lt, or_cases, or_parts, and_parts, and_from, not-true}
use Rattle.std.proofs.lemmas.List.{length-append, get_or_append_left, get_or-append-add}
use Rattle.yaml_lex.specs.Characters.{is_line_end, is_blank, is_white, is_flow_sign, is_indicator, needs_more, begins, is_gap, is_colon_gap, is_key_end}
use Rattle.yaml_lex.specs.Scalars.{begins_plain, ends_plain, ends_in_flow, IsPlain}
use Rattle.yaml_texts.specs.Spelled.{goes_on, is_plain}
use Rattle.yaml_texts.specs.Laws.{is_over, PlainTextsArePlainScalars}

-- ---- the last byte

abbrev pub last_of : List ℕ → ℕ
last_of [] = 0
last_of (b ∷ []) = b
last_of (b ∷ c ∷ rest) = last_of (c ∷ rest)

last_is : (s : List ℕ) → get_or s (length s - 1) 0 ≡ last_of s
last_is [] = refl
last_is (b ∷ []) = refl
last_is (b ∷ c ∷ rest) =
    let e : length (b ∷ c ∷ rest) - 1 ≡ suc (length (c ∷ rest) - 1) = omega arith in
    ap (λ n. get_or (b ∷ c ∷ rest) n 0) e ∙ last_is (c ∷ rest)

last_single : (b : ℕ) → last_of (b ∷ []) ≡ b
last_single b = refl

last_more : (b c : ℕ) (rest : List ℕ) → last_of (b ∷ c ∷ rest) ≡ last_of (c ∷ rest)
last_more b c rest = refl

-- ---- nothing ends a plain scalar, whatever stands behind the text

left : (x : Bool) → (x && true) ≡ false → x ≡ false
left true h = h
left false h = refl

parts_end : (line blank colon flow sign hash gap inner : Bool) → line ≡ false → blank ≡ false → colon ≡ false → (flow && (sign || (colon && false))) ≡ false
    → (line || (blank && hash) || (colon && gap) || (flow && (sign || (colon && inner)))) ≡ false
parts_end line blank colon flow sign hash gap inner l b c f = rw (l, b, c) (rw c at f)

alone : (line blank colon flow sign hash gap inner : Bool) → (line || (blank && false) || (colon && true) || (flow && (sign || (colon && false)))) ≡ false → blank ≡ false
    → (line || (blank && hash) || (colon && gap) || (flow && (sign || (colon && inner)))) ≡ false
alone line blank colon flow sign hash gap inner e dark =
    let parts = or_parts (line || (blank && false) || (colon && true)) (flow && (sign || (colon && false))) e in
    let three = or_parts (line || (blank && false)) (colon && true) parts.0 in
    let two = or_parts line (blank && false) three.0 in
    parts_end line blank colon flow sign hash gap inner two.0 dark (left colon three.1) parts.1

last_byte : (flow : Bool) (b : ℕ) (rest : List ℕ) → ends_plain flow (b ∷ []) ≡ false → is_blank b ≡ false → ends_plain flow (b ∷ rest) ≡ false
unfolding ends_plain
last_byte flow b rest e dark = alone (is_line_end b) (is_blank b) (b == 58) flow (is_flow_sign b) (begins (λ c. c == 35) rest) (is_gap rest) (begins is_flow_sign rest) e dark

two_bytes : (flow : Bool) (b c : ℕ) (u rest : List ℕ) → ends_plain flow (b ∷ c ∷ u) ≡ false → ends_plain flow (b ∷ c ∷ (u ++ rest)) ≡ false
unfolding ends_plain
two_bytes flow b c u rest e = e

goes_parts : (flow : Bool) (b : ℕ) (rest : List ℕ) → goes_on flow (b ∷ rest) ≡ true → (ends_plain flow (b ∷ rest) ≡ false) × (goes_on flow rest ≡ true)
unfolding goes_on
goes_parts flow b rest e = let parts = and_parts (not (ends_plain flow (b ∷ rest))) (goes_on flow rest) e in (not-true (ends_plain flow (b ∷ rest)) parts.0, parts.1)

pub goes : (flow : Bool) (u rest : List ℕ) → goes_on flow u ≡ true → is_blank (last_of u) ≡ false → (k : ℕ) → k < length u → ends_plain flow (drop k (u ++ rest)) ≡ false
goes flow [] rest e dark k low = absurd (omega arith)
goes flow (b ∷ []) rest e dark zero low = last_byte flow b rest (goes_parts flow b [] e).0 (ap is_blank (sym (last_single b)) ∙ dark)
goes flow (b ∷ []) rest e dark (suc k) low = absurd (omega arith)
goes flow (b ∷ c ∷ u) rest e dark zero low = two_bytes flow b c u rest (goes_parts flow b (c ∷ u) e).0
goes flow (b ∷ c ∷ u) rest e dark (suc k) low =
    goes flow (c ∷ u) rest (goes_parts flow b (c ∷ u) e).1 (ap is_blank (sym (last_more b c u)) ∙ dark) k (omega arith)

begins_some : (s : List ℕ) → begins_plain s ≡ true → 0 < length s
unfolding begins_plain
begins_some [] e = absurd (let f : false ≡ true = e in cc)
begins_some (b ∷ rest) e = omega arith

-- ---- what stands behind it

-- blanks, and then what ends a plain scalar, for the first time
pub record IsGap (flow : Bool) (rest : List ℕ) : Type 0 where
  pub blanks : ℕ
  pub inside : blanks ≤ length rest
  pub goes : (k : ℕ) → k < blanks → ends_plain flow (drop k rest) ≡ false
  pub ends : ends_plain flow (drop blanks rest) ≡ true
  pub blank : (k : ℕ) → k < blanks → is_blank (get_or rest k 0) ≡ true

at_once : (flow : Bool) (rest : List ℕ) → ends_plain flow rest ≡ true → IsGap flow rest
at_once flow rest e = record { blanks = 0; inside = omega arith; goes = λ k low. absurd (omega arith); ends = e; blank = λ k low. absurd (omega arith) }

from_first : (n : ℕ) (P : ℕ → Type 0) → P 0 → ((k : ℕ) → k < n → P (suc k)) → (k : ℕ) → k < suc n → P k
from_first n P here more zero low = here
from_first n P here more (suc k) low = more k (omega arith)

one_blank : (flow : Bool) (b : ℕ) (rest : List ℕ) → ends_plain flow (b ∷ rest) ≡ false → is_blank b ≡ true → IsGap flow rest → IsGap flow (b ∷ rest)
one_blank flow b rest e blank h = record {
  blanks = suc h.blanks;
  inside = omega (arith, h.inside);
  goes = from_first h.blanks (λ k. ends_plain flow (drop k (b ∷ rest)) ≡ false) e h.goes;
  ends = h.ends;
  blank = from_first h.blanks (λ k. is_blank (get_or (b ∷ rest) k 0) ≡ true) blank h.blank;
}

end_ends : (flow : Bool) → ends_plain flow [] ≡ true
unfolding ends_plain
end_ends flow = refl

pub gap_of : (flow : Bool) (rest : List ℕ) → is_over flow rest ≡ true → IsGap flow rest
unfolding is_over
gap_of flow [] e = at_once flow [] (end_ends flow)
gap_of flow (b ∷ rest) e = elim (cases_Bool (ends_plain flow (b ∷ rest))) [
  | inl ends ↦ at_once flow (b ∷ rest) ends
  | inr goes ↦ elim (or_cases (ends_plain flow (b ∷ rest)) (is_blank b && is_over flow rest) e) [
    | inl ends ↦ absurd (let f : true ≡ false = sym ends ∙ goes in cc)
    | inr more ↦ let parts = and_parts (is_blank b) (is_over flow rest) more in one_blank flow b rest goes parts.0 (gap_of flow rest parts.1)
  ]
]

-- ---- from the test to the scalar

pub record IsWhole (flow : Bool) (u : List ℕ) : Type 0 where
  pub last : is_blank (get_or u (length u - 1) 0) ≡ false
  pub begins : begins_plain u ≡ true
  pub goes : goes_on flow u ≡ true

pub whole_of : (flow : Bool) (u : List ℕ) → is_plain flow u ≡ true → IsWhole flow u
whole_of flow u e =
    let parts = and_parts (not (is_blank (get_or u (length u - 1) 0)) && begins_plain u) (goes_on flow u) e in
    let two = and_parts (not (is_blank (get_or u (length u - 1) 0))) (begins_plain u) parts.0 in
    record { last = not-true (is_blank (get_or u (length u - 1) 0)) two.0; begins = two.1; goes = parts.1 }

more_behind : (x y : Bool) (z : Bool) → (x && not (y && true)) ≡ true → (x && not (y && z)) ≡ true
more_behind true true z e = absurd (let f : false ≡ true = e in cc)
more_behind true false z e = refl
more_behind false y z e = absurd (let f : false ≡ true = e in cc)

pub begins_still : (u rest : List ℕ) → begins_plain u ≡ true → begins_plain (u ++ rest) ≡ true
unfolding begins_plain
begins_still [] rest e = absurd (let f : false ≡ true = e in cc)
begins_still (b ∷ []) rest e = more_behind (not (is_white b) && not (is_indicator b)) (needs_more b) (is_gap rest) e
begins_still (b ∷ c ∷ u) rest e = e

drop_behind : (u rest : List ℕ) (j : ℕ) → drop (length u + j) (u ++ rest) ≡ drop j rest
drop_behind [] rest j = let e : 0 + j ≡ j = omega arith in ap (λ n. drop n rest) e
drop_behind (b ∷ u) rest j =
    let e : length (b ∷ u) + j ≡ suc (length u + j) = omega arith in
    ap (λ n. drop n (b ∷ (u ++ rest))) e ∙ drop_behind u rest j

by_place : (size more : ℕ) (P : ℕ → Type 0) → ((k : ℕ) → k < size → P k) → ((j : ℕ) → j < more → P (size + j)) → (k : ℕ) → k < size + more → P k
by_place size more P below behind k low = elim (cases_lt k size) [
  | inl lower ↦ below k lower
  | inr high ↦ let e : size + (k - size) ≡ k = omega arith in subst P e (behind (k - size) (omega arith))
]

pub plain_before : (flow : Bool) (u rest : List ℕ) → IsWhole flow u → IsGap flow rest → IsPlain flow (u ++ rest) (length u)
plain_before flow u rest w g =
    let some : 0 < length u = begins_some u w.begins in
    let long : length (u ++ rest) ≡ length u + length rest = length-append u rest in
    record {
      begins = begins_still u rest w.begins;
      some = some;
      blanks = g.blanks;
      inside = omega (arith, g.inside, long);
      goes = λ k low. by_place (length u) g.blanks (λ k. ends_plain flow (drop k (u ++ rest)) ≡ false) (goes flow u rest w.goes (ap is_blank (sym (last_is u)) ∙ w.last))
          (λ j lower. ap (ends_plain flow) (drop_behind u rest j) ∙ g.goes j lower) k low;
      ends = ap (ends_plain flow) (drop_behind u rest g.blanks) ∙ g.ends;
      last = ap is_blank (get_or_append_left u rest 0 (length u - 1) (omega arith)) ∙ w.last;
      trailing = λ k high low. let e : k ≡ length u + (k - length u) = omega arith in
          ap (λ n. is_blank (get_or (u ++ rest) n 0)) e ∙ (ap is_blank (get_or-append-add u rest (k - length u) 0) ∙ g.blank (k - length u) (omega arith));
    }

-- ---- and back

goes_on_all : (flow : Bool) (s : List ℕ) → ((k : ℕ) → k < length s → ends_plain flow (drop k s) ≡ false) → goes_on flow s ≡ true
unfolding goes_on
goes_on_all flow [] h = refl
goes_on_all flow (b ∷ rest) h = and_from (not (ends_plain flow (b ∷ rest))) (goes_on flow rest) (ap not (h 0 (omega arith))) (goes_on_all flow rest (λ k low. h (suc k) (omega arith)))

to_plain : (flow : Bool) (s : List ℕ) → is_plain flow s ≡ true → IsPlain flow s (length s)
to_plain flow s e =
    subst (λ (t : List ℕ). IsPlain flow t (length s)) (append-nil s) (plain_before flow s [] (whole_of flow s e) (at_once flow [] (end_ends flow)))

from_plain : (flow : Bool) (s : List ℕ) → IsPlain flow s (length s) → is_plain flow s ≡ true
from_plain flow s h =
    and_from (not (is_blank (get_or s (length s - 1) 0)) && begins_plain s) (goes_on flow s)
    (and_from (not (is_blank (get_or s (length s - 1) 0))) (begins_plain s) (ap not h.last) h.begins)
    (goes_on_all flow s (λ k low. h.goes k (omega arith)))

pub plain_texts : PlainTextsArePlainScalars
plain_texts flow text = (to_plain flow text, from_plain flow text)

-- ---- ends of keys

third : (x y z w : Bool) → z ≡ true → (x || y || z || w) ≡ true
third true y z w e = refl
third false true z w e = refl
third false false true w e = refl
third false false false w e = absurd (let f : false ≡ true = e in cc)

second : (x y : Bool) → y ≡ true → (x || y) ≡ true
second true y e = refl
second false y e = e

first : (x y : Bool) → x ≡ true → (x || y) ≡ true
first true y e = refl
first false y e = absurd (let f : false ≡ true = e in cc)

colon_ends : (b : ℕ) (rest : List ℕ) → is_colon_gap (b ∷ rest) ≡ true → ends_plain false (b ∷ rest) ≡ true
unfolding ends_plain
colon_ends b rest e = third (is_line_end b) (is_blank b && begins (λ c. c == 35) rest) (is_colon_gap (b ∷ rest)) (false && ends_in_flow (b ∷ rest)) e

pub key_over : (rest : List ℕ) → is_key_end rest ≡ true → is_over false rest ≡ true
unfolding is_over
key_over [] e = refl
key_over (b ∷ rest) e = elim (or_cases (is_colon_gap (b ∷ rest)) (is_blank b && is_key_end rest) e) [
  | inl colon ↦ first (ends_plain false (b ∷ rest)) (is_blank b && is_over false rest) (colon_ends b rest colon)
  | inr more ↦
      let parts = and_parts (is_blank b) (is_key_end rest) more in
      second (ends_plain false (b ∷ rest)) (is_blank b && is_over false rest) (and_from (is_blank b) (is_over false rest) parts.0 (key_over rest parts.1))
]
