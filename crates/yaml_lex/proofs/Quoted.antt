-- Quoted scalars.
use Rattle.std.proofs.Common.{◌≡◌, ℕ, ◌+◌, ◌-◌, ◌<◌, ◌≤◌, Bool, true, false, List, [], ◌∷◌, length, drop, get_or, refl, sym, ◌∙◌, ap, subst, arith}
use Rattle.std.proofs.lemmas.List.{drop_more, drop_all, drop-drop}
use Rattle.yaml_lex.specs.Scalars.{Closes, closing, pair, char, is_pair, IsQuoted}
use Rattle.yaml_lex.specs.Scanning.{NoQuoted}

not-both : (x : Bool) → x ≡ true → x ≡ false → ⊥
not-both x e f = absurd (let g : true ≡ false = sym e ∙ f in cc)

none-empty : (q n : ℕ) → Closes q [] n → ⊥
none-empty q n h = elim h [ ]

-- ---- one step, over the text that is left

pair-on : (q b m : ℕ) (rest : List ℕ) → is_pair q (b ∷ rest) ≡ true → Closes q (drop 1 rest) m → Closes q (b ∷ rest) (m + 2)
pair-on q b m [] e h = absurd (none-empty q m h)
pair-on q b m (c ∷ rest) e h = pair e h refl

pair-back : (q b n : ℕ) (rest : List ℕ) → is_pair q (b ∷ rest) ≡ true → Closes q (b ∷ rest) n → (m : ℕ) × Closes q (drop 1 rest) m
pair-back q b n rest e (closing p is one) = absurd (not-both _ e p)
pair-back q b n _ e (pair {m = m} p h size) = (m, h)
pair-back q b n rest e (char p other h size) = absurd (not-both _ e p)

char-back : (q b n : ℕ) (rest : List ℕ) → is_pair q (b ∷ rest) ≡ false → (b ≡ q → ⊥) → Closes q (b ∷ rest) n → (m : ℕ) × Closes q rest m
char-back q b n rest e other (closing p is one) = absurd (other is)
char-back q b n _ e other (pair p h size) = absurd (not-both _ p e)
char-back q b n rest e other (char {m = m} p o h size) = (m, h)

-- ---- steps over the whole text

-- the text behind the opening quote closes where the text from byte `at` on does
pub record IsSoFar (q : ℕ) (s : List ℕ) (at : ℕ) : Type 0 where
  pub low : 1 ≤ at
  pub on : (m : ℕ) → Closes q (drop at s) m → Closes q (drop 1 s) (m + at - 1)
  pub back : (n : ℕ) → Closes q (drop 1 s) n → (m : ℕ) × Closes q (drop at s) m

pub none-yet : (q : ℕ) (s : List ℕ) → IsSoFar q s 1
none-yet q s = record {
  low = omega arith;
  on = λ m h. subst (λ n. Closes q (drop 1 s) n) (let e : m ≡ m + 1 - 1 = omega arith in e) h;
  back = λ n h. (n, h);
}

pub more-pair : (q : ℕ) (s : List ℕ) (at : ℕ) → IsSoFar q s at → at < length s → is_pair q (drop at s) ≡ true → IsSoFar q s (at + 2)
more-pair q s at h low e =
    let split = drop_more s at 0 low in
    let e_here = subst (λ t. is_pair q t ≡ true) split e in
    let next : drop 1 (drop (at + 1) s) ≡ drop (at + 2) s = drop-drop 1 (at + 1) s ∙ ap (λ (n : ℕ). drop n s) (let f : at + 1 + 1 ≡ at + 2 = omega arith in f) in
    record {
      low = omega arith;
      on = λ m is. subst (λ n. Closes q (drop 1 s) n) (let f : (m + 2) + at - 1 ≡ m + (at + 2) - 1 = omega arith in f)
          (h.on (m + 2) (subst (λ t. Closes q t (m + 2)) (sym split)
          (pair-on q (get_or s at 0) m (drop (at + 1) s) e_here (subst (λ t. Closes q t m) (sym next) is))));
      back = λ n is.
          let w = h.back n is in
          let v = pair-back q (get_or s at 0) w.0 (drop (at + 1) s) e_here (subst (λ t. Closes q t w.0) split w.1) in
          (v.0, subst (λ t. Closes q t v.0) next v.1);
    }

pub more-char : (q : ℕ) (s : List ℕ) (at : ℕ) → IsSoFar q s at → at < length s → is_pair q (drop at s) ≡ false → (get_or s at 0 ≡ q → ⊥) → IsSoFar q s (at + 1)
more-char q s at h low e other =
    let split = drop_more s at 0 low in
    let e_here = subst (λ t. is_pair q t ≡ false) split e in
    record {
      low = omega arith;
      on = λ m is. subst (λ n. Closes q (drop 1 s) n) (let f : (m + 1) + at - 1 ≡ m + (at + 1) - 1 = omega arith in f)
          (h.on (m + 1) (subst (λ t. Closes q t (m + 1)) (sym split) (char e_here other is refl)));
      back = λ n is.
          let w = h.back n is in
          char-back q (get_or s at 0) w.0 (drop (at + 1) s) e_here other (subst (λ t. Closes q t w.0) split w.1);
    }

pub closed : (q : ℕ) (s : List ℕ) (at : ℕ) → q ≡ get_or s 0 0 → IsSoFar q s at → at < length s → is_pair q (drop at s) ≡ false → get_or s at 0 ≡ q → IsQuoted s (at + 1)
closed q s at is_q h low e is =
    let split = drop_more s at 0 low in
    let e_here = subst (λ t. is_pair q t ≡ false) split e in
    record {
      some = omega arith;
      closes = subst (λ p. Closes p (drop 1 s) (at + 1 - 1)) is_q
          (subst (λ n. Closes q (drop 1 s) n) (let f : 1 + at - 1 ≡ at + 1 - 1 = omega arith in f)
          (h.on 1 (subst (λ t. Closes q t 1) (sym split) (closing e_here is refl))));
    }

pub never-closed : (q : ℕ) (s : List ℕ) (at : ℕ) → q ≡ get_or s 0 0 → IsSoFar q s at → length s ≤ at → NoQuoted s
never-closed q s at is_q h past n is =
    let w = h.back (n - 1) (subst (λ p. Closes p (drop 1 s) (n - 1)) (sym is_q) is.closes) in
    none-empty q w.0 (subst (λ t. Closes q t w.0) (drop_all at s past) w.1)
