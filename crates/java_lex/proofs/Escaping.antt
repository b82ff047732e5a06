-- Going over a text for the first escape that is refused.
use Rattle.std.proofs.Common.{◌≡◌, ℕ, ◌+◌, ◌-◌, ◌%◌, ◌<◌, ◌≤◌, inl, inr, Bool, true, false, cond, eqb, List, [], ◌∷◌, ◌++◌, length, take, drop, get_or, refl, sym, ◌∙◌, ap, subst, arith}
use Rattle.std.proofs.lemmas.Bool.{cases_lt}
use Rattle.std.proofs.lemmas.Bool.Decides.{nat_tests}
use Rattle.std.proofs.lemmas.List.{take_more, drop_more, take-append-drop, drop_all, take_rest}
use Rattle.java_lex.specs.declared.automaton.Found.{Found}
use Rattle.rw_base.specs.Expressions.{Expression, byte, Matches}
use Rattle.java_lex.specs.Literals.{literal_refused, comment_refused}
use Rattle.java_lex.specs.Kinds.{Fits}
use Rattle.java_lex.specs.Escapes.{backslashes, backslashes_from, IsRefusedAt, NoneRefused}
use Rattle.java_lex.specs.Scanning.{IsEscape, IsLongestOf, escape_of, known}

backslashes-push : (n : ℕ) (s : List ℕ) (b : ℕ)
    → backslashes_from n (s ++ b ∷ []) ≡ cond (eqb b 92) (backslashes_from n s + 1) 0
backslashes-push n [] b = refl
backslashes-push n (a ∷ s) b = backslashes-push (cond (eqb a 92) (n + 1) 0) s b

push-same : (m n b : ℕ) → m ≡ cond (eqb b 92) (n + 1) 0 → b ≡ 92 → m ≡ n + 1
push-same m n b e h = grind (arith, nat_tests)

push-other : (m n b : ℕ) → m ≡ cond (eqb b 92) (n + 1) 0 → (b ≡ 92 → ⊥) → m ≡ 0
push-other m n b e h = grind (arith, nat_tests)

next-backslashes : (s : List ℕ) (at : ℕ) → at < length s
    → backslashes (take (at + 1) s) ≡ cond (eqb (get_or s at 0) 92) (backslashes (take at s) + 1) 0
next-backslashes s at h = ap (λ t. backslashes t) (take_more s at 0 h) ∙ backslashes-push 0 (take at s) (get_or s at 0)

-- ---- each of these escapes begins with a backslash

abbrev pub BeginsSo : Expression → Type 0
BeginsSo r = (s : List ℕ) → Matches r s → (rest : List ℕ) × (s ≡ 92 ∷ rest)

between : (b : ℕ) → 92 ≤ b → b ≤ 92 → b ≡ 92
between b low high = omega arith

begins-so : (s x y : List ℕ) → s ≡ x ++ y → Matches (byte 92 92) x → (rest : List ℕ) × (s ≡ 92 ∷ rest)
begins-so s x y e h =
    let is : h.0 ≡ 92 = between h.0 h.2 h.3 in
    (y, e ∙ ap (λ t. t ++ y) (h.1 ∙ ap (λ b. b ∷ []) is))

literal-begins : BeginsSo literal_refused
unfolding literal_refused
literal-begins s h = begins-so s h.0 h.1 h.2 h.3

comment-begins : BeginsSo comment_refused
unfolding comment_refused
comment-begins s h = begins-so s h.0 h.1 h.2 h.3

pub escape-cases : (P : ℕ → Type 0) → P 2 → P 3 → (start : ℕ) → IsEscape start → P start
escape-cases P two three start h = elim h [ inl c ↦ subst P (sym c) two | inr d ↦ subst P (sym d) three ]

pub escape-begins : (start : ℕ) → IsEscape start → BeginsSo (escape_of start)
escape-begins start h = escape-cases (λ q. BeginsSo (escape_of q)) literal-begins comment-begins start h

pub escape-known : (start : ℕ) → IsEscape start → known start ≡ (1, escape_of start) ∷ []
escape-known start h = escape-cases (λ q. known q ≡ (1, escape_of q) ∷ []) refl refl start h

only-kind : (r : Expression) (k : ℕ) (s : List ℕ) → Fits k ((1, r) ∷ []) s → Matches r s
only-kind r k s h = elim h [ inl a ↦ a.1 | inr b ↦ absurd b ]

-- ---- small facts on numbers and lists

even-zero : (n : ℕ) → n ≡ 0 → n % 2 ≡ 0
even-zero n e = ap (λ x. x % 2) e

odd-not : (n m : ℕ) → n % 2 ≡ 0 → m ≡ n + 1 → m % 2 ≡ 0 → ⊥
odd-not n m e f g = omega arith

even-two : (n m k : ℕ) → n % 2 ≡ 0 → m ≡ n + 1 → k ≡ m + 1 → k % 2 ≡ 0
even-two n m k e f g = omega arith

even-pair : (n m k b : ℕ) → n % 2 ≡ 0 → m ≡ n + 1 → k ≡ cond (eqb b 92) (m + 1) 0 → k % 2 ≡ 0
even-pair n m k b e f g = go (eqb b 92) g
  where
    go : (v : Bool) → k ≡ cond v (m + 1) 0 → k % 2 ≡ 0
    go true h = even-two n m k e f h
    go false h = even-zero k h

two-more : (at : ℕ) → at + 2 ≡ (at + 1) + 1
two-more at = omega arith

less-two : (at n : ℕ) → at + 2 < n → at + 1 < n
less-two at n h = omega arith

less-through : (a b c : ℕ) → a < b → b ≤ c → a < c
less-through a b c h k = omega arith

at-front : (s : List ℕ) (k : ℕ) (rest : List ℕ) → drop k s ≡ 92 ∷ rest → (k < length s) × (get_or s k 0 ≡ 92)
at-front s k rest e = elim (cases_lt k (length s)) [
  | inl inside ↦ (inside, let f = sym (drop_more s k 0 inside) ∙ e in cc)
  | inr beyond ↦ absurd (let f : [] ≡ 92 ∷ rest = sym (drop_all k s beyond) ∙ e in cc)
]

-- ---- the loop

-- Before byte `at` no escape stands that is refused, and what stands there may begin one.
pub record IsClear (escape : Expression) (s : List ℕ) (at : ℕ) : Type 0 where
  pub even : at < length s → backslashes (take at s) % 2 ≡ 0
  pub clear : (k : ℕ) → k < at → IsRefusedAt escape s k → ⊥

pub clear-init : (escape : Expression) (s : List ℕ) → IsClear escape s 0
clear-init escape s = record { even = λ h. refl; clear = λ k h r. absurd (omega arith) }

-- a backslash stands where an escape does
pub stands-backslash : (escape : Expression) (s : List ℕ) (k : ℕ) → BeginsSo escape → IsRefusedAt escape s k → (k < length s) × (get_or s k 0 ≡ 92)
stands-backslash escape s k begins r =
    let w = begins (take r.size (drop k s)) r.is in
    let whole : drop k s ≡ 92 ∷ (w.0 ++ drop r.size (drop k s)) =
    sym (take-append-drop r.size (drop k s)) ∙ ap (λ x. x ++ drop r.size (drop k s)) w.1 in
    at-front s k (w.0 ++ drop r.size (drop k s)) whole

pub clear-plain : (escape : Expression) (s : List ℕ) (at : ℕ) → BeginsSo escape → IsClear escape s at → at < length s → (get_or s at 0 ≡ 92 → ⊥)
    → IsClear escape s (at + 1)
clear-plain escape s at begins h inside other = record {
  even = λ more. even-zero (backslashes (take (at + 1) s)) (push-other (backslashes (take (at + 1) s)) (backslashes (take at s)) (get_or s at 0) (next-backslashes s at inside) other);
  clear = λ k low r. elim (cases_lt k at) [
    | inl less ↦ h.clear k less r
    | inr least ↦
        let same : k ≡ at = omega arith in
        absurd (other (subst (λ j. get_or s j 0 ≡ 92) same (stands-backslash escape s k begins r).1))
  ];
}

pub clear-pair : (escape : Expression) (s : List ℕ) (at : ℕ) → IsClear escape s at → at < length s → get_or s at 0 ≡ 92
    → (IsRefusedAt escape s at → ⊥) → IsClear escape s (at + 2)
clear-pair escape s at h inside is here =
    let n = backslashes (take at s) in
    let n_even : n % 2 ≡ 0 = h.even inside in
    let one : backslashes (take (at + 1) s) ≡ n + 1 = push-same (backslashes (take (at + 1) s)) n (get_or s at 0) (next-backslashes s at inside) is in
    record {
      even = λ more. even-pair n (backslashes (take (at + 1) s)) (backslashes (take (at + 2) s)) (get_or s (at + 1) 0) n_even one
          (ap (λ j. backslashes (take j s)) (two-more at) ∙ next-backslashes s (at + 1) (less-two at (length s) more));
      clear = λ k low r. elim (cases_lt k at) [
        | inl less ↦ h.clear k less r
        | inr least ↦ elim (cases_lt at k) [
          | inl behind ↦
              let same : k ≡ at + 1 = omega arith in
              odd-not n (backslashes (take k s)) n_even (ap (λ j. backslashes (take j s)) same ∙ one) r.eligible
          | inr first ↦
              let same : k ≡ at = omega arith in
              here (subst (λ j. IsRefusedAt escape s j) same r)
        ]
      ];
    }

-- what the automaton says of the place
pub found-none : (start : ℕ) (s : List ℕ) (at : ℕ) (r : Found) → IsEscape start
    → IsLongestOf start (take (length s - at) (drop at s)) r → r.class ≡ 0 → IsRefusedAt (escape_of start) s at → ⊥
found-none start s at r h found none refused =
    let longest = subst (λ t. IsLongestOf start t r) (take_rest s at) found in
    longest.none none refused.size 1
    (subst (λ kinds. Fits 1 kinds (take refused.size (drop at s))) (sym (escape-known start h)) (inl (refl, refused.is)))

pub clear-end : (escape : Expression) (s : List ℕ) (at : ℕ) → BeginsSo escape → IsClear escape s at → length s ≤ at → NoneRefused escape s
clear-end escape s at begins h ends k r =
    let w = stands-backslash escape s k begins r in
    h.clear k (less-through k (length s) at w.0 ends) r
