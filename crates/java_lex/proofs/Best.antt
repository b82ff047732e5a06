-- The longest text so far, as the automaton goes over a text.
use Rattle.std.proofs.Common.{◌≡◌, ℕ, suc, ◌+◌, ◌-◌, ◌<◌, ◌≤◌, inl, inr, true, false, List, [], ◌∷◌, ◌++◌, length, take, drop, get_or, refl, sym, ◌∙◌, ap, subst, arith, append_assoc}
use Rattle.std.proofs.lemmas.Bool.{cases_lt}
use Rattle.std.proofs.lemmas.List.{take_more, take_all, take-append-drop, append-nil}
use Rattle.std.proofs.Math.Seq.{take-add, take-length}
use Rattle.java_lex.specs.Kinds.{Fits}
use Rattle.java_lex.specs.Scanning.{IsStart, IsLongestOf, known, next_state, state_class}
use Rattle.java_lex.proofs.Derivatives.{step, after}
use Rattle.java_lex.proofs.States.{meaning, dead_is, leaf_is, literal_is, comment_is, starts_empty}
use Rattle.java_lex.proofs.Runs.{after-to, after-from, after-push, next-right, next-inside, class-none, class-is, state-goes_on}

zero-of : (m : ℕ) → m ≤ 0 → m ≡ 0
zero-of m h = omega arith

elim-cons : (n : ℕ) → suc n ≤ 0 → ⊥
elim-cons n h = omega arith

nil-of : (s : List ℕ) → length s ≤ 0 → s ≡ []
nil-of [] h = refl
nil-of (b ∷ s) h = absurd (elim-cons (length s) h)

-- Behind the first `at` bytes the automaton is in this state, and the longest text among the fronts up to there has this
-- class and size.
pub record IsBest (start : ℕ) (s : List ℕ) (at state class size : ℕ) : Type 0 where
  pub state_in : state < 109
  pub alive : state ≡ 0 → ⊥
  pub leads : after (take at s) (known start) ≡ meaning state
  pub inside : size ≤ at
  pub none : class ≡ 0 → size ≡ 0
  pub is : (class ≡ 0 → ⊥) → Fits class (known start) (take size s)
  pub above : (m k : ℕ) → size < m → m ≤ at → Fits k (known start) (take m s) → ⊥

start-cases : (P : ℕ → Type 0) → P 1 → P 2 → P 3 → (start : ℕ) → IsStart start → P start
start-cases P one two three start h = elim h [
  | inl a ↦ subst P (sym a) one
  | inr b ↦ elim b [ inl c ↦ subst P (sym c) two | inr d ↦ subst P (sym d) three ]
]

start-meaning : (start : ℕ) → IsStart start → known start ≡ meaning start
start-meaning start h = start-cases (λ q. known q ≡ meaning q) (sym leaf_is) (sym literal_is) (sym comment_is) start h

start-class : (start : ℕ) → IsStart start → state_class start ≡ 0
start-class start h = start-cases (λ q. state_class q ≡ 0) starts_empty.0 starts_empty.1 starts_empty.2 start h

start-bounds : (start : ℕ) → IsStart start → (0 < start) × (start < 4)
start-bounds start h = start-cases (λ q. (0 < q) × (q < 4)) (omega arith, omega arith) (omega arith, omega arith) (omega arith, omega arith) start h

-- the empty text is none of those that are known
pub start-empty : (start k : ℕ) → IsStart start → Fits k (known start) [] → ⊥
start-empty start k h fits =
    let w = start-bounds start h in
    class-none start k (omega arith) (start-class start h) (subst (λ kinds. Fits k kinds []) (start-meaning start h) fits)

pub best-init : (start : ℕ) (s : List ℕ) → IsStart start → IsBest start s 0 start 0 0
best-init start s h =
    let w = start-bounds start h in
    record {
      state_in = omega arith;
      alive = λ e. omega arith;
      leads = start-meaning start h;
      inside = omega arith;
      none = λ e. refl;
      is = λ z. absurd (z refl);
      above = λ m k low high fits. omega arith;
    }

-- a text that goes on behind its first bytes
sum-is : (i m : ℕ) → i ≤ m → m ≡ i + (m - i)
sum-is i m h = omega arith

pub behind-front : (s : List ℕ) (i m : ℕ) → i ≤ m → take m s ≡ take i s ++ take (m - i) (drop i s)
behind-front s i m h = ap (λ n. take n s) (sum-is i m h) ∙ take-add i (m - i) s

leads-next : (start : ℕ) (s : List ℕ) (at state : ℕ) → at < length s → state < 109 → get_or s at 0 < 256
    → after (take at s) (known start) ≡ meaning state
    → after (take (at + 1) s) (known start) ≡ meaning (next_state state (get_or s at 0))
leads-next start s at state inside state_in fits leads =
    let b = get_or s at 0 in
    let cut : take (at + 1) s ≡ take at s ++ b ∷ [] = take_more s at 0 inside in
    ap (λ t. after t (known start)) cut ∙ after-push (take at s) b (known start) ∙ ap (λ kinds. step b kinds) leads ∙ next-right state b state_in fits

fits-whole : (start : ℕ) (s : List ℕ) (n k : ℕ) → Fits k (after (take n s) (known start)) [] → Fits k (known start) (take n s)
fits-whole start s n k h = subst (λ t. Fits k (known start) t) (append-nil (take n s)) (after-from (take n s) k (known start) [] h)

after-whole : (start : ℕ) (s : List ℕ) (n k : ℕ) → Fits k (known start) (take n s) → Fits k (after (take n s) (known start)) []
after-whole start s n k h = after-to (take n s) k (known start) [] (subst (λ t. Fits k (known start) t) (sym (append-nil (take n s))) h)

h-inside-more : (size at : ℕ) → size ≤ at → size ≤ at + 1
h-inside-more size at h = omega arith

-- where the next state has a class, the text up to there is the longest so far
pub best-longer : (start : ℕ) (s : List ℕ) (at state class size : ℕ) → IsBest start s at state class size → at < length s → get_or s at 0 < 256
    → (next_state state (get_or s at 0) ≡ 0 → ⊥) → (state_class (next_state state (get_or s at 0)) ≡ 0 → ⊥)
    → IsBest start s (at + 1) (next_state state (get_or s at 0)) (state_class (next_state state (get_or s at 0))) (at + 1)
best-longer start s at state class size h inside fits alive some =
    let q = next_state state (get_or s at 0) in
    let leads = leads-next start s at state inside h.state_in fits h.leads in
    let here = class-is q (next-inside state (get_or s at 0) h.state_in fits) some in
    record {
      state_in = next-inside state (get_or s at 0) h.state_in fits;
      alive = alive;
      leads = leads;
      inside = omega arith;
      none = λ e. absurd (some e);
      is = λ z. fits-whole start s (at + 1) (state_class q) (subst (λ kinds. Fits (state_class q) kinds []) (sym leads) here);
      above = λ m k low high fit. absurd (omega arith);
    }

-- where it has none, the longest so far stays
pub best-stays : (start : ℕ) (s : List ℕ) (at state class size : ℕ) → IsBest start s at state class size → at < length s → get_or s at 0 < 256
    → (next_state state (get_or s at 0) ≡ 0 → ⊥) → state_class (next_state state (get_or s at 0)) ≡ 0
    → IsBest start s (at + 1) (next_state state (get_or s at 0)) class size
best-stays start s at state class size h inside fits alive none_here =
    let q = next_state state (get_or s at 0) in
    let leads = leads-next start s at state inside h.state_in fits h.leads in
    let q_in = next-inside state (get_or s at 0) h.state_in fits in
    record {
      state_in = q_in;
      alive = alive;
      leads = leads;
      inside = h-inside-more size at h.inside;
      none = h.none;
      is = h.is;
      above = λ m k low high fit. elim (cases_lt at m) [
        | inl more ↦
            let whole : m ≡ at + 1 = omega arith in
            let fit_here = subst (λ j. Fits k (known start) (take j s)) whole fit in
            class-none q k q_in none_here (subst (λ kinds. Fits k kinds []) leads (after-whole start s (at + 1) k fit_here))
        | inr less ↦ h.above m k low less fit
      ];
    }

-- ---- at the end

≤-through : (a b c : ℕ) → a ≤ b → b < c → a ≤ c
≤-through a b c h k = omega arith

≤-through-eq : (a b c : ℕ) → a ≤ b → b ≡ c → a ≤ c
≤-through-eq a b c h k = omega arith

-- where no text of more than 0 bytes is known, none is
none-known : (start : ℕ) (s : List ℕ) (size : ℕ) → IsStart start → size ≡ 0
    → ((m k : ℕ) → size < m → m ≤ length s → Fits k (known start) (take m s) → ⊥) → (m k : ℕ) → Fits k (known start) (take m s) → ⊥
none-known start s size starts z above m k fit = elim (cases_lt 0 m) [
  | inr none_left ↦ start-empty start k starts (subst (λ j. Fits k (known start) (take j s)) (zero-of m none_left) fit)
  | inl some ↦ elim (cases_lt (length s) m) [
    | inr within ↦ above m k (omega arith) within fit
    | inl beyond ↦ elim (cases_lt 0 (length s)) [
      | inl some_s ↦ above (length s) k (omega arith) (omega arith) (subst (λ t. Fits k (known start) t) (take_all m s (omega arith) ∙ sym (take-length s)) fit)
      | inr empty_s ↦ start-empty start k starts (subst (λ t. Fits k (known start) t) (take_all m s (omega arith) ∙ nil-of s empty_s) fit)
    ]
  ]
]

-- the next state is dead: nothing longer is known
pub best-dead : (start : ℕ) (s : List ℕ) (at state class size : ℕ) → IsStart start → IsBest start s at state class size → at < length s
    → get_or s at 0 < 256 → next_state state (get_or s at 0) ≡ 0
    → IsLongestOf start s (record { class = class; size = size; «open» = false })
best-dead start s at state class size starts h inside fits dead =
    let leads : after (take (at + 1) s) (known start) ≡ [] =
    leads-next start s at state inside h.state_in fits h.leads ∙ ap (λ q. meaning q) dead ∙ dead_is in
    let past : (k : ℕ) (t rest : List ℕ) → t ≡ take (at + 1) s ++ rest → Fits k (known start) t → ⊥ =
    λ (k : ℕ) (t : List ℕ) (rest : List ℕ) (e : t ≡ take (at + 1) s ++ rest) (fit : Fits k (known start) t).
    subst (λ kinds. Fits k kinds rest) leads (after-to (take (at + 1) s) k (known start) rest (subst (λ x. Fits k (known start) x) e fit)) in
    let above : (m k : ℕ) → size < m → m ≤ length s → Fits k (known start) (take m s) → ⊥ =
    λ (m : ℕ) (k : ℕ) (low : size < m) (high : m ≤ length s) (fit : Fits k (known start) (take m s)). elim (cases_lt at m) [
      | inl more ↦ past k (take m s) (take (m - (at + 1)) (drop (at + 1) s)) (behind-front s (at + 1) m (omega arith)) fit
      | inr less ↦ h.above m k low less fit
    ] in
    record {
      inside = ≤-through size at (length s) h.inside inside;
      is = h.is;
      longest = above;
      none = λ z m k fit. none-known start s size starts (h.none z) above m k fit;
      open_ = λ e. absurd (let f : false ≡ true = e in cc);
      closed = λ e more k fit. past k (s ++ more) (drop (at + 1) s ++ more)
          (ap (λ x. x ++ more) (sym (take-append-drop (at + 1) s)) ∙ append_assoc (take (at + 1) s) (drop (at + 1) s) more) fit;
    }

-- the text ends
pub best-end : (start : ℕ) (s : List ℕ) (at state class size : ℕ) → IsStart start → IsBest start s at state class size → at ≡ length s
    → IsLongestOf start s (record { class = class; size = size; «open» = true })
best-end start s at state class size starts h ends =
    let above : (m k : ℕ) → size < m → m ≤ length s → Fits k (known start) (take m s) → ⊥ =
    λ (m : ℕ) (k : ℕ) (low : size < m) (high : m ≤ length s) (fit : Fits k (known start) (take m s)). h.above m k low (omega arith) fit in
    let w = state-goes_on state h.state_in h.alive in
    let whole : take at s ≡ s = ap (λ n. take n s) ends ∙ take-length s in
    record {
      inside = ≤-through-eq size at (length s) h.inside ends;
      is = h.is;
      longest = above;
      none = λ z m k fit. none-known start s size starts (h.none z) above m k fit;
      open_ = λ e. (w.0, w.1, after-from s w.1 (known start) w.0 (subst (λ kinds. Fits w.1 kinds w.0) (sym h.leads ∙ ap (λ t. after t (known start)) whole) w.2));
      closed = λ e. absurd (let f : true ≡ false = e in cc);
    }

-- ---- the same in the code's words

pub turn-longer : (start : ℕ) (s : List ℕ) (at state class size q found c z : ℕ) → IsBest start s at state class size → at < length s → get_or s at 0 < 256
    → q ≡ next_state state (get_or s at 0) → (q ≡ 0 → ⊥) → found ≡ state_class q → (found ≡ 0 → ⊥) → c ≡ found → z ≡ at + 1
    → IsBest start s (at + 1) q c z
turn-longer start s at state class size q found c z h inside fits q_is alive found_is some c_is z_is =
    let f_is : found ≡ state_class (next_state state (get_or s at 0)) = found_is ∙ ap (λ x. state_class x) q_is in
    let done = best-longer start s at state class size h inside fits (λ e. alive (q_is ∙ e)) (λ e. some (f_is ∙ e)) in
    subst (λ x. IsBest start s (at + 1) q c x) (sym z_is)
    (subst (λ x. IsBest start s (at + 1) q x (at + 1)) (sym (c_is ∙ f_is))
    (subst (λ x. IsBest start s (at + 1) x (state_class (next_state state (get_or s at 0))) (at + 1)) (sym q_is) done))

pub turn-stays : (start : ℕ) (s : List ℕ) (at state class size q found c z : ℕ) → IsBest start s at state class size → at < length s → get_or s at 0 < 256
    → q ≡ next_state state (get_or s at 0) → (q ≡ 0 → ⊥) → found ≡ state_class q → found ≡ 0 → c ≡ class → z ≡ size
    → IsBest start s (at + 1) q c z
turn-stays start s at state class size q found c z h inside fits q_is alive found_is none c_is z_is =
    let f_is : found ≡ state_class (next_state state (get_or s at 0)) = found_is ∙ ap (λ x. state_class x) q_is in
    let done = best-stays start s at state class size h inside fits (λ e. alive (q_is ∙ e)) (sym f_is ∙ none) in
    subst (λ x. IsBest start s (at + 1) q c x) (sym z_is)
    (subst (λ x. IsBest start s (at + 1) q x size) (sym c_is)
    (subst (λ x. IsBest start s (at + 1) x class size) (sym q_is) done))
