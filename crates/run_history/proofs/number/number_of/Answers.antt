use Rattle.std.specs.Prelude.{MatchResult, Result, Ok, Err, None, IsUtf8, Option}
use Rattle.std.specs.Option.{is_some}
use Rattle.std.specs.Result.{OkIff, is_ok, result_ok}
use Rattle.std.specs.Cmp.Lexicographic.{other_text, same_text}
use Rattle.std.proofs.Common.{◌≡◌, ℕ, ◌^◌, ◌<◌, ◌∙◌, Bor, List, Some, decimal, arith, sym, ap, true}
use Rattle.std.proofs.lemmas.Fmt.{IsAscii-decimal, decimal_injective, parse-decimal}
use Rattle.std.proofs.lemmas.Str.{IsUtf8-from_ascii}
use Rattle.run_history.proofs.number.number_of.Goals as goal

-- a decimal number is text
is_text : (text : List ℕ) (n : ℕ) → n < 2 ^ 32 → text ≡ decimal n → IsUtf8 text
is_text text n small is = rw is (IsUtf8-from_ascii (decimal n) (IsAscii-decimal n (omega arith)))

-- bytes that are text are taken as one
taken : {E : Type 0} (A B : Type 0) (Q : E → Type 0) (text : List ℕ) (r : Result (Bor (List ℕ)) E)
    (o : Option (Bor (List ℕ)))
    → MatchResult r (λ s. (s.now ≡ text) × A) (λ e. (¬ B) × Q e) → is_some o ≡ is_ok r → o ≡ None → B → ⊥
taken A B Q text (Ok x) o h told none b = let e : is_some {T = Bor (List ℕ)} None ≡ true = rw none at told in cc e
taken A B Q text (Err e) o h told none b = h.0 b

-- the text that was made of some bytes has these bytes
same_bytes : {E : Type 0} (A : Type 0) (Q : E → Type 0) (text : List ℕ) (r : Result (Bor (List ℕ)) E)
    (s : Bor (List ℕ)) → Some s ≡ result_ok r
    → MatchResult r (λ s. (s.now ≡ text) × A) Q → s.now ≡ text
same_bytes A Q text (Ok x) s e h = let same : s ≡ x = cc in rw same h.0
same_bytes A Q text (Err x) s e h = cc e

-- a number that was read
read_some : {E : Type 0} (r : Result ℕ E) (m n : ℕ) → r ≡ Ok n → Some m ≡ result_ok r → m ≡ n
read_some r m n is told = let e : Some m ≡ Some n = rw is at told in cc

none_some : (n : ℕ) → None ≡ Some n → ⊥
none_some n e = cc e

same_number : (m n : ℕ) → Some m ≡ Some n → m ≡ n
same_number m n e = cc

read_none : {E : Type 0} (r : Result ℕ E) (o : Option ℕ) (n : ℕ) → r ≡ Ok n → o ≡ result_ok r → o ≡ None → ⊥
read_none r o n is told none = let e : None ≡ Some n = rw (is, none) at told in cc

read_small : {E : Type 0} (A : Type 0) (r : Result ℕ E) (m v : ℕ) → OkIff r (A × (v < 2 ^ 32)) v
    → Some m ≡ result_ok r → m < 2 ^ 64
read_small A (Ok x) m v h told = let e : m ≡ x = cc in omega (arith, h.0.1, h.1, e)
read_small A (Err x) m v h told = cc told

pub returns-in_err-ok-clause-exact : goal.returns-in_err-ok-clause-exact
returns-in_err-ok-clause-exact c = λ n small. (
  λ e. absurd (none_some n (sym c.from_residual.ensures ∙ e)),
  λ is. absurd (taken (IsUtf8 c.args.text.now) (IsUtf8 c.args.text.now) _ c.args.text.now c.from_utf8.result c.ok.result c.from_utf8.ensures.cases
      c.ok.ensures.variant c.in_err-ok.was (is_text c.args.text.now n small is)),
)

pub returns-in_err-number-clause-exact : goal.returns-in_err-number-clause-exact
returns-in_err-number-clause-exact c = λ n small. (
  λ e. absurd (none_some n (sym c.from_residual-in_err-number.ensures ∙ e)),
  λ is.
      let same = same_bytes (IsUtf8 c.args.text.now) _ c.args.text.now c.from_utf8.result c.in_ok-ok.field-0 c.in_ok-ok.ensures.value c.from_utf8.ensures.cases in
      let read = parse-decimal 32 n c.in_ok-ok.field-0.now c.parse.result small (omega arith) (same ∙ is) c.parse.ensures.value.0 in
      absurd (read_none c.parse.result c.ok-2.result n read c.ok-2.ensures.value c.in_err-number.was),
)

pub returns-then-eq-clause-exact : goal.returns-then-eq-clause-exact
returns-then-eq-clause-exact c = λ n small.
    let text : c.args.text.now ≡ decimal c.in_ok-number.number = sym (same_text c.as_bytes.result.now c.args.text.now (sym c.if-eq.true ∙ c.eq.ensures)) ∙ c.as_bytes.ensures.value ∙ c.format.ensures.text in
    let fits = read_small _ c.parse.result c.in_ok-number.number _ c.parse.ensures.value.0 c.in_ok-number.ensures.value in (
      λ e. text ∙ ap decimal (same_number c.in_ok-number.number n e),
      λ is. ap Some (decimal_injective c.in_ok-number.number n fits (omega arith) (sym text ∙ is)),
    )

pub returns-else-eq-clause-exact : goal.returns-else-eq-clause-exact
returns-else-eq-clause-exact c = λ n small. (
  λ e. absurd (none_some n e),
  λ is.
      let same = same_bytes (IsUtf8 c.args.text.now) _ c.args.text.now c.from_utf8.result c.in_ok-ok.field-0 c.in_ok-ok.ensures.value c.from_utf8.ensures.cases in
      let read = parse-decimal 32 n c.in_ok-ok.field-0.now c.parse.result small (omega arith) (same ∙ is) c.parse.ensures.value.0 in
      let number = read_some c.parse.result c.in_ok-number.number n read c.in_ok-number.ensures.value in
      let text : c.as_bytes.result.now ≡ c.args.text.now = c.as_bytes.ensures.value ∙ c.format.ensures.text ∙ ap decimal number ∙ sym is in
      absurd (other_text c.as_bytes.result.now c.args.text.now (sym c.if-eq.false ∙ c.eq.ensures) text),
)
