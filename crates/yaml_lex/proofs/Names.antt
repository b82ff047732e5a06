-- Names of anchors.
use Rattle.std.proofs.Common.{◌≡◌, ℕ, ◌+◌, ◌-◌, List, drop, subst, arith}
use Rattle.yaml_lex.specs.Scalars.{IsRun, IsName, in_name}
use Rattle.yaml_lex.specs.Scanning.{NoName}
use Rattle.yaml_lex.proofs.RunLemmas.{run-one}

-- t is the code's text behind the mark
pub is-name : (s t : List ℕ) (n : ℕ) → t ≡ drop 1 s → IsRun in_name t n → (n ≡ 0 → ⊥) → IsName s (1 + n)
is-name s t n is run some = record {
  some = omega arith;
  run = subst (λ k. IsRun in_name (drop 1 s) k) (let e : n ≡ 1 + n - 1 = omega arith in e) (subst (λ x. IsRun in_name x n) is run);
}

pub no-name : (s t : List ℕ) (n : ℕ) → t ≡ drop 1 s → IsRun in_name t n → n ≡ 0 → NoName s
no-name s t n is run none m name =
    let e : m - 1 ≡ n = run-one in_name (drop 1 s) (m - 1) n name.run (subst (λ x. IsRun in_name x n) is run) in
    absurd (omega (arith, name.some, e, none))
