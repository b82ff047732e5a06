-- A rule stops at one leaf.
use Rattle.std.proofs.Common.{◌≡◌, ℕ, ◌+◌, ◌<◌, List, inl, inr, arith}
use Rattle.std.proofs.lemmas.Bool.{cases_order}
use Rattle.rw_grammar.specs.Parts.{Parts}
use Rattle.rw_grammar.specs.Viability.{StopsAt}

module _ (rules : ℕ → Parts) (class : ℕ → ℕ) (p : Parts) (ls : List ℕ) where
  not_before : (a b : ℕ) → StopsAt rules class p ls a → StopsAt rules class p ls b → a < b → ⊥
  not_before a b s t lt = s.further (omega (arith, t.within)) (t.viable (a + 1) (omega arith))

  pub a_rule_stops_at_one_leaf : (a b : ℕ) → StopsAt rules class p ls a → StopsAt rules class p ls b → a ≡ b
  a_rule_stops_at_one_leaf a b s t = elim (cases_order a b) [
    | inl same ↦ same
    | inr (inl less) ↦ absurd (not_before a b s t less)
    | inr (inr more) ↦ absurd (not_before b a t s more)
  ]
