-- There is one longest front.
use Rattle.std.proofs.Common.{◌≡◌, ℕ, ◌+◌, ◌-◌, ◌<◌, ◌≤◌, List, ◌++◌, take, drop, ap, subst, ◌∙◌}
use Rattle.std.proofs.Common.{arith, inl, inr, append_assoc}
use Rattle.std.proofs.lemmas.Bool.{cases_order}
use Rattle.std.proofs.Math.Seq.{take-add}
use Rattle.rw_base.specs.Fronts.{Form, BeginsSome, IsLongestFront}

module _ {X : Type 0} (form : Form X) (bytes : List ℕ) where
  -- a front of bytes that begin some text of a form begins it too
  pub shorter_begins : (m n : ℕ) → m ≤ n → BeginsSome form (take n bytes) → BeginsSome form (take m bytes)
  shorter_begins m n le b =
      let x = b.0 in
      let rest = b.1.0 in
      let more = take (n - m) (drop m bytes) in
      let whole : n ≡ m + (n - m) = omega arith in
      let split : take n bytes ++ rest ≡ take m bytes ++ (more ++ rest) =
      ap (λ w. w ++ rest) (ap (λ k. take k bytes) whole ∙ take-add m (n - m) bytes)
      ∙ append_assoc (take m bytes) more rest in
      (x, (more ++ rest, subst (form x) split b.1.1))

  not_before : (m n : ℕ) → IsLongestFront form bytes m → IsLongestFront form bytes n → m < n → ⊥
  not_before m n a b lt = a.ends (omega (arith, b.within)) (shorter_begins (m + 1) n (omega arith) b.begins)

  pub longest_front_is_one : (m n : ℕ) → IsLongestFront form bytes m → IsLongestFront form bytes n → m ≡ n
  longest_front_is_one m n a b = elim (cases_order m n) [
    | inl same ↦ same
    | inr o ↦ elim o [ inl lt ↦ absurd (not_before m n a b lt) | inr gt ↦ absurd (not_before n m b a gt) ]
  ]
