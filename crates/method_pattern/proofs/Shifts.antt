-- Faults in texts behind some bytes.
use Rattle.std.proofs.Common.{◌≡◌, ℕ, ◌+◌, refl}
use Rattle.method_pattern.specs.declared.fault.PatternFault.{PatternFault}
use Rattle.method_pattern.specs.declared.fault.PatternFault.TheVariants.{At, NoMemory}
use Rattle.method_pattern.specs.Reading.{behind}

-- where a fault behind some bytes has a place, so has the fault there
pub shifted : (by n : ℕ) (fault r : PatternFault) → r ≡ behind by fault → r ≡ At n
    → (m : ℕ) × ((fault ≡ At m) × (by + m ≡ n))
shifted by n (At m) r is e = (m, (refl, (cc)))
shifted by n NoMemory r is e = absurd (cc)
