-- Worlds that answer alike.
use Rattle.std.proofs.Common.{◌≡◌, ℕ, List}
use Rattle.jtypes.specs.World.{World}
use Rattle.jtypes.specs.declared.ask.Ask.{Ask}
use Rattle.jtypes.specs.declared.ask.Ask.TheVariants.{Class, Field, Methods}

pub worlds_same : (w v : World) → ((n : List ℕ) → w (Class n) ≡ v (Class n))
    → ((o n : List ℕ) → w (Field o n) ≡ v (Field o n)) → ((o n : List ℕ) → w (Methods o n) ≡ v (Methods o n)) → w ≡ v
worlds_same w v f g h = λ i q. answers q i
  where
    answers : (q : Ask) → w q ≡ v q
    answers (Class n) = f n
    answers (Field o n) = g o n
    answers (Methods o n) = h o n
