-- What holds of the images of each such store, as the trait asks.
use Rattle.std.proofs.Common.{inl, inr, arith}
use Rattle.std.specs.Prelude.{ℕ, ◌<◌, ◌≤◌, List, [], ◌∷◌, length, refl}
use Rattle.rw_host.specs.Files.{Files}
use Rattle.memory_stores.specs.Images.{Moment, IsImage, LeftBy}

-- what is left is of a moment that was there
left_early : (ms : List Moment) (t : ℕ) (c : Files) → LeftBy ms t c → t < length ms
left_early [] t c left = absurd left
left_early (m ∷ ms) t c (inl is) = omega (arith, is.0)
left_early (m ∷ ms) t c (inr left) = omega (arith, left_early ms t c left)

pub left_now : (m : Moment) (ms : List Moment) (c : Files) → LeftBy (m ∷ ms) (length ms) c → IsImage m c
left_now m ms c (inl is) = is.1
left_now m ms c (inr left) = absurd (omega (arith, left_early ms (length ms) c left))

pub now_counts : (m : Moment) (ms : List Moment) (t : ℕ) (c : Files) → t ≤ length ms → IsImage m c
    → LeftBy (m ∷ ms) t c
now_counts m ms t c le is = inl (le, is)

pub reads_left : (m : Moment) → IsImage m m.files
reads_left m path synced = refl
