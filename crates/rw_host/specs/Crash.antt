-- What a crash may leave of a store, at each moment.
--
-- A crash leaves one of the store's images. Moments are numbered, so that a clause can speak of a crash at any moment
-- since a call began, inside of the call too: `since t` holds of what a crash at some moment from t on might have left.
use Rattle.std.specs.Prelude.{◌≡◌, ◌⊎◌, ℕ, ◌≤◌}
use Rattle.rw_host.specs.Files.{Files}

abbrev pub Images : Type 1
Images = Files → Type 0

-- One call goes by. A crash since t may leave what it might have left before the call, or what it may leave now, and
-- nothing else. Each image now is one from before the call after the step.
pub record Goes (before now : ℕ) (past since : ℕ → Images) (images_before images : Images)
    (step : Files → Files → Type 0) : Type 0 where
  pub later : before ≤ now
  pub nothing_else : (t : ℕ) (c : Files) → t ≤ before → since t c → past t c ⊎ images c
  pub keeps : (t : ℕ) (c : Files) → t ≤ before → past t c → since t c
  pub follows : (c : Files) → images c → (d : Files) × (images_before d × step d c)

-- From an old store to a new one: a crash at any moment since the old one leaves what has P, and one at this moment
-- what has Q.
pub record Leaves {S : Type 0} (moment : S → ℕ) (left_since : S → ℕ → Images) (image : S → Images) (old new : S)
    (P Q : Images) : Type 0 where
  pub later : moment old ≤ moment new
  pub each : (c : Files) → left_since new (moment old) c → P c
  pub before : (t : ℕ) (c : Files) → t ≤ moment old → left_since new t c → left_since old t c ⊎ P c
  pub now : (c : Files) → image new c → Q c

-- no step at all
abbrev pub Same : Files → Files → Type 0
Same d c = c ≡ d

-- a crash leaves these files and no others
abbrev pub Only : Files → Images → Type 0
Only files images = (c : Files) → images c → c ≡ files
