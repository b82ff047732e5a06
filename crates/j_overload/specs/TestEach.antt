-- Rules that make a test of each thing of a list, whatever the other tests give.
use Rattle.std.specs.Prelude.{List, [], ◌∷◌, Bool, if◌then◌else◌}
use Rattle.std.specs.List.{list_all}
use Rattle.dialogue.specs.Dialogue.{done, bind, each}
use Rattle.jtypes.specs.World.{Rule}

-- whether all of them pass
abbrev pub all_of : {A : Type 0} → (A → Rule Bool) → List A → Rule Bool
all_of test xs = bind (each test xs) (λ passed. done (list_all (λ b. b) passed))

-- those that pass
abbrev pub those : {A : Type 0} → (A → Rule Bool) → List A → Rule (List A)
those test [] = done []
those test (x ∷ xs) = bind (test x) (λ passes. bind (those test xs) (λ ys. done (if passes then x ∷ ys else ys)))
