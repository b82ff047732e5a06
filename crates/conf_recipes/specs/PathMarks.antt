-- Places of a text, or of parts, marked where the rest of a pattern may begin. No public clause stands on this.
use Rattle.std.specs.Prelude.{ℕ, ◌==◌, ◌&&◌, ◌||◌, Bool, false, not, List, [], ◌∷◌, if◌then◌else◌}
use Rattle.conf_recipes.specs.PathPatterns.{is_continuation, stands_for_parts, part_matches}

-- whether what is left at some marked place passes a test
unfoldable pub some_marked : {A : Type 0} → (List A → Bool) → List Bool → List A → Bool
some_marked test [] xs = false
some_marked test (m ∷ ms) [] = m && test []
some_marked test (m ∷ ms) (x ∷ xs) = (m && test (x ∷ xs)) || some_marked test ms xs

-- A place is marked behind what a byte of a pattern stands for, by whether it was, and by what was carried to it; and
-- what is carried on to the next place, behind this byte of the text.
abbrev pub byte_here : ℕ → ℕ → Bool → Bool → Bool
byte_here p b was carried =
    if p == 42 then was || carried
    else if p == 63 then carried && not (is_continuation b)
    else carried

abbrev pub byte_carries : ℕ → ℕ → Bool → Bool → Bool
byte_carries p b was carried =
    if p == 42 then was || carried
    else if p == 63 then was || (carried && is_continuation b)
    else p == b && was

-- the same at the end of the text
abbrev pub byte_last : ℕ → Bool → Bool → Bool
byte_last p was carried = if p == 42 then was || carried else carried

-- the same for a part of a pattern and parts
abbrev pub part_here : List ℕ → Bool → Bool → Bool
part_here p was carried = if stands_for_parts p then was || carried else carried

abbrev pub part_carries : List ℕ → List ℕ → Bool → Bool → Bool
part_carries p part was carried = if stands_for_parts p then was || carried else was && part_matches p part
