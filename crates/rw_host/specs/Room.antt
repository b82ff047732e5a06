-- The room of a vector.
use Rattle.std.specs.Prelude.{ℕ, ◌-◌, Vec, vec_capacity, vec_len}

-- how many items more a vector takes before it needs memory
abbrev pub room_of : {X Z : Type 0} → Vec X Z → ℕ
room_of v = vec_capacity v - vec_len v
