-- Shapes of a grammar as lists: what stands one behind another.
use Rattle.std.specs.Prelude.{ℕ, zero, suc, List, slice_index_or}

-- A list of shapes. A sequence within it is part of the list.
pub data Parts : Type 0 where
  end : Parts
  -- a leaf of a class, what a rule stands for, one of the alternatives, an option, a repetition; and then the others
  one : ℕ → Parts → Parts
  rule : ℕ → Parts → Parts
  choice : Parts → Parts → Parts
  opt : Parts → Parts → Parts
  many : Parts → Parts → Parts
  -- an alternative, and those behind it; it stands in a choice alone
  or : Parts → Parts → Parts

-- the alternative at a position. Alternatives are told apart by their positions.
pub data IsAt : ℕ → Parts → Parts → Type 0 where
  here : {y x : Parts} → IsAt zero y (or y x)
  past : {i : ℕ} {y z x : Parts} → IsAt i y x → IsAt (suc i) y (or z x)

-- these shapes stand somewhere in those
pub data Within (q : Parts) : Parts → Type 0 where
  at : Within q q
  behind-one : {c : ℕ} {a : Parts} → Within q a → Within q (one c a)
  behind-rule : {r : ℕ} {a : Parts} → Within q a → Within q (rule r a)
  in-choice : {x a : Parts} → Within q x → Within q (choice x a)
  behind-choice : {x a : Parts} → Within q a → Within q (choice x a)
  in-opt : {x a : Parts} → Within q x → Within q (opt x a)
  behind-opt : {x a : Parts} → Within q a → Within q (opt x a)
  in-many : {x a : Parts} → Within q x → Within q (many x a)
  behind-many : {x a : Parts} → Within q a → Within q (many x a)
  in-or : {y x : Parts} → Within q y → Within q (or y x)
  behind-or : {y x : Parts} → Within q x → Within q (or y x)

-- The rule of a number. One that isn't there begins with nothing and isn't empty: a choice without alternatives.
abbrev pub no_rule : Parts
no_rule = choice end end

abbrev pub rule_of : List Parts → ℕ → Parts
rule_of rules r = slice_index_or rules r no_rule
