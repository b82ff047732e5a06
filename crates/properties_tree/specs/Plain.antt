-- Characters that stand for themselves, as the crate's loops pass over them. No public clause stands on this.
use Rattle.std.specs.Prelude.{ℕ, Bool, not, ◌||◌, ◌==◌, List}
use Rattle.std.specs.List.{list_any}
use Rattle.properties_tree.specs.Characters.{is_line_end, ends_key, backslash}

-- whether a backslash stands in a text
abbrev pub has_backslash : List ℕ → Bool
has_backslash s = list_any (λ b. b == 92) s

-- a character of a logical line that stands for itself, and one of a key that doesn't end it
abbrev pub is_plain : ℕ → Bool
is_plain b = not (is_line_end b || b == backslash)

abbrev pub is_plain_in_key : ℕ → Bool
is_plain_in_key b = not (is_line_end b || b == backslash || ends_key b)
