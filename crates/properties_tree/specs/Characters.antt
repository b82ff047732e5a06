-- The characters that mean something in a properties file, as `java.util.Properties` names them.
use Rattle.std.specs.Prelude.{ℕ, Bool, ◌||◌, ◌==◌}

-- LF or CR
abbrev pub is_line_end : ℕ → Bool
is_line_end b = b == 10 || b == 13

-- space, tab or form feed
abbrev pub is_blank : ℕ → Bool
is_blank b = b == 32 || b == 9 || b == 12

-- `#` or `!`, which make a line a comment
abbrev pub is_comment_mark : ℕ → Bool
is_comment_mark b = b == 35 || b == 33

-- `=` or `:`
abbrev pub is_separator : ℕ → Bool
is_separator b = b == 61 || b == 58

-- what ends a key where no backslash stands before it
abbrev pub ends_key : ℕ → Bool
ends_key b = is_separator b || is_blank b

-- the backslash
abbrev pub backslash : ℕ
backslash = 92
