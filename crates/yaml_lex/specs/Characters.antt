-- Characters that YAML treats in a way of their own (YAML 1.2, chapter 5), and what stands at the front of a text.
use Rattle.std.specs.Prelude.{ℕ, ◌==◌, ◌&&◌, ◌||◌, nat_le, Bool, true, false, List, [], ◌∷◌}

-- LF or CR
abbrev pub is_line_end : ℕ → Bool
is_line_end b = (b == 10) || (b == 13)

-- space or tab; a form feed is an ordinary character
abbrev pub is_blank : ℕ → Bool
is_blank b = (b == 32) || (b == 9)

abbrev pub is_white : ℕ → Bool
is_white b = is_blank b || is_line_end b

-- the signs of flow collections: , [ ] { }
unfoldable pub is_flow_sign : ℕ → Bool
is_flow_sign b = (b == 44) || (b == 91) || (b == 93) || (b == 123) || (b == 125)

-- characters with which no plain scalar begins: those five, # & * ! | > ' " % @ and the grave accent
unfoldable pub is_indicator : ℕ → Bool
is_indicator b =
    is_flow_sign b || (b == 35) || (b == 38) || (b == 42) || (b == 33) || (b == 124) || (b == 62) || (b == 39)
    || (b == 34) || (b == 37) || (b == 64) || (b == 96)

-- characters with which one begins only where more stands behind them: - ? :
abbrev pub needs_more : ℕ → Bool
needs_more b = (b == 45) || (b == 63) || (b == 58)

-- what an anchor or an alias begins with: & *
abbrev pub is_name_mark : ℕ → Bool
is_name_mark b = (b == 38) || (b == 42)

-- what a block scalar begins with: | >
abbrev pub is_block_mark : ℕ → Bool
is_block_mark b = (b == 124) || (b == 62)

-- ' "
abbrev pub is_quote : ℕ → Bool
is_quote b = (b == 39) || (b == 34)

-- a byte of UTF-8 that goes on with a character which began before it
abbrev pub is_continuation : ℕ → Bool
is_continuation b = nat_le 128 b && nat_le b 191

-- a test of the first byte, where there is one
abbrev pub begins : (ℕ → Bool) → List ℕ → Bool
begins p [] = false
begins p (b ∷ rest) = p b

-- a blank, a line end or the end stands here
abbrev pub is_gap : List ℕ → Bool
is_gap [] = true
is_gap (b ∷ rest) = is_white b

-- `:` before a blank, a line end or the end
abbrev pub is_colon_gap : List ℕ → Bool
is_colon_gap [] = false
is_colon_gap (b ∷ rest) = (b == 58) && is_gap rest

-- blanks, and then such a `:`
abbrev pub is_key_end : List ℕ → Bool
is_key_end [] = false
is_key_end (b ∷ rest) = is_colon_gap (b ∷ rest) || (is_blank b && is_key_end rest)

-- nothing but blanks, and perhaps a comment, is left of the line
abbrev pub is_line_over : List ℕ → Bool
is_line_over [] = true
is_line_over (b ∷ rest) = is_line_end b || (b == 35) || (is_blank b && is_line_over rest)
