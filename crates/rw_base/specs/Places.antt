-- Places in a text: line, column and byte.
use Rattle.std.specs.Prelude.{ℕ, zero, suc, ◌+◌, ◌==◌, ◌&&◌, ◌||◌, not, nat_le, Bool, List, slice_index, if◌then◌else◌}
use Rattle.rw_base.specs.declared.place.Place.{Place}

-- Whether the byte at k ends a line: LF does, and CR where no LF follows. So CR LF ends one line, at its LF.
abbrev pub ends_line : List ℕ → ℕ → Bool
ends_line bytes k = slice_index bytes k == 10 || (slice_index bytes k == 13 && not (slice_index bytes (k + 1) == 10))

-- whether a byte goes on with a character that began before it (a UTF-8 continuation byte)
abbrev pub is_continuation : ℕ → Bool
is_continuation b = nat_le 128 b && nat_le b 191

-- the line of a place, from 1: one more than the lines that end before it
unfoldable pub line_of : List ℕ → ℕ → ℕ
line_of bytes zero = 1
line_of bytes (suc k) = if ends_line bytes k then line_of bytes k + 1 else line_of bytes k

-- the column of a place, from 1: one more than the characters that begin between the line's start and it
unfoldable pub column_of : List ℕ → ℕ → ℕ
column_of bytes zero = 1
column_of bytes (suc k) =
    if ends_line bytes k then 1
    else if is_continuation (slice_index bytes k) then column_of bytes k
    else column_of bytes k + 1

-- the place at a byte
abbrev pub place_at : List ℕ → ℕ → Place
place_at bytes at = record { line = line_of bytes at; column = column_of bytes at; byte = at }
