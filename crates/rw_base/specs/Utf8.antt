-- Files whose text is UTF-8: how far it is, and where it begins.
use Rattle.std.specs.Prelude.{ℕ, ◌==◌, ◌&&◌, Bool, nat_lt, List, length, take, drop, slice_index, if◌then◌else◌}
use Rattle.std.specs.Str.Lossy.{utf8_valid_len}

-- the longest front that is UTF-8
abbrev pub utf8_front : List ℕ → List ℕ
utf8_front bytes = take (utf8_valid_len bytes) bytes

-- bytes follow it that aren't
abbrev pub is_broken : List ℕ → Bool
is_broken bytes = nat_lt (utf8_valid_len bytes) (length bytes)

-- the bytes of the byte order mark that a text begins with
abbrev pub mark_size : List ℕ → ℕ
mark_size s = if (slice_index s 0 == 239) && (slice_index s 1 == 187) && (slice_index s 2 == 191) then 3 else 0

-- the text behind the byte order mark
abbrev pub behind_mark : List ℕ → List ℕ
behind_mark s = drop (mark_size s) s
