-- What a leaf depends on beside the text that is left: where it stands on its line, the brackets that are open, and
-- the leaf before it (YAML 1.2, chapters 6.1 and 7.4: indentation, and flow inside brackets).
use Rattle.std.specs.Prelude.{ℕ, ◌+◌, ◌-◌, ◌==◌, ◌&&◌, ◌||◌, nat_lt, Bool, true, false, List, [], ◌∷◌, if◌then◌else◌}
use Rattle.yaml_lex.specs.declared.context.Context.{Context}
use Rattle.yaml_lex.specs.declared.context.Previous.{Previous}
use Rattle.yaml_lex.specs.declared.context.Previous.TheVariants as previous
use Rattle.yaml_lex.specs.declared.class.TheConstants.{KEY, FSCALAR, ANCHOR, BRACKET_OPEN, BRACKET_CLOSE, BRACE_OPEN}
use Rattle.yaml_lex.specs.declared.class.TheConstants.{BRACE_CLOSE}
use Rattle.yaml_lex.specs.Characters.{is_line_end, is_blank, is_quote, is_continuation, begins}

-- at the start of a text, and behind a byte order mark: no column counts the mark, and a `#` begins a comment
abbrev pub start : Context
start = record {
  column = 0;
  first = true;
  spaced = true;
  anchored = false;
  depth = 0;
  previous = previous.Other;
}

-- Behind one more byte: after a line end at the start of a line, else one column further, where a character begins.
unfoldable pub past_byte : Context → ℕ → Context
past_byte p b =
    if is_line_end b
    then record {
      column = 0;
      first = true;
      spaced = true;
      anchored = false;
      depth = p.depth;
      previous = p.previous;
    }
    else record {
      column = if is_continuation b then p.column else p.column + 1;
      first = p.first;
      spaced = is_blank b;
      anchored = p.anchored;
      depth = p.depth;
      previous = p.previous;
    }

-- behind a text
abbrev pub past : Context → List ℕ → Context
past p [] = p
past p (b ∷ rest) = past (past_byte p b) rest

-- flow context holds inside brackets, block context outside of them
abbrev pub in_flow : Context → Bool
in_flow p = nat_lt 0 p.depth

abbrev pub depth_behind : ℕ → ℕ → ℕ
depth_behind class depth =
    if (class == BRACKET_OPEN) || (class == BRACE_OPEN) then depth + 1
    else if (class == BRACKET_CLOSE) || (class == BRACE_CLOSE) then depth - 1
    else depth

-- what the next leaf sees of a leaf of this class, with which the text s begins
abbrev pub seen_as : ℕ → List ℕ → Previous
seen_as class s =
    if class == KEY then previous.Key
    else if (class == FSCALAR) && begins is_quote s then previous.Quoted
    else previous.Other

-- Behind a leaf of this class, with which the text s begins; q is the context behind its last byte. Another leaf on
-- that byte's line isn't the first one there.
unfoldable pub past_leaf : ℕ → List ℕ → Context → Context
past_leaf class s q =
    record {
      column = q.column;
      first = false;
      spaced = q.spaced;
      anchored = q.anchored || (class == ANCHOR);
      depth = depth_behind class q.depth;
      previous = seen_as class s;
    }
