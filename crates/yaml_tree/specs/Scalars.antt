-- What the scalars of a file's tree say.
use Rattle.std.specs.Prelude.{◌≡◌, ℕ, ◌+◌, ◌==◌, ◌&&◌, ◌||◌, nat_lt, Bool, false, List, [], ◌∷◌, take, drop, Option}
use Rattle.std.specs.Prelude.{Some, None, if◌then◌else◌}
use Rattle.std.specs.Option.{option_map}
use Rattle.rw_base.specs.Utf8.{mark_size}
use Rattle.rw_base.specs.declared.tree.NodeRow.{NodeRow}
use Rattle.rw_base.specs.Arena.{Arena, leaf_at, text_of}
use Rattle.rw_grammar.specs.Results.{class_in}
use Rattle.yaml_lex.specs.Contexts.{start, past}
use Rattle.yaml_lex.specs.declared.class.TheConstants.{BLOCK}
use Rattle.yaml_texts.specs.Texts.{scalar_text}
use Rattle.yaml_tree.specs.declared.finding.TheConstants.{SEQ}
use Rattle.yaml_tree.specs.declared.scalars.TheConstants.{MAP}
use Rattle.yaml_tree.specs.Found.{key_text}

-- a block collection, of which leaf i is one behind the leaf that opens it
abbrev pub is_around : ℕ → NodeRow → Bool
is_around i row = ((row.kind == MAP) || (row.kind == SEQ)) && nat_lt row.first i && nat_lt i row.past

-- The leaf that opens the innermost block collection around leaf i: of the first node that is such a collection, since
-- a node stands before the nodes around it.
abbrev pub opening_around : ℕ → List NodeRow → Option ℕ
opening_around i [] = None
opening_around i (row ∷ rows) = if is_around i row then Some row.first else opening_around i rows

-- the column of a byte, by which the file is cut into leaves: a byte order mark isn't counted
abbrev pub column_at : List ℕ → ℕ → ℕ
column_at bytes at = (past start (drop (mark_size bytes) (take at bytes))).column

-- The column of the innermost block collection around leaf i: that of its first KEY or DASH, which follows the leaf
-- that opens it.
abbrev pub column_around : List ℕ → Arena → ℕ → Option ℕ
column_around bytes t i =
    option_map (λ opening. column_at bytes (leaf_at t.leaves (opening + 1)).from) (opening_around i t.nodes)

-- the text of leaf i, where it is a KEY, SCALAR, FSCALAR or BLOCK
abbrev pub scalar_of : List ℕ → Arena → ℕ → Option (List ℕ)
scalar_of bytes t i =
    scalar_text (class_in t.leaves i) (column_around bytes t i) (text_of bytes (leaf_at t.leaves i))
    (drop (leaf_at t.leaves i).to bytes)

-- Of a leaf that isn't a block scalar, as no key is, a key path compares what the leaf says.
abbrev pub KeyPathsCompareScalars : Type 0
KeyPathsCompareScalars =
    (bytes : List ℕ) (t : Arena) (i : ℕ) → (class_in t.leaves i == BLOCK) ≡ false →
    key_text bytes t.leaves i ≡ scalar_of bytes t i
