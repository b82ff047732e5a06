-- The open block mappings and sequences, innermost first, and what a leaf does to them (YAML 1.2, chapter 8.2, where
-- indentation says it; the leaves without text that say it here are of this crate).
use Rattle.std.specs.Prelude.{ℕ, zero, suc, ◌+◌, ◌-◌, ◌==◌, ◌&&◌, ◌||◌, not, nat_lt, nat_le, Bool, true, false, List}
use Rattle.std.specs.Prelude.{[], ◌∷◌, ◌++◌, length, Option, Some, None, if◌then◌else◌}
use Rattle.rw_base.specs.declared.tree.Leaf.{Leaf}
use Rattle.yaml_lex.specs.declared.context.Context.{Context}
use Rattle.yaml_lex.specs.declared.collections.Collection.{Collection}
use Rattle.yaml_lex.specs.declared.class.TheConstants.{DOC, DOCEND, DASH, KEY, BRACKET_CLOSE, BRACE_CLOSE, OPENM}
use Rattle.yaml_lex.specs.declared.class.TheConstants.{OPENS, CLOSE}
use Rattle.yaml_lex.specs.Contexts.{in_flow}

-- without the innermost collections from this column on
abbrev pub without_from : ℕ → List Collection → List Collection
without_from column [] = []
without_from column (o ∷ os) = if nat_le column o.column then without_from column os else o ∷ os

-- without those with a greater column
abbrev pub without_deeper : ℕ → List Collection → List Collection
without_deeper column os = without_from (column + 1) os

-- without a sequence at the column
abbrev pub without_sequence : ℕ → List Collection → List Collection
without_sequence column [] = []
without_sequence column (o ∷ os) = if o.sequence && (o.column == column) then os else o ∷ os

-- what begins an entry of a mapping or an item of a sequence
abbrev pub is_entry : ℕ → Bool
is_entry class = (class == KEY) || (class == DASH)

abbrev pub is_document_class : ℕ → Bool
is_document_class class = (class == DOC) || (class == DOCEND)

abbrev pub is_closing : ℕ → Bool
is_closing class = (class == BRACKET_CLOSE) || (class == BRACE_CLOSE)

-- The collections that a leaf of this class leaves open. `---` and `...` close all, and in flow context nothing else
-- closes any. A KEY or DASH closes those with a greater column, and a KEY then a sequence at its own: `a:⏎- b⏎c: d`.
-- Any other leaf that is first on its line closes those of its column or a greater one, but a closing bracket none.
unfoldable pub left_open : Context → ℕ → List Collection → List Collection
left_open p class os =
    if is_document_class class then []
    else if in_flow p then os
    else if class == KEY then without_sequence p.column (without_deeper p.column os)
    else if class == DASH then without_deeper p.column os
    else if p.first && not (is_closing class) then without_from p.column os
    else os

-- the column of the innermost one
abbrev pub innermost : List Collection → Option ℕ
innermost [] = None
innermost (o ∷ os) = Some o.column

abbrev pub is_at : ℕ → List Collection → Bool
is_at column [] = false
is_at column (o ∷ os) = o.column == column

-- the leaf stands between two columns: it closes collections, and then none of its column is open
abbrev pub is_between : Context → ℕ → List Collection → Bool
is_between p class os =
    nat_lt (length (left_open p class os)) (length os) && not (is_at p.column (left_open p class os))

-- a leaf that can't stand here: a KEY or DASH between two columns, or a KEY behind an ANCHOR on its line
unfoldable pub is_refused : Context → ℕ → List Collection → Bool
is_refused p class os = (is_entry class && is_between p class os) || ((class == KEY) && p.anchored)

-- A collection opens where the innermost column is less, where none is open, or where a DASH meets a mapping.
abbrev pub opens_in : Context → ℕ → List Collection → Bool
opens_in p class [] = true
opens_in p class (o ∷ os) = nat_lt o.column p.column || ((class == DASH) && not o.sequence)

abbrev pub opens : Context → ℕ → List Collection → Bool
opens p class os = is_entry class && opens_in p class (left_open p class os)

-- the collections that are open behind a leaf
unfoldable pub open_behind : Context → ℕ → List Collection → List Collection
open_behind p class os =
    if opens p class os
    then record { sequence = class == DASH; column = p.column } ∷ left_open p class os
    else left_open p class os

-- a leaf without text or prefix at a byte
abbrev pub textless : ℕ → ℕ → Leaf
textless at class = record { prefix_from = at; from = at; to = at; class = class }

-- so many CLOSE
abbrev pub closes : ℕ → ℕ → List Leaf
closes at zero = []
closes at (suc n) = textless at CLOSE ∷ closes at n

-- the leaf that opens a collection, where one opens
abbrev pub opening : ℕ → Context → ℕ → List Collection → List Leaf
opening at p class os =
    if opens p class os then textless at (if class == DASH then OPENS else OPENM) ∷ [] else []

-- The leaves without text before a leaf of this class: a CLOSE for each collection that it closes, and then OPENM or
-- OPENS where it opens one.
unfoldable pub textless_before : ℕ → Context → ℕ → List Collection → List Leaf
textless_before at p class os =
    closes at (length os - length (left_open p class os)) ++ opening at p class os
