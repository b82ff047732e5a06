-- Which recipes of a book lead to scanning ones.
use Rattle.std.specs.Prelude.{ℕ, zero, suc, ◌+◌, Bool, false, ◌||◌, List, [], ◌∷◌, map, length, slice_index_or}
use Rattle.std.specs.Prelude.{IsTrue, Option, Some, None, if◌then◌else◌}
use Rattle.std.specs.List.{list_any}
use Rattle.std.specs.Str.{bytes_eq}
use Rattle.recipe_yaml.specs.LeafNames.{leaf_named, is_scanner}
use Rattle.recipe_yaml.specs.declared.book.Written.{Written}
use Rattle.recipe_yaml.specs.declared.book.WrittenEntry.{WrittenEntry}
use Rattle.recipe_yaml.specs.declared.leaf_name.LeafName.{LeafName}

-- where a recipe of this name stands in a book, whose first recipe here has this number
unfoldable pub place_from : ℕ → List ℕ → List Written → Option ℕ
place_from n name [] = None
place_from n name (r ∷ rs) = if bytes_eq r.name name then Some n else place_from (n + 1) name rs

-- the name is that of a scanning leaf recipe
abbrev pub is_scanner_of : Option LeafName → Bool
is_scanner_of None = false
is_scanner_of (Some leaf) = is_scanner leaf

unfoldable pub scans : List ℕ → Bool
scans name = is_scanner_of (leaf_named name)

module _ (book : List Written) where
  -- an entry names a scanning leaf recipe, or a recipe of the book that is known to lead to one
  abbrev pub named_leads : List Bool → List ℕ → Option ℕ → Bool
  named_leads known name None = scans name
  named_leads known name (Some r) = slice_index_or known r false

  unfoldable pub entry_leads : List Bool → WrittenEntry → Bool
  entry_leads known e = named_leads known e.name (place_from 0 e.name book)

  -- one of the entries in a recipe's lists does
  unfoldable pub recipe_leads : List Bool → Written → Bool
  recipe_leads known r = list_any (entry_leads known) r.conditions || list_any (entry_leads known) r.list

  abbrev pub next_column : List Bool → List Bool
  next_column known = map (recipe_leads known) book

  -- for each recipe, whether it leads to a scanning one through fewer than so many further recipes
  unfoldable pub column : ℕ → List Bool
  column zero = map (λ r. false) book
  column (suc k) = next_column (column k)

  -- A recipe leads to a scanning one: of a book's recipes no way meets more than there are.
  unfoldable pub leads : ℕ → Bool
  leads r = slice_index_or (column (length book)) r false

-- What leads to a scanning recipe through any number of others is found through as many as the book has.
abbrev pub AnyNumberLeads : Type 0
AnyNumberLeads =
    (book : List Written) (k r : ℕ) → IsTrue (slice_index_or (column book k) r false) → IsTrue (leads book r)
