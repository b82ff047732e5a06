-- The cells of a table, and what each stands for.
use Rattle.std.specs.Prelude.{◌≡◌, ℕ, ◌<◌, ◌↔◌, ◌==◌, ◌&&◌, ◌||◌, Bool, true, false, List, [], ◌∷◌, ◌++◌, length, map}
use Rattle.std.specs.Prelude.{slice_get, slice_index_or, slice_index, Option, Some, None, find, nat_le, count_by}
use Rattle.std.specs.Option.{option_map_or}
use Rattle.std.specs.List.{list_any}
use Rattle.rw_base.specs.Rows.{value}
use Rattle.rw_grammar.specs.declared.cells.Cell.{Cell}
use Rattle.rw_grammar.specs.declared.cells.Cell.TheVariants as cell
use Rattle.rw_grammar.specs.declared.known.Asked.{Asked}
use Rattle.rw_grammar.specs.declared.known.Asked.TheVariants as asked
use Rattle.rw_grammar.specs.Faults.{IsSound, IsWrong}
use Rattle.rw_grammar.specs.Parts.{Parts, Within, end, one, rule, choice, opt, many, or, rule_of}
use Rattle.rw_grammar.specs.Begins.{CanBeEmpty, CanStart, CanBegin, of_rule}

-- the alternatives of a choice
abbrev pub any_of : List Parts → Parts
any_of [] = end
any_of (p ∷ ps) = or p (any_of ps)

-- what a cell stands for, by what those that it names stand for
abbrev pub grown : (ℕ → Parts) → Cell → Parts
grown f cell.End = end
grown f (cell.One c k) = one c (f k)
grown f (cell.Rule r k) = rule r (f k)
grown f (cell.Choice ys k) = choice (any_of (map f ys)) (f k)
grown f (cell.Opt x k) = opt (f x) (f k)
grown f (cell.Many x k) = many (f x) (f k)

unfoldable pub shape_at : List Cell → ℕ → Parts
shape_at cells n = value end (λ m c f. grown f c) cells n

-- the rules that begin at these cells
abbrev pub rules_at : List Cell → List ℕ → List Parts
rules_at cells roots = map (shape_at cells) roots

abbrev pub cell_at : List Cell → ℕ → Cell
cell_at cells n = slice_index_or cells n cell.End

-- the numbers are below this one
abbrev pub AllBelow : ℕ → List ℕ → Type 0
AllBelow n ys = (k : ℕ) → k < length ys → slice_index ys k < n

-- a cell names cells before this one
abbrev pub NamesBelow : ℕ → Cell → Type 0
NamesBelow n cell.End = Unit {0}
NamesBelow n (cell.One c k) = k < n
NamesBelow n (cell.Rule r k) = k < n
NamesBelow n (cell.Choice ys k) = AllBelow n ys × (k < n)
NamesBelow n (cell.Opt x k) = (x < n) × (k < n)
NamesBelow n (cell.Many x k) = (x < n) × (k < n)

abbrev pub AreCells : List Cell → Type 0
AreCells cells = (n : ℕ) → n < length cells → NamesBelow n (cell_at cells n)

-- cells, of which the first stands for nothing more, and the cells at which rules begin
pub record AreLaid (cells : List Cell) (roots : List ℕ) : Type 0 where
  pub named : AreCells cells
  pub inside : AllBelow (length cells) roots

-- ---- a value for each cell

abbrev pub bit : List Bool → ℕ → Bool
bit bs n = slice_index_or bs n false

abbrev pub Holds : (ℕ → Parts) → Asked → Parts → Type 0
Holds rules asked.Empty p = CanBeEmpty rules p
Holds rules (asked.Class c) p = CanBegin rules c p
Holds rules (asked.Rule r) p = CanStart rules (of_rule r) p

-- a bit for each cell that tells just that
abbrev pub Tells : List Cell → (Parts → Type 0) → List Bool → Type 0
Tells cells P bits = (n : ℕ) → n < length cells → (bit bits n ≡ true) ↔ P (shape_at cells n)

-- what is told of a cell by what is told of those that it names
abbrev pub root_at : List ℕ → ℕ → (ℕ → Bool) → Bool
root_at roots r f = option_map_or f (slice_get roots r) false

abbrev pub empty_by : List ℕ → List Bool → Cell → Bool
empty_by roots known cell.End = true
empty_by roots known (cell.One c k) = false
empty_by roots known (cell.Rule r k) = root_at roots r (bit known) && bit known k
empty_by roots known (cell.Choice ys k) = list_any (bit known) ys && bit known k
empty_by roots known (cell.Opt x k) = bit known k
empty_by roots known (cell.Many x k) = bit known k

abbrev pub is_class : Asked → ℕ → Bool
is_class (asked.Class c) d = c == d
is_class _ d = false

abbrev pub is_rule : Asked → ℕ → Bool
is_rule (asked.Rule r) d = r == d
is_rule _ d = false

abbrev pub starts_by : List ℕ → List Bool → Asked → List Bool → Cell → Bool
starts_by roots empty a known cell.End = false
starts_by roots empty a known (cell.One c k) = is_class a c
starts_by roots empty a known (cell.Rule r k) =
    is_rule a r || root_at roots r (bit known) || (root_at roots r (bit empty) && bit known k)
starts_by roots empty a known (cell.Choice ys k) = list_any (bit known) ys || (list_any (bit empty) ys && bit known k)
starts_by roots empty a known (cell.Opt x k) = bit known x || bit known k
starts_by roots empty a known (cell.Many x k) = bit known x || bit known k

abbrev pub told_by : List ℕ → List Bool → Asked → List Bool → Cell → Bool
told_by roots empty asked.Empty known c = empty_by roots known c
told_by roots empty a known c = starts_by roots empty a known c

-- each bit that is set is right
abbrev pub AreRight : List Cell → (ℕ → Parts) → Asked → List Bool → Type 0
AreRight cells rules a known = (n : ℕ) → n < length cells → bit known n ≡ true → Holds rules a (shape_at cells n)

-- and what follows from them is set
abbrev pub AreClosed : List Cell → List ℕ → List Bool → Asked → List Bool → Type 0
AreClosed cells roots empty a known =
    (n : ℕ) → n < length cells → told_by roots empty a known (cell_at cells n) ≡ true → bit known n ≡ true

-- where something is asked of the front, it is known what can be empty
abbrev pub EmptyTold : List Cell → (ℕ → Parts) → Asked → List Bool → Type 0
EmptyTold cells rules asked.Empty empty = Unit {0}
EmptyTold cells rules a empty = Tells cells (CanBeEmpty rules) empty

-- ---- faults

-- whether the fault of a number is at a cell
abbrev pub wrong_by : ℕ → ℕ → List Bool → List (List Bool) → Cell → Bool
wrong_by number count empty columns cell.End = false
wrong_by number count empty columns (cell.One c k) = false
wrong_by number count empty columns (cell.Rule r k) = number == 5 && nat_le count r
wrong_by number count empty columns (cell.Choice ys k) =
    (number == 1 && list_any (λ column. nat_le 2 (count_by (bit column) ys)) columns)
    || (number == 2 && nat_le 2 (count_by (bit empty) ys))
wrong_by number count empty columns (cell.Opt x k) = number == 3 && bit empty x
wrong_by number count empty columns (cell.Many x k) = number == 3 && bit empty x

-- whether a bit is set of a cell that is named
abbrev pub named_by : List Bool → Cell → Bool
named_by bits cell.End = false
named_by bits (cell.One c k) = bit bits k
named_by bits (cell.Rule r k) = bit bits k
named_by bits (cell.Choice ys k) = list_any (bit bits) ys || bit bits k
named_by bits (cell.Opt x k) = bit bits x || bit bits k
named_by bits (cell.Many x k) = bit bits x || bit bits k

-- the fault of the number is somewhere in these shapes
abbrev pub Somewhere : (ℕ → Parts) → ℕ → ℕ → Parts → Type 0
Somewhere rules count number p = (q : Parts) × Within q p × IsWrong rules count number q

-- ---- the table

abbrev pub column_at : List (List Bool) → ℕ → List Bool
column_at columns c = slice_index_or columns c []

-- of a class, if there is one
abbrev pub column_for : List (List Bool) → Option ℕ → List Bool
column_for columns None = []
column_for columns (Some c) = column_at columns c

-- the first alternative whose bit is set, or else the first that can be empty
abbrev pub or_else : Option ℕ → Option ℕ → Option ℕ
or_else None o = o
or_else (Some y) o = Some y

abbrev pub picked : List Bool → List Bool → List ℕ → Option ℕ
picked column empty ys = or_else (find (bit column) ys) (find (bit empty) ys)

-- What columns and bits tell: which class can begin which cell, and which cell can be empty.
pub record AreKnown (cells : List Cell) (roots : List ℕ) (empty : List Bool) (columns : List (List Bool)) : Type 0 where
  pub laid : AreLaid cells roots
  pub empties : Tells cells (CanBeEmpty (rule_of (rules_at cells roots))) empty
  pub begins : (c : ℕ) → Tells cells (CanBegin (rule_of (rules_at cells roots)) c) (column_at columns c)

-- Cells and the cells at which rules begin; for each cell whether it can be empty; for each class and cell whether the
-- class can begin it.
pub record IsTable (cells : List Cell) (roots : List ℕ) (empty : List Bool) (columns : List (List Bool)) : Type 0 where
  pub laid : AreLaid cells roots
  pub empties : Tells cells (CanBeEmpty (rule_of (rules_at cells roots))) empty
  pub begins : (c : ℕ) → Tells cells (CanBegin (rule_of (rules_at cells roots)) c) (column_at columns c)
  pub sound : IsSound (rules_at cells roots)

-- Further cells behind the old ones; what they stand for, from the cell n on, is p.
pub record Lays (old new : List Cell) (n : ℕ) (p : Parts) : Type 0 where
  pub more : List Cell
  pub behind : new ≡ old ++ more
  pub named : AreCells new
  pub inside : n < length new
  pub stands : shape_at new n ≡ p
