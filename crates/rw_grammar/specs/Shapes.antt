-- Shapes as a caller writes them, and the codes that spell them.
use Rattle.std.specs.Prelude.{List, [], ◌∷◌, map}
use Rattle.rw_grammar.specs.declared.shape.Shape.{Shape, fold-Shape}
use Rattle.rw_grammar.specs.declared.shape.Shape.TheOpen.{Shape-F}
use Rattle.rw_grammar.specs.Parts.{Parts, end, one, rule, choice, opt, many, or}

-- one behind another, and as alternatives
abbrev pub in_row : List (Parts → Parts) → Parts → Parts
in_row [] more = more
in_row (s ∷ ss) more = s (in_row ss more)

abbrev pub either : List (Parts → Parts) → Parts
either [] = end
either (s ∷ ss) = or (s end) (either ss)

abbrev pub in_front : Shape-F (Parts → Parts) → Parts → Parts
in_front (Shape-F.Leaf c) more = one c more
in_front (Shape-F.Rule r) more = rule r more
in_front (Shape-F.Seq ss) more = in_row ss more
in_front (Shape-F.Choice ss) more = choice (either ss) more
in_front (Shape-F.Opt s) more = opt (s end) more
in_front (Shape-F.Many s) more = many (s end) more

-- a shape, and these parts behind it
unfoldable pub before : Shape → Parts → Parts
before s = fold-Shape (Parts → Parts) in_front s

-- a rule's shape as a list
abbrev pub shape_parts : Shape → Parts
shape_parts s = before s end

abbrev pub all_parts : List Shape → List Parts
all_parts ss = map shape_parts ss
