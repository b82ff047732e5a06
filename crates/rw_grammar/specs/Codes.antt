-- The codes that spell shapes: a leaf of a class is 0 and the class, a rule is 1 and its number, a row is 2, the number
-- of its parts and the parts, a choice is 3 and the same, an option is 4 and its part, a repetition is 5 and its part.
use Rattle.std.specs.Prelude.{ℕ, zero, suc, ◌+◌, Bool, true, false, List, [], ◌∷◌, length, map, take, drop}
use Rattle.std.specs.List.{concat}
use Rattle.rw_grammar.specs.declared.shape.Shape.{Shape, fold-Shape}
use Rattle.rw_grammar.specs.declared.shape.Shape.TheOpen.{Shape-F}
use Rattle.rw_grammar.specs.Parts.{Parts, end, one, rule, choice, opt, many}
use Rattle.rw_grammar.specs.Shapes.{in_row, either}

abbrev pub spell : Shape-F (List ℕ) → List ℕ
spell (Shape-F.Leaf c) = 0 ∷ c ∷ []
spell (Shape-F.Rule r) = 1 ∷ r ∷ []
spell (Shape-F.Seq ss) = 2 ∷ length ss ∷ concat ss
spell (Shape-F.Choice ss) = 3 ∷ length ss ∷ concat ss
spell (Shape-F.Opt s) = 4 ∷ s
spell (Shape-F.Many s) = 5 ∷ s

unfoldable pub codes_of : Shape → List ℕ
codes_of s = fold-Shape (List ℕ) spell s

abbrev pub codes_of_all : List Shape → List ℕ
codes_of_all ss = concat (map codes_of ss)

-- rules are spelled by their number, and then each
abbrev pub spelled : List Shape → List ℕ
spelled rules = length rules ∷ codes_of_all rules

-- ---- reading from the front, by tests and functions that compute

-- The codes spell so many shapes and nothing more: a part adds those that it asks for to those that are still to come.
abbrev pub spells : ℕ → List ℕ → Bool
spells zero [] = true
spells zero (x ∷ cs) = false
spells (suc n) (zero ∷ (c ∷ cs)) = spells n cs
spells (suc n) (suc zero ∷ (r ∷ cs)) = spells n cs
spells (suc n) (suc (suc zero) ∷ (k ∷ cs)) = spells (k + n) cs
spells (suc n) (suc (suc (suc zero)) ∷ (k ∷ cs)) = spells (k + n) cs
spells (suc n) (suc (suc (suc (suc zero))) ∷ cs) = spells (suc n) cs
spells (suc n) (suc (suc (suc (suc (suc zero)))) ∷ cs) = spells (suc n) cs
spells (suc n) _ = false

abbrev pub spells_rules : List ℕ → Bool
spells_rules [] = false
spells_rules (n ∷ cs) = spells n cs

abbrev pub row_first : ℕ → List (Parts → Parts) → List (Parts → Parts)
row_first k fs = in_row (take k fs) ∷ drop k fs

abbrev pub choice_first : ℕ → List (Parts → Parts) → List (Parts → Parts)
choice_first k fs = choice (either (take k fs)) ∷ drop k fs

abbrev pub opt_first : List (Parts → Parts) → List (Parts → Parts)
opt_first [] = []
opt_first (f ∷ fs) = opt (f end) ∷ fs

abbrev pub many_first : List (Parts → Parts) → List (Parts → Parts)
many_first [] = []
many_first (f ∷ fs) = many (f end) ∷ fs

-- what each of the shapes puts in front of others
abbrev pub stand_for : List ℕ → List (Parts → Parts)
stand_for [] = []
stand_for (zero ∷ (c ∷ cs)) = one c ∷ stand_for cs
stand_for (suc zero ∷ (r ∷ cs)) = rule r ∷ stand_for cs
stand_for (suc (suc zero) ∷ (k ∷ cs)) = row_first k (stand_for cs)
stand_for (suc (suc (suc zero)) ∷ (k ∷ cs)) = choice_first k (stand_for cs)
stand_for (suc (suc (suc (suc zero))) ∷ cs) = opt_first (stand_for cs)
stand_for (suc (suc (suc (suc (suc zero)))) ∷ cs) = many_first (stand_for cs)
stand_for _ = []

-- the rules that codes spell, as lists
abbrev pub parts_spelled : List ℕ → List Parts
parts_spelled [] = []
parts_spelled (n ∷ cs) = map (λ f. f end) (stand_for cs)
