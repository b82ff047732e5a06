-- Codes as words, and the shapes that are made of them from the last word to the first.
use Rattle.std.specs.Prelude.{◌≡◌, ℕ, true, List, [], ◌∷◌, ◌++◌, length, map, reverse}
use Rattle.rw_grammar.specs.declared.shape.Shape.{Shape}
use Rattle.rw_grammar.specs.declared.shape.Shape.TheVariants as shape
use Rattle.rw_grammar.specs.declared.codes.Word.{Word}
use Rattle.rw_grammar.specs.declared.codes.Word.TheVariants as word
use Rattle.rw_grammar.specs.Shapes.{before}
use Rattle.rw_grammar.specs.Codes.{codes_of_all, spells, stand_for}

abbrev pub written : Word → List ℕ
written (word.Leaf c) = 0 ∷ c ∷ []
written (word.Rule r) = 1 ∷ r ∷ []
written (word.Seq k) = 2 ∷ k ∷ []
written (word.Choice k) = 3 ∷ k ∷ []
written word.Opt = 4 ∷ []
written word.Many = 5 ∷ []

abbrev pub written_all : List Word → List ℕ
written_all [] = []
written_all (w ∷ ws) = written w ++ written_all ws

-- how many parts a word asks for
abbrev pub asked : Word → ℕ
asked (word.Leaf c) = 0
asked (word.Rule r) = 0
asked (word.Seq k) = k
asked (word.Choice k) = k
asked word.Opt = 1
asked word.Many = 1

pub record BeginWithWord (codes : List ℕ) : Type 0 where
  pub first : Word
  pub others : List ℕ
  pub are : codes ≡ written first ++ others

-- they spell some number of shapes
pub record SpellSome (codes : List ℕ) : Type 0 where
  pub number : ℕ
  pub fits : spells number codes ≡ true

-- the shape of a word with these parts
abbrev pub shape_of : Word → List Shape → Shape
shape_of (word.Leaf c) ps = shape.Leaf c
shape_of (word.Rule r) ps = shape.Rule r
shape_of (word.Seq k) ps = shape.Seq ps
shape_of (word.Choice k) ps = shape.Choice ps
shape_of word.Opt [] = shape.Seq []
shape_of word.Opt (p ∷ ps) = shape.Opt p
shape_of word.Many [] = shape.Seq []
shape_of word.Many (p ∷ ps) = shape.Many p

-- The parts were the last of the old shapes, the first part the last of all; the others are still there.
pub record IsMade (w : Word) (old new : List Shape) (s : Shape) : Type 0 where
  pub parts : List Shape
  pub taken : reverse old ≡ parts ++ reverse new
  pub count : length parts ≡ asked w
  pub is : s ≡ shape_of w parts

-- the codes spell these shapes, the last of them first
pub record AreStacked (codes : List ℕ) (stack : List Shape) : Type 0 where
  pub are : codes ≡ codes_of_all (reverse stack)
  pub count : (n : ℕ) → spells n codes ≡ true → n ≡ length stack
  pub stand : stand_for codes ≡ map before (reverse stack)
