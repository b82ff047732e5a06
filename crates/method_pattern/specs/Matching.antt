-- Which methods a method pattern matches.
use Rattle.std.specs.Prelude.{◌≡◌, ℕ, ◌==◌, zero, suc, false, List, [], ◌∷◌, ◌++◌, ◌⊎◌, codes}
use Rattle.std.specs.List.{list_any, slice_split}
use Rattle.jtypes.specs.Arrays.{ArrayOf}
use Rattle.jtypes.specs.declared.types.JType.{JType}
use Rattle.jtypes.specs.declared.types.JType.TheVariants.{Prim, Class}
use Rattle.jtypes.specs.declared.signatures.MethodSig.{MethodSig}
use Rattle.method_pattern.specs.Rows.{RowFits}
use Rattle.method_pattern.specs.declared.pattern.MethodPattern.{MethodPattern}
use Rattle.method_pattern.specs.declared.pattern.NamePiece.{NamePiece}
use Rattle.method_pattern.specs.declared.pattern.NamePiece.TheVariants.{Part, AnyParts}
use Rattle.method_pattern.specs.declared.pattern.ParamPattern.{ParamPattern}
use Rattle.method_pattern.specs.declared.pattern.ParamPattern.TheVariants.{Rest, AnyType, Primitive, Named}

-- ---- names

-- a text of a pattern fits a text: `*` stands for any bytes, also none, every other byte for itself
abbrev pub TextFits : List ℕ → List ℕ → Type 0
TextFits = RowFits (λ p. p ≡ 42) (λ p b. p ≡ b)

-- the parts between the dots of a name
abbrev pub parts_of : List ℕ → List (List ℕ)
parts_of name = slice_split (λ b. b == 46) name

abbrev pub PieceTakes : NamePiece → List ℕ → Type 0
PieceTakes AnyParts part = ⊥
PieceTakes (Part text) part = TextFits text part

-- the pieces fit the parts of a name: `..` stands for any number of parts, also none, and a part for one that it fits
abbrev pub PartsFit : List NamePiece → List (List ℕ) → Type 0
PartsFit = RowFits (λ p. p ≡ AnyParts) PieceTakes

-- the pieces of `*..*`, which stands for every name
abbrev pub every_name : List NamePiece
every_name = Part (42 ∷ []) ∷ AnyParts ∷ Part (42 ∷ []) ∷ []

-- the pieces fit a whole qualified name, in which nested types are behind a dot too
abbrev pub NameFits : List NamePiece → List ℕ → Type 0
NameFits pieces name = (pieces ≡ every_name) ⊎ PartsFit pieces (parts_of name)

-- ---- parameters

-- one part without `*` names a type of java.lang too
abbrev pub NamesInJavaLang : List NamePiece → List ℕ → Type 0
NamesInJavaLang pieces name =
    (part : List ℕ) × (pieces ≡ Part part ∷ []) × (list_any (λ b. b == 42) part ≡ false)
    × (name ≡ codes "java.lang." ++ part)

-- the array type of so many dimensions over an element, the element itself where there are none
abbrev pub array_of : ℕ → JType → JType
array_of zero element = element
array_of (suc n) element = ArrayOf (array_of n element)

-- a parameter of a pattern takes a type; a type that isn't known is taken by `*` alone
abbrev pub ParamTakes : ParamPattern → JType → Type 0
ParamTakes Rest t = ⊥
ParamTakes AnyType t = Unit {0}
ParamTakes (Primitive p dimensions) t = t ≡ array_of dimensions (Prim p)
ParamTakes (Named pattern dimensions) t =
    (name : List ℕ) × (t ≡ array_of dimensions (Class name))
    × (NameFits pattern.pieces name ⊎ NamesInJavaLang pattern.pieces name)

-- the parameters of a pattern fit types: `..` stands for any number of them, also none
abbrev pub ParamsFit : List ParamPattern → List JType → Type 0
ParamsFit = RowFits (λ p. p ≡ Rest) ParamTakes

-- ---- methods

-- the pattern matches the method: its declaring type, its name and its parameters, each as a whole
pub record Matches (pattern : MethodPattern) (method : MethodSig) : Type 0 where
  pub owner : NameFits pattern.owner.pieces method.owner
  pub name : TextFits pattern.name method.name
  pub params : ParamsFit pattern.params method.params
