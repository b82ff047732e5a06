-- What holds of every text.
use Rattle.std.specs.Prelude.{◌≡◌, ℕ, ◌||◌, ◌&&◌, ◌↔◌, Bool, true, false, List, [], ◌∷◌, ◌++◌, length, Option, Some}
use Rattle.yaml_lex.specs.declared.class.TheConstants.{KEY, SCALAR, FSCALAR}
use Rattle.yaml_lex.specs.declared.context.Context.{Context}
use Rattle.yaml_lex.specs.declared.context.Previous.TheVariants as previous
use Rattle.yaml_lex.specs.declared.collections.Collection.{Collection}
use Rattle.yaml_lex.specs.Characters.{is_blank, is_key_end}
use Rattle.yaml_lex.specs.Contexts.{in_flow}
use Rattle.yaml_lex.specs.Scalars.{IsPlain, ends_plain}
use Rattle.yaml_lex.specs.BlockScalars.{is_document_line}
use Rattle.yaml_lex.specs.Leaves.{IsNext}
use Rattle.yaml_texts.specs.Texts.{scalar_text}
use Rattle.yaml_texts.specs.Spelled.{is_plain, spelled}

-- The test of a whole text says that the definition of leaves cuts all of it as one plain scalar.
abbrev pub PlainTextsArePlainScalars : Type 0
PlainTextsArePlainScalars =
    (flow : Bool) (text : List ℕ) → (is_plain flow text ≡ true) ↔ IsPlain flow text (length text)

-- ---- what is spelled reads back

-- behind blanks stands what ends a plain scalar
unfoldable pub is_over : Bool → List ℕ → Bool
is_over flow [] = true
is_over flow (b ∷ rest) = ends_plain flow (b ∷ rest) || (is_blank b && is_over flow rest)

-- A key or a value can stand here, with which a text begins: the leaf before is no key and no quoted scalar in flow
-- context, behind which a `:` is due, and at the start of a line no `---` or `...` parts documents here.
pub record CanStand (p : Context) (s : List ℕ) : Type 0 where
  pub previous : p.previous ≡ previous.Other
  pub no_mark : p.column ≡ 0 → is_document_line s ≡ false

-- Before this rest a spelled text is one leaf of this class, whose text is the text again.
abbrev pub ReadsBack : Context → List Collection → List ℕ → ℕ → Type 0
ReadsBack p os rest class =
    (text word : List ℕ) → spelled text ≡ Some word → CanStand p (word ++ rest) →
    IsNext p os (word ++ rest) class (length word)
    × ((column : Option ℕ) → scalar_text class column word rest ≡ Some text)

-- as a key in block context, before blanks and `:` with a blank, a line end or the end behind it
abbrev pub KeysReadBack : Type 0
KeysReadBack =
    (p : Context) (os : List Collection) (rest : List ℕ) → in_flow p ≡ false → is_key_end rest ≡ true →
    ReadsBack p os rest KEY

-- as another scalar in block context, before what ends one
abbrev pub ValuesReadBack : Type 0
ValuesReadBack =
    (p : Context) (os : List Collection) (rest : List ℕ) → in_flow p ≡ false → is_key_end rest ≡ false →
    is_over false rest ≡ true → ReadsBack p os rest SCALAR

-- as a key, a value or an item in flow context, before what ends one
abbrev pub FlowScalarsReadBack : Type 0
FlowScalarsReadBack =
    (p : Context) (os : List Collection) (rest : List ℕ) → in_flow p ≡ true → is_over true rest ≡ true →
    ReadsBack p os rest FSCALAR
