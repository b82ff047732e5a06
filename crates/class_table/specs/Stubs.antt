-- What texts declare: stubs, and the prelude.
use Rattle.std.specs.Prelude.{◌≡◌, ℕ, List, [], ◌++◌, Ok, Err}
use Rattle.rw_base.specs.declared.place.Refused.{Refused}
use Rattle.rw_base.specs.Arena.{Arena}
use Rattle.java_reader.specs.Reading.{IsJavaRead}
use Rattle.java_reader.specs.declared.read.TheConstants.{UNIT}
use Rattle.declared_types.specs.declared.written.DeclaredType.{DeclaredType}
use Rattle.class_table.specs.declared.prelude_texts.TheConstants.{JAVA_LANG, JAVA_LANG_ANNOTATION, JAVA_IO, JAVA_UTIL}
use Rattle.class_table.specs.Words.{parts_at}
use Rattle.class_table.specs.Declarations.{skeleton_of}

-- A text is accepted as a Java file, and these are the types that the file declares.
pub record AreDeclaredBy (bytes : List ℕ) (types : List DeclaredType) : Type 0 where
  pub tree : Arena
  pub read : IsJavaRead UNIT bytes (Ok tree)
  pub are : types ≡ skeleton_of (parts_at tree bytes tree.root)

-- The types that a text adds to a world: those that it declares, and none where it is refused.
pub data AreTypesOf (bytes : List ℕ) (types : List DeclaredType) : Type 0 where
  accepted : AreDeclaredBy bytes types → AreTypesOf bytes types
  refused : (r : Refused) → IsJavaRead UNIT bytes (Err r) → types ≡ [] → AreTypesOf bytes types

-- The prelude: the types of its texts, in this order.
pub record IsPrelude (types : List DeclaredType) : Type 0 where
  pub lang : List DeclaredType
  pub annotation : List DeclaredType
  pub io : List DeclaredType
  pub util : List DeclaredType
  pub of_lang : AreTypesOf JAVA_LANG.now lang
  pub of_annotation : AreTypesOf JAVA_LANG_ANNOTATION.now annotation
  pub of_io : AreTypesOf JAVA_IO.now io
  pub of_util : AreTypesOf JAVA_UTIL.now util
  pub all : types ≡ lang ++ annotation ++ io ++ util

-- Types, and those behind them that a text adds; no public clause cites it.
pub record AreAdded (bytes : List ℕ) (before after : List DeclaredType) : Type 0 where
  pub more : List DeclaredType
  pub of_text : AreTypesOf bytes more
  pub are_behind : after ≡ before ++ more
