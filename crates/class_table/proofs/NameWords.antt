-- The identifiers among parts, word by word.
use Rattle.std.proofs.Common.{◌≡◌, ◌++◌, ◌==◌, List, [], ◌∷◌, Bool, true, false, refl, if◌then◌else◌}
use Rattle.rw_base.specs.Trees.{leaf}
use Rattle.java_lex.specs.declared.class.TheConstants.{ID}
use Rattle.declared_types.specs.declared.written.NamePart.{NamePart}
use Rattle.class_table.specs.Words.{Word, Parts}
use Rattle.class_table.specs.TypesWritten.{names_in, part_of_name}

-- what a word adds
abbrev pub name_word : Word → List NamePart
name_word w = if w.class == ID then part_of_name w.text ∷ [] else []

pub names_take : (w : Word) (f : Parts) → names_in (leaf w f) ≡ name_word w ++ names_in f
names_take w f = by_test (w.class == ID)
  where
    by_test : (is : Bool) → (if is then part_of_name w.text ∷ names_in f else names_in f)
        ≡ (if is then part_of_name w.text ∷ [] else []) ++ names_in f
    by_test true = refl
    by_test false = refl
