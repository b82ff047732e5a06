-- Identifiers, keywords, and the literals that are words (JLS 3.8, 3.9, 3.10.3, 3.10.7).
use Rattle.std.specs.Prelude.{◌≡◌, ℕ, ◌||◌, ◌==◌, Bool, true, List, [], ◌∷◌, if◌then◌else◌, codes, encode_utf8_all}
use Rattle.std.specs.Char.{IsScalar}
use Rattle.std.specs.Str.{bytes_eq}
use Rattle.unicode_ident.specs.Ident.{is_xid_start, is_xid_continue}
use Rattle.java_lex.specs.declared.class.TheConstants.{ID, PRIM, BOOL, NULL, ABSTRACT, ASSERT, BREAK, CASE, CATCH}
use Rattle.java_lex.specs.declared.class.TheConstants.{CLASS, CONST, CONTINUE, DEFAULT, DO, ELSE, ENUM, EXTENDS, FINAL}
use Rattle.java_lex.specs.declared.class.TheConstants.{FINALLY, FOR, GOTO, IF, IMPLEMENTS, IMPORT, INSTANCEOF}
use Rattle.java_lex.specs.declared.class.TheConstants.{INTERFACE, NATIVE, NEW, PACKAGE, PRIVATE, PROTECTED, PUBLIC}
use Rattle.java_lex.specs.declared.class.TheConstants.{RETURN, STATIC, STRICTFP, SUPER, SWITCH, SYNCHRONIZED, THIS}
use Rattle.java_lex.specs.declared.class.TheConstants.{THROW, THROWS, TRANSIENT, TRY, VOID, VOLATILE, WHILE}

-- the characters that begin a word, and those that go on with one
abbrev pub begins_word : ℕ → Bool
begins_word c = is_xid_start c || (c == 95) || (c == 36)

abbrev pub continues_word : ℕ → Bool
continues_word c = is_xid_continue c || (c == 95) || (c == 36)

-- a character that passes a test
pub record IsLetter (p : ℕ → Bool) (c : ℕ) : Type 0 where
  pub scalar : IsScalar c
  pub passes : p c ≡ true

-- each of these characters goes on with a word
abbrev pub AllContinue : List ℕ → Type 0
AllContinue [] = Unit {0}
AllContinue (c ∷ cs) = IsLetter continues_word c × AllContinue cs

-- A word: the UTF-8 of a first character and of those behind it.
pub record IsWord (s : List ℕ) : Type 0 where
  pub first : ℕ
  pub others : List ℕ
  pub is : s ≡ encode_utf8_all (first ∷ others)
  pub begins : IsLetter begins_word first
  pub goes : AllContinue others

-- the words that aren't identifiers
unfoldable pub keywords : List (List ℕ × ℕ)
keywords =
    (codes "abstract", ABSTRACT) ∷
    (codes "assert", ASSERT) ∷
    (codes "boolean", PRIM) ∷
    (codes "break", BREAK) ∷
    (codes "byte", PRIM) ∷
    (codes "case", CASE) ∷
    (codes "catch", CATCH) ∷
    (codes "char", PRIM) ∷
    (codes "class", CLASS) ∷
    (codes "const", CONST) ∷
    (codes "continue", CONTINUE) ∷
    (codes "default", DEFAULT) ∷
    (codes "do", DO) ∷
    (codes "double", PRIM) ∷
    (codes "else", ELSE) ∷
    (codes "enum", ENUM) ∷
    (codes "extends", EXTENDS) ∷
    (codes "false", BOOL) ∷
    (codes "final", FINAL) ∷
    (codes "finally", FINALLY) ∷
    (codes "float", PRIM) ∷
    (codes "for", FOR) ∷
    (codes "goto", GOTO) ∷
    (codes "if", IF) ∷
    (codes "implements", IMPLEMENTS) ∷
    (codes "import", IMPORT) ∷
    (codes "instanceof", INSTANCEOF) ∷
    (codes "int", PRIM) ∷
    (codes "interface", INTERFACE) ∷
    (codes "long", PRIM) ∷
    (codes "native", NATIVE) ∷
    (codes "new", NEW) ∷
    (codes "null", NULL) ∷
    (codes "package", PACKAGE) ∷
    (codes "private", PRIVATE) ∷
    (codes "protected", PROTECTED) ∷
    (codes "public", PUBLIC) ∷
    (codes "return", RETURN) ∷
    (codes "short", PRIM) ∷
    (codes "static", STATIC) ∷
    (codes "strictfp", STRICTFP) ∷
    (codes "super", SUPER) ∷
    (codes "switch", SWITCH) ∷
    (codes "synchronized", SYNCHRONIZED) ∷
    (codes "this", THIS) ∷
    (codes "throw", THROW) ∷
    (codes "throws", THROWS) ∷
    (codes "transient", TRANSIENT) ∷
    (codes "true", BOOL) ∷
    (codes "try", TRY) ∷
    (codes "void", VOID) ∷
    (codes "volatile", VOLATILE) ∷
    (codes "while", WHILE) ∷ []

-- the class of a word, where these are the words that aren't identifiers
abbrev pub class_among : List (List ℕ × ℕ) → List ℕ → ℕ
class_among [] word = ID
class_among (entry ∷ rest) word = if bytes_eq entry.0 word then entry.1 else class_among rest word

unfoldable pub word_class : List ℕ → ℕ
word_class word = class_among keywords word
