-- The classes of Java's leaves: END, those that are cut from the bytes, and those that a leaf gets by the leaves around
-- it.
use Rattle.std.specs.Prelude.{ℕ, List, [], ◌∷◌}
use Rattle.java_lex.specs.declared.class.TheConstants.{END, ID, ABSTRACT, ASSERT, BREAK, CASE, CATCH, CLASS, CONST}
use Rattle.java_lex.specs.declared.class.TheConstants.{CONTINUE, DEFAULT, DO, ELSE, ENUM, EXTENDS, FINAL, FINALLY, FOR}
use Rattle.java_lex.specs.declared.class.TheConstants.{GOTO, IF, IMPLEMENTS, IMPORT, INSTANCEOF, INTERFACE, NATIVE}
use Rattle.java_lex.specs.declared.class.TheConstants.{NEW, PACKAGE, PRIVATE, PROTECTED, PUBLIC, RETURN, STATIC}
use Rattle.java_lex.specs.declared.class.TheConstants.{STRICTFP, SUPER, SWITCH, SYNCHRONIZED, THIS, THROW, THROWS}
use Rattle.java_lex.specs.declared.class.TheConstants.{TRANSIENT, TRY, VOID, VOLATILE, WHILE, PRIM, BOOL, NULL, INT}
use Rattle.java_lex.specs.declared.class.TheConstants.{LONG, FLOAT, DOUBLE, CHAR, STRING, PAREN_OPEN, PAREN_CLOSE}
use Rattle.java_lex.specs.declared.class.TheConstants.{BRACE_OPEN, BRACE_CLOSE, BRACKET_OPEN, BRACKET_CLOSE, SEMICOLON}
use Rattle.java_lex.specs.declared.class.TheConstants.{COMMA, DOT, ELLIPSIS, AT, COLON_COLON, ASSIGN, GREATER, LESS}
use Rattle.java_lex.specs.declared.class.TheConstants.{NOT, TILDE, QUESTION, COLON, ARROW, EQUAL, LESS_EQUAL}
use Rattle.java_lex.specs.declared.class.TheConstants.{GREATER_EQUAL, NOT_EQUAL, AND_AND, OR_OR, PLUS_PLUS}
use Rattle.java_lex.specs.declared.class.TheConstants.{MINUS_MINUS, PLUS, MINUS, STAR, SLASH, AND, OR, CARET, PERCENT}
use Rattle.java_lex.specs.declared.class.TheConstants.{SHIFT_LEFT, PLUS_ASSIGN, MINUS_ASSIGN, STAR_ASSIGN}
use Rattle.java_lex.specs.declared.class.TheConstants.{SLASH_ASSIGN, AND_ASSIGN, OR_ASSIGN, CARET_ASSIGN}
use Rattle.java_lex.specs.declared.class.TheConstants.{PERCENT_ASSIGN, SHIFT_LEFT_ASSIGN, LAMBDA, LABEL, TREF, DECL}
use Rattle.java_lex.specs.declared.class.TheConstants.{PREF, LPAR, CAST, ANN, SHGT, SETGT}

-- each of them once
unfoldable pub classes : List ℕ
classes =
    END ∷ ID ∷ ABSTRACT ∷ ASSERT ∷ BREAK ∷ CASE ∷ CATCH ∷ CLASS ∷ CONST ∷ CONTINUE ∷ DEFAULT ∷ DO ∷ ELSE ∷ ENUM
    ∷ EXTENDS ∷ FINAL ∷ FINALLY ∷ FOR ∷ GOTO ∷ IF ∷ IMPLEMENTS ∷ IMPORT ∷ INSTANCEOF ∷ INTERFACE ∷ NATIVE ∷ NEW
    ∷ PACKAGE ∷ PRIVATE ∷ PROTECTED ∷ PUBLIC ∷ RETURN ∷ STATIC ∷ STRICTFP ∷ SUPER ∷ SWITCH ∷ SYNCHRONIZED ∷ THIS
    ∷ THROW ∷ THROWS ∷ TRANSIENT ∷ TRY ∷ VOID ∷ VOLATILE ∷ WHILE ∷ PRIM ∷ BOOL ∷ NULL ∷ INT ∷ LONG ∷ FLOAT ∷ DOUBLE
    ∷ CHAR ∷ STRING ∷ PAREN_OPEN ∷ PAREN_CLOSE ∷ BRACE_OPEN ∷ BRACE_CLOSE ∷ BRACKET_OPEN ∷ BRACKET_CLOSE ∷ SEMICOLON
    ∷ COMMA ∷ DOT ∷ ELLIPSIS ∷ AT ∷ COLON_COLON ∷ ASSIGN ∷ GREATER ∷ LESS ∷ NOT ∷ TILDE ∷ QUESTION ∷ COLON ∷ ARROW
    ∷ EQUAL ∷ LESS_EQUAL ∷ GREATER_EQUAL ∷ NOT_EQUAL ∷ AND_AND ∷ OR_OR ∷ PLUS_PLUS ∷ MINUS_MINUS ∷ PLUS ∷ MINUS
    ∷ STAR ∷ SLASH ∷ AND ∷ OR ∷ CARET ∷ PERCENT ∷ SHIFT_LEFT ∷ PLUS_ASSIGN ∷ MINUS_ASSIGN ∷ STAR_ASSIGN
    ∷ SLASH_ASSIGN ∷ AND_ASSIGN ∷ OR_ASSIGN ∷ CARET_ASSIGN ∷ PERCENT_ASSIGN ∷ SHIFT_LEFT_ASSIGN ∷ LAMBDA ∷ LABEL
    ∷ TREF ∷ DECL ∷ PREF ∷ LPAR ∷ CAST ∷ ANN ∷ SHGT ∷ SETGT ∷ []
