-- Separators and operators (JLS 3.11, 3.12), with `@`, `->` and `::`. The shifts to the right are none: `>>` is two
-- leaves.
use Rattle.std.specs.Prelude.{ℕ, List, [], ◌∷◌, codes}
use Rattle.java_lex.specs.declared.class.TheConstants.{PAREN_OPEN, PAREN_CLOSE, BRACE_OPEN, BRACE_CLOSE, BRACKET_OPEN}
use Rattle.java_lex.specs.declared.class.TheConstants.{BRACKET_CLOSE, SEMICOLON, COMMA, DOT, ELLIPSIS, AT, COLON_COLON}
use Rattle.java_lex.specs.declared.class.TheConstants.{ASSIGN, GREATER, LESS, NOT, TILDE, QUESTION, COLON, ARROW, EQUAL}
use Rattle.java_lex.specs.declared.class.TheConstants.{LESS_EQUAL, GREATER_EQUAL, NOT_EQUAL, AND_AND, OR_OR, PLUS_PLUS}
use Rattle.java_lex.specs.declared.class.TheConstants.{MINUS_MINUS, PLUS, MINUS, STAR, SLASH, AND, OR, CARET, PERCENT}
use Rattle.java_lex.specs.declared.class.TheConstants.{SHIFT_LEFT, PLUS_ASSIGN, MINUS_ASSIGN, STAR_ASSIGN, SLASH_ASSIGN}
use Rattle.java_lex.specs.declared.class.TheConstants.{AND_ASSIGN, OR_ASSIGN, CARET_ASSIGN, PERCENT_ASSIGN}
use Rattle.java_lex.specs.declared.class.TheConstants.{SHIFT_LEFT_ASSIGN}

-- each sign with its class
abbrev pub signs : List (ℕ × List ℕ)
signs =
    (PAREN_OPEN, codes "(") ∷
    (PAREN_CLOSE, codes ")") ∷
    (BRACE_OPEN, codes "{") ∷
    (BRACE_CLOSE, codes "}") ∷
    (BRACKET_OPEN, codes "[") ∷
    (BRACKET_CLOSE, codes "]") ∷
    (SEMICOLON, codes ";") ∷
    (COMMA, codes ",") ∷
    (DOT, codes ".") ∷
    (ELLIPSIS, codes "...") ∷
    (AT, codes "@") ∷
    (COLON_COLON, codes "::") ∷
    (ASSIGN, codes "=") ∷
    (GREATER, codes ">") ∷
    (LESS, codes "<") ∷
    (NOT, codes "!") ∷
    (TILDE, codes "~") ∷
    (QUESTION, codes "?") ∷
    (COLON, codes ":") ∷
    (ARROW, codes "->") ∷
    (EQUAL, codes "==") ∷
    (LESS_EQUAL, codes "<=") ∷
    (GREATER_EQUAL, codes ">=") ∷
    (NOT_EQUAL, codes "!=") ∷
    (AND_AND, codes "&&") ∷
    (OR_OR, codes "||") ∷
    (PLUS_PLUS, codes "++") ∷
    (MINUS_MINUS, codes "--") ∷
    (PLUS, codes "+") ∷
    (MINUS, codes "-") ∷
    (STAR, codes "*") ∷
    (SLASH, codes "/") ∷
    (AND, codes "&") ∷
    (OR, codes "|") ∷
    (CARET, codes "^") ∷
    (PERCENT, codes "%") ∷
    (SHIFT_LEFT, codes "<<") ∷
    (PLUS_ASSIGN, codes "+=") ∷
    (MINUS_ASSIGN, codes "-=") ∷
    (STAR_ASSIGN, codes "*=") ∷
    (SLASH_ASSIGN, codes "/=") ∷
    (AND_ASSIGN, codes "&=") ∷
    (OR_ASSIGN, codes "|=") ∷
    (CARET_ASSIGN, codes "^=") ∷
    (PERCENT_ASSIGN, codes "%=") ∷
    (SHIFT_LEFT_ASSIGN, codes "<<=") ∷ []
