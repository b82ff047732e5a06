-- The classes of YAML leaves.
use Rattle.std.specs.Prelude.{ℕ, List, [], ◌∷◌}
use Rattle.yaml_lex.specs.declared.class.TheConstants.{END, DOC, DOCEND, DASH, KEY, SCALAR, COLON, FSCALAR, BLOCK}
use Rattle.yaml_lex.specs.declared.class.TheConstants.{ANCHOR, ALIAS, BRACKET_OPEN, BRACKET_CLOSE, BRACE_OPEN}
use Rattle.yaml_lex.specs.declared.class.TheConstants.{BRACE_CLOSE, COMMA, OPENM, OPENS, CLOSE}

-- all classes of leaves
unfoldable pub classes : List ℕ
classes =
    END ∷ DOC ∷ DOCEND ∷ DASH ∷ KEY ∷ SCALAR ∷ COLON ∷ FSCALAR ∷ BLOCK ∷ ANCHOR ∷ ALIAS ∷ BRACKET_OPEN
    ∷ BRACKET_CLOSE ∷ BRACE_OPEN ∷ BRACE_CLOSE ∷ COMMA ∷ OPENM ∷ OPENS ∷ CLOSE ∷ []
