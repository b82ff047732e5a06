-- How a text is spelled as a scalar that may stand in block and in flow context.
use Rattle.std.specs.Prelude.{ℕ, ◌-◌, ◌==◌, ◌&&◌, not, nat_lt, Bool, true, false, List, [], ◌∷◌, ◌++◌, length}
use Rattle.std.specs.Prelude.{slice_index, Option, Some, None, if◌then◌else◌}
use Rattle.std.specs.List.{list_any}
use Rattle.yaml_lex.specs.Characters.{is_blank}
use Rattle.yaml_lex.specs.Scalars.{begins_plain, ends_plain}

-- a character below U+0020 stands in a text
abbrev pub has_control : List ℕ → Bool
has_control text = list_any (λ b. nat_lt b 32) text

-- nothing in a text ends a plain scalar
unfoldable pub goes_on : Bool → List ℕ → Bool
goes_on flow [] = true
goes_on flow (b ∷ rest) = not (ends_plain flow (b ∷ rest)) && goes_on flow rest

-- a whole text is one plain scalar (YAML 1.2, chapter 7.3.3)
abbrev pub is_plain : Bool → List ℕ → Bool
is_plain flow text =
    not (is_blank (slice_index text (length text - 1))) && begins_plain text && goes_on flow text

-- each single quote twice
unfoldable pub doubled : List ℕ → List ℕ
doubled [] = []
doubled (b ∷ rest) = if b == 39 then b ∷ b ∷ doubled rest else b ∷ doubled rest

-- in single quotes (7.3.2)
abbrev pub in_quotes : List ℕ → List ℕ
in_quotes text = 39 ∷ (doubled text ++ 39 ∷ [])

-- the text itself where it is one plain scalar in block and in flow context, else in single quotes
abbrev pub written : List ℕ → List ℕ
written text = if is_plain false text && is_plain true text then text else in_quotes text

abbrev pub spelled : List ℕ → Option (List ℕ)
spelled text = if has_control text then None else Some (written text)
