-- What the small functions of the crate give. No public clause stands on this.
use Rattle.std.specs.Prelude.{◌≡◌, ℕ, ◌-◌, ◌<◌, ◌≤◌, false, List, [], ◌∷◌, take, drop, length, encode_utf8}
use Rattle.rw_base.specs.NaturalLines.{Line}
use Rattle.yaml_lex.specs.Characters.{is_line_end, begins}
use Rattle.yaml_lex.specs.Scalars.{in_line}
use Rattle.yaml_texts.specs.Quoted.{Character}
use Rattle.yaml_texts.specs.Texts.{further_lines}
use Rattle.yaml_texts.specs.declared.quoted.Said.{Said}
use Rattle.yaml_texts.specs.declared.quoted.Said.TheVariants.{Byte, Char}

-- the bytes of what a character says
abbrev pub bytes_said : Said → List ℕ
bytes_said (Byte b) = b ∷ []
bytes_said (Char c) = encode_utf8 c

abbrev pub character_said : Said → ℕ → Character
character_said said more = record { says = bytes_said said; more = more }

-- At byte `at` a line ends, and behind it the next one goes from byte `from` to byte `to`.
pub record IsNextLine (s : List ℕ) (at from to : ℕ) : Type 0 where
  pub further : at < from
  pub order : from ≤ to
  pub inside : to ≤ length s
  pub ends : begins in_line (drop to s) ≡ false
  pub line : Line
  pub text : line.text ≡ take (to - from) (drop from s)
  pub ending : begins is_line_end line.ending ≡ begins is_line_end (drop to s)
  pub lines : further_lines (drop at s) ≡ line ∷ further_lines (drop to s)
