-- Texts in single quotes: they are quoted scalars, and say the text.
use Rattle.std.proofs.Common.{◌≡◌, ℕ, ◌+◌, ◌-◌, false, List, [], ◌∷◌, ◌++◌, length}
use Rattle.std.proofs.Common.{inl, inr, refl, sym, ◌∙◌, ap, subst, arith, append_assoc}
use Rattle.std.specs.Prelude.{Option, Some, nat_lt, ◌==◌}
use Rattle.std.proofs.lemmas.Bool.{cases_eq, ne_eqb, or_parts, ltb-false}
use Rattle.std.proofs.lemmas.List.{length-append, take_at}
use Rattle.yaml_lex.specs.Characters.{is_line_end, begins}
use Rattle.yaml_lex.specs.Scalars.{Closes, closing, pair, char, is_pair, IsQuoted}
use Rattle.yaml_texts.specs.Quoted.{Character, character_of, more_of, with_character, said_behind, quoted_text}
use Rattle.yaml_texts.specs.Spelled.{has_control, doubled, in_quotes}
use Rattle.yaml_texts.proofs.Written.{once}

-- ---- one scalar

two_quotes : (rest : List ℕ) → doubled (39 ∷ rest) ≡ 39 ∷ 39 ∷ doubled rest
unfolding doubled
two_quotes rest = refl

none_doubled : doubled [] ≡ []
unfolding doubled
none_doubled = refl

other_byte : (b : ℕ) (rest : List ℕ) → (b == 39) ≡ false → is_pair 39 (b ∷ rest) ≡ false
other_byte b rest e = rw e refl

closes : (text rest : List ℕ) → begins (λ c. c == 39) rest ≡ false → Closes 39 (doubled text ++ 39 ∷ rest) (length (doubled text) + 1)
closes [] rest apart = subst (λ (d : List ℕ). Closes 39 (d ++ 39 ∷ rest) (length d + 1)) (sym none_doubled) (closing apart refl refl)
closes (b ∷ text) rest apart = elim (cases_eq b 39) [
  | inl quote ↦ subst (λ (d : List ℕ). Closes 39 (d ++ 39 ∷ rest) (length d + 1)) (sym (ap (λ n. doubled (n ∷ text)) quote ∙ two_quotes text)) (pair refl (closes text rest apart) (omega arith))
  | inr other ↦
      let e = ne_eqb b 39 other in
      subst (λ (d : List ℕ). Closes 39 (d ++ 39 ∷ rest) (length d + 1)) (sym (once b text e)) (char (other_byte b (doubled text ++ 39 ∷ rest) e) other (closes text rest apart) (omega arith))
]

pub quoted_before : (text rest : List ℕ) → begins (λ c. c == 39) rest ≡ false → IsQuoted (in_quotes text ++ rest) (length (in_quotes text))
quoted_before text rest apart =
    let long : length (doubled text ++ 39 ∷ []) ≡ length (doubled text) + 1 = length-append (doubled text) (39 ∷ []) in
    let size : length (doubled text) + 1 ≡ length (in_quotes text) - 1 = omega arith in
    record {
      some = omega arith;
      closes = subst (λ n. Closes 39 ((doubled text ++ 39 ∷ []) ++ rest) n) size
          (subst (λ (s : List ℕ). Closes 39 s (length (doubled text) + 1)) (sym (append_assoc (doubled text) (39 ∷ []) rest)) (closes text rest apart));
    }

-- ---- it says the text

plain_character : (b : ℕ) (rest : List ℕ) → is_line_end b ≡ false → (b == 39) ≡ false → character_of 39 (b ∷ rest) ≡ Some (record { says = b ∷ []; more = 0 })
unfolding character_of
plain_character b rest inside other = rw (inside, other) refl

quote_character : (rest : List ℕ) → character_of 39 (39 ∷ rest) ≡ Some (record { says = 39 ∷ []; more = 1 })
unfolding character_of
quote_character rest = refl

said_first : (b : ℕ) (rest : List ℕ) → said_behind 39 0 (b ∷ rest) ≡ with_character (character_of 39 (b ∷ rest)) (said_behind 39 (more_of (character_of 39 (b ∷ rest))) rest)
unfolding said_behind
said_first b rest = refl

said_one : (b k : ℕ) (rest : List ℕ) → character_of 39 (b ∷ rest) ≡ Some (record { says = b ∷ []; more = k }) → (text : List ℕ) → said_behind 39 k rest ≡ Some text
    → said_behind 39 0 (b ∷ rest) ≡ Some (b ∷ text)
said_one b k rest e text more =
    said_first b rest ∙ (ap (λ (c : Option Character). with_character c (said_behind 39 (more_of c) rest)) e ∙ ap (with_character (Some (record { says = b ∷ []; more = k }))) more)

said_none : said_behind 39 0 [] ≡ Some []
unfolding said_behind
said_none = refl

skip_one : (b : ℕ) (rest : List ℕ) → said_behind 39 1 (b ∷ rest) ≡ said_behind 39 0 rest
unfolding said_behind
skip_one b rest = refl

no_end : (b : ℕ) → nat_lt b 32 ≡ false → is_line_end b ≡ false
no_end b high =
    let above = ltb-false b 32 high in
    let lf : (b == 10) ≡ false = ne_eqb b 10 (λ e. absurd (omega arith)) in
    let cr : (b == 13) ≡ false = ne_eqb b 13 (λ e. absurd (omega arith)) in
    rw (lf, cr) refl

said_doubled : (text : List ℕ) → has_control text ≡ false → said_behind 39 0 (doubled text) ≡ Some text
said_doubled [] none = ap (said_behind 39 0) none_doubled ∙ said_none
said_doubled (b ∷ text) none =
    let parts = or_parts (nat_lt b 32) (has_control text) none in
    elim (cases_eq b 39) [
      | inl quote ↦
          ap (λ n. said_behind 39 0 (doubled (n ∷ text))) quote
          ∙ (ap (said_behind 39 0) (two_quotes text)
          ∙ (said_one 39 1 (39 ∷ doubled text) (quote_character (39 ∷ doubled text)) text (skip_one 39 (doubled text) ∙ said_doubled text parts.1)
          ∙ ap (λ n. Some (n ∷ text)) (sym quote)))
      | inr other ↦
          let e = ne_eqb b 39 other in
          ap (said_behind 39 0) (once b text e)
          ∙ said_one b 0 (doubled text) (plain_character b (doubled text) (no_end b parts.0) e) text (said_doubled text parts.1)
    ]

pub quoted_says : (text : List ℕ) → has_control text ≡ false → quoted_text (in_quotes text) ≡ Some text
quoted_says text none =
    let long : length (doubled text ++ 39 ∷ []) ≡ length (doubled text) + 1 = length-append (doubled text) (39 ∷ []) in
    let size : length (doubled text) ≡ length (in_quotes text) - 2 = omega arith in
    ap (said_behind 39 0) (take_at (doubled text) (39 ∷ []) (length (in_quotes text) - 2) size) ∙ said_doubled text none
