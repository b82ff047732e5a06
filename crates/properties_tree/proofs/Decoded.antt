-- One element more, as a text is decoded.
use Rattle.std.proofs.Common.{◌≡◌, ℕ, zero, suc, ◌+◌, ◌<◌, ◌≤◌, true, false, List, [], ◌∷◌, ◌++◌, length, get_or, drop, Option, Some, None, refl, sym, ◌∙◌, ap, arith, append_assoc, append-nil}
use Rattle.std.specs.Prelude.{◌==◌, ◌&&◌, encode_utf8}
use Rattle.std.proofs.lemmas.List.{drop_more, drop_all, drop-drop}
use Rattle.properties_tree.specs.Decoding.{Element, byte, code, Escape, escape_of, escaped_byte, four_hex, elements_behind, elements_of, utf8_of, lone_bytes, pair_of, is_high, is_low}
use Rattle.properties_tree.specs.Steps.{Takes, AddsCode, waiting_elements}

elements_behind-drop : (n : ℕ) (s : List ℕ) → elements_behind n s ≡ elements_of (drop n s)
unfolding elements_behind
elements_behind-drop zero s = refl
elements_behind-drop (suc n) [] = refl
elements_behind-drop (suc n) (b ∷ rest) = elements_behind-drop n rest

pub none_said : elements_of [] ≡ []
unfolding elements_behind
none_said = refl

pub at_byte : (b : ℕ) (rest : List ℕ) → (b == 92) ≡ false → elements_of (b ∷ rest) ≡ byte b ∷ elements_of rest
unfolding elements_behind
at_byte b rest other = rw other refl

pub at_escape : (b : ℕ) (rest : List ℕ) → (b == 92) ≡ true → elements_of (b ∷ rest) ≡ (escape_of rest).elements ++ elements_of (drop (escape_of rest).size rest)
unfolding elements_behind
at_escape b rest slash = rw slash (ap (λ es. (escape_of rest).elements ++ es) (elements_behind-drop (escape_of rest).size rest))

module _ (s : List ℕ) (at : ℕ) (inside : at < length s) where
  here : drop at s ≡ get_or s at 0 ∷ drop (at + 1) s
  here = drop_more s at 0 inside

  pub step_byte : (get_or s at 0 == 92) ≡ false → Takes s at 1 (byte (get_or s at 0) ∷ [])
  step_byte other = record { elements = ap elements_of here ∙ at_byte (get_or s at 0) (drop (at + 1) s) other; some = omega arith; inside = omega arith }

  pub step_nothing : (get_or s at 0 == 92) ≡ true → drop (at + 1) s ≡ [] → elements_of (drop at s) ≡ []
  step_nothing slash none = ap elements_of here ∙ (ap (λ t. elements_of (get_or s at 0 ∷ t)) none ∙ (at_escape (get_or s at 0) [] slash ∙ none_said))

  -- an escape of this size behind its backslash
  pub step_escape : (n : ℕ) (es : List Element) → (get_or s at 0 == 92) ≡ true → escape_of (drop (at + 1) s) ≡ record { elements = es; size = n } → at + (1 + n) ≤ length s → Takes s at (1 + n) es
  step_escape n es slash escape fits =
      let sum : at + 1 + n ≡ at + (1 + n) = omega arith in
      record {
        elements = ap elements_of here ∙ (at_escape (get_or s at 0) (drop (at + 1) s) slash
            ∙ (ap (λ (e : Escape). e.elements ++ elements_of (drop e.size (drop (at + 1) s))) escape ∙ ap (λ t. es ++ elements_of t) (drop-drop n (at + 1) s ∙ ap (λ k. drop k s) sum)));
        some = omega arith;
        inside = fits;
      }

-- what an escape is, by the character behind its backslash
pub escape_other : (r : List ℕ) → 0 < length r → (get_or r 0 0 == 117) ≡ false → escape_of r ≡ record { elements = byte (escaped_byte (get_or r 0 0)) ∷ []; size = 1 }
escape_other [] some other = absurd (omega arith)
escape_other (b ∷ rest) some other = rw other refl

pub escape_unicode : (r : List ℕ) (u : ℕ) → 0 < length r → (get_or r 0 0 == 117) ≡ true → four_hex (drop 1 r) ≡ Some u → escape_of r ≡ record { elements = code u ∷ []; size = 5 }
escape_unicode [] u some here four = absurd (omega arith)
escape_unicode (b ∷ rest) u some here four = rw (here, four) refl

pub escape_u : (r : List ℕ) → 0 < length r → (get_or r 0 0 == 117) ≡ true → four_hex (drop 1 r) ≡ None → escape_of r ≡ record { elements = byte 117 ∷ []; size = 1 }
escape_u [] some here none = absurd (omega arith)
escape_u (b ∷ rest) some here none = rw (here, none) refl

-- ---- code units

pub no_code : utf8_of [] ≡ []
unfolding utf8_of
no_code = refl

pub lone_code : (u : ℕ) → utf8_of (code u ∷ []) ≡ lone_bytes u
unfolding utf8_of
lone_code u = refl

pub waits : (out : List ℕ) (u : ℕ) → AddsCode out None u out (Some u)
waits out u es = refl

pub pairs : (out : List ℕ) (h u : ℕ) → is_high h ≡ true → is_low u ≡ true → AddsCode out (Some h) u (out ++ encode_utf8 (pair_of h u)) None
unfolding utf8_of
pairs out h u high low es = rw (high, low) (sym (append_assoc out (encode_utf8 (pair_of h u)) (utf8_of es)))

pub parts : (out : List ℕ) (h u : ℕ) → (is_high h && is_low u) ≡ false → AddsCode out (Some h) u (out ++ lone_bytes h) (Some u)
unfolding utf8_of
parts out h u apart es = rw apart (sym (append_assoc out (lone_bytes h) (utf8_of (code u ∷ es))))

pub ruleset over_codes = (no_code, lone_code, waits, pairs, parts)

-- ---- bytes

byte_written : (pending : Option ℕ) (b : ℕ) (es : List Element) → utf8_of (waiting_elements pending ++ byte b ∷ es) ≡ utf8_of (waiting_elements pending) ++ b ∷ utf8_of es
unfolding utf8_of
byte_written None b es = refl
byte_written (Some u) b es = refl

module _ (s out : List ℕ) (at : ℕ) (pending : Option ℕ) where
  pub took_byte : (b n : ℕ) → Takes s at n (byte b ∷ [])
      → out ++ utf8_of (waiting_elements pending ++ elements_of (drop at s)) ≡ ((out ++ utf8_of (waiting_elements pending)) ++ b ∷ []) ++ utf8_of (waiting_elements None ++ elements_of (drop (at + n) s))
  took_byte b n takes =
      ap (λ es. out ++ utf8_of (waiting_elements pending ++ es)) takes.elements
      ∙ (ap (λ t. out ++ t) (byte_written pending b (elements_of (drop (at + n) s)))
      ∙ (sym (append_assoc out (utf8_of (waiting_elements pending)) (b ∷ utf8_of (elements_of (drop (at + n) s)))) ∙ sym (append_assoc (out ++ utf8_of (waiting_elements pending)) (b ∷ []) (utf8_of (elements_of (drop (at + n) s))))))

  pub took_code : (u n : ℕ) (after : List ℕ) (next : Option ℕ) → Takes s at n (code u ∷ []) → AddsCode out pending u after next
      → out ++ utf8_of (waiting_elements pending ++ elements_of (drop at s)) ≡ after ++ utf8_of (waiting_elements next ++ elements_of (drop (at + n) s))
  took_code u n after next takes goes = ap (λ es. out ++ utf8_of (waiting_elements pending ++ es)) takes.elements ∙ goes (elements_of (drop (at + n) s))

  pub took_nothing : elements_of (drop at s) ≡ [] → out ++ utf8_of (waiting_elements pending ++ elements_of (drop at s)) ≡ out ++ utf8_of (waiting_elements pending ++ elements_of (drop (length s) s))
  took_nothing none = ap (λ es. out ++ utf8_of (waiting_elements pending ++ es)) (none ∙ sym (ap elements_of (drop_all (length s) s (omega arith)) ∙ none_said))

  pub took_all : length s ≤ at → out ++ utf8_of (waiting_elements pending ++ elements_of (drop at s)) ≡ out ++ utf8_of (waiting_elements pending)
  took_all h = ap (λ es. out ++ utf8_of (waiting_elements pending ++ es)) (ap elements_of (drop_all at s h) ∙ none_said) ∙ ap (λ es. out ++ utf8_of es) (append-nil (waiting_elements pending))

pub ruleset over_steps = (took_byte, took_code, took_nothing, took_all)
