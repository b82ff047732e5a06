-- One byte more of a value, as it is spelled.
use Rattle.std.proofs.Common.{◌≡◌, ℕ, ◌+◌, ◌<◌, ◌≤◌, true, false, List, [], ◌∷◌, ◌++◌, length, get_or, drop, refl, sym, ◌∙◌, ap, append_assoc, append-nil}
use Rattle.std.specs.Prelude.{◌==◌}
use Rattle.std.proofs.lemmas.Bool.{eqb-true, false≢true}
use Rattle.std.proofs.lemmas.List.{at_drop_more, at_drop_all}
use Rattle.properties_tree.specs.Entries.{begins_with_separator}
use Rattle.properties_tree.specs.Spelling.{spell_byte, spelled_rest, spelled_spaces, spelled_value}

pub rest_more : (out s : List ℕ) (i : ℕ) → i < length s → out ++ spelled_rest (drop i s) ≡ (out ++ spell_byte (get_or s i 0 == 92) (get_or s i 0)) ++ spelled_rest (drop (i + 1) s)
unfolding spelled_rest
rest_more out s i h =
    ap (λ t. out ++ t) (at_drop_more spelled_rest s i 0 h) ∙ sym (append_assoc out (spell_byte (get_or s i 0 == 92) (get_or s i 0)) (spelled_rest (drop (i + 1) s)))

pub rest_all : (out s : List ℕ) (i : ℕ) → length s ≤ i → out ++ spelled_rest (drop i s) ≡ out
unfolding spelled_rest
rest_all out s i h = ap (λ t. out ++ t) (at_drop_all spelled_rest s i h) ∙ append-nil out

pub ruleset over_rest = (rest_more, rest_all)

pub space_more : (out s : List ℕ) (i : ℕ) → i < length s → (get_or s i 0 == 32) ≡ true → out ++ spelled_spaces (drop i s) ≡ (out ++ 92 ∷ 32 ∷ []) ++ spelled_spaces (drop (i + 1) s)
unfolding spelled_spaces
space_more out s i h space =
    ap (λ t. out ++ t) (at_drop_more spelled_spaces s i 0 h ∙ (rw space refl ∙ ap (λ b. 92 ∷ b ∷ spelled_spaces (drop (i + 1) s)) (eqb-true (get_or s i 0) 32 space)))
    ∙ sym (append_assoc out (92 ∷ 32 ∷ []) (spelled_spaces (drop (i + 1) s)))

pub spaces_end : (s : List ℕ) (i : ℕ) → i < length s → (get_or s i 0 == 32) ≡ false → spelled_spaces (drop i s) ≡ spelled_rest (drop i s)
unfolding spelled_spaces
spaces_end s i h other = at_drop_more spelled_spaces s i 0 h ∙ (rw other refl ∙ sym (at_drop_more spelled_rest s i 0 h))

pub spaces_all : (s : List ℕ) (i : ℕ) → length s ≤ i → spelled_spaces (drop i s) ≡ spelled_rest (drop i s)
unfolding spelled_spaces spelled_rest
spaces_all s i h = at_drop_all spelled_spaces s i h ∙ sym (at_drop_all spelled_rest s i h)

pub value_marked : (s : List ℕ) → begins_with_separator s ≡ true → spelled_value s ≡ (92 ∷ get_or s 0 0 ∷ []) ++ spelled_rest (drop 1 s)
unfolding spelled_value
value_marked [] mark = absurd (false≢true mark)
value_marked (b ∷ rest) mark = rw mark refl

pub value_plain : (s : List ℕ) → begins_with_separator s ≡ false → spelled_value s ≡ spelled_spaces s
unfolding spelled_value spelled_spaces
value_plain [] mark = refl
value_plain (b ∷ rest) mark = rw mark refl

pub ruleset over_value = (space_more, spaces_end, spaces_all, value_marked, value_plain)
