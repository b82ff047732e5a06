-- One byte more of a key, as it is spelled.
use Rattle.std.proofs.Common.{◌≡◌, ℕ, ◌+◌, ◌<◌, ◌≤◌, List, [], ◌++◌, length, get_or, drop, refl, sym, ◌∙◌, ap, append_assoc, append-nil}
use Rattle.std.proofs.lemmas.List.{at_drop_more, at_drop_all}
use Rattle.properties_tree.specs.Spelling.{spell_byte, is_marked_in_key, spelled_key}

pub spelled_more : (out s : List ℕ) (i : ℕ) → i < length s
    → out ++ spelled_key (drop i s) ≡ (out ++ spell_byte (is_marked_in_key (get_or s i 0)) (get_or s i 0)) ++ spelled_key (drop (i + 1) s)
unfolding spelled_key
spelled_more out s i h =
    ap (λ t. out ++ t) (at_drop_more spelled_key s i 0 h)
    ∙ sym (append_assoc out (spell_byte (is_marked_in_key (get_or s i 0)) (get_or s i 0)) (spelled_key (drop (i + 1) s)))

pub spelled_all : (out s : List ℕ) (i : ℕ) → length s ≤ i → out ++ spelled_key (drop i s) ≡ out
unfolding spelled_key
spelled_all out s i h = ap (λ t. out ++ t) (at_drop_all spelled_key s i h) ∙ append-nil out

pub none_spelled : spelled_key [] ≡ []
unfolding spelled_key
none_spelled = refl

pub ruleset over_spelling = (spelled_more, spelled_all)
