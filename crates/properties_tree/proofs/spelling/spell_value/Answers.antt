use Rattle.std.proofs.Common.{◌≡◌, List, ℕ, [], ◌∷◌, ◌++◌, get_or, drop, sym, ap, ◌∙◌, arith}
use Rattle.std.proofs.lemmas.Bool.{ne_eqb}
use Rattle.std.proofs.lemmas.List.{take_rest}
use Rattle.properties_tree.specs.Spelling.{spelled_rest, spelled_spaces}
use Rattle.properties_tree.proofs.ValueSpelling.{spaces_end, spaces_all, value_marked}
use Rattle.properties_tree.proofs.spelling.spell_value.Goals as goal
use Rattle.properties_tree.proofs.spelling.spell_value.Goals.{then-loop-spaces-test+else-text-spaces-eq32, else-loop-spaces-test}

pub returns-then-begins_with_separator : goal.returns-then-begins_with_separator
returns-then-begins_with_separator c =
    let s = c.args.text.now in
    let mark = sym c.begins_with_separator.ensures ∙ c.if-begins_with_separator.true in
    let two = c.in_ok-push-2.ensures.items ∙ ap (λ (o : List ℕ). o ++ get_or s 0 0 ∷ []) (c.in_ok-push.ensures.items ∙ ap (λ (o : List ℕ). o ++ 92 ∷ []) c.new-out.ensures.items) in
    c.in_ok-push_rest.ensures
    ∙ (ap (λ t. c.push-then-begins_with_separator.new.self.items ++ spelled_rest t) (take_rest s 1)
    ∙ (ap (λ (o : List ℕ). o ++ spelled_rest (drop 1 s)) two ∙ sym (value_marked s mark)))

pub returns : goal.returns
returns c =
    let s = c.args.text.now in
    let k = c.loop-spaces.spaces in
    let out = c.loop-spaces.out.items in
    let same : spelled_spaces (drop k s) ≡ spelled_rest (drop k s) =
    elim c.loop-spaces-test.branch [ then-loop-spaces-test+else-text-spaces-eq32 w ↦ spaces_end s k (omega arith) (ne_eqb _ 32 w.if-text-spaces-eq32.false) | else-loop-spaces-test w ↦ spaces_all s k (omega arith) ] in
    c.in_ok-push_rest-2.ensures
    ∙ (ap (λ t. out ++ spelled_rest t) (take_rest s k) ∙ (ap (λ t. out ++ t) (sym same) ∙ sym c.loop-spaces.invariant.value))
