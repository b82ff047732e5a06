use Rattle.std.proofs.Common.{◌≡◌, ◌+◌, ◌-◌, List, length, get_or, take, drop, sym, ap, subst, ◌∙◌, arith}
use Rattle.std.proofs.lemmas.Bool.{eqb-true, eqb-false}
use Rattle.std.proofs.lemmas.List.{take_rest, nil_from_length}
use Rattle.yaml_tree.specs.declared.key_path.PathStep.{PathStep}
use Rattle.yaml_tree.specs.declared.key_path.TheConstants.{ITEMS}
use Rattle.yaml_tree.specs.KeyPaths.{AreNames, IsKeyPath, IsWrongAt}
use Rattle.yaml_tree.specs.PathReading.{common, GoesOn}
use Rattle.yaml_tree.proofs.PathSteps.{end_read, dot_next, items_wrong, items_next}
use Rattle.yaml_tree.proofs.key_path.read_behind.Goals as goal

pub returns-then-is_empty-clause-end : goal.returns-then-is_empty-clause-end
returns-then-is_empty-clause-end c =
    let text = c.args.text.now in
    let left = drop c.args.at text in
    end_read text c.args.steps.now.items c.args.at c.requires.goes_on
    (nil_from_length left (ap length (sym (take_rest text c.args.at))
    ∙ eqb-true (length (take (length text - c.args.at) left)) 0 (sym c.is_empty.ensures ∙ c.if-is_empty.true)))

pub returns-then-rest-eq46-clause-next : goal.returns-then-rest-eq46-clause-next
returns-then-rest-eq46-clause-next c =
    let text = c.args.text.now in
    let left = drop c.args.at text in
    let some = eqb-false (length (take (length text - c.args.at) left)) 0 (sym c.is_empty.ensures ∙
    c.if-is_empty.false) in
    dot_next text c.args.steps.now.items c.args.at c.requires.goes_on
    (omega (arith, some, ap length (take_rest text c.args.at)))
    (ap (λ s. get_or s 0 0) (sym (take_rest text c.args.at)) ∙ c.if-rest-eq46.true)

pub returns-then-size-lt4-clause-fault : goal.returns-then-size-lt4-clause-fault
returns-then-size-lt4-clause-fault c n e =
    let text = c.args.text.now in
    let at = c.args.at in
    let left = drop at text in
    let rest : take (length text - at) left ≡ left = take_rest text at in
    let size : c.items_size-size.result ≡ common ITEMS left = c.items_size-size.ensures.size ∙ ap (common ITEMS) rest in
    let some = eqb-false (length (take (length text - at) left)) 0 (sym c.is_empty.ensures ∙ c.if-is_empty.false) in
    let same : at + c.items_size-size.result ≡ n = cc in
    subst (IsWrongAt IsKeyPath text) (ap (λ m. at + m) (sym size) ∙ same)
    (items_wrong text c.args.steps.now.items at c.requires.goes_on (omega (arith, some, ap length rest))
    (λ h. c.if-rest-eq46.false (ap (λ s. get_or s 0 0) rest ∙ h)) (omega (arith, size)))

pub returns-clause-next : goal.returns-clause-next
returns-clause-next c =
    let text = c.args.text.now in
    let at = c.args.at in
    let rest : take (length text - at) (drop at text) ≡ drop at text = take_rest text at in
    let size : c.items_size-size.result ≡ common ITEMS (drop at text) =
    c.items_size-size.ensures.size ∙ ap (common ITEMS) rest in
    let four : c.items_size-size.result ≡ 4 = omega (arith, c.items_size-size.ensures.most) in
    subst (λ m. GoesOn AreNames text c.push.new.self.items (at + m)) (sym four)
    (subst (λ (xs : List PathStep). GoesOn AreNames text xs (at + 4)) (sym c.in_ok-push.ensures.items)
    (items_next text c.args.steps.now.items at c.requires.goes_on (sym size ∙ four)))
