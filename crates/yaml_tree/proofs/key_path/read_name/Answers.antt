use Rattle.std.proofs.Common.{◌≡◌, ◌+◌, ◌-◌, List, ◌∷◌, [], ◌++◌, length, take, drop, sym, ap, subst, ◌∙◌, arith}
use Rattle.std.proofs.lemmas.List.{take_rest}
use Rattle.yaml_tree.specs.declared.key_path.PathStep.{PathStep}
use Rattle.yaml_tree.specs.KeyPaths.{IsKeyPath, IsWrongAt}
use Rattle.yaml_tree.specs.PathReading.{name_size, step_of, IsBehind, GoesOn}
use Rattle.yaml_tree.proofs.PathSteps.{no_name, name_read}
use Rattle.yaml_tree.proofs.key_path.read_name.Goals as goal

pub returns-then-size-eq0-clause-fault : goal.returns-then-size-eq0-clause-fault
returns-then-size-eq0-clause-fault c n e =
    let text = c.args.text.now in
    let at = c.args.at in
    let none : name_size (drop at text) ≡ 0 =
    ap name_size (sym (take_rest text at)) ∙ (sym c.name_size-size.ensures.size ∙ c.if-size-eq0.true) in
    let same : at ≡ n = cc in
    let end : at + 0 ≡ n = omega arith in
    subst (IsWrongAt IsKeyPath text) end (c.requires.goes_on.fault 0 (no_name (drop at text) none))

pub returns-clause-behind : goal.returns-clause-behind
returns-clause-behind c =
    let text = c.args.text.now in
    let at = c.args.at in
    let n = c.name_size-size.result in
    let left = drop at text in
    let rest : take (length text - at) left ≡ left = take_rest text at in
    let size : name_size left ≡ n = ap name_size (sym rest) ∙ sym c.name_size-size.ensures.size in
    let front : take n (take (length text - at) left) ≡ take n left = ap (take n) rest in
    let step : c.in_ok-step_of.field-0 ≡ step_of (take n left) = c.in_ok-step_of.ensures ∙ ap step_of front in
    let pushed : c.push.new.self.items ≡ c.args.steps.now.items ++ step_of (take n left) ∷ [] =
    c.in_ok-push.ensures.items ∙ ap (λ x. c.args.steps.now.items ++ x ∷ []) step in
    subst (λ (xs : List PathStep). GoesOn IsBehind text xs (at + n)) (sym pushed)
    (name_read text c.args.steps.now.items at n c.requires.goes_on size (omega arith)
    (omega (arith, c.name_size-size.ensures.inside, ap length rest)))
