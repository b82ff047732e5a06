use Rattle.std.proofs.Common.{◌∙◌, ◌++◌, sym, ap, append-nil}
use Rattle.std.proofs.lemmas.List.Elements.{All-nil, All-same}
use Rattle.written_bodies.specs.Bodies.{IsFieldOf}
use Rattle.written_bodies.proofs.Heads.{of_nothing, of_word, of_typed}
use Rattle.written_bodies.proofs.fields.add_rest.Goals as goal

pub returns-in_default : goal.returns-in_default
returns-in_default c =
    let tree = c.args.tree.now in
    let out = c.args.out.now in
    let none = of_nothing tree.leaves tree.nodes c.args.parts.now c.in_default.ensures.cases in
    record {
      fields = sym (ap (λ x. out ++ x) none ∙ append-nil out);
      inside = All-same (IsFieldOf tree) _ _ none (All-nil (IsFieldOf tree));
    }

pub returns-in-Leaf : goal.returns-in-Leaf
returns-in-Leaf c =
    let tree = c.args.tree.now in
    let out = c.args.out.now in
    let none = of_word tree.leaves tree.nodes c.args.parts.now _ _ _ c.in-Some.ensures.cases.0 c.in-Leaf.is in
    record {
      fields = sym (ap (λ x. out ++ x) none ∙ append-nil out);
      inside = All-same (IsFieldOf tree) _ _ none (All-nil (IsFieldOf tree));
    }

pub returns-in_ok-add_behind_type-in-Node : goal.returns-in_ok-add_behind_type-in-Node
returns-in_ok-add_behind_type-in-Node c =
    let tree = c.args.tree.now in
    let parts = c.args.parts.now in
    let all = of_typed tree.leaves tree.nodes parts _ _ c.in-Node.ty c.in-Some.ensures.cases.0 c.in-Node.is in
    record {
      fields = c.in_ok-add_behind_type-in-Node.ensures.fields ∙ ap (λ x. c.args.out.now ++ x) (sym all);
      inside = All-same (IsFieldOf tree) _ _ all c.in_ok-add_behind_type-in-Node.ensures.inside;
    }
