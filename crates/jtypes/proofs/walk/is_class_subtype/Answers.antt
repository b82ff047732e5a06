use Rattle.std.proofs.Common.{◌∙◌, sym, subst, ℕ, List, ◌↔◌}
use Rattle.dialogue.specs.Dialogue.{In}
use Rattle.jtypes.specs.Subtype.{Reaches}
use Rattle.jtypes.proofs.Equality.{true_false}
use Rattle.jtypes.proofs.WalkQuestions.{told_same, told_object, told_walk}
use Rattle.jtypes.proofs.walk.is_class_subtype.Goals as goal

pub returns-then-is : goal.returns-then-is
returns-then-is g c = told_same c.args.a.now c.args.b.now _ c.args.asks.now (c.is.ensures.0 c.if-is.true)

pub returns-then-is_object : goal.returns-then-is_object
returns-then-is_object g c = told_object c.args.a.now c.args.b.now _ c.args.asks.now (c.is_object.ensures.0 c.if-is_object.true)

pub returns : goal.returns
returns g c =
    let w = g.C.Classes.world c.args.c.now in
    told_walk c.args.a.now c.args.b.now w c.args.asks.now c.ask_classes.new.asks c.in_ok-names.names c.has-found.result
    (λ e. true_false (sym (c.is.ensures.1 e) ∙ c.if-is.false))
    (λ e. true_false (sym (c.is_object.ensures.1 e) ∙ c.if-is_object.false))
    (subst (λ n. (b : List ℕ) → In b c.in_ok-names.names ↔ Reaches w n c.args.a.now b) c.longest_row.ensures c.in_ok-names.ensures.reached)
    c.in_ok-ask_classes.ensures
    c.has-found.ensures
