use Rattle.std.proofs.Common.{◌≡◌, length, drop, true, sym, subst, arith}
use Rattle.std.proofs.lemmas.List.{take_rest}
use Rattle.yaml_lex.specs.Scalars.{ends_plain}
use Rattle.yaml_lex.proofs.Plain.{ended, at-end}
use Rattle.yaml_lex.proofs.scalars.plain_end.Goals as goal

pub returns-then-ends_plain : goal.returns-then-ends_plain
returns-then-ends_plain c =
    ended c.args.flow c.args.text.now c.loop-at.at c.loop-at.end c.loop-at.invariant (omega arith)
    (subst (λ t. ends_plain c.args.flow t ≡ true) (take_rest c.args.text.now c.loop-at.at) (sym c.if-ends_plain.ensures))

pub returns : goal.returns
returns c =
    let same : c.loop-at.at ≡ length c.args.text.now = omega arith in
    ended c.args.flow c.args.text.now c.loop-at.at c.loop-at.end c.loop-at.invariant (omega arith)
    (subst (λ n. ends_plain c.args.flow (drop n c.args.text.now) ≡ true) (sym same) (at-end c.args.flow c.args.text.now))
