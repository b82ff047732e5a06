use Rattle.std.proofs.Common.{List, ℕ, Option, ◌++◌, ◌∙◌, ap, subst}
use Rattle.std.proofs.lemmas.List.{take_rest}
use Rattle.properties_tree.specs.declared.keys.KeyPlace.{KeyPlace}
use Rattle.conf_recipes.proofs.Copied.{IsWritten, more_written, ended_written}
use Rattle.conf_recipes.proofs.renaming.write_keys.Goals as goal

pub loop-next-preserved : goal.loop-next-preserved
loop-next-preserved c =
    more_written c.args.key.now c.args.spelled.now c.args.bytes.now c.loop-next.out.items c.push_key.new.out.items c.loop-next.copied c.in-Some.place c.in_ok-next.next
    (subst (λ (n : Option KeyPlace). IsWritten c.args.key.now c.args.spelled.now c.args.bytes.now c.loop-next.out.items c.loop-next.copied n) c.in-Some.is c.loop-next.invariant)
    c.in_ok-push_key.ensures c.in_ok-next.ensures

pub returns : goal.returns
returns c =
    c.in_ok-extend_from_slice.ensures.items
    ∙ (ap (λ (t : List ℕ). c.loop-next.out.items ++ t) (take_rest c.args.bytes.now c.loop-next.copied)
    ∙ ended_written c.args.key.now c.args.spelled.now c.args.bytes.now c.loop-next.out.items c.loop-next.copied c.loop-next.next c.in_default.not-Some c.loop-next.invariant)
