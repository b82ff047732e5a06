use Rattle.std.proofs.Common.{◌≡◌, ◌+◌, ◌-◌, ◌*◌, ap, ◌∙◌, arith}
use Rattle.rw_base.specs.Arena.{text_of, leaf_at}
use Rattle.properties_tree.proofs.InTree.{past_is, value_is}
use Rattle.properties_tree.proofs.tree.value_bytes.Goals as goal

pub returns : goal.returns
returns c =
    let n = c.args.entry.0 in
    let bytes = c.args.bytes.now in
    let past = past_is c.args.tree.now bytes c.requires.tree n c.requires.there in
    let two : c.leaves_of.result.1 - 2 ≡ 4 * n + 2 = omega (arith, c.leaves_of.ensures.past, past) in
    c.text.ensures ∙ (ap (λ i. text_of bytes (leaf_at c.args.tree.now.leaves i)) two ∙ value_is c.args.tree.now bytes c.requires.tree n c.requires.there)
