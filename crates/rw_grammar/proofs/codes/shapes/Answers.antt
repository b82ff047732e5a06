use Rattle.std.proofs.Common.{◌≡◌, ◌≤◌, drop, get_or, sym, subst, arith}
use Rattle.std.proofs.lemmas.Grind.{common_steps}
use Rattle.rw_grammar.specs.Words.{written_all, AreStacked}
use Rattle.rw_grammar.proofs.CodeLaws.{read_if, parts_if, few_if}
use Rattle.rw_grammar.proofs.codes.shapes.Goals as goal

pub returns-clause-parts : goal.returns-clause-parts
returns-clause-parts c =
    let stack = c.in_ok-stack.stack in
    let behind : drop 1 c.args.codes.now ≡ written_all c.in_ok-words.words = grind (arith, common_steps) in
    let stacked = subst (λ ds. AreStacked ds stack) (sym behind) c.in_ok-stack.ensures in
    parts_if c.last_of.result c.args.codes.now (read_if c.last_of.result c.args.codes.now stack c.last_of.new.stack c.len-count.result c.requires stacked c.last_of.ensures.taken c.last_of.ensures.count c.len-count.ensures)

pub returns-clause-few : goal.returns-clause-few
returns-clause-few c =
    let stack = c.in_ok-stack.stack in
    let behind : drop 1 c.args.codes.now ≡ written_all c.in_ok-words.words = grind (arith, common_steps) in
    let stacked = subst (λ ds. AreStacked ds stack) (sym behind) c.in_ok-stack.ensures in
    let few : get_or c.args.codes.now 0 0 ≤ 65535 = omega (arith, c.type_inv.codes 0) in
    few_if c.last_of.result c.args.codes.now (read_if c.last_of.result c.args.codes.now stack c.last_of.new.stack c.len-count.result c.requires stacked c.last_of.ensures.taken c.last_of.ensures.count c.len-count.ensures) few
