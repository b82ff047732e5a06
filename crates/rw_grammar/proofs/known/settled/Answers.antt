use Rattle.std.proofs.Common.{◌≡◌, length, sym, subst, arith, drop, List, Bool}
use Rattle.std.proofs.lemmas.List.{take_at}
use Rattle.rw_grammar.specs.Parts.{rule_of}
use Rattle.rw_grammar.specs.Cells.{Tells, Holds, rules_at}
use Rattle.rw_grammar.proofs.Told.{all_told}
use Rattle.rw_grammar.proofs.known.settled.Goals as goal

pub returns-then-not-goes_further : goal.returns-then-not-goes_further
returns-then-not-goes_further c =
    let cells = c.args.cells.now in
    let new = c.goes_further.new.known in
    let long : length new ≡ c.loop.known.len = omega (arith, c.loop.invariant.long, c.loop.known.ok.0, c.as_mut_slice.ensures.len, c.goes_further.auto.known) in
    subst (λ (bits : List Bool). Tells cells (Holds (rule_of (rules_at cells c.args.roots.now)) c.args.asked) bits)
    (sym (take_at new (drop (length new) c.loop.known.items) c.loop.known.len long))
    (all_told cells c.args.roots.now c.requires.laid c.args.asked c.args.empty.now new c.requires.empties c.if-not-goes_further.ensures.right c.if-not-goes_further.ensures.closed)
