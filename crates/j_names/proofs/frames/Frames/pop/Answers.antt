use Rattle.std.proofs.Common.{sym, subst}
use Rattle.indexmap.specs.IndexMap.{get}
use Rattle.jtypes.specs.World.{name_eq}
use Rattle.j_names.specs.Indexed.{AllNumbered}
use Rattle.j_names.proofs.Numbering.{numbered_less}
use Rattle.j_names.proofs.frames.Frames.pop.Goals as goal

pub invariant_of-self-2 : goal.invariant_of-self-2
invariant_of-self-2 c =
    let f = get name_eq c.self.inside.numbers in
    let chains = c.self.inside.chains in
    subst (λ is. AllNumbered f c.pop.new.self.items is) (sym c.pop-2.ensures)
    (numbered_less f c.pop.new.self.items c.in_ok-last.last chains
    (subst (λ xs. AllNumbered f xs chains) c.in_ok-last.ensures.items c.self.invariant))
