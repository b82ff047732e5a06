use Rattle.std.proofs.Common.{◌∙◌, sym, ap, subst, [], ◌∷◌, ◌++◌}
use Rattle.indexmap.specs.IndexMap.{get}
use Rattle.jtypes.specs.World.{name_eq}
use Rattle.j_names.specs.Indexed.{AllNumbered}
use Rattle.j_names.proofs.Numbering.{numbered_kept, numbered_more}
use Rattle.j_names.proofs.frames.Frames.push.Goals as goal

pub invariant_of-self-in_err-number : goal.invariant_of-self-in_err-number
invariant_of-self-in_err-number c =
    let f = get name_eq c.self.inside.numbers in
    let g = get name_eq c.number_of.new.numbers in
    subst (λ xs. AllNumbered g xs c.self.inside.chains) (sym c.in_ok-reserve.ensures.items)
    (numbered_kept f g c.in_err-number.ensures.keeps c.self.inside.items.items c.self.inside.chains c.self.invariant)

pub invariant_of-self-in_err-push : goal.invariant_of-self-in_err-push
invariant_of-self-in_err-push c =
    let f = get name_eq c.self.inside.numbers in
    let g = get name_eq c.number_of.new.numbers in
    subst (λ is. AllNumbered g c.reserve.new.self.items is) (sym c.in_err-push.ensures.err)
    (subst (λ xs. AllNumbered g xs c.self.inside.chains) (sym c.in_ok-reserve.ensures.items)
    (numbered_kept f g c.in_ok-number.ensures.keeps c.self.inside.items.items c.self.inside.chains c.self.invariant))

pub invariant_of-self-2 : goal.invariant_of-self-2
invariant_of-self-2 c =
    let f = get name_eq c.self.inside.numbers in
    let g = get name_eq c.number_of.new.numbers in
    let items = c.self.inside.items.items in
    let chains = c.self.inside.chains in
    subst (λ is. AllNumbered g c.push_reserved.new.self.items is) (sym c.in_ok-push.ensures.ok)
    (subst (λ xs. AllNumbered g xs (chains ++ c.in_ok-number.number ∷ []))
    (sym (c.push_reserved.ensures.items ∙ ap (λ xs. xs ++ c.args.frame ∷ []) c.in_ok-reserve.ensures.items))
    (numbered_more g items chains c.args.frame c.in_ok-number.number
    (numbered_kept f g c.in_ok-number.ensures.keeps items chains c.self.invariant) c.in_ok-number.ensures.number))
