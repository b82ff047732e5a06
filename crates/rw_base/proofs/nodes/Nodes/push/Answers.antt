use Rattle.std.proofs.Common.{◌≡◌, ◌∙◌, ◌+◌, ◌++◌, [], ◌∷◌, List, length, sym, ap, subst, arith}
use Rattle.std.proofs.lemmas.List.{length-append}
use Rattle.rw_base.specs.Arena.{row_of}
use Rattle.rw_base.specs.Heads.{rows_over, EndsRise}
use Rattle.rw_base.specs.declared.nodes.NodeHead.{NodeHead}
use Rattle.rw_base.specs.declared.tree.Part.{Part}
use Rattle.rw_base.proofs.HeadLemmas.{put, rise_push}
use Rattle.rw_base.proofs.nodes.Nodes.push.Goals as goal

abbrev last : (c : goal.After-push_reserved) → NodeHead
last c = record { kind = c.args.kind; first = c.args.first; past = c.args.past; parts_end = length c.as_slice-used.result.now + length c.args.parts.now }

heads_are : (c : goal.After-push_reserved) → c.push_reserved.new.self.items ≡ c.self.inside.heads.items ++ last c ∷ []
heads_are c = c.push_reserved.ensures.items ∙ ap (λ l. l ++ last c ∷ []) c.in_ok-reserve.ensures.items

parts_are : (c : goal.After-push_reserved) → c.extend_from_slice.new.self.items ≡ c.self.inside.parts.items ++ c.args.parts.now
parts_are c = c.in_ok-extend_from_slice.ensures.items

end_is : (c : goal.After-push_reserved) → length c.as_slice-used.result.now + length c.args.parts.now ≡ length c.self.inside.parts.items + length c.args.parts.now
end_is c = ap (λ (l : List Part). length l + length c.args.parts.now) c.as_slice-used.ensures.value

pub invariant_of-self-2 : goal.invariant_of-self-2
invariant_of-self-2 c = (
  omega (arith, ap length (heads_are c), length-append c.self.inside.heads.items (last c ∷ [])),
  subst (λ (hs : List NodeHead). EndsRise 0 hs (length c.extend_from_slice.new.self.items)) (sym (heads_are c))
      (rise_push 0 (length c.self.inside.parts.items) c.self.inside.heads.items (last c) _ c.self.invariant.1
      (omega (end_is c, arith))
      (end_is c ∙ sym (length-append c.self.inside.parts.items c.args.parts.now) ∙ ap length (sym (parts_are c)))),
)

pub returns-clause-ok : goal.returns-clause-ok
returns-clause-ok c =
    (λ i. rows_over (parts_are c i) 0 (heads_are c i))
    ∙ put c.self.inside.parts.items c.args.parts.now c.self.inside.heads.items (last c) c.self.invariant.1 (end_is c)
    ∙ ap (λ l. l ++ row_of c.args.kind c.args.first c.args.past c.args.parts.now ∷ []) c.self.view_is
