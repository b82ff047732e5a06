use Rattle.std.proofs.Common.{◌∙◌, ap, subst, [], ◌∷◌, ◌++◌}
use Rattle.dialogue.specs.Told.{Told}
use Rattle.dialogue.specs.ToldLaws.{told_bind}
use Rattle.declared_types.specs.Resolving.{as_frames}
use Rattle.declared_types.specs.Supertypes.{supertypes_of, first_by_kind, class_written, gathered, known}
use Rattle.declared_types.proofs.supertypes.supertypes_of_asking.Goals as goal

pub returns : goal.returns
unfolding supertypes_of
returns g c =
    let d = c.args.d.now in
    let w = g.C.Classes.world c.args.c.now in
    let frames = as_frames d.type_params in
    let first = c.in_ok-first.first in
    let old = c.args.asks.now in
    let mid = c.first_supertype.new.asks in
    let new = c.put_classes.new.asks in
    let names = c.put_classes.new.names.items in
    let made = c.in_ok-frames.ensures ∙ ap as_frames c.as_slice.ensures in
    let f = class_written d.cx frames in
    rw c.in_ok-supertypes.ensures record {
      told =
          told_bind (first_by_kind d frames d.kind) (λ p. gathered f (known (p ∷ [])) d.interfaces) w old mid new first
          names (subst (λ fs. Told (first_by_kind d fs d.kind) w old mid first) made c.in_ok-first.ensures)
          (subst (λ ns. Told (gathered f ns d.interfaces) w mid new names)
          (c.in_ok-put_found.ensures ∙ ap (λ ns. ns ++ known (first ∷ [])) c.new-names.ensures.items)
          (subst (λ ts. Told (gathered f c.put_found.new.names.items ts) w mid new names) c.as_slice-2.ensures
          (subst
          (λ fs. Told (gathered (class_written d.cx fs) c.put_found.new.names.items c.as_slice-2.result.now) w mid new
          names) made c.in_ok-put_classes.ensures)));
    }
