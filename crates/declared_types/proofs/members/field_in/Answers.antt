use Rattle.dialogue.specs.ToldLaws.{told_map}
use Rattle.declared_types.specs.Signatures.{plain_written, field_with}
use Rattle.declared_types.proofs.members.field_in.Goals as goal

pub returns : goal.returns
returns g c =
    rw c.in_ok-field.ensures (told_map (plain_written c.args.owner.now c.args.own.now c.args.f.now.ty)
    (field_with c.args.owner.now c.args.f.now) (g.C.Classes.world c.args.c.now) c.args.asks.now
    c.plain_written.new.asks c.in_ok-ty.ty c.in_ok-ty.ensures)
