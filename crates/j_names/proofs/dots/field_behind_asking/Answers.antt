use Rattle.dialogue.specs.ToldLaws.{told_value}
use Rattle.jtypes.specs.Arrays.{array_is}
use Rattle.j_names.specs.Dots.{field_behind, array_field}
use Rattle.j_names.proofs.dots.field_behind_asking.Goals as goal

pub returns-in-Array : goal.returns-in-Array
unfolding field_behind
returns-in-Array g c = rw (c.in-Array.is, array_is c.in-Array.field-0) record {
  told =
      told_value (g.C.Classes.world c.args.c.now) c.args.asks.now c.array_field.result (array_field c.args.name.now)
      c.array_field.ensures;
}
