use Rattle.std.proofs.Common.{ap, arith}
use Rattle.rw_base.specs.declared.place.Place.{Place}
use Rattle.rw_base.proofs.PlaceLemmas.{few_lines, few_columns}
use Rattle.rw_base.proofs.place.place_after.Goals as goal

pub loop-k-init : goal.loop-k-init
loop-k-init c =
    let line = ap (λ (p : Place). p.line) c.requires.place in
    let column = ap (λ (p : Place). p.column) c.requires.place in
    let bytes = c.args.bytes.now in
    let from = c.args.place.byte in
    record {
      line = line;
      column = column;
      few_lines = omega (arith, line, few_lines bytes from);
      few_columns = omega (arith, column, few_columns bytes from);
    }
