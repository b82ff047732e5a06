use Rattle.std.proofs.Common.{◌≡◌, take, drop, false}
use Rattle.properties_tree.specs.Plain.{has_backslash}
use Rattle.properties_tree.specs.Cutting.{key_size, key_end, pieces_in}
use Rattle.properties_tree.proofs.pieces.plain_key_length.Given as goal

abbrev pub invariant-loop-i : goal.invariant-loop-i
invariant-loop-i l = record {
  value : key_size l.text ≡ key_end l.i l.i (pieces_in (drop l.i l.text));
  plain : has_backslash (take l.i l.text) ≡ false;
}
