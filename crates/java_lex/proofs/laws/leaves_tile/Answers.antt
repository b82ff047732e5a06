use Rattle.java_lex.proofs.Tiling.{tiles}
use Rattle.java_lex.proofs.laws.leaves_tile.Goals as goal

pub returns : goal.returns
returns c = tiles
