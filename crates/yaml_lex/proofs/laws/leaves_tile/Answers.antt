use Rattle.yaml_lex.proofs.Tiling.{tiles}
use Rattle.yaml_lex.proofs.laws.leaves_tile.Goals as goal

pub returns : goal.returns
returns c = tiles
