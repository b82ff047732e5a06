use Rattle.std.proofs.Common.{refl, ◌∷◌, ◌++◌}
use Rattle.java_lex.proofs.Moving.{cut-behind}
use Rattle.java_lex.proofs.laws.cut_behind.Goals as goal

pub returns : goal.returns
returns c = λ broken from at s front more l a c alone. cut-behind broken from at s (front ++ l ∷ more) front more l a c refl alone.one
