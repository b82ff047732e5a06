-- Where no call is made, a crash may leave what it might have left.
use Rattle.std.proofs.Common.{inl, ℕ, refl, arith}
use Rattle.rw_host.specs.Crash.{Goes, Images, Same}

pub goes_same : (moment : ℕ) (since : ℕ → Images) (images : Images) → Goes moment moment since since images images Same
goes_same moment since images = record {
  later = omega arith;
  nothing_else = λ t c le left. inl left;
  keeps = λ t c le past. past;
  follows = λ c is. (c, (is, refl));
}
