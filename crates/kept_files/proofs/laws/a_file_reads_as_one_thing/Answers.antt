use Rattle.kept_files.proofs.Readings.{one}
use Rattle.kept_files.proofs.laws.a_file_reads_as_one_thing.Goals as goal

pub returns : goal.returns
returns c path bytes a b are x y = one c.readings_are_one.ensures c.readings_are_one-2.ensures path bytes a b are x y
