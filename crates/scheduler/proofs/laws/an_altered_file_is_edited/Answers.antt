use Rattle.scheduler.proofs.Altered.{stepped_of}
use Rattle.scheduler.proofs.laws.an_altered_file_is_edited.Goals as goal

pub returns : goal.returns
returns c = λ read plan leaf value files. stepped_of read plan leaf value files
