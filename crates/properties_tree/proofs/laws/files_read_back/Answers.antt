use Rattle.std.proofs.Common.{refl}
use Rattle.properties_tree.proofs.ValueBack.{value_reads_back, mark_counts, file_reads_back}
use Rattle.properties_tree.proofs.laws.files_read_back.Goals as goal

pub returns : goal.returns
returns c = file_reads_back (value_reads_back 61 refl refl refl (mark_counts 61 refl refl) refl refl)
