use Rattle.std.proofs.Common.{refl}
use Rattle.properties_tree.proofs.ValueBack.{value_reads_back, value_behind_some, mark_counts, blank_counts}
use Rattle.properties_tree.proofs.laws.values_read_back.Goals as goal

pub returns-clause-equals : goal.returns-clause-equals
returns-clause-equals c = value_reads_back 61 refl refl refl (mark_counts 61 refl refl) refl refl

pub returns-clause-colon : goal.returns-clause-colon
returns-clause-colon c = value_reads_back 58 refl refl refl (mark_counts 58 refl refl) refl refl

pub returns-clause-space : goal.returns-clause-space
returns-clause-space c = value_behind_some 32 refl refl refl (blank_counts 32 refl)

pub returns-clause-tab : goal.returns-clause-tab
returns-clause-tab c = value_behind_some 9 refl refl refl (blank_counts 9 refl)

pub returns-clause-form_feed : goal.returns-clause-form_feed
returns-clause-form_feed c = value_behind_some 12 refl refl refl (blank_counts 12 refl)
