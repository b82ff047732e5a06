use Rattle.std.proofs.Common.{refl}
use Rattle.properties_tree.proofs.ReadBack.{reads_back, some_reads_back}
use Rattle.properties_tree.proofs.ValueBack.{key_alone_reads_back}
use Rattle.properties_tree.proofs.laws.keys_read_back.Goals as goal

pub returns-clause-equals : goal.returns-clause-equals
returns-clause-equals c = reads_back 61 refl refl refl refl refl

pub returns-clause-colon : goal.returns-clause-colon
returns-clause-colon c = reads_back 58 refl refl refl refl refl

pub returns-clause-space : goal.returns-clause-space
returns-clause-space c = some_reads_back 32 refl refl refl

pub returns-clause-tab : goal.returns-clause-tab
returns-clause-tab c = some_reads_back 9 refl refl refl

pub returns-clause-form_feed : goal.returns-clause-form_feed
returns-clause-form_feed c = some_reads_back 12 refl refl refl

pub returns-clause-alone : goal.returns-clause-alone
returns-clause-alone c = key_alone_reads_back
