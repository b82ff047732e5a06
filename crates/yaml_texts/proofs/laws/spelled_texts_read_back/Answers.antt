use Rattle.yaml_texts.proofs.ReadBack.{keys_read_back, values_read_back, flow_scalars_read_back}
use Rattle.yaml_texts.proofs.laws.spelled_texts_read_back.Goals as goal

pub returns-clause-keys : goal.returns-clause-keys
returns-clause-keys c = keys_read_back

pub returns-clause-values : goal.returns-clause-values
returns-clause-values c = values_read_back

pub returns-clause-flow : goal.returns-clause-flow
returns-clause-flow c = flow_scalars_read_back
