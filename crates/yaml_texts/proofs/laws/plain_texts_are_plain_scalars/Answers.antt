use Rattle.yaml_texts.proofs.PlainTexts.{plain_texts}
use Rattle.yaml_texts.proofs.laws.plain_texts_are_plain_scalars.Goals as goal

pub returns : goal.returns
returns c = plain_texts
