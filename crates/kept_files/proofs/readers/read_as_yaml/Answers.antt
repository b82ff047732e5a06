use Rattle.std.proofs.Common.{◌∙◌, ap}
use Rattle.std.specs.Prelude.{Err}
use Rattle.kept_files.proofs.Readings.{yaml_read, yaml_refused}
use Rattle.kept_files.proofs.readers.read_as_yaml.Goals as goal

pub returns-in-Ok-clause-reading : goal.returns-in-Ok-clause-reading
returns-in-Ok-clause-reading c = yaml_read c.args.bytes.now c.in-Ok.tree c.in-Ok.ensures.tree

pub returns-in-Err-Refused-clause-reading : goal.returns-in-Err-Refused-clause-reading
returns-in-Err-Refused-clause-reading c =
    yaml_refused c.args.bytes.now c.in-Err-Refused.refused
    (c.read.ensures.refused c.in-Err-Refused.refused (c.in-Err-Refused.is ∙ ap Err c.in-Err-Refused.field-0-is))
