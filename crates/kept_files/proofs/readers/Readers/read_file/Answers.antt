use Rattle.std.proofs.Common.{◌≡◌, Some, sym, subst, ◌∙◌}
use Rattle.std.specs.Prelude.{IfOk}
use Rattle.java_lex.specs.Laws.{AreBytes}
use Rattle.kept_files.specs.declared.reading.Reading.{Reading}
use Rattle.kept_files.proofs.Readings.{same, other_file, java_same, yaml_same, properties_same}
use Rattle.kept_files.proofs.readers.Readers.read_file.Goals as goal

pub returns-in-Java-clause-same : goal.returns-in-Java-clause-same
returns-in-Java-clause-same g c = λ read are.
    subst (λ b. IfOk c.read_as_java.result (λ (r : Reading). r ≡ read c.args.path.now (Some b)))
    (c.as_slice-text.ensures ∙ c.get.ensures)
    (java_same read are c.args.path.now c.as_slice-text.result.now c.read_as_java.result c.are_bytes.ensures
    (sym c.kind_of.ensures ∙ c.in-Java.is) c.read_as_java.ensures.reading)

pub returns-in-Properties-clause-same : goal.returns-in-Properties-clause-same
returns-in-Properties-clause-same g c = λ read are.
    properties_same read are c.args.path.now c.args.bytes.now c.read_as_properties.result
    (subst AreBytes (c.as_slice-text.ensures ∙ c.get.ensures) c.are_bytes.ensures)
    (sym c.kind_of.ensures ∙ c.in-Properties.is) c.read_as_properties.ensures.reading

pub returns-in-Other-clause-same : goal.returns-in-Other-clause-same
returns-in-Other-clause-same g c = λ read are.
    same read c.args.path.now c.args.bytes.now _ are
    (subst AreBytes (c.as_slice-text.ensures ∙ c.get.ensures) c.are_bytes.ensures)
    (other_file c.args.path.now c.args.bytes.now (sym c.kind_of.ensures ∙ c.in-Other.is))

pub returns-in-Yaml-clause-same : goal.returns-in-Yaml-clause-same
returns-in-Yaml-clause-same g c = λ read are.
    subst (λ b. IfOk c.read_as_yaml.result (λ (r : Reading). r ≡ read c.args.path.now (Some b)))
    (c.as_slice-text.ensures ∙ c.get.ensures)
    (yaml_same read are c.args.path.now c.as_slice-text.result.now c.read_as_yaml.result c.are_bytes.ensures
    (sym c.kind_of.ensures ∙ c.in-Yaml.is) c.read_as_yaml.ensures.reading)
