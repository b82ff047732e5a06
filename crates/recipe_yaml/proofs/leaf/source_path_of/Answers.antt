use Rattle.std.proofs.Common.{◌∙◌, sym, ◌&&◌}
use Rattle.rw_host.specs.Path.{is_path}
use Rattle.kept_files.specs.Kinds.{is_source}
use Rattle.recipe_yaml.proofs.Options.{no_utf8, a_source}
use Rattle.recipe_yaml.proofs.leaf.source_path_of.Goals as goal

pub returns-in_default-clause-test : goal.returns-in_default-clause-test
returns-in_default-clause-test c = no_utf8 c.args.text.now (is_path c.args.text.now && is_source c.args.text.now) c.in_default.ensures.cases.0

pub returns-then-is_source-clause-test : goal.returns-then-is_source-clause-test
returns-then-is_source-clause-test c = a_source c.args.text.now c.in-Ok.text.now c.in_ok-path.path c.in-Ok.ensures.cases.1 c.in-Ok.ensures.cases.0 c.in_ok-path.ensures.path (sym c.is_source.ensures ∙ c.if-is_source.true)
