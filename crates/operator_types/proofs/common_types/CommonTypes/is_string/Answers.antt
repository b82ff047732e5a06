use Rattle.operator_types.proofs.StringTests.{class_is_string, others_are_no_string}
use Rattle.operator_types.proofs.common_types.CommonTypes.is_string.Goals as goal

pub returns-in-Class : goal.returns-in-Class
returns-in-Class c = rw c.in-Class.is (class_is_string c.is.result c.in-Class.name c.args.self.now.string c.args.self.now.is_string c.is.ensures)

pub returns-in_default : goal.returns-in_default
returns-in_default c = others_are_no_string c.args.t.now c.in_default.not-Class
