use Rattle.std.proofs.Common.{◌≡◌, [], ◌∷◌, ◌++◌, arith}
use Rattle.std.proofs.lemmas.Grind.{common_steps}
use Rattle.rw_grammar.proofs.CodeLaws.{made_opt, made_many}
use Rattle.rw_grammar.proofs.codes.made.Goals as goal

pub returns-in_ok-new-in-Opt : goal.returns-in_ok-new-in-Opt
returns-in_ok-new-in-Opt c =
    let popped : c.args.stack.now ≡ c.pop.new.self ++ c.unwrap.result ∷ [] = grind (arith, common_steps) in
    made_opt c.args.word c.args.stack.now c.pop.new.self c.unwrap.result c.in_ok-new-in-Opt.field-0 c.in-Opt.is popped c.in_ok-new-in-Opt.ensures

pub returns-in_ok-new-in-Many : goal.returns-in_ok-new-in-Many
returns-in_ok-new-in-Many c =
    let popped : c.args.stack.now ≡ c.pop-in-Many.new.self ++ c.unwrap-in-Many.result ∷ [] = grind (arith, common_steps) in
    made_many c.args.word c.args.stack.now c.pop-in-Many.new.self c.unwrap-in-Many.result c.in_ok-new-in-Many.field-0 c.in-Many.is popped c.in_ok-new-in-Many.ensures
