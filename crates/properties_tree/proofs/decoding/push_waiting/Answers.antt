use Rattle.std.proofs.Common.{◌++◌, sym, ap, ◌∙◌, append-nil}
use Rattle.properties_tree.specs.Decoding.{utf8_of}
use Rattle.properties_tree.specs.Steps.{waiting_elements}
use Rattle.properties_tree.proofs.Decoded.{no_code}
use Rattle.properties_tree.proofs.decoding.push_waiting.Goals as goal

pub returns-in-None : goal.returns-in-None
returns-in-None c =
    sym (ap (λ p. c.args.out.now.items ++ utf8_of (waiting_elements p)) c.in-None.is ∙ (ap (λ t. c.args.out.now.items ++ t) no_code ∙ append-nil c.args.out.now.items))
