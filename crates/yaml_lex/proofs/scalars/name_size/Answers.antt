use Rattle.std.proofs.lemmas.List.{take_rest}
use Rattle.yaml_lex.proofs.Names.{is-name, no-name}
use Rattle.yaml_lex.proofs.scalars.name_size.Goals as goal

pub returns-then-letters-eq0 : goal.returns-then-letters-eq0
returns-then-letters-eq0 c = no-name c.args.text.now _ c.letters_size-letters.result (take_rest c.args.text.now 1) c.letters_size-letters.ensures c.if-letters-eq0.true

pub returns : goal.returns
returns c = is-name c.args.text.now _ c.letters_size-letters.result (take_rest c.args.text.now 1) c.letters_size-letters.ensures c.if-letters-eq0.false
