use Rattle.dialogue.specs.DialogueLaws.{run_alike, asked_alike}
use Rattle.declared_types.specs.Signatures.{fields_of, methods_of}
use Rattle.declared_types.specs.Supertypes.{supertypes_of}
use Rattle.declared_types.proofs.laws.rows_rest_on_their_questions.Goals as goal

pub returns-clause-supertypes : goal.returns-clause-supertypes
returns-clause-supertypes c w v d = run_alike (supertypes_of d) w v

pub returns-clause-supertypes_ask : goal.returns-clause-supertypes_ask
returns-clause-supertypes_ask c w v d = asked_alike (supertypes_of d) w v

pub returns-clause-fields : goal.returns-clause-fields
returns-clause-fields c w v d = run_alike (fields_of d) w v

pub returns-clause-fields_ask : goal.returns-clause-fields_ask
returns-clause-fields_ask c w v d = asked_alike (fields_of d) w v

pub returns-clause-methods : goal.returns-clause-methods
returns-clause-methods c w v d = run_alike (methods_of d) w v

pub returns-clause-methods_ask : goal.returns-clause-methods_ask
returns-clause-methods_ask c w v d = asked_alike (methods_of d) w v
