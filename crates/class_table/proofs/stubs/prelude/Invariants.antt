use Rattle.class_table.proofs.stubs.prelude.Given as goal

abbrev pub ghosts-prelude_with : goal.ghosts-prelude_with
ghosts-prelude_with a = record { name = a.blank.name; parts = a.blank.parts }
