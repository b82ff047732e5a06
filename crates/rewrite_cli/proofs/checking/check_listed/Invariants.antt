use Rattle.rewrite_cli.proofs.checking.check_listed.Given as goal

abbrev pub ghosts-check_files : goal.ghosts-check_files
ghosts-check_files g a = record { name = a.blank.name; parts = a.blank.parts }
