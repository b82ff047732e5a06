use Rattle.rewrite_cli.proofs.running.prepare.Given as goal

abbrev pub ghosts-run_recipe : goal.ghosts-run_recipe
ghosts-run_recipe g a = record { name = a.blank.name; parts = a.blank.parts }
