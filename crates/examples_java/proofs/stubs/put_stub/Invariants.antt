use Rattle.examples_java.proofs.stubs.put_stub.Given as goal

abbrev pub ghosts-stub_with : goal.ghosts-stub_with
ghosts-stub_with a = record { name = a.blank.name; parts = a.blank.parts }
