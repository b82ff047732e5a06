use Rattle.j_names.proofs.receivers.methods_of_object.Goals as goal

pub returns : goal.returns
returns g c = rw (c.top_around-top.ensures, c.in_ok-object.ensures) at c.in_ok-methods.ensures
