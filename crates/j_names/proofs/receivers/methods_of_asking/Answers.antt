use Rattle.j_names.proofs.receivers.methods_of_asking.Goals as goal

pub returns : goal.returns
returns g c = record { told = rw c.top_around-top.ensures at c.in_ok-methods.ensures }
