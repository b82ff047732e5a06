use Rattle.jtypes.specs.Arrays.{array_is}
use Rattle.j_names.specs.Calls.{methods_behind}
use Rattle.j_names.proofs.receivers.methods_behind_asking.Goals as goal

pub returns-in_ok-methods-in-Array : goal.returns-in_ok-methods-in-Array
unfolding methods_behind
returns-in_ok-methods-in-Array g c =
    rw (c.in-Array.is, array_is c.in-Array.field-0) record { told = c.in_ok-methods-in-Array.ensures }
