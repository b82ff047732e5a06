use Rattle.std.proofs.Common.{[], ◌∷◌, reverse, subst, sym, ap, ◌∙◌, arith}
use Rattle.std.specs.FinMap as finmap
use Rattle.memory_stores.specs.States.{States}
use Rattle.memory_stores.specs.Past.{IsEarly, early_entries, past_of}
use Rattle.memory_stores.proofs.Past.{early_states}
use Rattle.memory_stores.proofs.Calls.{early_from, fit_given}
use Rattle.memory_stores.proofs.log.LoggedTable.new.Goals as goal

-- the files that are handed in were touched by no call
pub returns-clause-past : goal.returns-clause-past
returns-clause-past c =
    let states = c.in_ok-table.table.states in
    let early : IsEarly states = subst IsEarly (sym c.in_ok-table.ensures) (early_from 0 1 _ (omega arith) (fit_given 1 c.args.files.items)) in
    ap (λ undos. past_of (reverse undos) (early_entries (finmap.entries states))) c.in_ok-log.ensures.items
    ∙ ap (λ (found : States). (found, 0) ∷ []) (early_states states early)
