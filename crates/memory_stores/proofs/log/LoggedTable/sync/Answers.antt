use Rattle.std.proofs.Common.{◌∷◌, subst, sym, reverse, ap, ◌∙◌}
use Rattle.std.specs.FinMap as finmap
use Rattle.memory_stores.specs.Past.{past_of, early_entries, IsEarly}
use Rattle.memory_stores.proofs.Past.{early_states}
use Rattle.memory_stores.proofs.log.LoggedTable.sync.Goals as goal

pub returns-clause-past : goal.returns-clause-past
returns-clause-past c =
    let states = c.self.inside.table.states in
    let es = early_entries (finmap.entries states) in
    let early = subst IsEarly (sym (ap (λ k. k.states) c.self.view_is)) c.requires.early in
    ap (λ undos. past_of undos es) c.note.ensures.last
    ∙ (ap (λ found. (found, c.args.before) ∷ past_of (reverse c.self.inside.log.items) es) (early_states states early)
    ∙ ap (λ k. (k.states, c.args.before) ∷ k.past) c.self.view_is)
