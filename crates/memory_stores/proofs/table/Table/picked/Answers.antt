use Rattle.std.proofs.Common.{◌≡◌, ℕ, List, sym, subst, ap, ◌∙◌, true}
use Rattle.std.specs.FinMap as map
use Rattle.std.specs.FinMap.{is_sorted}
use Rattle.memory_stores.specs.declared.row.FileRow.{FileRow}
use Rattle.memory_stores.specs.States.{now_of}
use Rattle.memory_stores.specs.Past.{Entries, past_by}
use Rattle.memory_stores.specs.Picked.{last_states, picked_entries}
use Rattle.memory_stores.specs.Rows.{row_entries, stored}
use Rattle.memory_stores.proofs.Order.{by_bytes}
use Rattle.memory_stores.proofs.Maps.{entries_states}
use Rattle.memory_stores.proofs.Picks.{by_files, by_states, last_by, now_stored, sorted_picked, sorted_stored}
use Rattle.memory_stores.proofs.table.Table.picked.Goals as goal

abbrev files : (c : goal.In_ok-rows) → List FileRow → List (List ℕ × List ℕ)
files c rows = picked_entries c.args.sync (last_by c.args.log.now rows) c.args.pick (row_entries rows)

sorted : (c : goal.In_ok-rows) → is_sorted by_bytes (files c c.self.inside.rows.items) ≡ true
sorted c = sorted_picked c.args.sync (last_by c.args.log.now c.self.inside.rows.items) c.args.pick (row_entries c.self.inside.rows.items) c.self.invariant

entries : (c : goal.In_ok-rows) → row_entries c.in_ok-rows.rows.items ≡ stored (files c c.self.inside.rows.items)
entries c = c.in_ok-rows.ensures ∙ ap (λ rows. stored (files c rows)) c.deref.ensures.value

pub invariant_of-result : goal.invariant_of-result
invariant_of-result c = subst (λ (es : Entries). is_sorted by_bytes es ≡ true) (sym (entries c)) (sorted_stored (files c c.self.inside.rows.items) (sorted c))

pub returns : goal.returns
returns c =
    let rows = c.self.inside.rows.items in
    let last = last_by c.args.log.now rows in
    ap (λ es. now_of (by_states es)) (entries c)
    ∙ (now_stored (files c rows) (sorted c)
    ∙ (ap (λ es. by_files (picked_entries c.args.sync last c.args.pick es)) (sym (entries_states rows c.self.invariant))
    ∙ ap (λ known. by_files (picked_entries c.args.sync (last_states (past_by c.args.log.now known.states)) c.args.pick (map.entries known.states))) c.self.view_is))
