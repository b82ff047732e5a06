use Rattle.std.proofs.Common.{◌≡◌, ◌∷◌, ◌++◌, [], ◌+◌, subst, sym, ap, ◌∙◌, arith}
use Rattle.std.specs.Option.{option_map}
use Rattle.std.proofs.lemmas.List.{map-append}
use Rattle.memory_stores.specs.declared.row.FileRow.{FileRow}
use Rattle.memory_stores.specs.States.{state_of_write}
use Rattle.memory_stores.specs.Picked.{picks_left}
use Rattle.memory_stores.specs.Rows.{entry_of, row_entries}
use Rattle.memory_stores.proofs.Picks.{rest_by, row_passed, row_more}
use Rattle.memory_stores.proofs.crash.picked_rows.Goals as goal

-- the path gets no file
pub loop-at-preserved-in_default : goal.loop-at-preserved-in_default
loop-at-preserved-in_default c =
    let rows = c.args.rows.now in
    let log = c.args.log.now in
    let i = c.loop-at.at in
    let row = c.index-rows-at.result in
    let before = row_entries c.loop-at.picked.items in
    let whole = rest_by log rows c.args.sync c.args.pick 0 in
    let none = sym c.file_picked-file.ensures ∙ ap (option_map (λ b. b.now)) c.in_default.is in
    subst (λ left. before ++ rest_by log rows c.args.sync left (i + 1) ≡ whole) (sym c.picks_left-left.ensures)
    (row_passed log rows c.args.sync c.loop-at.left i row c.requires (omega arith) c.index-rows-at.is before whole none c.loop-at.invariant)

-- one row more
pub loop-at-preserved : goal.loop-at-preserved
loop-at-preserved c =
    let rows = c.args.rows.now in
    let log = c.args.log.now in
    let i = c.loop-at.at in
    let row = c.index-rows-at.result in
    let picked = c.loop-at.picked.items in
    let before = row_entries picked in
    let whole = rest_by log rows c.args.sync c.args.pick 0 in
    let some = sym c.file_picked-file.ensures ∙ ap (option_map (λ b. b.now)) c.in-Some.is in
    let more = row_more log rows c.args.sync c.loop-at.left i row c.requires (omega arith) c.index-rows-at.is before whole c.in-Some.bytes.now some c.loop-at.invariant in
    let new : FileRow = record { path = row.path; state = state_of_write c.in-Some.bytes.now 0 } in
    let pushed = c.in_ok-push.ensures.items ∙ ap (λ r. picked ++ r ∷ []) (ap (λ p. record { path = p; state = c.state_of_write.result }) c.in_ok-copy.ensures ∙ ap (λ s. record { path = row.path; state = s }) (c.state_of_write.ensures ∙ ap (λ bytes. state_of_write bytes 0) c.in_ok-bytes.ensures.items)) in
    subst (λ left. row_entries c.push.new.self.items ++ rest_by log rows c.args.sync left (i + 1) ≡ whole) (sym c.picks_left-left.ensures)
    (ap (λ rows. row_entries rows ++ rest_by log c.args.rows.now c.args.sync (picks_left c.args.sync c.loop-at.left row.state) (i + 1)) pushed
    ∙ (ap (λ es. es ++ rest_by log rows c.args.sync (picks_left c.args.sync c.loop-at.left row.state) (i + 1)) (map-append entry_of picked (new ∷ []))
    ∙ more))
