use Rattle.std.proofs.Common.{length, sym, ap, ◌∙◌, arith}
use Rattle.std.specs.FinMap as finmap
use Rattle.memory_stores.specs.States.{now_of}
use Rattle.memory_stores.proofs.Now.{paths_before, path_more, path_passed, now_keys}
use Rattle.memory_stores.proofs.table.Table.paths.Goals as goal

-- the row has no file
pub loop-row-preserved-then-not-has_file : goal.loop-row-preserved-then-not-has_file
loop-row-preserved-then-not-has_file c =
    let rows = c.deref-row-items.result.now in
    let i = c.loop-row.row-index in
    c.loop-row.invariant ∙ sym (path_passed rows i c.row-item.result (omega arith) c.row-item.is (sym c.has_file.ensures ∙ c.if-not-has_file.true))

-- one path more
pub loop-row-preserved : goal.loop-row-preserved
loop-row-preserved c =
    let rows = c.deref-row-items.result.now in
    let i = c.loop-row.row-index in
    let row = c.row-item.result in
    let more = path_more rows i row (omega arith) c.row-item.is (sym c.has_file.ensures ∙ c.if-not-has_file.false) in
    c.in_ok-push.ensures.items ∙ rw (c.loop-row.invariant, c.in_ok-copy.ensures) (sym more)

-- all paths
pub returns : goal.returns
returns c =
    let rows = c.self.inside.rows.items in
    let n = c.loop-row.row-index in
    c.loop-row.invariant
    ∙ ap (λ items. paths_before items n) c.deref-row-items.ensures.value
    ∙ sym (now_keys rows n c.self.invariant (omega (arith, ap length c.deref-row-items.ensures.value)))
    ∙ ap (λ known. finmap.keys (now_of known.states)) c.self.view_is
