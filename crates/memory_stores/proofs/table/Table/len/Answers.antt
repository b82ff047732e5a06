use Rattle.std.proofs.Common.{◌≡◌, ◌+◌, ◌∷◌, [], length, sym, ap, ◌∙◌, arith, length-append}
use Rattle.std.specs.FinMap as finmap
use Rattle.memory_stores.specs.States.{now_of}
use Rattle.memory_stores.proofs.Now.{paths_before, path_more, path_passed, now_keys, len_keys}
use Rattle.memory_stores.proofs.table.Table.len.Goals as goal

-- the row has no file
pub loop-row-preserved-then-not-has_file : goal.loop-row-preserved-then-not-has_file
loop-row-preserved-then-not-has_file c =
    let rows = c.deref-row-items.result.now in
    let i = c.loop-row.row-index in
    let passed = path_passed rows i c.row-item.result (omega arith) c.row-item.is (sym c.has_file.ensures ∙ c.if-not-has_file.true) in
    (c.loop-row.invariant.0 ∙ sym (ap length passed), omega arith)

-- one file more
pub loop-row-preserved : goal.loop-row-preserved
loop-row-preserved c =
    let rows = c.deref-row-items.result.now in
    let i = c.loop-row.row-index in
    let row = c.row-item.result in
    let more = path_more rows i row (omega arith) c.row-item.is (sym c.has_file.ensures ∙ c.if-not-has_file.false) in
    let count : c.loop-row.len + 1 ≡ length (paths_before rows (i + 1)) = omega (arith, c.loop-row.invariant.0, ap length more, length-append (paths_before rows i) (row.path ∷ [])) in
    (count, omega arith)

-- all files
pub returns : goal.returns
returns c =
    let rows = c.self.inside.rows.items in
    let n = c.loop-row.row-index in
    c.loop-row.invariant.0
    ∙ ap (λ items. length (paths_before items n)) c.deref-row-items.ensures.value
    ∙ sym (ap length (now_keys rows n c.self.invariant (omega (arith, ap length c.deref-row-items.ensures.value))))
    ∙ ap (λ known. length (finmap.keys (now_of known.states))) c.self.view_is
    ∙ len_keys (now_of c.args.self.now.states)
