use Rattle.std.proofs.Common.{◌≡◌, ◌<◌, inr, length, ap, ◌∙◌, arith}
use Rattle.std.specs.FinMap as map
use Rattle.journal_text.specs.Changes.{changes_of}
use Rattle.run_journal.specs.Standing.{applied}
use Rattle.standing_files.proofs.Keys.{len_keys}
use Rattle.standing_files.proofs.list.list_standing.Goals as goal

pub returns-then-len-most-clause-too_many : goal.returns-then-len-most-clause-too_many
returns-then-len-most-clause-too_many g c told is =
    let files = g.S.Store.files c.args.store.now in
    let standing = applied (changes_of c.args.entries.now) files in
    let merged = c.in_ok-merged.merged in
    let count : length merged.items ≡ map.len standing = ap length (c.in_ok-merged.ensures.keys files (c.in-Ok.ensures.paths told)) ∙ len_keys standing in
    let more : c.args.most < map.len standing = omega (arith, merged.ok, count, c.len.ensures, c.if-len-most.true) in
    inr more

pub returns-clause-all_fit : goal.returns-clause-all_fit
returns-clause-all_fit g c told =
    let files = g.S.Store.files c.args.store.now in
    let standing = applied (changes_of c.args.entries.now) files in
    let merged = c.in_ok-merged.merged in
    let count : length merged.items ≡ map.len standing = ap length (c.in_ok-merged.ensures.keys files (c.in-Ok.ensures.paths told)) ∙ len_keys standing in
    omega (arith, merged.ok, count, c.len.ensures, c.if-len-most.false)
