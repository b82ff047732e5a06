use Rattle.std.proofs.Common.{◌≡◌, sym, ap, ◌∙◌}
use Rattle.std.specs.Option.{option_map}
use Rattle.std.specs.FinMap as map
use Rattle.rw_host.specs.Files.{first_bytes}
use Rattle.journal_text.specs.Changes.{change_of, changes_of}
use Rattle.run_journal.specs.Standing.{applied}
use Rattle.standing_files.proofs.Applied.{standing_found, standing_absent}
use Rattle.standing_files.proofs.Still.{goes_same}
use Rattle.standing_files.proofs.read.read_standing.Goals as goal

-- an entry has the path
pub returns-in_ok-found-in-Ok-clause-bytes : goal.returns-in_ok-found-in-Ok-clause-bytes
returns-in_ok-found-in-Ok-clause-bytes g c told =
    let changes = changes_of c.args.entries.now in
    let entry = c.index-entries-at.result in
    let files = g.S.Store.files c.args.store.now in
    c.in_ok-found-in-Ok.ensures.bytes
    ∙ ap (λ bytes. option_map (first_bytes c.args.most) bytes)
    (ap (λ e. (change_of e).1) c.index-entries-at.is ∙ sym (standing_found files changes c.args.path.now _ c.requires (c.in-Ok.ensures.found entry)))

pub returns-in_ok-found-in-Ok-clause-crash : goal.returns-in_ok-found-in-Ok-clause-crash
returns-in_ok-found-in-Ok-clause-crash g c told = goes_same _ _ _

pub returns-in_err-found-in-Ok-clause-crash : goal.returns-in_err-found-in-Ok-clause-crash
returns-in_err-found-in-Ok-clause-crash g c told = goes_same _ _ _

-- the store is read
pub returns-in-Err-clause-bytes : goal.returns-in-Err-clause-bytes
returns-in-Err-clause-bytes g c told =
    let path = c.args.path.now in
    let changes = changes_of c.args.entries.now in
    let files = g.S.Store.files c.args.store.now in
    let same : map.get (applied changes files) path ≡ map.get files path = standing_absent files changes path c.requires c.in-Err.ensures.absent in
    rw same (c.read.ensures.bytes told)
