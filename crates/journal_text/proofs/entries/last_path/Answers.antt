use Rattle.std.proofs.Common.{[], arith, sym, ◌∙◌, ◌-◌, length}
use Rattle.journal_text.proofs.Progress.{last_is}
use Rattle.journal_text.proofs.entries.last_path.Goals as goal

pub returns-in-len1-up : goal.returns-in-len1-up
returns-in-len1-up c =
    c.as_bytes.ensures.value ∙ (c.as_str.ensures.bytes ∙ sym (last_is c.args.entries.now [] c.last-item.result (length c.args.entries.now - 1) (omega arith) c.last-item.is))
