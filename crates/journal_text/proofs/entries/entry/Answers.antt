use Rattle.std.proofs.Common.{sym}
use Rattle.std.proofs.lemmas.Result.{IfErr-weaker}
use Rattle.journal_text.proofs.Places.{on_at_weaker}
use Rattle.journal_text.proofs.EntryTexts.{entry_by_put, entry_by_del}
use Rattle.journal_text.proofs.entries.entry.Goals as goal

pub returns-then-holds-clause-stuck : goal.returns-then-holds-clause-stuck
returns-then-holds-clause-stuck c = IfErr-weaker c.del_entry.result _ _ (λ fault s. on_at_weaker fault _ _ (λ n t. entry_by_del c.args.before.now c.args.bytes.now c.args.at n (sym c.if-holds.ensures) t) s) c.del_entry.ensures.stuck

pub returns-else-holds-clause-stuck : goal.returns-else-holds-clause-stuck
returns-else-holds-clause-stuck c = IfErr-weaker c.put_entry.result _ _ (λ fault s. on_at_weaker fault _ _ (λ n t. entry_by_put c.args.before.now c.args.bytes.now c.args.at n (sym c.if-holds.ensures) t) s) c.put_entry.ensures.stuck
