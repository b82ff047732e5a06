use Rattle.std.proofs.Common.{◌≡◌, true, false, ◌≤◌, ◌++◌, ◌∙◌, ap, subst, sym, inl, map as map_list, string_bytes}
use Rattle.rw_host.specs.Files.{Rose}
use Rattle.rw_host.specs.Sink.{PutsPrefix}
use Rattle.rewrite_cli.specs.Answers.{IsPut, answer, is_writing}
use Rattle.command_words.specs.Asking.{command_told}
use Rattle.command_words.specs.Words.{apply}
use Rattle.rw_host.specs.Crash.{Leaves, Only}
use Rattle.rewrite_cli.specs.Journals.{recovered}
use Rattle.rewrite_cli.specs.Moments.{IsOldOrNew}
use Rattle.rewrite_cli.specs.Statuses.{IsAsBefore}
use Rattle.rewrite_cli.specs.Untouched.{RunLeavesTheUntouched}
use Rattle.rewrite_cli.proofs.Answering.{done_ok, halted, on_ok, not_seven, answer_status, answer_text, answer_left, done_status, cut_text}
use Rattle.rewrite_cli.proofs.LeftAlone.{left_alone}
use Rattle.rewrite_cli.proofs.Performing.{of_command}
use Rattle.rewrite_cli.proofs.rewrite.rewrite.Goals as goal

pub returns-in-Some-clause-status : goal.returns-in-Some-clause-status
returns-in-Some-clause-status g c = λ told meanings are command e n.
    of_command (map_list string_bytes c.args.words.now) (command_told c.in-Some.command) c.in-Some.ensures (λ k. c.tell.result ≡ (answer meanings (g.S.Store.files c.args.store.now) k).status)
    (answer_status _ _ c.perform.result c.tell.result (c.perform.ensures.answer told meanings are) c.tell.ensures.status c.tell.ensures.cut n) command e

pub returns-in-Some-clause-files : goal.returns-in-Some-clause-files
returns-in-Some-clause-files g c = λ told meanings are command e n.
    of_command (map_list string_bytes c.args.words.now) (command_told c.in-Some.command) c.in-Some.ensures (λ k. g.S.Store.files c.perform.new.store ≡ (answer meanings (g.S.Store.files c.args.store.now) k).left)
    (answer_left _ _ c.perform.result c.tell.result (c.perform.ensures.answer told meanings are) c.tell.ensures.status c.tell.ensures.cut n) command e

pub returns-in-Some-clause-text : goal.returns-in-Some-clause-text
returns-in-Some-clause-text g c = λ told puts meanings are command e n.
    of_command (map_list string_bytes c.args.words.now) (command_told c.in-Some.command) c.in-Some.ensures (λ k. (g.K.Sink.bytes_put c.tell.new.out) ≡ (g.K.Sink.bytes_put c.args.out.now) ++ (answer meanings (g.S.Store.files c.args.store.now) k).text)
    (c.tell.ensures.whole puts n ∙ ap (λ t. (g.K.Sink.bytes_put c.args.out.now) ++ t) (answer_text _ _ c.perform.result c.tell.result (c.perform.ensures.answer told meanings are) c.tell.ensures.status c.tell.ensures.cut (inl n))) command e

pub returns-in-Some-clause-line : goal.returns-in-Some-clause-line
returns-in-Some-clause-line g c = λ told puts meanings are command e n.
    of_command (map_list string_bytes c.args.words.now) (command_told c.in-Some.command) c.in-Some.ensures (λ k. IsPut (Rose (g.K.Sink.faults c.args.out.now) (g.K.Sink.faults c.tell.new.out)) (answer meanings (g.S.Store.files c.args.store.now) k).text (g.K.Sink.bytes_put c.args.out.now) (g.K.Sink.bytes_put c.tell.new.out))
    (subst (λ t. IsPut (Rose (g.K.Sink.faults c.args.out.now) (g.K.Sink.faults c.tell.new.out)) t (g.K.Sink.bytes_put c.args.out.now) (g.K.Sink.bytes_put c.tell.new.out)) (answer_text _ _ c.perform.result c.tell.result (c.perform.ensures.answer told meanings are) c.tell.ensures.status c.tell.ensures.cut n) (c.tell.ensures.line puts (not_seven c.tell.result n))) command e

pub returns-in-Some-clause-done : goal.returns-in-Some-clause-done
returns-in-Some-clause-done g c = λ told meanings are command e n.
    of_command (map_list string_bytes c.args.words.now) (command_told c.in-Some.command) c.in-Some.ensures (λ k. (answer meanings (g.S.Store.files c.args.store.now) k).status ≤ 1)
    (done_status _ _ c.perform.result c.tell.result (c.perform.ensures.answer told meanings are) c.tell.ensures.status c.tell.ensures.cut n) command e

pub returns-in-Some-clause-cut_text : goal.returns-in-Some-clause-cut_text
returns-in-Some-clause-cut_text g c = λ told puts meanings are command e n.
    of_command (map_list string_bytes c.args.words.now) (command_told c.in-Some.command) c.in-Some.ensures (λ k. PutsPrefix (g.K.Sink.bytes_put c.args.out.now) (answer meanings (g.S.Store.files c.args.store.now) k).text (g.K.Sink.bytes_put c.tell.new.out))
    (subst (λ t. PutsPrefix (g.K.Sink.bytes_put c.args.out.now) t (g.K.Sink.bytes_put c.tell.new.out)) (cut_text _ _ c.perform.result c.tell.result (c.perform.ensures.answer told meanings are) c.tell.ensures.status c.tell.ensures.cut n) (c.tell.ensures.front puts n)) command e

pub returns-in-Some-clause-unchanged : goal.returns-in-Some-clause-unchanged
returns-in-Some-clause-unchanged g c = λ told meanings are h.
    halted (IsAsBefore (meanings.journal (g.S.Store.files c.args.store.now)) (g.S.Store.files c.args.store.now) (g.S.Store.files c.perform.new.store)) c.perform.result c.tell.result c.tell.ensures.status h
    (c.perform.ensures.unchanged told meanings are)

pub returns-in-Some-clause-any_moment : goal.returns-in-Some-clause-any_moment
returns-in-Some-clause-any_moment g c = λ told meanings are command e each.
    of_command (map_list string_bytes c.args.words.now) (command_told c.in-Some.command) c.in-Some.ensures
    (λ k. Leaves g.S.Store.moment g.S.Store.left_since g.S.Store.image c.args.store.now c.perform.new.store
    (IsOldOrNew (g.S.Store.image c.args.store.now) (answer meanings (g.S.Store.files c.args.store.now) k).left) (IsOldOrNew (g.S.Store.image c.args.store.now) (answer meanings (g.S.Store.files c.args.store.now) k).left))
    (c.perform.ensures.any_moment told meanings are each) command e

pub returns-in-Some-clause-one_image : goal.returns-in-Some-clause-one_image
returns-in-Some-clause-one_image g c = λ told command e w n.
    of_command (map_list string_bytes c.args.words.now) (command_told c.in-Some.command) c.in-Some.ensures (λ k. is_writing k ≡ true → Only (g.S.Store.files c.perform.new.store) (g.S.Store.image c.perform.new.store))
    (λ v. on_ok (Only (g.S.Store.files c.perform.new.store) (g.S.Store.image c.perform.new.store)) c.perform.result
    (done_ok c.perform.result c.tell.result c.tell.ensures.status c.tell.ensures.cut n) (c.perform.ensures.one_image told v)) command e w

pub returns-in-Some-clause-synced : goal.returns-in-Some-clause-synced
returns-in-Some-clause-synced g c = λ command e w n.
    of_command (map_list string_bytes c.args.words.now) (command_told c.in-Some.command) c.in-Some.ensures (λ k. is_writing k ≡ true → g.S.Store.is_unsynced c.perform.new.store ≡ false)
    (λ v. on_ok (g.S.Store.is_unsynced c.perform.new.store ≡ false) c.perform.result
    (done_ok c.perform.result c.tell.result c.tell.ensures.status c.tell.ensures.cut n) (c.perform.ensures.synced v)) command e w

pub returns-in-Some-clause-untouched : goal.returns-in-Some-clause-untouched
returns-in-Some-clause-untouched g c = λ told meanings are asked e n.
    let before = g.S.Store.files c.args.store.now in
    let after = g.S.Store.files c.perform.new.store in
    let left : after ≡ (answer meanings before (apply asked)).left =
    of_command (map_list string_bytes c.args.words.now) (command_told c.in-Some.command) c.in-Some.ensures (λ k. after ≡ (answer meanings before k).left)
    (answer_left _ _ c.perform.result c.tell.result (c.perform.ensures.answer told meanings are) c.tell.ensures.status c.tell.ensures.cut n) (apply asked) e in
    subst (RunLeavesTheUntouched meanings asked (recovered (meanings.journal before) before)) (sym left) (left_alone meanings asked before)

pub returns-in-Some-clause-unwritten : goal.returns-in-Some-clause-unwritten
returns-in-Some-clause-unwritten g c = λ command e w.
    of_command (map_list string_bytes c.args.words.now) (command_told c.in-Some.command) c.in-Some.ensures (λ k. is_writing k ≡ false → g.S.Store.files c.perform.new.store ≡ g.S.Store.files c.args.store.now)
    c.perform.ensures.unwritten command e w
