use Rattle.std.proofs.Common.{◌≡◌, [], ◌∷◌, ◌++◌, length, arith, sym, ap, ◌∙◌, subst}
use Rattle.std.proofs.lemmas.List.{length_push}
use Rattle.std.proofs.lemmas.Result.{err_from_is_err_and}
use Rattle.journal_text.specs.Changes.{change_of, changes_of}
use Rattle.journal_text.specs.Forms.{Took, StuckAt}
use Rattle.journal_text.specs.Stops.{IsBefore}
use Rattle.journal_text.specs.Parts.{IsEntry, Going, last_path}
use Rattle.journal_text.proofs.Places.{on_at_weaker}
use Rattle.journal_text.proofs.Progress.{changes_of-append}
use Rattle.journal_text.proofs.Whole.{going_step, going_stuck, finished, done_before}
use Rattle.journal_text.proofs.entries.entries.Goals as goal

pub returns-in_err-next-clause-stuck : goal.returns-in_err-next-clause-stuck
returns-in_err-next-clause-stuck c =
    let p = err_from_is_err_and c.from_residual-in_err-next.result c.from_residual-in_err-next.ensures.1 in
    let g = c.loop-index.invariant in
    let before = c.last_path.ensures ∙ ap (λ es. last_path [] (changes_of es)) c.deref.ensures.value in
    rw (p.1, p.2) (on_at_weaker _ _ _ (λ n s. going_stuck c.args.bytes.now c.loop-index.end n c.args.count (changes_of c.loop-index.entries.items) (omega arith) g.going (subst (λ b. StuckAt (IsEntry b) c.args.bytes.now c.loop-index.end n) before s)) c.in_err-next.ensures.stuck)

pub loop-index-preserved : goal.loop-index-preserved
loop-index-preserved c =
    let g = c.loop-index.invariant in
    let before = c.last_path.ensures ∙ ap (λ es. last_path [] (changes_of es)) c.deref.ensures.value in
    let next = c.in_ok-next.next in
    let all : changes_of c.push.new.self.items ≡ changes_of c.loop-index.entries.items ++ change_of next ∷ []
    = ap changes_of c.in_ok-push.ensures.items ∙ changes_of-append c.loop-index.entries.items (next ∷ []) in
    record {
      going = subst (λ done. Going c.args.bytes.now c.in_ok-next.behind c.args.count done) (sym all)
          (going_step c.args.bytes.now c.loop-index.end c.in_ok-next.behind c.args.count (changes_of c.loop-index.entries.items) (change_of next) (omega arith) g.going
          (subst (λ b. Took (IsEntry b) c.args.bytes.now c.loop-index.end c.in_ok-next.behind (change_of next)) before c.in_ok-next.ensures.took));
      count = omega (arith, ap length all, length_push (changes_of c.loop-index.entries.items) (change_of next));
    }

pub returns-clause-took : goal.returns-clause-took
returns-clause-took c = finished c.args.bytes.now c.loop-index.end c.args.count (changes_of c.loop-index.entries.items) c.requires.size c.loop-index.invariant.going (omega arith)

pub entry-requires-clause-before : goal.entry-requires-clause-before
entry-requires-clause-before c =
    let before = c.last_path.ensures ∙ ap (λ es. last_path [] (changes_of es)) c.deref.ensures.value in
    subst IsBefore (sym before) (done_before (changes_of c.loop-index.entries.items) c.loop-index.invariant.going.so_far.batch)
