use Rattle.std.proofs.Common.{◌≡◌, ◌∙◌, sym, ap, length, take, ◌++◌, ◌∷◌, [], List, ℕ, ◌+◌, ◌<◌, get_or, rules, add-one, true}
use Rattle.std.proofs.Math.Seq.{take-suc}
use Rattle.dialogue.specs.Dialogue.{In}
use Rattle.jtypes.proofs.Equality.{true_false}
use Rattle.jtypes.proofs.Levels.{grown_kept, grown_put}
use Rattle.jtypes.proofs.walk.add_new.Goals as goal
use Rattle.jtypes.proofs.walk.add_new.Goals.{then-not-has+in_ok-copy+in_ok-put, else-not-has}

take_more : (xs : List (List ℕ)) (i : ℕ) (x : List ℕ) → i < length xs → x ≡ get_or xs i x → take (i + 1) xs ≡ take i xs ++ x ∷ []
take_more xs i x lt is = rw add-one (take-suc xs i x lt ∙ ap (λ y. take i xs ++ y ∷ []) (sym is))

pub loop-name-preserved : goal.loop-name-preserved
loop-name-preserved c =
    let names = c.args.names.now in
    let i = c.loop-name.name-index in
    let x = c.name-item.result in
    let m = take_more names i x c.loop-name-test.true c.name-item.is in
    elim c.if-not-has.branch [
      | then-not-has+in_ok-copy+in_ok-put w ↦ let fresh = (λ (k : In x c.loop-name.seen). true_false (sym (c.has.ensures.1 k) ∙ w.if-not-has.true)) in rw (m, w.seen-is, rw w.in_ok-copy.ensures at w.in_ok-put.ensures.ok fresh) (grown_put (take i names) c.args.seen.now c.loop-name.seen x fresh c.loop-name.invariant)
      | else-not-has w ↦
          let h : c.has.result ≡ true = search rules in
          let k : In x c.loop-name.seen = c.has.ensures.0 h in
          rw (m, w.seen-is) (grown_kept (take i names) c.args.seen.now c.loop-name.seen x c.loop-name.invariant k)
    ]
