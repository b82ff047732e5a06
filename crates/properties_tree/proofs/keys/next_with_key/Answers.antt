use Rattle.std.proofs.Common.{List, ℕ, drop, subst, arith}
use Rattle.std.proofs.lemmas.List.{take_rest}
use Rattle.properties_tree.specs.Starts.{IsLineMatch}
use Rattle.properties_tree.specs.declared.keys.LineMatch.{LineMatch}
use Rattle.properties_tree.proofs.Keyed.{one_kept, key_found, all_kept}
use Rattle.properties_tree.proofs.keys.next_with_key.Goals as goal

pub loop-line-preserved : goal.loop-line-preserved
loop-line-preserved c =
    one_kept c.args.key.now c.args.bytes.now c.args.at c.loop-line.line c.loop-line.invariant c.in-Kept.size
    (subst (λ (v : LineMatch). IsLineMatch c.args.key.now (drop c.loop-line.line c.args.bytes.now) v) c.in-Kept.is
    (subst (λ (t : List ℕ). IsLineMatch c.args.key.now t c.in_ok-size.field-0) (take_rest c.args.bytes.now c.loop-line.line) c.in_ok-size.ensures))

pub returns-in-WithKey : goal.returns-in-WithKey
returns-in-WithKey c =
    key_found c.args.key.now c.args.bytes.now c.args.at c.loop-line.line c.loop-line.invariant c.in-WithKey.place
    (subst (λ (v : LineMatch). IsLineMatch c.args.key.now (drop c.loop-line.line c.args.bytes.now) v) c.in-WithKey.is
    (subst (λ (t : List ℕ). IsLineMatch c.args.key.now t c.in_ok-size.field-0) (take_rest c.args.bytes.now c.loop-line.line) c.in_ok-size.ensures))

pub returns : goal.returns
returns c = all_kept c.args.key.now c.args.bytes.now c.args.at c.loop-line.line (omega arith) c.loop-line.invariant
