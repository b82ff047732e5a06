use Rattle.std.proofs.Common.{◌≡◌, get_or, true, false, sym, subst, refl}
use Rattle.std.proofs.lemmas.List.{take_rest}
use Rattle.yaml_lex.specs.Scalars.{is_pair}
use Rattle.yaml_lex.proofs.Quoted.{more-pair, more-char, closed, never-closed}
use Rattle.yaml_lex.proofs.scalars.quoted_size.Goals as goal

pub loop-at-preserved-then-is_pair : goal.loop-at-preserved-then-is_pair
loop-at-preserved-then-is_pair c =
    more-pair (get_or c.args.text.now 0 0) c.args.text.now c.loop-at.at c.loop-at.invariant c.loop-at-test.true
    (subst (λ t. is_pair (get_or c.args.text.now 0 0) t ≡ true) (take_rest c.args.text.now c.loop-at.at) (sym c.if-is_pair.ensures))

pub returns-then-text-at : goal.returns-then-text-at
returns-then-text-at c =
    closed (get_or c.args.text.now 0 0) c.args.text.now c.loop-at.at refl c.loop-at.invariant c.loop-at-test.true
    (subst (λ t. is_pair (get_or c.args.text.now 0 0) t ≡ false) (take_rest c.args.text.now c.loop-at.at) (sym c.if-is_pair.ensures)) c.if-text-at.true

pub loop-at-preserved : goal.loop-at-preserved
loop-at-preserved c =
    more-char (get_or c.args.text.now 0 0) c.args.text.now c.loop-at.at c.loop-at.invariant c.loop-at-test.true
    (subst (λ t. is_pair (get_or c.args.text.now 0 0) t ≡ false) (take_rest c.args.text.now c.loop-at.at) (sym c.if-is_pair.ensures)) c.if-text-at.false

pub returns : goal.returns
returns c = never-closed (get_or c.args.text.now 0 0) c.args.text.now c.loop-at.at refl c.loop-at.invariant c.loop-at-test.false
