use Rattle.std.proofs.Common.{rules, [], ◌∷◌, codes}
use Rattle.std.proofs.lemmas.Result.{on_ok_weaker}
use Rattle.journal_text.specs.Numerals.{numeral}
use Rattle.journal_text.specs.Text.{head_text}
use Rattle.journal_text.proofs.Joined.{three_pieces}
use Rattle.journal_text.proofs.text.push_head.Goals as goal

pub returns : goal.returns
unfolding head_text
returns c = on_ok_weaker c.extend_from_slice-2.result (λ e. three_pieces c.args.out.now.items (codes "rewrite-journal 1\n") (numeral c.args.count) (10 ∷ []) _ _ _
    c.in_ok-extend_from_slice.ensures.items c.in_ok-push_number.ensures e) (search rules)
