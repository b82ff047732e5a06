use Rattle.std.proofs.Common.{List, ◌++◌, sym, ◌∙◌, ap, subst}
use Rattle.std.specs.Prelude.{reverse}
use Rattle.rw_grammar.specs.declared.codes.Word.{Word}
use Rattle.rw_grammar.specs.declared.shape.Shape.{Shape}
use Rattle.rw_grammar.specs.Codes.{codes_of_all}
use Rattle.rw_grammar.specs.Words.{written, written_all, SpellSome, AreStacked}
use Rattle.rw_grammar.proofs.CodeLaws.{behind_words, enough, one_more, written_push}
use Rattle.rw_grammar.proofs.codes.stacked.Goals as goal

pub made-requires : goal.made-requires
made-requires c =
    let w = c.in-Some.word in
    let cs = codes_of_all (reverse c.loop-word.stack) in
    let e = c.loop-word.invariant.are ∙ (ap (λ (ws : List Word). written_all ws ++ cs) c.in-Some.ensures ∙ written_push c.pop.new.self w cs) in
    enough w cs c.loop-word.stack c.loop-word.invariant.stacked (behind_words c.pop.new.self (written w ++ cs) (subst SpellSome e c.requires))

pub loop-word-preserved : goal.loop-word-preserved
loop-word-preserved c =
    let w = c.in-Some.word in
    let cs = codes_of_all (reverse c.loop-word.stack) in
    let e = c.loop-word.invariant.are ∙ (ap (λ (ws : List Word). written_all ws ++ cs) c.in-Some.ensures ∙ written_push c.pop.new.self w cs) in
    let more = one_more w cs c.loop-word.stack c.made.new.stack c.in_ok-shape.shape c.loop-word.invariant.stacked c.in_ok-shape.ensures in
    let pushed = subst (λ (ss : List Shape). AreStacked (written w ++ cs) ss) (sym c.in_ok-push.ensures.ok) more in
    record {
      are = e ∙ ap (λ ds. written_all c.pop.new.self ++ ds) pushed.are;
      stacked = subst (λ ds. AreStacked ds c.push.new.self) pushed.are pushed;
    }
