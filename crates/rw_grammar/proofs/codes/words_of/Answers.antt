use Rattle.std.proofs.Common.{List, ◌++◌, sym, ◌∙◌, ap, subst, arith}
use Rattle.std.proofs.lemmas.Grind.{common_steps}
use Rattle.rw_grammar.specs.Words.{written_all, SpellSome}
use Rattle.rw_grammar.specs.declared.codes.Word.{Word}
use Rattle.rw_grammar.proofs.CodeLaws.{begin_with_word, behind_word, written_push}
use Rattle.rw_grammar.proofs.codes.words_of.Goals as goal

pub first_word-word-requires : goal.first_word-word-requires
first_word-word-requires c = begin_with_word c.loop-rest.rest.now (grind (arith, common_steps)) c.loop-rest.invariant.spell

pub loop-rest-preserved : goal.loop-rest-preserved
loop-rest-preserved c =
    let w = c.first_word-word.result.0 in
    let behind = c.first_word-word.result.1.now in
    record {
      are =
          c.loop-rest.invariant.are ∙ (ap (λ cs. written_all c.loop-rest.words ++ cs) c.first_word-word.ensures
          ∙ (sym (written_push c.loop-rest.words w behind) ∙ ap (λ (ws : List Word). written_all ws ++ behind) (sym c.in_ok-push.ensures.ok)));
      spell = behind_word w behind (subst SpellSome c.first_word-word.ensures c.loop-rest.invariant.spell);
    }
