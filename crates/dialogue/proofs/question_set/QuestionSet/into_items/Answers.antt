use Rattle.std.proofs.Common.{◌≡◌, ◌∙◌, ◌++◌, ap, sym, subst}
use Rattle.std.specs.List.Sorted.{IsPermutation}
use Rattle.indexmap.proofs.CallerLemmas.{Drains-YieldsInOrder}
use Rattle.dialogue.specs.Sorted.{Rising}
use Rattle.dialogue.proofs.Sets.{sorted_rise, sorted_same}
use Rattle.dialogue.proofs.question_set.QuestionSet.into_items.Given.{Over}
use Rattle.dialogue.proofs.question_set.QuestionSet.into_items.Goals as goal

-- all that was kept, in some order
permuted : (g : Over) (c : goal.After-from_vec g) → IsPermutation c.self.inside.set.keys c.sort_unstable.new.self.items
permuted g c =
    let ran = c.in_ok-extend.ensures.ran in
    let taken : ran.1 ≡ c.self.inside.set.keys = Drains-YieldsInOrder _ _ ran.0 ran.1 ran.2.2 ran.4 ∙ ran.2.0 in
    let all : c.extend.new.self.items ≡ c.self.inside.set.keys = ran.3.0 ∙ ap (λ l. l ++ ran.1) c.in_ok-all.ensures.items ∙ taken in
    subst (λ l. IsPermutation l c.sort_unstable.new.self.items) all c.sort_unstable.ensures.permutation

rising : (g : Over) (c : goal.After-from_vec g) → Rising g.Q.Ord.cmp c.sort_unstable.new.self.items
rising g c = sorted_rise g.Q.Ord.cmp g.met.Q.Ord.total g.met.Q.Question.exact g.Q.PartialEq.eq g.met.Q.Ord.matches_eq c.self.inside.set.keys c.sort_unstable.new.self.items (permuted g c) c.sort_unstable.ensures.sorted g.met.Q.Eq.laws.symm c.len.ensures.unique

pub returns-clause-same : goal.returns-clause-same
returns-clause-same g c = c.from_vec.ensures ∙ sorted_same g.Q.Ord.cmp g.met.Q.Ord.total g.met.Q.Question.exact g.Q.PartialEq.eq g.met.Q.Ord.matches_eq c.self.inside.set.keys c.sort_unstable.new.self.items (permuted g c) (rising g c) ∙ c.self.view_is

pub returns-clause-rising : goal.returns-clause-rising
returns-clause-rising g c = subst (Rising g.Q.Ord.cmp) (sym c.from_vec.ensures) (rising g c)
