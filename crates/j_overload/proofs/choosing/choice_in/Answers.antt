use Rattle.std.proofs.Common.{◌∙◌, sym}
use Rattle.jtypes.proofs.Equality.{true_false}
use Rattle.j_overload.proofs.Deciding.{told_none_applies, told_choice}
use Rattle.j_overload.proofs.Lone.{told_lone}
use Rattle.j_overload.proofs.Picks.{all_within}
use Rattle.j_overload.proofs.choosing.choice_in.Goals as goal

pub returns-then-is_empty : goal.returns-then-is_empty
returns-then-is_empty g c = told_none_applies c.args.phase c.args.args.now c.args.candidates.now _ c.args.asks.now c.applicable_ones.new.asks c.in_ok-places.places c.in_ok-places.ensures.told (c.is_empty.ensures.0 c.if-is_empty.true)

pub most_specific_ones-requires : goal.most_specific_ones-requires
most_specific_ones-requires g c = rw c.as_slice-2.ensures c.in_ok-places.ensures.take

pub first_of_equals-requires : goal.first_of_equals-requires
first_of_equals-requires g c = rw c.as_slice-3.ensures (all_within c.args.candidates.now c.args.phase _ c.in_ok-best.best c.in_ok-best.ensures.take)

pub returns : goal.returns
returns g c =
    told_choice c.args.phase c.args.args.now c.args.candidates.now _ c.args.asks.now c.applicable_ones.new.asks c.most_specific_ones.new.asks c.in_ok-places.places c.in_ok-best.best c.first_of_equals.result
    c.in_ok-places.ensures.told
    (λ e. true_false (sym (c.is_empty.ensures.1 e) ∙ c.if-is_empty.false))
    c.in_ok-places.ensures.take
    (rw c.as_slice-2.ensures at c.in_ok-best.ensures.told)
    (rw c.as_slice-3.ensures at c.first_of_equals.ensures)

pub returns-in-Some : goal.returns-in-Some
returns-in-Some g c =
    let only = rw c.in-Some.is at c.only_place.ensures.only in
    told_lone c.args.phase c.args.args.now c.args.candidates.now _ c.args.asks.now c.applicable_ones.new.asks c.in_ok-places.places c.in-Some.place (sym c.as_slice.ensures ∙ only) c.in_ok-places.ensures.take c.in_ok-places.ensures.told
