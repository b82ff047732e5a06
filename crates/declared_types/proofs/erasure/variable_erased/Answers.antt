use Rattle.std.proofs.Common.{◌∙◌, sym, subst, ◌∷◌, suc, ◌-◌, drop, arith}
use Rattle.std.proofs.lemmas.List.{drop_all}
use Rattle.dialogue.specs.Told.{Told}
use Rattle.dialogue.specs.ToldLaws.{told_done}
use Rattle.declared_types.specs.Erasure.{erased, erasure}
use Rattle.declared_types.proofs.Erasures.{bounds_begin, bounds_run_out, no_scope, by_bound, cut}
use Rattle.declared_types.proofs.erasure.variable_erased.Goals as goal

pub loop-left-init : goal.loop-left-init
loop-left-init g c = record {
  within = omega arith;
  goes_on = λ new t h. bounds_begin (g.C.Classes.world c.args.c.now) c.args.asks.now new
      (c.args.own.now ∷ c.args.outer.now) c.args.name.now c.in_ok-variable.variable c.count_params-left.result t
      c.count_params-left.ensures c.in_ok-variable.ensures h;
}

pub loop-left-preserved : goal.loop-left-preserved
loop-left-preserved g c =
    let all = c.args.own.now ∷ c.args.outer.now in
    let w = g.C.Classes.world c.args.c.now in
    let left = c.loop-left.left in
    let at = c.first_with-at.result in
    let mid = c.bound_meaning.new.asks in
    record {
      within = c.first_with-at.ensures.within;
      goes_on = λ new t k. c.loop-left.invariant.goes_on new t
          (by_bound w c.loop-left.asks left c.loop-left-test.true (drop c.loop-left.at all) (drop at all)
          c.loop-left.variable c.first_with-at.ensures.found c.scope_at.result.now (drop (suc at) all)
          (cut all at c.scope_at.result.now (omega (arith, c.if-at-outer.false)) c.scope_at.ensures)
          mid c.in_ok-meaning.meaning c.in_ok-meaning.ensures new t
          (subst (λ e. Told (erased (erasure (left - 1) (drop at all)) e) w mid new t)
          (sym c.in-Next.is ∙ c.as_erased.ensures) k));
    }

pub returns-in-To : goal.returns-in-To
returns-in-To g c =
    let all = c.args.own.now ∷ c.args.outer.now in
    let w = g.C.Classes.world c.args.c.now in
    let left = c.loop-left.left in
    let at = c.first_with-at.result in
    let mid = c.bound_meaning.new.asks in
    c.loop-left.invariant.goes_on mid c.in-To.t
    (by_bound w c.loop-left.asks left c.loop-left-test.true (drop c.loop-left.at all) (drop at all)
    c.loop-left.variable c.first_with-at.ensures.found c.scope_at.result.now (drop (suc at) all)
    (cut all at c.scope_at.result.now (omega (arith, c.if-at-outer.false)) c.scope_at.ensures)
    mid c.in_ok-meaning.meaning c.in_ok-meaning.ensures mid c.in-To.t
    (subst (λ e. Told (erased (erasure (left - 1) (drop at all)) e) w mid mid c.in-To.t)
    (sym c.in-To.is ∙ c.as_erased.ensures) (told_done w mid c.in-To.t)))

pub returns-then-at-outer : goal.returns-then-at-outer
returns-then-at-outer g c =
    let all = c.args.own.now ∷ c.args.outer.now in
    rw c.in_ok-unbound.ensures (c.loop-left.invariant.goes_on c.loop-left.asks _
    (no_scope (g.C.Classes.world c.args.c.now) c.loop-left.asks c.loop-left.left c.loop-left-test.true
    (drop c.loop-left.at all) (drop c.first_with-at.result all) c.loop-left.variable c.first_with-at.ensures.found
    (drop_all c.first_with-at.result all (omega (arith, c.if-at-outer.true)))))

pub returns : goal.returns
returns g c =
    rw c.in_ok-circular.ensures (c.loop-left.invariant.goes_on c.loop-left.asks _
    (bounds_run_out (g.C.Classes.world c.args.c.now) c.loop-left.asks c.loop-left.left
    (drop c.loop-left.at (c.args.own.now ∷ c.args.outer.now)) c.loop-left.variable
    (omega (arith, c.loop-left-test.false))))
