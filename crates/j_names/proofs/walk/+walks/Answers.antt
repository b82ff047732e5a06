use Rattle.std.proofs.Common.{◌≡◌, ◌∙◌, sym, ap, subst, length, take, get_or, add-one, arith, List, ℕ, [], ◌∷◌, ◌++◌}
use Rattle.std.proofs.Common.{◌+◌, ◌<◌, ◌-◌}
use Rattle.std.proofs.Math.Seq.{take-suc}
use Rattle.std.specs.Option.{option_copied}
use Rattle.jtypes.proofs.Equality.{or_left, or_right}
use Rattle.j_names.specs.Walk.{sought, walked, walk_up, is_in}
use Rattle.dialogue.specs.ToldLaws.{in_turn_told}
use Rattle.j_names.proofs.Visits.{visit_stays, visit_absent, visit_ends, visit_goes, up_from, up_told, up_none}
use Rattle.j_names.proofs.Visits.{up_some, suc_of, none_of, has_is, not_in, or_false}
use Rattle.j_names.proofs.walk.+walks.Goals as goal
use Rattle.j_names.proofs.walk.+walks.Goals.{walk_up-then-is_over-via-then-is_over}
use Rattle.j_names.proofs.walk.+walks.Goals.{walk_up-then-is_over-via-else-is_over+then-has}

one_more : (xs : List (List ℕ)) (i : ℕ) (x : List ℕ) → i < length xs → x ≡ get_or xs i x
    → take (i + 1) xs ≡ take i xs ++ x ∷ []
one_more xs i x lt is = rw add-one (take-suc xs i x lt ∙ ap (λ y. take i xs ++ y ∷ []) (sym is))

pub walk_each-loop-name-preserved : goal.walk_each-loop-name-preserved
walk_each-loop-name-preserved g t c =
    let what = sought g.S.Seek.over (g.S.Seek.visited c.args.seek.now) in
    rw (one_more c.args.names.now c.loop-name.name-index c.name-item.result c.loop-name-test.true c.name-item.is)
    (in_turn_told (g.C.Classes.world c.args.c.now) (take c.loop-name.name-index c.args.names.now) c.name-item.result
    c.args.asks.now c.loop-name.asks c.walk_up.new.asks
    (walk_up what c.args.left) _ _ _ c.loop-name.invariant c.in_ok-walk_up.ensures)

pub walk_up-returns-then-is_over : goal.walk_up-returns-then-is_over
walk_up-returns-then-is_over g t c =
    let what = sought g.S.Seek.over (g.S.Seek.visited c.args.seek.now) in
    let w = g.C.Classes.world c.args.c.now in
    let name = c.args.name.now in
    let seen = c.args.seen.now in
    let over = g.S.Seek.over c.args.found.now in
    up_told what c.args.left _ name w c.args.asks.now c.args.asks.now _
    (visit_stays what (up_from what c.args.left) (walked c.args.found.now seen) name w c.args.asks.now
    (elim c.then-is_over.branch [
      | walk_up-then-is_over-via-then-is_over d ↦ or_left over (is_in seen name)
          (sym c.is_over.ensures ∙ d.if-is_over.true)
      | walk_up-then-is_over-via-else-is_over+then-has d ↦ or_right over (is_in seen name)
          (sym (has_is d.has.result name seen d.has.ensures) ∙ d.if-has.true)
    ]))

pub walk_up-returns-in_default : goal.walk_up-returns-in_default
walk_up-returns-in_default g t c =
    let what = sought g.S.Seek.over (g.S.Seek.visited c.args.seek.now) in
    let w = g.C.Classes.world c.args.c.now in
    let name = c.args.name.now in
    let seen = c.args.seen.now in
    let here = sym (has_is c.has.result name seen c.has.ensures) ∙ c.if-has.false in
    let put : c.put.new.self ≡ seen ++ name ∷ [] = subst (λ n. c.put.new.self ≡ seen ++ n ∷ []) c.in_ok-copy.ensures
    (c.in_ok-put.ensures.ok (rw c.in_ok-copy.ensures (not_in name seen here))) in
    rw put (up_told what c.args.left _ name w c.args.asks.now c.ask_class.new.asks _
    (visit_absent what (up_from what c.args.left) (walked c.args.found.now seen) name w c.args.asks.now
    c.ask_class.new.asks
    (or_false _ _ (sym c.is_over.ensures ∙ c.if-is_over.false) here)
    (sym c.in_ok-header.ensures.value ∙ ap option_copied c.in_default.is)
    c.in_ok-header.ensures.asks))

pub walk_up-returns-then-is_over-2 : goal.walk_up-returns-then-is_over-2
walk_up-returns-then-is_over-2 g t c =
    let what = sought g.S.Seek.over (g.S.Seek.visited c.args.seek.now) in
    let w = g.C.Classes.world c.args.c.now in
    let name = c.args.name.now in
    let seen = c.args.seen.now in
    let here = sym (has_is c.has.result name seen c.has.ensures) ∙ c.if-has.false in
    up_told what c.args.left _ name w c.args.asks.now c.visit.new.asks _
    (visit_ends what (up_from what c.args.left) (walked c.args.found.now seen) name w c.in-Some.header.now
    c.visit.new.found c.args.asks.now c.ask_class.new.asks c.visit.new.asks
    (or_false _ _ (sym c.is_over.ensures ∙ c.if-is_over.false) here)
    (sym c.in_ok-header.ensures.value ∙ ap option_copied c.in-Some.is)
    c.in_ok-header.ensures.asks
    c.in_ok-visit.ensures
    (sym c.is_over-2.ensures ∙ c.if-is_over-2.true))

pub walk_up-returns-in_ok-walk_each : goal.walk_up-returns-in_ok-walk_each
walk_up-returns-in_ok-walk_each g t c =
    let what = sought g.S.Seek.over (g.S.Seek.visited c.args.seek.now) in
    let w = g.C.Classes.world c.args.c.now in
    let name = c.args.name.now in
    let seen = c.args.seen.now in
    let here = sym (has_is c.has.result name seen c.has.ensures) ∙ c.if-has.false in
    let put : c.put-2.new.self ≡ seen ++ name ∷ [] = subst
    (λ n. c.put-2.new.self ≡ seen ++ n ∷ []) c.in_ok-copy-2.ensures
    (c.in_ok-put-2.ensures.ok (rw c.in_ok-copy-2.ensures (not_in name seen here))) in
    let header = c.in-Some.header.now in
    let at = walked c.visit.new.found (seen ++ name ∷ []) in
    up_told what c.args.left _ name w c.args.asks.now c.walk_each.new.asks _
    (visit_goes what (up_from what c.args.left) (walked c.args.found.now seen) name w header c.visit.new.found _
    c.args.asks.now c.ask_class.new.asks c.visit.new.asks c.walk_each.new.asks
    (or_false _ _ (sym c.is_over.ensures ∙ c.if-is_over.false) here)
    (sym c.in_ok-header.ensures.value ∙ ap option_copied c.in-Some.is)
    c.in_ok-header.ensures.asks
    c.in_ok-visit.ensures
    (sym c.is_over-2.ensures ∙ c.if-is_over-2.false)
    (up_some what c.args.left (c.args.left - 1) at header w c.visit.new.asks c.walk_each.new.asks _
    (suc_of c.args.left c.if-left-gt0.true)
    (rw put at (rw c.as_slice.ensures at c.in_ok-walk_each.ensures))))

pub walk_up-returns-else-left-gt0 : goal.walk_up-returns-else-left-gt0
walk_up-returns-else-left-gt0 g t c =
    let what = sought g.S.Seek.over (g.S.Seek.visited c.args.seek.now) in
    let w = g.C.Classes.world c.args.c.now in
    let name = c.args.name.now in
    let seen = c.args.seen.now in
    let here = sym (has_is c.has.result name seen c.has.ensures) ∙ c.if-has.false in
    let put : c.put-2.new.self ≡ seen ++ name ∷ [] = subst
    (λ n. c.put-2.new.self ≡ seen ++ n ∷ []) c.in_ok-copy-2.ensures
    (c.in_ok-put-2.ensures.ok (rw c.in_ok-copy-2.ensures (not_in name seen here))) in
    let header = c.in-Some.header.now in
    let at = walked c.visit.new.found (seen ++ name ∷ []) in
    rw put (up_told what c.args.left _ name w c.args.asks.now c.visit.new.asks _
    (visit_goes what (up_from what c.args.left) (walked c.args.found.now seen) name w header c.visit.new.found
    at c.args.asks.now c.ask_class.new.asks c.visit.new.asks c.visit.new.asks
    (or_false _ _ (sym c.is_over.ensures ∙ c.if-is_over.false) here)
    (sym c.in_ok-header.ensures.value ∙ ap option_copied c.in-Some.is)
    c.in_ok-header.ensures.asks
    c.in_ok-visit.ensures
    (sym c.is_over-2.ensures ∙ c.if-is_over-2.false)
    (up_none what c.args.left at header w c.visit.new.asks
    (none_of c.args.left (λ h. omega (arith, h, c.if-left-gt0.false))))))
