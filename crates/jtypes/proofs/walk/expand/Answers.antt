use Rattle.std.proofs.Common.{◌≡◌, ◌∙◌, sym, ap, Some, length, [], List, ℕ, ◌<◌, ◌≤◌, add-one, arith, slice_get}
use Rattle.jtypes.specs.World.{World}
use Rattle.jtypes.specs.Subtype.{supertypes, supertypes_in}
use Rattle.jtypes.specs.Grown.{Expanded}
use Rattle.jtypes.proofs.Levels.{expanded_more, grown_none, get_front}
use Rattle.jtypes.proofs.walk.expand.Goals as goal
use Rattle.jtypes.proofs.walk.expand.Goals.{in-Some+in_ok-add_new, in_default}

-- the class at a place of the list so far stood there at the start
old_place : (w : World) (from i past : ℕ) (old seen : List (List ℕ)) (a : List ℕ) → Expanded w from i old seen → i < past → past ≤ length old → slice_get seen i ≡ Some a → slice_get old i ≡ Some a
old_place w from i past old seen a e lt le is = sym (get_front old e.extra i (omega arith)) ∙ ap (λ s. slice_get s i) (sym e.grown) ∙ is

pub loop-i-preserved : goal.loop-i-preserved
loop-i-preserved g c =
    let w = g.C.Classes.world c.args.c.now in
    let a = c.at.result.now in
    let i = c.loop-i.i in
    let old = c.args.seen.now in
    let here : slice_get old i ≡ Some a = old_place w c.args.from i c.args.past old c.loop-i.seen a c.loop-i.invariant c.loop-i-test.true c.requires c.at.ensures in
    elim c.match-class.branch [
      | in-Some+in_ok-add_new d ↦
          let s : supertypes w a ≡ d.as_slice.result.now = sym (ap supertypes_in d.in-Some.ensures) ∙ sym d.as_slice.ensures in
          rw (add-one, d.seen-is) (expanded_more w c.args.from i old c.loop-i.seen d.add_new.new.seen a c.loop-i.invariant here (rw s d.in_ok-add_new.ensures))
      | in_default d ↦
          let s : supertypes w a ≡ [] = sym (ap supertypes_in d.in_default.ensures) in
          rw (add-one, d.seen-is) (expanded_more w c.args.from i old c.loop-i.seen c.loop-i.seen a c.loop-i.invariant here (rw s (grown_none c.loop-i.seen)))
    ]
