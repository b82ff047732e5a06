use Rattle.std.proofs.Common.{None, arith}
use Rattle.std.specs.Option.{option_copied}
use Rattle.j_names.specs.Names.{type_in_frame}
use Rattle.j_names.proofs.Scoped.{none_left, next_past, next_here, no_type}
use Rattle.j_names.proofs.types.type_in_frames.Goals as goal

pub returns-in-Some-2 : goal.returns-in-Some-2
returns-in-Some-2 g c =
    let top = option_copied c.args.top in
    let n = c.args.n.now in
    next_here n (type_in_frame top n) (no_type top n) (g.C.Classes.world c.args.c.now) c.args.asks.now c.loop-at.asks
    c.args.frames.now c.loop-at.end c.last_before.result c.last_before.ensures c.loop-at.invariant.told
    c.in-Some.at c.in-Some.is c.index-as_slice-at.result c.loop-at.invariant.within
    (rw c.as_slice.ensures at c.index-as_slice-at.is) c.type_in_frame.new.asks c.in-Some-2.s
    (rw c.in-Some-2.is at c.in_ok-s.ensures)

pub loop-at-preserved : goal.loop-at-preserved
loop-at-preserved g c =
    let top = option_copied c.args.top in
    let n = c.args.n.now in
    record {
      within = omega (arith, c.last_before.ensures.within c.in-Some.at c.in-Some.is, c.loop-at.invariant.within);
      told =
          next_past n (type_in_frame top n) (no_type top n) (g.C.Classes.world c.args.c.now) c.args.asks.now
          c.loop-at.asks c.args.frames.now c.loop-at.end c.last_before.result c.last_before.ensures
          c.loop-at.invariant.told c.in-Some.at c.in-Some.is c.index-as_slice-at.result c.loop-at.invariant.within
          (rw c.as_slice.ensures at c.index-as_slice-at.is) c.type_in_frame.new.asks None
          (rw c.in_default-2.is at c.in_ok-s.ensures);
    }

pub returns : goal.returns
returns g c =
    let top = option_copied c.args.top in
    let n = c.args.n.now in
    none_left n (type_in_frame top n) (no_type top n) (g.C.Classes.world c.args.c.now) c.args.asks.now c.loop-at.asks
    c.args.frames.now c.loop-at.end c.last_before.result c.last_before.ensures c.loop-at.invariant.told
    c.in_default.is
