use Rattle.std.proofs.Common.{◌≤◌, length, arith}
use Rattle.type_positions.proofs.NameSteps.{no_name, one_part, more_parts, behind_first}
use Rattle.type_positions.proofs.type_names.type_name.Goals as goal

pub returns-in-empty : goal.returns-in-empty
returns-in-empty g c =
    record { judged = no_name c.args.cx.now c.args.frames.now c.args.names.now _ c.args.log.now c.in-empty.len_below }

pub returns-in_ok-symbol-in-len1 : goal.returns-in_ok-symbol-in-len1
returns-in_ok-symbol-in-len1 g c =
    let ps = c.args.names.now in
    record { judged = one_part c.args.cx.now c.args.frames.now c.lone-item.result ps _ _ _ _ c.in-len1.len_at_least c.in-len1.len_below c.lone-item.is c.in_ok-symbol-in-len1.ensures }

pub returns-in_ok-symbol-in-len1-up : goal.returns-in_ok-symbol-in-len1-up
returns-in_ok-symbol-in-len1-up g c =
    let ps = c.args.names.now in
    let two : 2 ≤ length ps = omega arith in
    record { judged = more_parts c.args.cx.now c.args.frames.now c.first-item.result ps _ _ _ _ _ _ two c.first-item.is c.in_ok-scope-in-len1-up.ensures (rw (behind_first ps) at c.in_ok-symbol-in-len1-up.ensures) }
