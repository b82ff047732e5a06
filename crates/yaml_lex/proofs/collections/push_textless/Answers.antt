use Rattle.std.proofs.Common.{◌∙◌, ap, arith}
use Rattle.yaml_lex.specs.Collections.{textless}
use Rattle.yaml_lex.proofs.Opened.{leaves-closed, leaves-opened}
use Rattle.yaml_lex.proofs.collections.push_textless.Goals as goal

pub returns-in_ok-push-2-clause-leaves : goal.returns-in_ok-push-2-clause-leaves
returns-in_ok-push-2-clause-leaves c =
    leaves-opened c.args.context c.args.class c.count_left_open-keep.result c.args.at c.len.result c.args.collections.now.items c.as_slice.result.now c.as_slice-2.result.now
    c.args.leaves.now.items c.push_closes.new.leaves.items _ c.textless.result
    c.as_slice.ensures.value c.count_left_open-keep.ensures.inside c.count_left_open-keep.ensures.stay (omega (arith, c.len.ensures, c.args.collections.now.ok.0)) c.in_ok-push_closes.ensures
    (c.as_slice-2.ensures.value ∙ c.truncate.ensures.items) c.if-opens.ensures (c.textless.ensures ∙ ap (textless c.args.at) c.opening_class.ensures) c.in_ok-push.ensures.items

pub returns-else-opens-clause-leaves : goal.returns-else-opens-clause-leaves
returns-else-opens-clause-leaves c =
    leaves-closed c.args.context c.args.class c.count_left_open-keep.result c.args.at c.len.result c.args.collections.now.items c.as_slice.result.now c.as_slice-2.result.now
    c.args.leaves.now.items c.push_closes.new.leaves.items
    c.as_slice.ensures.value c.count_left_open-keep.ensures.inside c.count_left_open-keep.ensures.stay (omega (arith, c.len.ensures, c.args.collections.now.ok.0)) c.in_ok-push_closes.ensures
    (c.as_slice-2.ensures.value ∙ c.truncate.ensures.items) c.if-opens.ensures
