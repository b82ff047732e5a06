use Rattle.std.proofs.Common.{◌-◌, length, drop, take_all, length-drop, sym, ap, ◌∙◌, arith}
use Rattle.conf_recipes.specs.PropertiesRecipes.{ending_at, first_line_end}
use Rattle.conf_recipes.proofs.Added.{line_here, line_none}
use Rattle.conf_recipes.proofs.adding.first_line_end.Goals as goal

pub returns-then-is_line_end : goal.returns-then-is_line_end
returns-then-is_line_end c =
    c.ending_at.ensures
    ∙ (ap ending_at (take_all (length c.args.bytes.now - c.loop-i.i) (drop c.loop-i.i c.args.bytes.now) (omega (arith, length-drop c.loop-i.i c.args.bytes.now)))
    ∙ line_here c.args.bytes.now c.loop-i.i (first_line_end c.args.bytes.now) (omega arith) (sym c.is_line_end.ensures ∙ c.if-is_line_end.true) c.loop-i.invariant)

pub returns : goal.returns
returns c = c.as_slice.ensures ∙ line_none c.args.bytes.now c.loop-i.i (first_line_end c.args.bytes.now) (omega arith) c.loop-i.invariant
