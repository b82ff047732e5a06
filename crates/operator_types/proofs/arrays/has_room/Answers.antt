use Rattle.std.proofs.Common.{◌∙◌}
use Rattle.operator_types.specs.Arrays.{dims_of, most_dims}
use Rattle.operator_types.proofs.ArrayTypes.{room_left, no_room}
use Rattle.operator_types.proofs.arrays.has_room.Goals as goal

pub returns-then-dims-le-MOST_DIMS : goal.returns-then-dims-le-MOST_DIMS
unfolding most_dims
returns-then-dims-le-MOST_DIMS c = c.has_at_most.ensures ∙ room_left (dims_of c.args.t.now) c.args.dims 255 c.if-dims-le-MOST_DIMS.true

pub returns-else-dims-le-MOST_DIMS : goal.returns-else-dims-le-MOST_DIMS
unfolding most_dims
returns-else-dims-le-MOST_DIMS c = no_room (dims_of c.args.t.now) c.args.dims 255 c.if-dims-le-MOST_DIMS.false
