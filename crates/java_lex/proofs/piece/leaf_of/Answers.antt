use Rattle.std.proofs.Common.{arith}
use Rattle.java_lex.proofs.Pieces.{word-leaf, other-leaf, other-longest, other-some, begins-none, bad-none, literal-piece}
use Rattle.java_lex.proofs.piece.leaf_of.Goals as goal

pub returns-then-size-gt0 : goal.returns-then-size-gt0
returns-then-size-gt0 c =
    word-leaf c.args.text.now c.word_size-size.result c.word_class.result c.requires (omega (arith, c.type_inv.text 0)) c.word_size-size.ensures c.if-size-gt0.true
    c.word_class.ensures

pub returns-then-found : goal.returns-then-found
returns-then-found c =
    literal-piece _ c.args.text.now _ c.requires
    (begins-none _ c.word_size-size.result c.longest-found.result c.word_size-size.ensures (omega arith) c.longest-found.ensures c.if-found-eq0.true)
    (c.longest-found.ensures.open_ c.if-found.true) c.open_piece.ensures

pub returns-else-found : goal.returns-else-found
returns-else-found c =
    bad-none _ c.args.text.now c.requires
    (begins-none _ c.word_size-size.result c.longest-found.result c.word_size-size.ensures (omega arith) c.longest-found.ensures c.if-found-eq0.true)
    (λ go. c.longest-found.ensures.closed c.if-found.false go.0 go.1 go.2)

pub literal_of-requires-clause-longest : goal.literal_of-requires-clause-longest
literal_of-requires-clause-longest c =
    other-longest c.args.text.now c.word_size-size.result c.longest-found.result c.word_size-size.ensures (omega arith) c.longest-found.ensures c.if-found-eq0.false

pub literal_of-requires-clause-some : goal.literal_of-requires-clause-some
literal_of-requires-clause-some c = other-some c.args.text.now c.longest-found.result c.longest-found.ensures c.if-found-eq0.false

pub returns-then-is_literal : goal.returns-then-is_literal
returns-then-is_literal c = c.literal_of.ensures c.args.broken

pub returns-else-is_literal : goal.returns-else-is_literal
returns-else-is_literal c =
    other-leaf c.args.text.now c.word_size-size.result c.longest-found.result c.requires c.word_size-size.ensures (omega arith) c.longest-found.ensures
    c.if-found-eq0.false (grind arith)
