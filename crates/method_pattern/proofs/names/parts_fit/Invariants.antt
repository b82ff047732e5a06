use Rattle.std.proofs.Common.{◌≡◌}
use Rattle.method_pattern.specs.Matching.{PieceTakes, parts_of}
use Rattle.method_pattern.specs.PartsLeft.{parts_left}
use Rattle.method_pattern.specs.declared.pattern.NamePiece.{NamePiece}
use Rattle.method_pattern.specs.declared.pattern.NamePiece.TheVariants.{AnyParts}
use Rattle.method_pattern.proofs.Tries.{Try, tries_left}
use Rattle.method_pattern.proofs.names.parts_fit.Given as goal

abbrev pub invariant-loop-others : goal.invariant-loop-others
invariant-loop-others l = Try (λ (p : NamePiece). p ≡ AnyParts) PieceTakes l.pieces (parts_of l.name) l.left (parts_left l.rest) l.behind (parts_left l.from)

abbrev pub decreases-loop-others : goal.decreases-loop-others
decreases-loop-others l = tries_left (λ (p : NamePiece). p ≡ AnyParts) PieceTakes l.pieces (parts_of l.name) l.left l.behind (parts_left l.from)
