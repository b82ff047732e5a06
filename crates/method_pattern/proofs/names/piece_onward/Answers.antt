use Rattle.std.proofs.Common.{◌≡◌, ◌∷◌, ap, ◌∙◌}
use Rattle.method_pattern.specs.Matching.{PieceTakes}
use Rattle.method_pattern.specs.PartsLeft.{parts_left}
use Rattle.method_pattern.specs.declared.pattern.NamePiece.{NamePiece}
use Rattle.method_pattern.specs.declared.pattern.NamePiece.TheVariants.{AnyParts}
use Rattle.method_pattern.proofs.Parts.{some_part}
use Rattle.method_pattern.proofs.Tries.{stuck_at_end}
use Rattle.method_pattern.proofs.names.piece_onward.Goals as goal

pub returns-in-Some : goal.returns-in-Some
returns-in-Some c =
    let part = some_part c.in-Some.field-0.now in
    let first : parts_left c.args.rest ≡ part.0 ∷ part.1 = ap parts_left c.in-Some.is ∙ part.2 in
    stuck_at_end (λ (p : NamePiece). p ≡ AnyParts) PieceTakes c.args.left.now (parts_left c.args.rest) part.0 part.1 c.in-empty.len_below first
