use Rattle.std.proofs.Common.{◌≡◌, refl, ap, ◌∙◌}
use Rattle.rw_base.specs.declared.place.Place.{Place}
use Rattle.rw_base.specs.declared.place.Cause.TheVariants as cause
use Rattle.properties_tree.specs.Refusal.{too_large}
use Rattle.properties_tree.proofs.reader.refuse_large.Goals as goal

pub returns-then-bytes-gt-MOST_BYTES-clause-refused : goal.returns-then-bytes-gt-MOST_BYTES-clause-refused
unfolding too_large
returns-then-bytes-gt-MOST_BYTES-clause-refused c =
    λ refused e.
    let same : refused ≡ record { place = c.place_of-place.result; cause = cause.TooLarge } = cc in
    (c.if-bytes-gt-MOST_BYTES.true, same ∙ ap (λ (p : Place). record { place = p; cause = cause.TooLarge }) c.place_of-place.ensures)

pub returns-then-bytes-gt-MOST_BYTES-clause-too_large : goal.returns-then-bytes-gt-MOST_BYTES-clause-too_large
unfolding too_large
returns-then-bytes-gt-MOST_BYTES-clause-too_large c = λ h. rw c.place_of-place.ensures refl
