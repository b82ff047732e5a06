use Rattle.std.proofs.Common.{◌≡◌, ◌*◌, arith, length, ◌∙◌, ap}
use Rattle.std.specs.Prelude.{Result, Ok, Err, IsOk, OnOk}
use Rattle.hex.specs.Hex.{encode_lower}
use Rattle.hex.proofs.HexLemmas.{decode_sized-encode_lower}
use Rattle.run_history.proofs.writing.digits_of.Goals as goal

-- what holds of each answer that isn't a failure
fine : {T E : Type 0} (P : Type 0) (r : Result T E) → IsOk r → OnOk r P → P
fine P (Ok x) h p = p
fine P (Err e) h p = cc h

pub returns-clause-digits : goal.returns-clause-digits
returns-clause-digits c =
    let len = c.told-digest in
    let same : length c.as_slice.result.now ≡ 32 = ap length c.as_slice.ensures ∙ len in
    let twice : 64 ≡ 2 * length c.as_slice.result.now = omega arith in
    let written = fine _ c.encode_to_slice.result (c.encode_to_slice.ensures.fits.1 twice) c.encode_to_slice.ensures.written in
    written ∙ ap encode_lower c.as_slice.ensures

pub returns-clause-digest : goal.returns-clause-digest
returns-clause-digest c = decode_sized-encode_lower c.args.digest.now 32 c.told-digest c.fits-digest
