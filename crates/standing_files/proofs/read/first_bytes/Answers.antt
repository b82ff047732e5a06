use Rattle.std.proofs.Common.{◌≡◌, length, take, ap, ◌∙◌, arith}
use Rattle.std.specs.Prelude.{min}
use Rattle.std.proofs.lemmas.List.{take_min}
use Rattle.rw_host.specs.Files.{first_bytes}
use Rattle.standing_files.proofs.read.first_bytes.Goals as goal

pub returns-clause-bytes : goal.returns-clause-bytes
unfolding first_bytes
returns-clause-bytes c =
    let bytes = c.args.bytes.now in
    let count : c.min.result ≡ min c.args.most (length bytes) = omega arith in
    ap (λ n. take n bytes) count ∙ take_min c.args.most bytes
