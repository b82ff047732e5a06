use Rattle.std.proofs.Common.{◌≡◌, Bool, ℕ, ◌+◌, ◌-◌, Err, List, [], ◌∷◌, ◌++◌, length, take, drop, sym, ap, subst, ◌∙◌}
use Rattle.std.proofs.lemmas.List.{take_rest}
use Rattle.method_pattern.specs.declared.fault.PatternFault.TheVariants as pattern_fault
use Rattle.method_pattern.specs.declared.pattern.NamePiece.{NamePiece}
use Rattle.method_pattern.specs.declared.pattern.NamePiece.TheVariants.{Part}
use Rattle.method_pattern.specs.declared.type_text.Joint.TheVariants.{Dot, Gap, End}
use Rattle.method_pattern.specs.Texts.{IsPart, IsWrongAt}
use Rattle.method_pattern.specs.Reading.{IsRunSize, IsPartText, IsTypeEnd, IsTypeText, IsJoint}
use Rattle.method_pattern.proofs.Places.{slice_is}
use Rattle.method_pattern.proofs.Shifts.{shifted}
use Rattle.method_pattern.proofs.PieceSteps.{inner, TypeRead, PartRead, part_read, part_bad, dot_next, gap_next, end_right, end_wrong}
use Rattle.method_pattern.proofs.type_text.read_type.Goals as goal

pub returns-in-Err-clause-fault : goal.returns-in-Err-clause-fault
returns-in-Err-clause-fault c n e =
    let text = c.args.text.now in
    let at = c.loop-fault.at in
    let size = c.run_size.result in
    let is : c.behind.result ≡ pattern_fault.At n = cc in
    let m = shifted at n c.in-Err.fault c.behind.result c.behind.ensures is in
    subst (IsWrongAt (IsTypeText c.args.of_parameter) text) m.1.1
    (part_bad c.args.of_parameter c.loop-fault.pieces.items text at size m.0 c.loop-fault.invariant
    (subst (λ s. IsRunSize inner s size) (take_rest text at) c.run_size.ensures)
    (subst (λ s. IsWrongAt IsPartText s m.0) (slice_is text at size) (c.in-Err.ensures.fault m.0 (ap Err m.1.0))))

behind_part : (of_parameter : Bool) (pieces pushed : List NamePiece) (text : List ℕ) (at size : ℕ) (part : List ℕ)
    → TypeRead of_parameter pieces text at → IsRunSize inner (take (length text - at) (drop at text)) size
    → IsPart (take (at + size - at) (drop at text)) → part ≡ take (at + size - at) (drop at text)
    → pushed ≡ pieces ++ Part part ∷ [] → PartRead of_parameter pushed text (at + size)
behind_part of_parameter pieces pushed text at size part g run is same pushed_is =
    let size_is = slice_is text at size in
    let whole : pushed ≡ pieces ++ Part (take size (drop at text)) ∷ [] =
    pushed_is ∙ ap (λ (x : List ℕ). pieces ++ Part x ∷ []) (same ∙ size_is) in
    subst (λ (xs : List NamePiece). PartRead of_parameter xs text (at + size)) (sym whole)
    (part_read of_parameter pieces text at size g (subst (λ s. IsRunSize inner s size) (take_rest text at) run) (subst IsPart size_is is))

pub loop-fault-preserved-in-Dot : goal.loop-fault-preserved-in-Dot
loop-fault-preserved-in-Dot c =
    let text = c.args.text.now in
    let at = c.loop-fault.at in
    let size = c.run_size.result in
    let read = behind_part c.args.of_parameter c.loop-fault.pieces.items c.push.new.self.items text at size c.in_ok-part.part
    c.loop-fault.invariant c.run_size.ensures c.in_default.ensures.ok c.in_ok-part.ensures c.in_ok-push.ensures.items in
    dot_next c.args.of_parameter c.push.new.self.items text (at + size) read
    (subst (IsJoint c.args.of_parameter Dot) (take_rest text (at + size)) c.in-Dot.ensures)

pub loop-fault-preserved : goal.loop-fault-preserved
loop-fault-preserved c =
    let text = c.args.text.now in
    let at = c.loop-fault.at in
    let size = c.run_size.result in
    let read = behind_part c.args.of_parameter c.loop-fault.pieces.items c.push.new.self.items text at size c.in_ok-part.part
    c.loop-fault.invariant c.run_size.ensures c.in_default.ensures.ok c.in_ok-part.ensures c.in_ok-push.ensures.items in
    subst (λ (xs : List NamePiece). TypeRead c.args.of_parameter xs text (at + size + 2)) (sym c.in_ok-push-in-Gap.ensures.items)
    (gap_next c.args.of_parameter c.push.new.self.items text (at + size) read
    (subst (IsJoint c.args.of_parameter Gap) (take_rest text (at + size)) c.in-Gap.ensures))

pub returns-in-Ok-clause-ok : goal.returns-in-Ok-clause-ok
returns-in-Ok-clause-ok c =
    let text = c.args.text.now in
    let at = c.loop-fault.at in
    let size = c.run_size.result in
    let read = behind_part c.args.of_parameter c.loop-fault.pieces.items c.push.new.self.items text at size c.in_ok-part.part
    c.loop-fault.invariant c.run_size.ensures c.in_default.ensures.ok c.in_ok-part.ensures c.in_ok-push.ensures.items in
    end_right c.args.of_parameter c.push.new.self.items text (at + size) c.in-Ok.end read
    (subst (IsTypeEnd c.args.of_parameter c.in-Ok.end) (take_rest text (at + size)) c.in-Ok.ensures.ok)

pub returns-in-Err-read_end-clause-fault : goal.returns-in-Err-read_end-clause-fault
returns-in-Err-read_end-clause-fault c n e =
    let text = c.args.text.now in
    let at = c.loop-fault.at in
    let size = c.run_size.result in
    let is : c.behind-in-Err-read_end.result ≡ pattern_fault.At n = cc in
    let m = shifted (at + size) n c.in-Err-read_end.fault c.behind-in-Err-read_end.result c.behind-in-Err-read_end.ensures is in
    let read = behind_part c.args.of_parameter c.loop-fault.pieces.items c.push.new.self.items text at size c.in_ok-part.part
    c.loop-fault.invariant c.run_size.ensures c.in_default.ensures.ok c.in_ok-part.ensures c.in_ok-push.ensures.items in
    let rest = take_rest text (at + size) in
    subst (IsWrongAt (IsTypeText c.args.of_parameter) text) m.1.1
    (end_wrong c.args.of_parameter c.push.new.self.items text (at + size) m.0 read
    (subst (IsJoint c.args.of_parameter End) rest c.in-End.ensures)
    (subst (λ s. IsWrongAt (IsTypeEnd c.args.of_parameter) s m.0) rest (c.in-Err-read_end.ensures.fault m.0 (ap Err m.1.0))))
