use Rattle.std.proofs.Common.{false, length, refl, ap, ◌∙◌, arith}
use Rattle.std.proofs.lemmas.List.{length-set}
use Rattle.conf_recipes.specs.PathMarks.{some_marked, byte_here, byte_carries, byte_last}
use Rattle.conf_recipes.specs.PathPatterns.{part_matches}
use Rattle.conf_recipes.proofs.Marks.{marks_from, marks_next, marks_end, bytes_marked}
use Rattle.conf_recipes.proofs.path_patterns.mark_bytes.Goals as goal

pub loop-i-preserved : goal.loop-i-preserved
loop-i-preserved c =
    let p = c.args.p in
    record {
      long = length-set c.loop-i.marks c.loop-i.i c.byte_here.result ∙ c.loop-i.invariant.long;
      same = marks_next (byte_here p) (byte_carries p) (byte_last p) c.loop-i.marks c.args.text.now c.loop-i.i 0 c.byte_here.result c.byte_carries-carried.result c.loop-i.carried
          (marks_from (byte_here p) (byte_carries p) (byte_last p) false c.args.marks.now c.args.text.now)
          (omega arith) c.loop-i.invariant.long c.byte_here.ensures c.byte_carries-carried.ensures c.loop-i.invariant.same;
    }

pub returns-clause-marked : goal.returns-clause-marked
returns-clause-marked c = λ ps.
    let p = c.args.p in
    let text = c.args.text.now in
    let old = c.args.marks.now in
    let all = marks_from (byte_here p) (byte_carries p) (byte_last p) false old text in
    ap (λ ms. some_marked (part_matches ps) ms text)
    (marks_end (byte_here p) (byte_carries p) (byte_last p) c.loop-i.marks text c.loop-i.i (length text) c.byte_last.result c.loop-i.carried all (omega arith) refl c.loop-i.invariant.long c.byte_last.ensures c.loop-i.invariant.same)
    ∙ bytes_marked p ps old text (omega arith)
