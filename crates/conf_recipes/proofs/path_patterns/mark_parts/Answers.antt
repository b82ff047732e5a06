use Rattle.std.proofs.Common.{◌≡◌, ℕ, ◌<◌, List, [], Bool, Bor, false, length, get_or, map, sym, ap, ◌∙◌, arith}
use Rattle.std.proofs.lemmas.List.{length-set, length-map, get_or-map}
use Rattle.conf_recipes.specs.PathMarks.{some_marked, part_here, part_carries}
use Rattle.conf_recipes.specs.PathPatterns.{parts_match}
use Rattle.conf_recipes.proofs.Marks.{marks_from, marks_next, marks_end, parts_marked}
use Rattle.conf_recipes.proofs.path_patterns.mark_parts.Goals as goal

-- what is read behind the last part
abbrev blank : Bor (List ℕ)
blank = record { ref_ptr = (0, 0); now = [] }

pub loop-i-preserved : goal.loop-i-preserved
loop-i-preserved c =
    let p = c.args.p.now in
    let parts = c.args.parts.now in
    let xs = map (λ (x : Bor (List ℕ)). x.now) parts in
    let i = c.loop-i.i in
    let size : length xs ≡ length parts = length-map parts (λ (x : Bor (List ℕ)). x.now) in
    let lt : i < length parts = omega arith in
    record {
      long = length-set c.loop-i.marks i c.part_here.result ∙ c.loop-i.invariant.long;
      same = marks_next (λ (x : List ℕ). part_here p) (part_carries p) (part_here p) c.loop-i.marks xs i [] c.part_here.result c.in_ok-carried.carried c.loop-i.carried
          (marks_from (λ (x : List ℕ). part_here p) (part_carries p) (part_here p) false c.args.marks.now xs)
          (omega (arith, size, lt)) (omega (arith, size, c.loop-i.invariant.long)) c.part_here.ensures
          (c.in_ok-carried.ensures ∙ ap (λ (part : List ℕ). part_carries p part (get_or c.loop-i.marks i false) c.loop-i.carried) (sym (get_or-map (λ (x : Bor (List ℕ)). x.now) parts i blank [] lt))) c.loop-i.invariant.same;
    }

pub returns-clause-marked : goal.returns-clause-marked
returns-clause-marked c = λ ps.
    let p = c.args.p.now in
    let parts = c.args.parts.now in
    let xs = map (λ (x : Bor (List ℕ)). x.now) parts in
    let old = c.args.marks.now in
    let size : length xs ≡ length parts = length-map parts (λ (x : Bor (List ℕ)). x.now) in
    let all = marks_from (λ (x : List ℕ). part_here p) (part_carries p) (part_here p) false old xs in
    ap (λ (ms : List Bool). some_marked (parts_match ps) ms xs)
    (marks_end (λ (x : List ℕ). part_here p) (part_carries p) (part_here p) c.loop-i.marks xs c.loop-i.i (length parts) c.part_here-2.result c.loop-i.carried all (omega (arith, size)) (sym size) (omega (arith, size, c.loop-i.invariant.long)) c.part_here-2.ensures c.loop-i.invariant.same)
    ∙ parts_marked p ps old xs (omega (arith, size))
