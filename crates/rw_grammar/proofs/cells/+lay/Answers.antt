use Rattle.std.proofs.Common.{◌≡◌, ℕ, ◌+◌, ◌<◌, List, [], ◌∷◌, ◌++◌, length, take, drop, sym, ◌∙◌, ap, subst, arith, get_or, add-one, suc, ◌-◌}
use Rattle.std.specs.Prelude.{map}
use Rattle.std.proofs.lemmas.List.{take_all}
use Rattle.std.proofs.Math.Seq.{take-suc, drop-cons}
use Rattle.rw_grammar.specs.declared.shape.Shape.{Shape}
use Rattle.rw_grammar.specs.Parts.{end, one, rule, choice, opt, many}
use Rattle.rw_grammar.specs.Shapes.{before, in_row, either, shape_parts}
use Rattle.rw_grammar.specs.Cells.{Lays, shape_at, any_of}
use Rattle.rw_grammar.proofs.Laying.{leaf_before, rule_before, seq_before, choice_before, opt_before, many_before, either_any, lays_then, lays_longer, lays_keep, below_push, if_lays, if_lays_then, part_laid, end_laid, alternatives_laid}
use Rattle.rw_grammar.proofs.cells.+lay.Goals as goal

pub returns-in-Leaf : goal.returns-in-Leaf
returns-in-Leaf t c =
    let old = c.args.cells.now.items in
    let more = shape_at old c.args.next in
    if_lays c.add.result old c.add.new.cells.items (one c.in-Leaf.class more) (before c.args.shape.now more) c.add.ensures.lays (sym (ap (λ (s : Shape). before s more) c.in-Leaf.is ∙ leaf_before more c.in-Leaf.class))

pub returns-in-Rule : goal.returns-in-Rule
returns-in-Rule t c =
    let old = c.args.cells.now.items in
    let more = shape_at old c.args.next in
    if_lays c.add-in-Rule.result old c.add-in-Rule.new.cells.items (rule c.in-Rule.rule more) (before c.args.shape.now more) c.add-in-Rule.ensures.lays (sym (ap (λ (s : Shape). before s more) c.in-Rule.is ∙ rule_before more c.in-Rule.rule))

pub returns-in_ok-x-in-Opt : goal.returns-in_ok-x-in-Opt
returns-in_ok-x-in-Opt t c =
    let old = c.args.cells.now.items in
    let mid = c.lay-in-Opt.new.cells.items in
    let more = shape_at old c.args.next in
    let s = c.get.result.now in
    if_lays_then c.add-in-Opt.result old mid c.add-in-Opt.new.cells.items c.in_ok-x-in-Opt.x (before s (shape_at old 0)) (opt (shape_at mid c.in_ok-x-in-Opt.x) (shape_at mid c.args.next)) (before c.args.shape.now more)
    c.in_ok-x-in-Opt.ensures c.add-in-Opt.ensures.lays
    (part_laid old mid c.in_ok-x-in-Opt.x c.args.next s opt c.in_ok-x-in-Opt.ensures c.requires.end c.requires.next
    ∙ sym (ap (λ (w : Shape). before w more) c.in-Opt.is ∙ (opt_before more c.in-Opt.part ∙ ap (λ (w : Shape). opt (before w end) more) (sym c.get.ensures))))

pub returns-in_ok-x-in-Many : goal.returns-in_ok-x-in-Many
returns-in_ok-x-in-Many t c =
    let old = c.args.cells.now.items in
    let mid = c.lay-in-Many.new.cells.items in
    let more = shape_at old c.args.next in
    let s = c.get-in-Many.result.now in
    if_lays_then c.add-in-Many.result old mid c.add-in-Many.new.cells.items c.in_ok-x-in-Many.x (before s (shape_at old 0)) (many (shape_at mid c.in_ok-x-in-Many.x) (shape_at mid c.args.next)) (before c.args.shape.now more)
    c.in_ok-x-in-Many.ensures c.add-in-Many.ensures.lays
    (part_laid old mid c.in_ok-x-in-Many.x c.args.next s many c.in_ok-x-in-Many.ensures c.requires.end c.requires.next
    ∙ sym (ap (λ (w : Shape). before w more) c.in-Many.is ∙ (many_before more c.in-Many.part ∙ ap (λ (w : Shape). many (before w end) more) (sym c.get-in-Many.ensures))))

pub returns-after-loop-i : goal.returns-after-loop-i
returns-after-loop-i t c =
    let old = c.args.cells.now.items in
    let more = shape_at old c.args.next in
    let none : c.loop-i.i ≡ 0 = omega arith in
    let all : in_row (map before (drop c.loop-i.i c.as_slice-parts.result.now)) more ≡ before c.args.shape.now more =
    ap (λ n. in_row (map before (drop n c.as_slice-parts.result.now)) more) none ∙ (ap (λ (ss : List Shape). in_row (map before ss) more) c.as_slice-parts.ensures ∙ sym (ap (λ (w : Shape). before w more) c.in-Seq.is ∙ seq_before more c.in-Seq.row)) in
    subst (λ p. Lays old c.loop-i.cells.items c.loop-i.first p) all c.loop-i.invariant.lays

pub returns-after-loop-part : goal.returns-after-loop-part
returns-after-loop-part t c =
    let old = c.args.cells.now.items in
    let mid = c.loop-part.cells.items in
    let more = shape_at old c.args.next in
    let ss = c.as_slice-part-items.result.now in
    let all : take c.loop-part.part-index ss ≡ ss = take_all c.loop-part.part-index ss (omega arith) in
    let several : any_of (map (shape_at mid) c.from_vec.result) ≡ either (map before c.in-Choice.several) =
    ap (λ (ys : List ℕ). any_of (map (shape_at mid) ys)) c.from_vec.ensures
    ∙ (ap any_of (c.loop-part.invariant.parts ∙ ap (λ (ws : List Shape). map shape_parts ws) (all ∙ c.as_slice-part-items.ensures)) ∙ sym (either_any c.in-Choice.several)) in
    if_lays_then c.add-in-Choice.result old mid c.add-in-Choice.new.cells.items 0 end (choice (any_of (map (shape_at mid) c.from_vec.result)) (shape_at mid c.args.next)) (before c.args.shape.now more)
    c.loop-part.invariant.lays c.add-in-Choice.ensures.lays
    (ap (λ p. choice p (shape_at mid c.args.next)) several
    ∙ (ap (choice (either (map before c.in-Choice.several))) (lays_keep old mid 0 end c.loop-part.invariant.lays c.args.next c.requires.next)
    ∙ sym (ap (λ (w : Shape). before w more) c.in-Choice.is ∙ choice_before more c.in-Choice.several)))

pub loop-part-preserved : goal.loop-part-preserved
loop-part-preserved t c =
    let old = c.args.cells.now.items in
    let mid = c.loop-part.cells.items in
    let new = c.lay-in-loop-part.new.cells.items in
    let y = c.in_ok-y-in-Choice.y in
    let ys = c.loop-part.alternatives.items in
    let s = c.part-item.result in
    let ss = c.as_slice-part-items.result.now in
    let k = c.loop-part.part-index in
    let a = c.in_ok-y-in-Choice.ensures in
    let pushed : c.push.new.self.items ≡ ys ++ y ∷ [] = c.in_ok-push-in-Choice.ensures.items in
    record {
      below = rw pushed (below_push (length mid) (length new) ys y c.loop-part.invariant.below (lays_longer mid new y (before s (shape_at mid 0)) a) a.inside);
      lays = end_laid old mid new y (before s (shape_at mid 0)) c.loop-part.invariant.lays a;
      parts = rw pushed (alternatives_laid mid new ys y ss s k a c.loop-part.invariant.lays.stands c.loop-part.invariant.below c.loop-part.invariant.parts (more_taken ss k s (omega arith) c.part-item.is));
    }
  where
    more_taken : (xs : List Shape) (k : ℕ) (x : Shape) → k < length xs → x ≡ get_or xs k x → take (k + 1) xs ≡ take k xs ++ x ∷ []
    more_taken xs k x lt e = rw add-one (take-suc xs k x lt ∙ ap (λ (w : Shape). take k xs ++ w ∷ []) (sym e))

pub loop-i-preserved : goal.loop-i-preserved
loop-i-preserved t c =
    let old = c.args.cells.now.items in
    let mid = c.loop-i.cells.items in
    let new = c.lay.new.cells.items in
    let more = shape_at old c.args.next in
    let ss = c.as_slice-parts.result.now in
    let s = c.index-parts-i.result in
    let a = c.in_ok-first-in-Seq.ensures in
    let i = c.loop-i.i in
    let lays = c.loop-i.invariant.lays in
    let next : suc (i - 1) ≡ i = omega arith in
    let dropped : drop (i - 1) ss ≡ s ∷ drop i ss = drop-cons ss (i - 1) s (omega arith) ∙ (ap (λ (w : Shape). w ∷ drop (suc (i - 1)) ss) (sym c.index-parts-i.is) ∙ ap (λ n. s ∷ drop n ss) next) in
    record {
      within = omega arith;
      ends = lays_keep mid new c.in_ok-first-in-Seq.first (before s (shape_at mid c.loop-i.first)) a 0 (omega (arith, lays.inside)) ∙ c.loop-i.invariant.ends;
      lays = lays_then old mid new c.loop-i.first c.in_ok-first-in-Seq.first (in_row (map before (drop i ss)) more) (before s (shape_at mid c.loop-i.first)) (in_row (map before (drop (i - 1) ss)) more) lays a
          (ap (before s) lays.stands ∙ sym (ap (λ (ws : List Shape). in_row (map before ws) more) dropped));
    }
