use Rattle.std.proofs.Common.{◌≡◌, ℕ, ◌+◌, ◌<◌, List, [], ◌∷◌, ◌++◌, Bool, Bor, true, false, length, take, drop, get_or, map, replicate, sym, ap, ◌∙◌, arith}
use Rattle.std.proofs.lemmas.List.{length-replicate, length-map, get_or-map, with_items_is}
use Rattle.conf_recipes.specs.PathMarks.{some_marked}
use Rattle.conf_recipes.specs.PathPatterns.{parts_match}
use Rattle.conf_recipes.proofs.Marks.{parts_start, parts_more, parts_end}
use Rattle.conf_recipes.proofs.path_patterns.parts_match.Goals as goal

-- what is read behind the last part
abbrev blank : Bor (List ℕ)
blank = record { ref_ptr = (0, 0); now = [] }

pub loop-i-init : goal.loop-i-init
loop-i-init c =
    let parts = c.args.parts.now in
    let xs = map (λ (x : Bor (List ℕ)). x.now) parts in
    let size : length xs ≡ length parts = length-map parts (λ (x : Bor (List ℕ)). x.now) in
    record {
      long = ap length c.in_ok-marks.ensures ∙ omega (arith, length-replicate (length parts) false);
      same = parts_start xs (map (λ (x : Bor (List ℕ)). x.now) c.args.forms.now) c.in_ok-marks.marks.items (c.in_ok-marks.ensures ∙ ap (λ n. true ∷ replicate n false) (sym size));
    }

pub loop-i-preserved : goal.loop-i-preserved
loop-i-preserved c =
    let parts = c.args.parts.now in
    let forms = c.args.forms.now in
    let xs = map (λ (x : Bor (List ℕ)). x.now) parts in
    let ys = map (λ (x : Bor (List ℕ)). x.now) forms in
    let i = c.loop-i.i in
    let new = c.mark_parts.new.marks in
    let lt : i < length forms = omega arith in
    let many : length ys ≡ length forms = length-map forms (λ (x : Bor (List ℕ)). x.now) in
    let size : length new ≡ length c.loop-i.marks.items = c.in_ok-mark_parts.ensures.long ∙ ap length c.deref_mut.ensures.value in
    let back : take c.loop-i.marks.len (new ++ drop (length new) c.loop-i.marks.items) ≡ new = with_items_is c.loop-i.marks new (c.in_ok-mark_parts.ensures.long ∙ c.deref_mut.ensures.len) in
    record {
      long = ap length back ∙ (size ∙ c.loop-i.invariant.long);
      same = ap (λ (ms : List Bool). some_marked (parts_match (drop (i + 1) ys)) ms xs) back
          ∙ parts_more xs ys i [] c.loop-i.marks.items new (parts_match ys xs) (omega (arith, lt, many))
          (λ ps. c.in_ok-mark_parts.ensures.marked ps
          ∙ (ap (λ (f : List ℕ). some_marked (parts_match (f ∷ ps)) c.deref_mut.result.now xs) (sym (get_or-map (λ (x : Bor (List ℕ)). x.now) forms i blank [] lt))
          ∙ ap (λ (ms : List Bool). some_marked (parts_match (get_or ys i [] ∷ ps)) ms xs) c.deref_mut.ensures.value))
          c.loop-i.invariant.same;
    }

pub returns : goal.returns
returns c =
    let parts = c.args.parts.now in
    let forms = c.args.forms.now in
    let xs = map (λ (x : Bor (List ℕ)). x.now) parts in
    let ys = map (λ (x : Bor (List ℕ)). x.now) forms in
    let size : length xs ≡ length parts = length-map parts (λ (x : Bor (List ℕ)). x.now) in
    let many : length ys ≡ length forms = length-map forms (λ (x : Bor (List ℕ)). x.now) in
    parts_end xs ys c.loop-i.i (length parts) c.loop-i.marks.items c.index.result.now (parts_match ys xs) (omega (arith, many)) (sym size) (omega (arith, size, c.loop-i.invariant.long)) c.index.ensures c.loop-i.invariant.same
