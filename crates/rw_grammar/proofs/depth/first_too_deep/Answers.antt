use Rattle.std.proofs.Common.{◌≡◌, ℕ, ◌-◌, List, length, sym, ◌∙◌, ap, subst, arith}
use Rattle.std.specs.Prelude.{slice_index, Option, Some, None, Result, Ok}
use Rattle.rw_base.specs.declared.memory.NoMemory.{NoMemory}
use Rattle.rw_base.specs.Trees.{none, node}
use Rattle.rw_base.specs.LaidLaws.{length-rows}
use Rattle.rw_grammar.specs.declared.depth.TheConstants.{DEPTH_LIMIT}
use Rattle.rw_grammar.specs.Depth.{worth, first_above}
use Rattle.rw_grammar.specs.Results.{too_deep, IsFirstOf}
use Rattle.rw_grammar.proofs.DepthLaws.{Spot, root_low, root_spot, spot_inside, spot_found, spot_next, spot_ends}
use Rattle.rw_grammar.proofs.depth.first_too_deep.Goals as goal

the_leaf : (a b : ℕ) → ◌≡◌ {A = Result (Option ℕ) NoMemory} (Ok (Some a)) (Ok (Some b)) → a ≡ b
the_leaf a b h = cc

pub overflow_sub-n : goal.overflow_sub-n
overflow_sub-n c = let t = c.requires.tree in omega (arith, c.len-n.ensures, ap length t.are, length-rows 0 0 (node tt t.kind t.kids none))

pub returns-then-height_at-allowed-clause-none : goal.returns-then-height_at-allowed-clause-none
returns-then-height_at-allowed-clause-none c h k kids are =
    let rows = c.args.nodes.now in
    let hs = c.in_ok-heights.heights.items in
    let e : c.height_at.result ≡ slice_index hs (length rows - 1) = c.height_at.ensures
    ∙ (ap (λ (k : ℕ). slice_index c.as_slice.result.now (k - 1)) c.len-n.ensures ∙ ap (λ (xs : List ℕ). slice_index xs (length rows - 1)) c.as_slice.ensures.value) in
    root_low rows hs c.in_ok-heights.ensures k kids are (omega (arith, e, c.if-height_at-allowed.true))

pub down-init : goal.down-init
down-init c k kids are =
    let rows = c.args.nodes.now in
    let hs = c.in_ok-heights.heights.items in
    let e : c.height_at.result ≡ slice_index hs (length rows - 1) = c.height_at.ensures
    ∙ (ap (λ (k : ℕ). slice_index c.as_slice.result.now (k - 1)) c.len-n.ensures ∙ ap (λ (xs : List ℕ). slice_index xs (length rows - 1)) c.as_slice.ensures.value) in
    subst (λ (i : ℕ). Spot rows (too_deep 0 0 (node tt k kids none)) (i - 1) DEPTH_LIMIT) (sym c.len-n.ensures)
    (root_spot rows hs c.in_ok-heights.ensures k kids are (omega (arith, e, c.if-height_at-allowed.false)))

pub leaves_of-first-requires : goal.leaves_of-first-requires
leaves_of-first-requires c =
    let t = c.requires.tree in
    spot_inside c.args.nodes.now c.in_ok-heights.heights.items c.in_ok-heights.ensures (too_deep 0 0 (node tt t.kind t.kids none)) c.down.n c.down.allowed (c.down.invariant t.kind t.kids t.are)

pub parts-parts-requires : goal.parts-parts-requires
parts-parts-requires c =
    let t = c.requires.tree in
    spot_inside c.args.nodes.now c.in_ok-heights.heights.items c.in_ok-heights.ensures (too_deep 0 0 (node tt t.kind t.kids none)) c.down.n c.down.allowed (c.down.invariant t.kind t.kids t.are)

pub returns-then-allowed-counts-clause-some : goal.returns-then-allowed-counts-clause-some
returns-then-allowed-counts-clause-some c leaf h k kids are =
    let whole = too_deep 0 0 (node tt k kids none) in
    subst (λ i. IsFirstOf i whole) (the_leaf c.leaves_of-first.result.0 leaf h)
    (spot_found c.args.nodes.now c.in_ok-heights.heights.items c.in_ok-heights.ensures whole c.down.n c.down.allowed (c.down.invariant k kids are) c.parts-parts.result.now c.parts-parts.ensures c.leaves_of-first.result.0 c.leaves_of-first.ensures.first (omega (arith, c.if-allowed-counts.true, c.weight-counts.ensures)))

pub down-smaller : goal.down-smaller
down-smaller c =
    let t = c.requires.tree in
    let whole = too_deep 0 0 (node tt t.kind t.kids none) in
    let hs = c.in_ok-heights.heights.items in
    let ps = c.parts-parts.result.now in
    let looked : first_above (slice_index hs) (c.down.allowed - worth (length ps)) ps ≡ Some c.in-Some.next =
    sym (c.in-Some.ensures ∙ (ap (λ (xs : List ℕ). first_above (slice_index xs) (c.down.allowed - c.weight-counts.result) ps) c.as_slice-in-down.ensures.value
    ∙ ap (λ w. first_above (slice_index hs) (c.down.allowed - w) ps) c.weight-counts.ensures)) in
    (spot_next c.args.nodes.now hs c.in_ok-heights.ensures whole c.down.n c.down.allowed (c.down.invariant t.kind t.kids t.are) ps c.parts-parts.ensures c.in-Some.next (omega (arith, c.if-allowed-counts.false, c.weight-counts.ensures)) looked).0

pub down-preserved : goal.down-preserved
down-preserved c k kids are =
    let whole = too_deep 0 0 (node tt k kids none) in
    let hs = c.in_ok-heights.heights.items in
    let ps = c.parts-parts.result.now in
    let looked : first_above (slice_index hs) (c.down.allowed - worth (length ps)) ps ≡ Some c.in-Some.next =
    sym (c.in-Some.ensures ∙ (ap (λ (xs : List ℕ). first_above (slice_index xs) (c.down.allowed - c.weight-counts.result) ps) c.as_slice-in-down.ensures.value
    ∙ ap (λ w. first_above (slice_index hs) (c.down.allowed - w) ps) c.weight-counts.ensures)) in
    subst (λ w. Spot c.args.nodes.now whole c.in-Some.next (c.down.allowed - w)) (sym c.weight-counts.ensures)
    (spot_next c.args.nodes.now hs c.in_ok-heights.ensures whole c.down.n c.down.allowed (c.down.invariant k kids are) ps c.parts-parts.ensures c.in-Some.next (omega (arith, c.if-allowed-counts.false, c.weight-counts.ensures)) looked).1

pub returns-in-None-clause-none : goal.returns-in-None-clause-none
returns-in-None-clause-none c h k kids are =
    let whole = too_deep 0 0 (node tt k kids none) in
    let hs = c.in_ok-heights.heights.items in
    let ps = c.parts-parts.result.now in
    let looked : first_above (slice_index hs) (c.down.allowed - worth (length ps)) ps ≡ None =
    sym (c.in-None.ensures ∙ (ap (λ (xs : List ℕ). first_above (slice_index xs) (c.down.allowed - c.weight-counts.result) ps) c.as_slice-in-down.ensures.value
    ∙ ap (λ w. first_above (slice_index hs) (c.down.allowed - w) ps) c.weight-counts.ensures)) in
    absurd (spot_ends c.args.nodes.now hs c.in_ok-heights.ensures whole c.down.n c.down.allowed (c.down.invariant k kids are) ps c.parts-parts.ensures (omega (arith, c.if-allowed-counts.false, c.weight-counts.ensures)) looked)
