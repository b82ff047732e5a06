use Rattle.std.proofs.Common.{◌≡◌, ◌+◌, ◌∙◌, [], ◌∷◌, ◌++◌, length, ap, arith}
use Rattle.std.specs.Prelude.{None}
use Rattle.rw_base.specs.Arena.{first_of}
use Rattle.rw_base.specs.Laid.{kids_of}
use Rattle.rw_base.specs.Trees.{Numbered}
use Rattle.rw_grammar.specs.Results.{class_in}
use Rattle.java_reader.specs.Units.{units_of, units_in, unit, top_width}
use Rattle.java_reader.specs.declared.unit.UnitKind.TheVariants as kind
use Rattle.java_reader.proofs.unit.units.Goals as goal

pub returns : goal.returns
unfolding units_of
returns c =
    let t = c.args.tree.now in
    let first : first_of t.nodes c.root-root.result.0 ≡ 0 = ap (first_of t.nodes) c.root-root.ensures.value ∙ c.root-root.ensures.tree.whole.0 in
    let kids = ap (kids_of t.nodes) c.root-root.ensures.value in
    let end : c.top_end-past.result ≡ top_width (kids_of t.nodes t.root) = c.top_end-past.ensures ∙ omega (arith, first, ap top_width kids) in
    let c' = class_in t.leaves in
    let top = unit kind.Top 0 (top_width (kids_of t.nodes t.root)) 0 in
    let pushed : c.push.new.self.items ≡ top ∷ [] =
    c.in_ok-push.ensures.items ∙ (ap (λ xs. xs ++ unit kind.Top 0 c.top_end-past.result 0 ∷ []) c.new-out.ensures.items ∙ ap (λ b. unit kind.Top 0 b 0 ∷ []) end) in
    c.in_ok-add_units.ensures
    ∙ (ap (λ xs. xs ++ units_in c' (length xs) 0 None (first_of t.nodes c.root-root.result.0) (kids_of t.nodes c.root-root.result.0)) pushed
    ∙ (ap (λ a. top ∷ units_in c' 1 0 None a (kids_of t.nodes c.root-root.result.0)) first
    ∙ ap (λ (f : Numbered). top ∷ units_in c' 1 0 None 0 f) kids))
