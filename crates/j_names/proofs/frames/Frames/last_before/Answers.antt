use Rattle.std.proofs.Common.{◌≡◌, ◌∙◌, sym, ap, subst, [], ◌≤◌, inl, inr, arith, length, drop, take, filter, nat_eq}
use Rattle.indexmap.specs.IndexMap.{get}
use Rattle.jtypes.specs.World.{name_eq}
use Rattle.j_names.specs.Scopes.{behind, matters}
use Rattle.j_names.proofs.Numbering.{none_matters, numbered_take, numbered_drop, further_silent}
use Rattle.j_names.proofs.Numbering.{numbered_length}
use Rattle.j_names.proofs.frames.Frames.last_before.Goals as goal

pub returns : goal.returns
returns c =
    let items = c.self.inside.items.items in
    let chains = c.self.inside.chains in
    let f = get name_eq c.self.inside.numbers in
    let n = c.args.n.now in
    let end = c.args.end in
    let place = c.later-place.result in
    let le : place ≤ end = elim c.later-place.ensures.either [
      | inl q ↦ omega (arith, q, c.last_named-named.ensures.within)
      | inr q ↦ omega (arith, q, c.last_before-bodies.ensures.within)
    ] in
    let quiet : filter (matters n) (drop place (take end items)) ≡ [] =
    none_matters f n (drop place (take end items)) (drop place (take end chains))
    (numbered_drop f place (take end items) (take end chains) (numbered_take f end items chains c.self.invariant))
    (further_silent (λ i. nat_eq i 0) c.last_before-bodies.result place (take end chains)
    c.later-place.ensures.second c.last_before-bodies.ensures.silent)
    (λ k e. further_silent (λ i. nat_eq i k) c.last_named-named.result place (take end chains)
    c.later-place.ensures.first (c.last_named-named.ensures.silent k e)) in
    record {
      within = λ at e. omega (arith, sym (ap behind e) ∙ c.place_before.ensures, le);
      silent =
          subst (λ p. filter (matters n) (drop p (take end c.args.self.now)) ≡ []) (sym c.place_before.ensures)
          (subst (λ xs. filter (matters n) (drop place (take end xs)) ≡ []) c.self.view_is quiet);
    }

pub last_before-bodies-requires : goal.last_before-bodies-requires
last_before-bodies-requires c =
    omega (
      arith,
      c.requires,
      ap length c.self.view_is,
      numbered_length (get name_eq c.self.inside.numbers) c.self.inside.items.items c.self.inside.chains
          c.self.invariant,
    )

pub last_named-named-requires : goal.last_named-named-requires
last_named-named-requires c =
    omega (
      arith,
      c.requires,
      ap length c.self.view_is,
      numbered_length (get name_eq c.self.inside.numbers) c.self.inside.items.items c.self.inside.chains
          c.self.invariant,
    )
