use Rattle.std.proofs.Common.{[], ◌∷◌, Some}
use Rattle.dialogue.specs.Dialogue.{first_found}
use Rattle.dialogue.specs.ToldLaws.{told_map, found_here, found_past, found_last}
use Rattle.j_names.specs.Dots.{behind_type}
use Rattle.j_names.specs.Members.{field_of, member_type_of}
use Rattle.j_names.specs.Names.{top_around, or_else}
use Rattle.jtypes.specs.declared.symbol.Symbol.TheVariants.{Unknown}
use Rattle.j_names.proofs.dots.behind_type_asking.Goals as goal

pub returns-in-Some : goal.returns-in-Some
unfolding behind_type
returns-in-Some g c =
    let f = field_of (top_around c.args.cx.now) c.args.name.now c.args.class.now in
    let m = member_type_of (top_around c.args.cx.now) c.args.name.now c.args.class.now in
    let w = g.C.Classes.world c.args.c.now in
    record {
      told =
          told_map (first_found (f ∷ m ∷ [])) (or_else Unknown) w c.args.asks.now c.field_of.new.asks
          (Some c.in-Some.s)
          (found_here w f (m ∷ []) c.args.asks.now c.field_of.new.asks c.in-Some.s
          (rw (c.top_around-top.ensures, c.in-Some.is) at c.in_ok-s.ensures));
    }

pub returns : goal.returns
unfolding behind_type
returns g c =
    let f = field_of (top_around c.args.cx.now) c.args.name.now c.args.class.now in
    let m = member_type_of (top_around c.args.cx.now) c.args.name.now c.args.class.now in
    let w = g.C.Classes.world c.args.c.now in
    rw c.or_unknown.ensures record {
      told =
          told_map (first_found (f ∷ m ∷ [])) (or_else Unknown) w c.args.asks.now c.member_type_of.new.asks
          c.in_ok-found.found
          (found_past w f (m ∷ []) c.args.asks.now c.field_of.new.asks c.member_type_of.new.asks c.in_ok-found.found
          (rw (c.top_around-top.ensures, c.in_default.is) at c.in_ok-s.ensures)
          (found_last w m c.field_of.new.asks c.member_type_of.new.asks c.in_ok-found.found
          (rw c.top_around-top.ensures at c.in_ok-found.ensures)));
    }
