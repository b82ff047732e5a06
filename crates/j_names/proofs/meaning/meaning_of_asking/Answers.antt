use Rattle.std.proofs.Common.{[], ◌∷◌, Some, None}
use Rattle.dialogue.specs.ToldLaws.{told_map, found_here, found_past, found_last}
use Rattle.dialogue.specs.Dialogue.{first_found}
use Rattle.j_names.specs.Names.{variable_meant, type_meant, meaning_of, or_else}
use Rattle.jtypes.specs.declared.symbol.Symbol.TheVariants.{Package}
use Rattle.j_names.proofs.meaning.meaning_of_asking.Goals as goal

pub returns-in-Some : goal.returns-in-Some
unfolding meaning_of
returns-in-Some g c =
    let n = c.args.name.now in
    let v = variable_meant c.args.cx.now c.args.frames.now n in
    let t = type_meant c.args.cx.now c.args.frames.now n in
    let w = g.C.Classes.world c.args.c.now in
    record {
      told =
          told_map (first_found (v ∷ t ∷ [])) (or_else (Package n)) w c.args.asks.now c.variable_meant.new.asks
          (Some c.in-Some.s)
          (found_here w v (t ∷ []) c.args.asks.now c.variable_meant.new.asks c.in-Some.s
          (rw c.in-Some.is at c.in_ok-s.ensures));
    }

pub returns-in-Some-2 : goal.returns-in-Some-2
unfolding meaning_of
returns-in-Some-2 g c =
    let n = c.args.name.now in
    let v = variable_meant c.args.cx.now c.args.frames.now n in
    let t = type_meant c.args.cx.now c.args.frames.now n in
    let w = g.C.Classes.world c.args.c.now in
    record {
      told =
          told_map (first_found (v ∷ t ∷ [])) (or_else (Package n)) w c.args.asks.now c.type_meant.new.asks
          (Some c.in-Some-2.s)
          (found_past w v (t ∷ []) c.args.asks.now c.variable_meant.new.asks c.type_meant.new.asks
          (Some c.in-Some-2.s)
          (rw c.in_default.is at c.in_ok-s.ensures)
          (found_last w t c.variable_meant.new.asks c.type_meant.new.asks (Some c.in-Some-2.s)
          (rw c.in-Some-2.is at c.in_ok-s-2.ensures)));
    }

pub returns : goal.returns
unfolding meaning_of
returns g c =
    let n = c.args.name.now in
    let v = variable_meant c.args.cx.now c.args.frames.now n in
    let t = type_meant c.args.cx.now c.args.frames.now n in
    let w = g.C.Classes.world c.args.c.now in
    rw c.in_ok-copy.ensures record {
      told =
          told_map (first_found (v ∷ t ∷ [])) (or_else (Package n)) w c.args.asks.now c.type_meant.new.asks None
          (found_past w v (t ∷ []) c.args.asks.now c.variable_meant.new.asks c.type_meant.new.asks None
          (rw c.in_default.is at c.in_ok-s.ensures)
          (found_last w t c.variable_meant.new.asks c.type_meant.new.asks None
          (rw c.in_default-2.is at c.in_ok-s-2.ensures)));
    }
