use Rattle.std.proofs.Common.{◌≡◌, ◌∙◌, ◌<◌, ◌≤◌, refl, sym, ap, ℕ, List, map, take, length, get_or, arith}
use Rattle.std.proofs.lemmas.List.{get_or-map, length-map, take_all}
use denote.Bor.{Bor}
use Rattle.std.specs.Map.{lookup}
use Rattle.dialogue.specs.Dialogue.{run}
use Rattle.jtypes.specs.World.{name_eq, world_of}
use Rattle.jtypes.specs.declared.signatures.Header.{Header}
use Rattle.declared_types.specs.Supertypes.{header_with, supertypes_of}
use Rattle.declared_types.specs.declared.written.DeclaredType.{DeclaredType}
use Rattle.class_world.specs.declared.row.ClassRow.{ClassRow}
use Rattle.class_world.specs.Rows.{header_of, field_of_row, methods_of_row}
use Rattle.class_world.specs.Worlds.{fields_in, methods_in, headers_as_written}
use Rattle.class_world.proofs.MoreRows.{row_step}
use Rattle.class_world.proofs.Worlds.{worlds_same}
use Rattle.class_world.proofs.rows.rows_in.Goals as goal

pub bounds-headers-at : goal.bounds-headers-at
bounds-headers-at g c =
    let types = map (λ (d : Bor DeclaredType). d.now) c.args.types.now in
    let resolved : DeclaredType → Header = λ d. header_with (run (supertypes_of d) (headers_as_written types)) d in
    omega (
      arith,
      ap length c.requires.headers_of_types,
      length-map types resolved,
      length-map c.args.types.now (λ (d : Bor DeclaredType). d.now),
    )

pub loop-at-init : goal.loop-at-init
loop-at-init g c = worlds_same _ _
    (λ n. ap (λ (es : List (List ℕ × ClassRow)). header_of (lookup (name_eq n) es)) c.new-rows.ensures.empty)
    (λ o n. ap (λ (es : List (List ℕ × ClassRow)). field_of_row (lookup (name_eq o) es) n) c.new-rows.ensures.empty)
    (λ o n. ap (λ (es : List (List ℕ × ClassRow)). methods_of_row (lookup (name_eq o) es) n) c.new-rows.ensures.empty)

pub loop-at-preserved : goal.loop-at-preserved
loop-at-preserved g c =
    let all : List DeclaredType = map (λ (d : Bor DeclaredType). d.now) c.args.types.now in
    let resolved : DeclaredType → Header = λ d. header_with (run (supertypes_of d) (headers_as_written all)) d in
    let within : c.loop-at.at < length c.args.types.now = omega arith in
    let inside : c.loop-at.at < length all =
    omega (arith, length-map c.args.types.now (λ (d : Bor DeclaredType). d.now)) in
    let declared = c.index-types-at.result in
    let here : declared.now ≡ get_or all c.loop-at.at declared.now =
    ap (λ (d : Bor DeclaredType). d.now) c.index-types-at.is
    ∙ sym (get_or-map (λ (d : Bor DeclaredType). d.now) c.args.types.now c.loop-at.at declared declared.now within) in
    row_step c.loop-at.rows c.put_row.new.rows c.in_ok-row.row (g.C.Classes.world c.args.c.now) all resolved (λ d. refl)
    c.args.headers.now c.requires.headers_of_types c.requires.names_differ c.loop-at.at inside declared.now here
    c.index-headers-at.result c.index-headers-at.is c.in_ok-row.ensures c.in_ok-put_row.ensures c.loop-at.invariant

pub returns : goal.returns
returns g c =
    let all : List DeclaredType = map (λ (d : Bor DeclaredType). d.now) c.args.types.now in
    let resolved : DeclaredType → Header = λ d. header_with (run (supertypes_of d) (headers_as_written all)) d in
    let w = g.C.Classes.world c.args.c.now in
    let i = c.loop-at.at in
    let short : length all ≤ i = omega (arith, length-map c.args.types.now (λ (d : Bor DeclaredType). d.now)) in
    let no_longer : length c.args.headers.now ≤ i =
    omega (arith, ap length c.requires.headers_of_types, length-map all resolved) in
    let whole : take i all ≡ all = take_all i all short in
    c.loop-at.invariant
    ∙ ap (λ hs. world_of hs (fields_in w (take i all)) (methods_in w (take i all))) (take_all i c.args.headers.now no_longer)
    ∙ ap (λ ds. world_of c.args.headers.now (fields_in w ds) (methods_in w ds)) whole
