use Rattle.std.proofs.Common.{subst, List}
use Rattle.dialogue.specs.Dialogue.{run}
use Rattle.jtypes.specs.declared.signatures.FieldSig.{FieldSig}
use Rattle.jtypes.specs.declared.signatures.Header.{Header}
use Rattle.jtypes.specs.declared.signatures.MethodSig.{MethodSig}
use Rattle.declared_types.specs.Signatures.{fields_of, methods_of}
use Rattle.class_world.specs.Rows.{IsRow}
use Rattle.class_world.proofs.rows.row_in.Goals as goal

pub returns : goal.returns
returns g c =
    let w = g.C.Classes.world c.args.c.now in
    let fields = run (fields_of c.args.declared.now) w in
    let methods = run (methods_of c.args.declared.now) w in
    subst (λ (h : Header). IsRow c.in_ok-row.row h fields methods) c.in_ok-copy.ensures
    (subst (λ (fs : List FieldSig). IsRow c.in_ok-row.row c.in_ok-copy.field-0 fs methods) c.in_ok-fields.ensures.told.gives
    (subst (λ (ms : List MethodSig). IsRow c.in_ok-row.row c.in_ok-copy.field-0 c.in_ok-fields.fields.items ms)
    c.in_ok-methods.ensures.told.gives c.in_ok-row.ensures))
