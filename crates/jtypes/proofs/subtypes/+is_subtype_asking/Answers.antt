use Rattle.std.proofs.Common.{◌∙◌, ap, sym}
use Rattle.jtypes.specs.Arrays.{array_is}
use Rattle.jtypes.specs.Subtype.{is_reference}
use Rattle.jtypes.proofs.LeftOver.{told_elements, told_same_elements, told_array_apart}
use Rattle.jtypes.proofs.subtypes.+is_subtype_asking.Goals as goal

pub returns-then-is_reference : goal.returns-then-is_reference
returns-then-is_reference g t c =
    let w = g.C.Classes.world c.args.c.now in
    let told = rw (c.get-then-is_reference.ensures, c.get-then-is_reference-2.ensures) at c.in_ok-holds-in-Array-b.ensures in
    rw (c.in-Array.is, c.in-Array-b.is, array_is c.in-Array.from, array_is c.in-Array-b.to)
    (told_elements c.in-Array.from c.in-Array-b.to w c.args.asks.now c.is_subtype_asking.new.asks c.in_ok-holds-in-Array-b.holds (ap is_reference (sym c.get.ensures) ∙ sym c.is_reference.ensures ∙ c.if-is_reference.true) told)

pub returns-else-is_reference : goal.returns-else-is_reference
returns-else-is_reference g t c =
    let w = g.C.Classes.world c.args.c.now in
    let same = rw (c.get-in-Array-b.ensures, c.get-in-Array-b-2.ensures) at c.is.ensures in
    rw (c.in-Array.is, c.in-Array-b.is, array_is c.in-Array.from, array_is c.in-Array-b.to)
    (told_same_elements c.in-Array.from c.in-Array-b.to w c.args.asks.now c.is.result (ap is_reference (sym c.get.ensures) ∙ sym c.is_reference.ensures ∙ c.if-is_reference.false) same)

pub returns-in_default-b-2 : goal.returns-in_default-b-2
returns-in_default-b-2 g t c =
    let w = g.C.Classes.world c.args.c.now in
    let plain = rw (c.in-Array.is, array_is c.in-Array.from) at c.is_plain_subtype.ensures in
    rw (c.in-Array.is, array_is c.in-Array.from) (told_array_apart c.in-Array.from c.args.b.now w c.args.asks.now c.is_plain_subtype.result c.in_default-b-2.not-Array plain)
