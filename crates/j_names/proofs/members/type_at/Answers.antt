use Rattle.std.proofs.Common.{◌∙◌, sym, ap, refl, if◌then◌else◌, Some, None}
use Rattle.std.specs.Option.{option_copied}
use Rattle.jtypes.specs.declared.symbol.Symbol.TheVariants.{Kind}
use Rattle.j_names.proofs.Looks.{told_type}
use Rattle.j_names.proofs.members.type_at.Goals as goal

pub returns-then-type_counts : goal.returns-then-type_counts
returns-then-type_counts g c =
    told_type (option_copied c.args.top) c.args.name
    (g.C.Classes.world c.args.c.now) c.args.asks.now c.ask_class.new.asks (option_copied c.in_ok-header.field-0)
    (Some (Kind c.args.name)) c.in_ok-header.ensures.asks c.in_ok-header.ensures.value
    (rw c.in-Some.is (ap (λ b. if b then Some (Kind c.args.name) else None)
    (sym c.if-type_counts.true ∙ c.type_counts.ensures)))

pub returns-else-type_counts : goal.returns-else-type_counts
returns-else-type_counts g c =
    told_type (option_copied c.args.top) c.args.name
    (g.C.Classes.world c.args.c.now) c.args.asks.now c.ask_class.new.asks
    (option_copied c.in_ok-header.field-0) None c.in_ok-header.ensures.asks c.in_ok-header.ensures.value
    (rw c.in-Some.is (ap (λ b. if b then Some (Kind c.args.name) else None)
    (sym c.if-type_counts.false ∙ c.type_counts.ensures)))

pub returns-in-None : goal.returns-in-None
returns-in-None g c =
    told_type (option_copied c.args.top) c.args.name
    (g.C.Classes.world c.args.c.now) c.args.asks.now c.ask_class.new.asks
    (option_copied c.in_ok-header.field-0) None c.in_ok-header.ensures.asks c.in_ok-header.ensures.value
    (rw c.in-None.is refl)
