use Rattle.std.proofs.Common.{◌≡◌, ℕ, [], ◌∷◌, ◌++◌, refl, sym, ◌∙◌, ap, append_assoc}
use Rattle.std.specs.Prelude.{Some, None, slice_index_or}
use Rattle.rw_grammar.specs.declared.machine.Task.TheVariants as task
use Rattle.rw_grammar.specs.declared.machine.Moved.TheVariants as moved
use Rattle.rw_grammar.specs.Cells.{shape_at, picked}
use Rattle.rw_grammar.specs.Machine.{ends, takes, differs, opens, chooses, begins-none, takes-option, leaves-option, repeats, goes-on}
use Rattle.rw_grammar.proofs.Acting.{stands, names, is_begun, not_begun, picks, no_pick, rule_there, root_is, does, does_nothing}
use Rattle.rw_grammar.proofs.machine.step.Goals as goal

some_same : {a b : ℕ} → Some a ≡ Some b → a ≡ b
some_same h = cc

no_class : {a : ℕ} → None ≡ Some a → ⊥
no_class h = cc

pub bounds-known-rule : goal.bounds-known-rule
bounds-known-rule c =
    rule_there c.args.known.cells.now c.args.known.roots.now c.args.known.empty.now c.args.known.columns.now c.requires.table c.in-Rule.rule c.in-Rule.next (shape_at c.args.known.cells.now c.args.current) (stands c.args.known.cells.now c.args.known.roots.now c.args.known.empty.now c.args.known.columns.now c.requires.table c.args.current c.index-known-current.result c.requires.current c.in-Rule.is) c.requires.fine

pub returns-in-End : goal.returns-in-End
returns-in-End c =
    does_nothing c.args.known.cells.now c.args.known.roots.now c.args.known.empty.now c.args.known.columns.now c.requires.table c.args.class c.args.current c.args.leaf c.args.place c.args.tasks.now.items c.args.tasks.now.items moved.Ended refl
    (ends (stands c.args.known.cells.now c.args.known.roots.now c.args.known.empty.now c.args.known.columns.now c.requires.table c.args.current c.index-known-current.result c.requires.current c.in-End.is))

pub returns-in-Some : goal.returns-in-Some
returns-in-Some c =
    let below = names c.args.known.cells.now c.args.known.roots.now c.args.known.empty.now c.args.known.columns.now c.requires.table c.args.current c.index-known-current.result c.requires.current c.in-One.is in
    does_nothing c.args.known.cells.now c.args.known.roots.now c.args.known.empty.now c.args.known.columns.now c.requires.table c.args.class c.args.current c.args.leaf c.args.place c.args.tasks.now.items c.args.tasks.now.items (moved.Took c.in-One.next) refl
    (takes (stands c.args.known.cells.now c.args.known.roots.now c.args.known.empty.now c.args.known.columns.now c.requires.table c.args.current c.index-known-current.result c.requires.current c.in-One.is) below (c.in-Some.is ∙ ap Some c.if-class-wanted.true))

pub returns-in_default : goal.returns-in_default
returns-in_default c =
    does_nothing c.args.known.cells.now c.args.known.roots.now c.args.known.empty.now c.args.known.columns.now c.requires.table c.args.class c.args.current c.args.leaf c.args.place c.args.tasks.now.items c.args.tasks.now.items moved.Stuck refl
    (differs (stands c.args.known.cells.now c.args.known.roots.now c.args.known.empty.now c.args.known.columns.now c.requires.table c.args.current c.index-known-current.result c.requires.current c.in-One.is) (λ h. c.if-class-wanted.false (some_same (sym c.in-Some.is ∙ h))))

pub returns-in_default-2 : goal.returns-in_default-2
returns-in_default-2 c =
    does_nothing c.args.known.cells.now c.args.known.roots.now c.args.known.empty.now c.args.known.columns.now c.requires.table c.args.class c.args.current c.args.leaf c.args.place c.args.tasks.now.items c.args.tasks.now.items moved.Stuck refl
    (differs (stands c.args.known.cells.now c.args.known.roots.now c.args.known.empty.now c.args.known.columns.now c.requires.table c.args.current c.index-known-current.result c.requires.current c.in-One.is) (λ h. no_class (sym c.in_default.is ∙ h)))

pub returns-in_ok-keep-in-Rule-2 : goal.returns-in_ok-keep-in-Rule-2
returns-in_ok-keep-in-Rule-2 c =
    let below = names c.args.known.cells.now c.args.known.roots.now c.args.known.empty.now c.args.known.columns.now c.requires.table c.args.current c.index-known-current.result c.requires.current c.in-Rule.is in
    let there = rule_there c.args.known.cells.now c.args.known.roots.now c.args.known.empty.now c.args.known.columns.now c.requires.table c.in-Rule.rule c.in-Rule.next (shape_at c.args.known.cells.now c.args.current) (stands c.args.known.cells.now c.args.known.roots.now c.args.known.empty.now c.args.known.columns.now c.requires.table c.args.current c.index-known-current.result c.requires.current c.in-Rule.is) c.requires.fine in
    let root = root_is c.args.known.cells.now c.args.known.roots.now c.args.known.empty.now c.args.known.columns.now c.requires.table c.in-Rule.rule (slice_index_or c.args.known.roots.now c.in-Rule.rule 0) there refl in
    does c.args.known.cells.now c.args.known.roots.now c.args.known.empty.now c.args.known.columns.now c.requires.table c.args.class c.args.current c.args.leaf c.args.place c.args.tasks.now.items c.keep-in-Rule.new.tasks.items (moved.To (slice_index_or c.args.known.roots.now c.in-Rule.rule 0))
    (task.Derive c.in-Rule.next ∷ task.Close c.in-Rule.rule c.args.place c.args.leaf ∷ [])
    (c.in_ok-keep-in-Rule-2.ensures ∙ (ap (λ ts. ts ++ task.Close c.in-Rule.rule c.args.place c.args.leaf ∷ []) c.in_ok-keep-in-Rule.ensures ∙ append_assoc c.args.tasks.now.items (task.Derive c.in-Rule.next ∷ []) (task.Close c.in-Rule.rule c.args.place c.args.leaf ∷ [])))
    (opens (stands c.args.known.cells.now c.args.known.roots.now c.args.known.empty.now c.args.known.columns.now c.requires.table c.args.current c.index-known-current.result c.requires.current c.in-Rule.is) below root.0 root.1)

pub returns-in_ok-keep-in-Some-pick : goal.returns-in_ok-keep-in-Some-pick
returns-in_ok-keep-in-Some-pick c =
    let below = names c.args.known.cells.now c.args.known.roots.now c.args.known.empty.now c.args.known.columns.now c.requires.table c.args.current c.index-known-current.result c.requires.current c.in-Choice.is in
    let found = picks c.args.known.cells.now c.args.known.roots.now c.args.known.empty.now c.args.known.columns.now c.requires.table c.args.class c.in-Choice.alternatives c.in-Some-pick.y below.0
    (ap (λ bs. picked bs c.args.known.empty.now c.in-Choice.alternatives) (sym c.column-column.ensures) ∙ (ap (picked c.column-column.result.now c.args.known.empty.now) (sym c.as_slice.ensures) ∙ sym c.in-Some-pick.ensures)) in
    does c.args.known.cells.now c.args.known.roots.now c.args.known.empty.now c.args.known.columns.now c.requires.table c.args.class c.args.current c.args.leaf c.args.place c.args.tasks.now.items c.keep-in-Some-pick.new.tasks.items (moved.To c.in-Some-pick.y) (task.Derive c.in-Choice.next ∷ []) c.in_ok-keep-in-Some-pick.ensures
    (chooses (stands c.args.known.cells.now c.args.known.roots.now c.args.known.empty.now c.args.known.columns.now c.requires.table c.args.current c.index-known-current.result c.requires.current c.in-Choice.is) below.1 found.0 found.1)

pub returns-in-None : goal.returns-in-None
returns-in-None c =
    let below = names c.args.known.cells.now c.args.known.roots.now c.args.known.empty.now c.args.known.columns.now c.requires.table c.args.current c.index-known-current.result c.requires.current c.in-Choice.is in
    does_nothing c.args.known.cells.now c.args.known.roots.now c.args.known.empty.now c.args.known.columns.now c.requires.table c.args.class c.args.current c.args.leaf c.args.place c.args.tasks.now.items c.args.tasks.now.items moved.Stuck refl
    (begins-none (stands c.args.known.cells.now c.args.known.roots.now c.args.known.empty.now c.args.known.columns.now c.requires.table c.args.current c.index-known-current.result c.requires.current c.in-Choice.is)
    (no_pick c.args.known.cells.now c.args.known.roots.now c.args.known.empty.now c.args.known.columns.now c.requires.table c.args.class c.in-Choice.alternatives below.0
    (ap (λ bs. picked bs c.args.known.empty.now c.in-Choice.alternatives) (sym c.column-column.ensures) ∙ (ap (picked c.column-column.result.now c.args.known.empty.now) (sym c.as_slice.ensures) ∙ sym c.in-None.ensures))))

pub returns-in_ok-keep-in-Opt : goal.returns-in_ok-keep-in-Opt
returns-in_ok-keep-in-Opt c =
    let below = names c.args.known.cells.now c.args.known.roots.now c.args.known.empty.now c.args.known.columns.now c.requires.table c.args.current c.index-known-current.result c.requires.current c.in-Opt.is in
    does c.args.known.cells.now c.args.known.roots.now c.args.known.empty.now c.args.known.columns.now c.requires.table c.args.class c.args.current c.args.leaf c.args.place c.args.tasks.now.items c.keep-then-is_set.new.tasks.items (moved.To c.in-Opt.part) (task.Derive c.in-Opt.next ∷ []) c.in_ok-keep-in-Opt.ensures
    (takes-option (stands c.args.known.cells.now c.args.known.roots.now c.args.known.empty.now c.args.known.columns.now c.requires.table c.args.current c.index-known-current.result c.requires.current c.in-Opt.is) below.1 below.0 (is_begun c.args.known.cells.now c.args.known.roots.now c.args.known.empty.now c.args.known.columns.now c.requires.table c.column.result.now c.args.class c.in-Opt.part below.0 c.if-is_set.ensures c.column.ensures))

pub returns-else-is_set : goal.returns-else-is_set
returns-else-is_set c =
    let below = names c.args.known.cells.now c.args.known.roots.now c.args.known.empty.now c.args.known.columns.now c.requires.table c.args.current c.index-known-current.result c.requires.current c.in-Opt.is in
    does_nothing c.args.known.cells.now c.args.known.roots.now c.args.known.empty.now c.args.known.columns.now c.requires.table c.args.class c.args.current c.args.leaf c.args.place c.args.tasks.now.items c.args.tasks.now.items (moved.To c.in-Opt.next) refl
    (leaves-option (stands c.args.known.cells.now c.args.known.roots.now c.args.known.empty.now c.args.known.columns.now c.requires.table c.args.current c.index-known-current.result c.requires.current c.in-Opt.is) below.1 (not_begun c.args.known.cells.now c.args.known.roots.now c.args.known.empty.now c.args.known.columns.now c.requires.table c.column.result.now c.args.class c.in-Opt.part below.0 c.if-is_set.ensures c.column.ensures))

pub returns-in_ok-keep-in-Many : goal.returns-in_ok-keep-in-Many
returns-in_ok-keep-in-Many c =
    let below = names c.args.known.cells.now c.args.known.roots.now c.args.known.empty.now c.args.known.columns.now c.requires.table c.args.current c.index-known-current.result c.requires.current c.in-Many.is in
    does c.args.known.cells.now c.args.known.roots.now c.args.known.empty.now c.args.known.columns.now c.requires.table c.args.class c.args.current c.args.leaf c.args.place c.args.tasks.now.items c.keep-then-is_set-2.new.tasks.items (moved.To c.in-Many.part) (task.Derive c.args.current ∷ []) c.in_ok-keep-in-Many.ensures
    (repeats (stands c.args.known.cells.now c.args.known.roots.now c.args.known.empty.now c.args.known.columns.now c.requires.table c.args.current c.index-known-current.result c.requires.current c.in-Many.is) below.0 (is_begun c.args.known.cells.now c.args.known.roots.now c.args.known.empty.now c.args.known.columns.now c.requires.table c.column-in-Many.result.now c.args.class c.in-Many.part below.0 c.if-is_set-2.ensures c.column-in-Many.ensures))

pub returns-else-is_set-2 : goal.returns-else-is_set-2
returns-else-is_set-2 c =
    let below = names c.args.known.cells.now c.args.known.roots.now c.args.known.empty.now c.args.known.columns.now c.requires.table c.args.current c.index-known-current.result c.requires.current c.in-Many.is in
    does_nothing c.args.known.cells.now c.args.known.roots.now c.args.known.empty.now c.args.known.columns.now c.requires.table c.args.class c.args.current c.args.leaf c.args.place c.args.tasks.now.items c.args.tasks.now.items (moved.To c.in-Many.next) refl
    (goes-on (stands c.args.known.cells.now c.args.known.roots.now c.args.known.empty.now c.args.known.columns.now c.requires.table c.args.current c.index-known-current.result c.requires.current c.in-Many.is) below.1 (not_begun c.args.known.cells.now c.args.known.roots.now c.args.known.empty.now c.args.known.columns.now c.requires.table c.column-in-Many.result.now c.args.class c.in-Many.part below.0 c.if-is_set-2.ensures c.column-in-Many.ensures))
