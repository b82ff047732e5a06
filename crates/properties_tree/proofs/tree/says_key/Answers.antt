use Rattle.std.proofs.Common.{◌≡◌, sym, ap, ◌∙◌}
use Rattle.std.proofs.lemmas.Slice.Eq.{slice_eq-Decides}
use Rattle.std.proofs.lemmas.Bool.Decides.{Decides-eqb}
use Rattle.properties_tree.specs.Entries.{characters_of}
use Rattle.properties_tree.specs.Cutting.{pieces_in}
use Rattle.properties_tree.specs.Decoding.{decode, key_text, entry_at}
use Rattle.properties_tree.specs.Plain.{has_backslash}
use Rattle.properties_tree.proofs.Alone.{key_said}
use Rattle.properties_tree.proofs.Marked.{plain_key}
use Rattle.properties_tree.proofs.tree.says_key.Goals as goal

pub returns-then-is_marked : goal.returns-then-is_marked
returns-then-is_marked c =
    let d = slice_eq-Decides Decides-eqb c.as_slice.result.now c.args.key.now c.eq.result c.eq.ensures in
    let same : c.as_slice.result.now ≡ key_text (entry_at c.args.bytes.now c.args.n) =
    c.as_slice.ensures.value ∙ (c.in_ok-said.ensures ∙ (ap (λ t. decode (characters_of (pieces_in t))) c.requires.part ∙ key_said c.args.bytes.now c.args.n)) in
    (λ equal. sym same ∙ d.0 equal, λ e. d.1 (same ∙ e))

pub returns : goal.returns
returns c =
    let d = slice_eq-Decides Decides-eqb c.args.part.now c.args.key.now c.eq-2.result c.eq-2.ensures in
    let none = ap has_backslash (sym c.requires.part) ∙ (sym c.is_marked.ensures ∙ c.if-is_marked.false) in
    let same : c.args.part.now ≡ key_text (entry_at c.args.bytes.now c.args.n) = c.requires.part ∙ sym (plain_key c.args.bytes.now c.args.n none) in
    (λ equal. sym same ∙ d.0 equal, λ e. d.1 (same ∙ e))
