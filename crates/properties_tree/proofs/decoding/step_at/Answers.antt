use Rattle.std.proofs.Common.{◌≡◌, ℕ, ◌+◌, ◌-◌, ◌<◌, ◌≤◌, length, take, drop, sym, ap, ◌∙◌, arith, [], ◌∷◌}
use Rattle.std.proofs.lemmas.Bool.{eq-eqb, ne_eqb}
use Rattle.std.proofs.lemmas.List.{take_rest, nil_from_length, length-drop}
use Rattle.properties_tree.specs.Decoding.{byte, code, escape_of, four_hex}
use Rattle.properties_tree.proofs.Decoded.{step_byte, step_nothing, step_escape, escape_other, escape_unicode, escape_u}
use Rattle.properties_tree.proofs.decoding.step_at.Goals as goal

pub returns-then-b-ne92 : goal.returns-then-b-ne92
returns-then-b-ne92 c = step_byte c.args.text.now c.args.at c.requires (ne_eqb _ 92 c.if-b-ne92.true)

pub returns-then-rest-eq0 : goal.returns-then-rest-eq0
returns-then-rest-eq0 c =
    let s = c.args.text.now in
    let all = take_rest s (c.args.at + 1) in
    step_nothing s c.args.at c.requires (eq-eqb _ 92 c.if-b-ne92.false) (nil_from_length (drop (c.args.at + 1) s) (sym (ap length all) ∙ c.if-rest-eq0.true))

pub returns-then-c-ne117 : goal.returns-then-c-ne117
returns-then-c-ne117 c =
    let s = c.args.text.now in
    let T = take (length s - (c.args.at + 1)) (drop (c.args.at + 1) s) in
    let all : T ≡ drop (c.args.at + 1) s = take_rest s (c.args.at + 1) in
    let long : length T ≡ length s - (c.args.at + 1) = ap length all ∙ length-drop (c.args.at + 1) s in
    let some : 0 < length T = omega arith in
    step_escape s c.args.at c.requires 1 (byte c.escaped_byte.result ∷ []) (eq-eqb _ 92 c.if-b-ne92.false)
    (ap escape_of (sym all) ∙ (escape_other T some (ne_eqb _ 117 c.if-c-ne117.true) ∙ ap (λ (b : ℕ). record { elements = byte b ∷ []; size = 1 }) (sym c.escaped_byte.ensures))) (omega arith)

pub returns-in-Some : goal.returns-in-Some
returns-in-Some c =
    let s = c.args.text.now in
    let T = take (length s - (c.args.at + 1)) (drop (c.args.at + 1) s) in
    let F = take (length T - 1) (drop 1 T) in
    let all : T ≡ drop (c.args.at + 1) s = take_rest s (c.args.at + 1) in
    let long : length T ≡ length s - (c.args.at + 1) = ap length all ∙ length-drop (c.args.at + 1) s in
    let tail : F ≡ drop 1 T = take_rest T 1 in
    let short : length F ≡ length T - 1 = ap length tail ∙ length-drop 1 T in
    let four : 4 ≤ length F = c.in-Some.ensures.inside in
    let some : 0 < length T = omega arith in
    step_escape s c.args.at c.requires 5 (code c.in-Some.unit ∷ []) (eq-eqb _ 92 c.if-b-ne92.false)
    (ap escape_of (sym all) ∙ escape_unicode T c.in-Some.unit some (eq-eqb _ 117 c.if-c-ne117.false) (sym (c.in-Some.ensures.value ∙ ap four_hex tail))) (omega arith)

pub returns-in-None : goal.returns-in-None
returns-in-None c =
    let s = c.args.text.now in
    let T = take (length s - (c.args.at + 1)) (drop (c.args.at + 1) s) in
    let all : T ≡ drop (c.args.at + 1) s = take_rest s (c.args.at + 1) in
    let long : length T ≡ length s - (c.args.at + 1) = ap length all ∙ length-drop (c.args.at + 1) s in
    let some : 0 < length T = omega arith in
    step_escape s c.args.at c.requires 1 (byte 117 ∷ []) (eq-eqb _ 92 c.if-b-ne92.false)
    (ap escape_of (sym all) ∙ escape_u T some (eq-eqb _ 117 c.if-c-ne117.false) (sym (c.in-None.ensures.value ∙ ap four_hex (take_rest T 1)))) (omega arith)
