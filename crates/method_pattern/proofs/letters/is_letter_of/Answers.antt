use Rattle.std.proofs.Common.{◌≡◌, true, sym, ap, ◌∙◌, length, drop}
use Rattle.std.specs.Char.{IsScalar, encode_utf8}
use Rattle.std.proofs.lemmas.Slice.Eq.{starts_is}
use Rattle.std.proofs.lemmas.Bool.Decides.{Decides-eqb}
use Rattle.method_pattern.specs.Letters.{letter_test}
use Rattle.method_pattern.proofs.letters.is_letter_of.Goals as goal

pub returns-then-is_letter : goal.returns-then-is_letter
returns-then-is_letter c =
    let same : c.in-Some.c ≡ c.args.code = c.in-Some.ensures.value.1 in
    let scalar : IsScalar c.args.code = c.in-Some.ensures.value.0 in
    let passes : letter_test c.args.behind_letters c.args.code ≡ true =
    ap (letter_test c.args.behind_letters) (sym same) ∙ (sym c.is_letter.ensures ∙ c.if-is_letter.true) in
    let bytes : c.as_bytes.result.now ≡ encode_utf8 c.args.code =
    c.as_bytes.ensures.value ∙ (c.encode_utf8.ensures.value ∙ ap encode_utf8 same) in
    let starts = starts_is Decides-eqb c.as_bytes.result.now c.args.front.now c.starts_with.result c.starts_with.ensures.value in (
      λ t. (drop (length c.args.front.now) c.as_bytes.result.now, sym bytes ∙ starts.0 t, record { scalar = scalar; passes = passes }),
      λ letter. starts.1 letter.0 (bytes ∙ letter.1),
    )
