use Rattle.std.proofs.Common.{◌≡◌, ◌≢◌, ℕ, ◌∷◌, [], ◌++◌, List, ap, refl, ◌∙◌}
use Rattle.csv.specs.Writing.{default_writer, row_text}
use Rattle.csv.specs.declared.writer.QuoteStyle.TheVariants as style
use Rattle.csv.specs.declared.writer.WriterBuilder.{WriterBuilder}
use Rattle.run_history.specs.History.{row_line, written}
use Rattle.run_history.specs.Writer.{text_in}
use Rattle.run_history.specs.declared.row.RunRow.{RunRow}
use Rattle.run_history.proofs.writing.write_row.Goals as goal

-- seven fields that are those of the run
same_fields : (a b c d e f g a' b' c' d' e' f' g' : List ℕ) → a ≡ a' → b ≡ b' → c ≡ c' → d ≡ d' → e ≡ e' → f ≡ f'
    → g ≡ g'
    → ◌≡◌ {A = List (List ℕ)} (a ∷ b ∷ c ∷ d ∷ e ∷ f ∷ g ∷ []) (a' ∷ b' ∷ c' ∷ d' ∷ e' ∷ f' ∷ g' ∷ [])
same_fields a b c d e f g a' b' c' d' e' f' g' p0 p1 p2 p3 p4 p5 p6 = cc

same_line : (setup : WriterBuilder) (fields : List (List ℕ)) (row : RunRow) → setup ≡ default_writer
    → fields ≡ written row → row_text setup fields ≡ row_line row
same_line setup fields row s f = rw (s, f) refl

not_numeric : (setup : WriterBuilder) → setup ≡ default_writer → setup.style ≢ style.NonNumeric
not_numeric setup s = rw s (λ e. cc e)

pub returns-clause-text : goal.returns-clause-text
returns-clause-text c =
    let fresh = c.requires.fresh in
    let fields = same_fields _ _ _ _ _ _ _ _ _ _ _ _ _ _ c.number_text.ensures.text c.as_slice.ensures c.number_text-2.ensures.text c.number_text-3.ensures.text c.number_text-4.ensures.text
    c.number_text-5.ensures.text (c.as_slice-2.ensures ∙ c.digits_of-digits.ensures.digits) in
    let line = same_line _ _ c.args.row.now fresh.setup fields in
    c.in-Ok.ensures.bytes fresh.fields fresh.wrote (not_numeric _ fresh.setup) ∙ ap (λ (more : List ℕ). text_in c.args.writer.now ++ more) line

pub returns-clause-fresh : goal.returns-clause-fresh
returns-clause-fresh c = record {
  setup = c.in-Ok.ensures.setup ∙ c.requires.fresh.setup;
  fields = c.in-Ok.ensures.ended;
  wrote = c.in-Ok.ensures.clean;
}

pub returns-clause-in_form : goal.returns-clause-in_form
returns-clause-in_form c = record {
  in_bounds = record {
    run = c.number_text.ensures.small;
    cycles = c.number_text-2.ensures.small;
    changed = c.number_text-3.ensures.small;
    created = c.number_text-4.ensures.small;
    removed = c.number_text-5.ensures.small;
  };
  digits = _;
  digest = c.digits_of-digits.ensures.digest;
  spelled = refl;
}
