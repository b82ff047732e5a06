use Rattle.std.proofs.Common.{◌∙◌, sym, ap}
use Rattle.std.specs.Option.{option_map}
use Rattle.rewrite_cli.specs.Journals.{laid}
use Rattle.rewrite_cli.proofs.FoundInFile.{found_text, found_refused}
use Rattle.rewrite_cli.proofs.checking.check_file.Goals as goal

pub returns-clause-text : goal.returns-clause-text
returns-clause-text g c = λ told read are.
    found_text (laid c.args.entries.now (g.S.Store.files c.args.store.now)) c.args.path.now read c.in-Some.bytes.items c.in_ok-refusal.refusal
    (sym c.is_counted.ensures ∙ c.if-not-is_counted.false) (sym (ap (option_map (λ v. v.items)) c.in-Some.is) ∙ c.in_ok-bytes.ensures.bytes told)
    (c.in_ok-refusal.ensures read are)
    c.args.findings.now.text.items _ c.in_ok-note_refusal.ensures.text

pub returns-clause-refused : goal.returns-clause-refused
returns-clause-refused g c = λ told read are.
    found_refused (laid c.args.entries.now (g.S.Store.files c.args.store.now)) c.args.path.now read c.in-Some.bytes.items c.in_ok-refusal.refusal
    (sym c.is_counted.ensures ∙ c.if-not-is_counted.false) (sym (ap (option_map (λ v. v.items)) c.in-Some.is) ∙ c.in_ok-bytes.ensures.bytes told)
    (c.in_ok-refusal.ensures read are)
    c.args.findings.now.any_refused _ c.in_ok-note_refusal.ensures.refused
