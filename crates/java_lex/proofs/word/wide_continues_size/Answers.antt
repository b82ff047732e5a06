use Rattle.std.proofs.Common.{◌≡◌, Some, ◌∙◌, sym}
use Rattle.bstr.specs.Utf8.{decoded}
use Rattle.java_lex.proofs.Wording.{wide-some, wide-other, wide-none, wide-char, wide-goes}
use Rattle.java_lex.proofs.word.wide_continues_size.Goals as goal

pub returns-in-Some : goal.returns-in-Some
returns-in-Some c =
    let found : (decoded c.args.text.now).char ≡ Some c.in-Some.c = sym c.decode-found.ensures.char ∙ c.in-Some.is in
    wide-some _ c.args.text.now c.in-Some.c _ found c.decode-found.ensures.size
    (wide-goes c.in-Some.c (wide-char c.args.text.now _ found c.requires) ∙ sym c.is_xid_continue.ensures.value ∙ c.if-is_xid_continue.true)

pub returns-in_default : goal.returns-in_default
returns-in_default c =
    let found : (decoded c.args.text.now).char ≡ Some c.in-Some.c = sym c.decode-found.ensures.char ∙ c.in-Some.is in
    wide-other _ c.args.text.now c.in-Some.c found
    (wide-goes c.in-Some.c (wide-char c.args.text.now _ found c.requires) ∙ sym c.is_xid_continue.ensures.value ∙ c.if-is_xid_continue.false)

pub returns-in_default-2 : goal.returns-in_default-2
returns-in_default-2 c = wide-none _ c.args.text.now (sym c.decode-found.ensures.char ∙ c.in_default.is)
