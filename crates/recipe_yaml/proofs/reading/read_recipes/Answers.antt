use Rattle.std.proofs.Common.{rules, Some, Ok, Err, codes, ap, ◌∙◌}
use Rattle.recipe_yaml.proofs.BookSteps.{book_is}
use Rattle.recipe_yaml.proofs.reading.read_recipes.Goals as goal

pub returns-in_err-book-clause-fault : goal.returns-in_err-book-clause-fault
returns-in_err-book-clause-fault g c = λ read are.
    let e = book_is read c.args.bytes.now c.in_ok-reading.reading (Err c.in_err-book.field-0.0)
    (c.in_ok-reading.ensures.same read are ∙ ap (λ t. read (codes "recipes.yml") (Some t)) c.in_ok-text.ensures) c.in_err-book.ensures in
    search (rules, e)

pub returns-clause-book : goal.returns-clause-book
returns-clause-book g c = λ read are.
    book_is read c.args.bytes.now c.in_ok-reading.reading (Ok c.in_ok-book.book)
    (c.in_ok-reading.ensures.same read are ∙ ap (λ t. read (codes "recipes.yml") (Some t)) c.in_ok-text.ensures) c.in_ok-book.ensures
