use Rattle.recipe_yaml.proofs.BookSteps.{book_refused, book_java, book_properties, book_unread}
use Rattle.recipe_yaml.proofs.reading.book_of.Goals as goal

pub returns-in-Refused : goal.returns-in-Refused
returns-in-Refused c = λ other. book_refused c.args.bytes.now c.in-Refused.refused c.args.reading.now c.in-Refused.is

pub returns-in-Java : goal.returns-in-Java
returns-in-Java c =
    book_java c.args.bytes.now c.args.reading.now c.no_book.result c.no_book.ensures c.in-Java.field-0 c.in-Java.is

pub returns-in-Properties : goal.returns-in-Properties
returns-in-Properties c =
    book_properties c.args.bytes.now c.args.reading.now c.no_book-in-Properties.result c.no_book-in-Properties.ensures
    c.in-Properties.field-0 c.in-Properties.is

pub returns-in-Unread : goal.returns-in-Unread
returns-in-Unread c =
    book_unread c.args.bytes.now c.args.reading.now c.no_book-in-Unread.result c.no_book-in-Unread.ensures
    c.in-Unread.is
