use Rattle.examples_recipes.proofs.books.book_of.Given as goal

abbrev pub ghosts-book_with : goal.ghosts-book_with
ghosts-book_with a = record { name = a.blank.name; parts = a.blank.parts }
