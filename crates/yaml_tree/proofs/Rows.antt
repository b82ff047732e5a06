-- What is written out for each rule of the table: the classes that can come first, whether it can be empty, its rank.
use Rattle.std.specs.Prelude.{false, List, [], ◌∷◌}
use Rattle.rw_grammar.specs.Closed.{Row}

abbrev pub rows : List Row
rows =
    record { first = 0 ∷ 1 ∷ 2 ∷ 5 ∷ 8 ∷ 9 ∷ 10 ∷ 11 ∷ 13 ∷ 16 ∷ 17 ∷ []; empty = false; rank = 3 } ∷
    record { first = 1 ∷ 2 ∷ []; empty = false; rank = 0 } ∷
    record { first = 5 ∷ 8 ∷ 9 ∷ 10 ∷ 11 ∷ 13 ∷ 16 ∷ 17 ∷ []; empty = false; rank = 2 } ∷
    record { first = 5 ∷ 8 ∷ 10 ∷ 11 ∷ 13 ∷ 16 ∷ 17 ∷ []; empty = false; rank = 1 } ∷
    record { first = 16 ∷ []; empty = false; rank = 0 } ∷
    record { first = 4 ∷ []; empty = false; rank = 0 } ∷
    record { first = 17 ∷ []; empty = false; rank = 0 } ∷
    record { first = 3 ∷ []; empty = false; rank = 0 } ∷
    record { first = 11 ∷ 13 ∷ []; empty = false; rank = 0 } ∷
    record { first = 7 ∷ 9 ∷ 10 ∷ 11 ∷ 13 ∷ []; empty = false; rank = 3 } ∷
    record { first = 7 ∷ 9 ∷ 10 ∷ 11 ∷ 13 ∷ []; empty = false; rank = 2 } ∷
    record { first = 7 ∷ 10 ∷ 11 ∷ 13 ∷ []; empty = false; rank = 1 } ∷
    []
