-- What is written out for each rule of the table: the classes that can come first, whether it can be empty, its rank.
use Rattle.std.specs.Prelude.{false, List, [], ◌∷◌}
use Rattle.rw_grammar.specs.Closed.{Row}

abbrev pub rows : List Row
rows =
    record { first = 0 ∷ 2 ∷ 7 ∷ 10 ∷ 13 ∷ 15 ∷ 21 ∷ 23 ∷ 24 ∷ 26 ∷ 27 ∷ 28 ∷ 29 ∷ 31 ∷ 32 ∷ 35 ∷ 39 ∷ 42 ∷ 59 ∷ 63 ∷ 106 ∷ []; empty = false; rank = 3 } ∷
    record { first = 26 ∷ []; empty = false; rank = 0 } ∷
    record { first = 1 ∷ []; empty = false; rank = 0 } ∷
    record { first = 21 ∷ []; empty = false; rank = 0 } ∷
    record { first = 61 ∷ []; empty = false; rank = 0 } ∷
    record { first = 2 ∷ 7 ∷ 10 ∷ 13 ∷ 15 ∷ 23 ∷ 24 ∷ 27 ∷ 28 ∷ 29 ∷ 31 ∷ 32 ∷ 35 ∷ 39 ∷ 42 ∷ 59 ∷ 63 ∷ 106 ∷ []; empty = false; rank = 2 } ∷
    record { first = 7 ∷ 13 ∷ 23 ∷ 106 ∷ []; empty = false; rank = 1 } ∷
    record { first = 2 ∷ 10 ∷ 15 ∷ 24 ∷ 27 ∷ 28 ∷ 29 ∷ 31 ∷ 32 ∷ 35 ∷ 39 ∷ 42 ∷ 63 ∷ []; empty = false; rank = 1 } ∷
    record { first = 63 ∷ []; empty = false; rank = 0 } ∷
    record { first = 1 ∷ 25 ∷ 33 ∷ 36 ∷ 41 ∷ 45 ∷ 46 ∷ 47 ∷ 48 ∷ 49 ∷ 50 ∷ 51 ∷ 52 ∷ 53 ∷ 55 ∷ 63 ∷ 68 ∷ 69 ∷ 79 ∷ 80 ∷ 81 ∷ 82 ∷ 99 ∷ 101 ∷ 103 ∷ 104 ∷ 105 ∷ []; empty = false; rank = 15 } ∷
    record { first = 1 ∷ 25 ∷ 33 ∷ 36 ∷ 41 ∷ 45 ∷ 46 ∷ 47 ∷ 48 ∷ 49 ∷ 50 ∷ 51 ∷ 52 ∷ 53 ∷ 55 ∷ 63 ∷ 68 ∷ 69 ∷ 79 ∷ 80 ∷ 81 ∷ 82 ∷ 99 ∷ 101 ∷ 103 ∷ 104 ∷ 105 ∷ []; empty = false; rank = 15 } ∷
    record { first = 55 ∷ []; empty = false; rank = 0 } ∷
    record { first = 7 ∷ []; empty = false; rank = 0 } ∷
    record { first = 23 ∷ []; empty = false; rank = 0 } ∷
    record { first = 13 ∷ []; empty = false; rank = 0 } ∷
    record { first = 1 ∷ 63 ∷ []; empty = false; rank = 1 } ∷
    record { first = 106 ∷ []; empty = false; rank = 0 } ∷
    record { first = 1 ∷ 44 ∷ 102 ∷ []; empty = false; rank = 2 } ∷
    record { first = 67 ∷ []; empty = false; rank = 0 } ∷
    record { first = 1 ∷ []; empty = false; rank = 0 } ∷
    record { first = 55 ∷ []; empty = false; rank = 0 } ∷
    record { first = 1 ∷ 2 ∷ 7 ∷ 10 ∷ 13 ∷ 15 ∷ 23 ∷ 24 ∷ 27 ∷ 28 ∷ 29 ∷ 31 ∷ 32 ∷ 35 ∷ 39 ∷ 41 ∷ 42 ∷ 44 ∷ 55 ∷ 59 ∷ 63 ∷ 67 ∷ 102 ∷ 106 ∷ []; empty = false; rank = 3 } ∷
    record { first = 1 ∷ 7 ∷ 13 ∷ 23 ∷ 41 ∷ 44 ∷ 55 ∷ 67 ∷ 102 ∷ 106 ∷ []; empty = false; rank = 2 } ∷
    record { first = 1 ∷ 41 ∷ 44 ∷ 102 ∷ []; empty = false; rank = 2 } ∷
    record { first = 1 ∷ 53 ∷ []; empty = false; rank = 1 } ∷
    record { first = 1 ∷ 53 ∷ []; empty = false; rank = 1 } ∷
    record { first = 53 ∷ 57 ∷ 59 ∷ 60 ∷ 65 ∷ []; empty = false; rank = 2 } ∷
    record { first = 53 ∷ []; empty = false; rank = 0 } ∷
    record { first = 57 ∷ 59 ∷ 60 ∷ 65 ∷ []; empty = false; rank = 1 } ∷
    record { first = 57 ∷ []; empty = false; rank = 0 } ∷
    record { first = 1 ∷ []; empty = false; rank = 0 } ∷
    record { first = 1 ∷ 25 ∷ 33 ∷ 36 ∷ 41 ∷ 45 ∷ 46 ∷ 47 ∷ 48 ∷ 49 ∷ 50 ∷ 51 ∷ 52 ∷ 53 ∷ 55 ∷ 68 ∷ 69 ∷ 79 ∷ 80 ∷ 81 ∷ 82 ∷ 99 ∷ 101 ∷ 103 ∷ 104 ∷ 105 ∷ []; empty = false; rank = 16 } ∷
    record { first = 55 ∷ []; empty = false; rank = 0 } ∷
    record { first = 1 ∷ 2 ∷ 15 ∷ 32 ∷ 44 ∷ 63 ∷ 102 ∷ []; empty = false; rank = 2 } ∷
    record { first = 2 ∷ 15 ∷ 32 ∷ 63 ∷ []; empty = false; rank = 1 } ∷
    record { first = 1 ∷ 44 ∷ 102 ∷ []; empty = false; rank = 1 } ∷
    record { first = 1 ∷ 102 ∷ []; empty = false; rank = 0 } ∷
    record { first = 67 ∷ []; empty = false; rank = 0 } ∷
    record { first = 1 ∷ 44 ∷ 70 ∷ 102 ∷ []; empty = false; rank = 2 } ∷
    record { first = 14 ∷ 33 ∷ []; empty = false; rank = 0 } ∷
    record { first = 55 ∷ []; empty = false; rank = 0 } ∷
    record { first = 1 ∷ 2 ∷ 3 ∷ 4 ∷ 7 ∷ 9 ∷ 11 ∷ 15 ∷ 17 ∷ 19 ∷ 25 ∷ 30 ∷ 32 ∷ 33 ∷ 34 ∷ 35 ∷ 36 ∷ 37 ∷ 40 ∷ 41 ∷ 43 ∷ 44 ∷ 45 ∷ 46 ∷ 47 ∷ 48 ∷ 49 ∷ 50 ∷ 51 ∷ 52 ∷ 53 ∷ 55 ∷ 59 ∷ 63 ∷ 68 ∷ 69 ∷ 79 ∷ 80 ∷ 81 ∷ 82 ∷ 99 ∷ 100 ∷ 101 ∷ 102 ∷ 103 ∷ 104 ∷ 105 ∷ []; empty = false; rank = 17 } ∷
    record { first = 7 ∷ 44 ∷ 102 ∷ []; empty = false; rank = 2 } ∷
    record { first = 44 ∷ 102 ∷ []; empty = false; rank = 1 } ∷
    record { first = 44 ∷ 102 ∷ []; empty = false; rank = 0 } ∷
    record { first = 1 ∷ 3 ∷ 4 ∷ 9 ∷ 11 ∷ 17 ∷ 19 ∷ 25 ∷ 30 ∷ 33 ∷ 34 ∷ 35 ∷ 36 ∷ 37 ∷ 40 ∷ 41 ∷ 43 ∷ 45 ∷ 46 ∷ 47 ∷ 48 ∷ 49 ∷ 50 ∷ 51 ∷ 52 ∷ 53 ∷ 55 ∷ 59 ∷ 68 ∷ 69 ∷ 79 ∷ 80 ∷ 81 ∷ 82 ∷ 99 ∷ 100 ∷ 101 ∷ 103 ∷ 104 ∷ 105 ∷ []; empty = false; rank = 16 } ∷
    record { first = 53 ∷ []; empty = false; rank = 0 } ∷
    record { first = 5 ∷ 10 ∷ []; empty = false; rank = 1 } ∷
    record { first = 5 ∷ 10 ∷ []; empty = false; rank = 0 } ∷
    record { first = 1 ∷ 2 ∷ 15 ∷ 25 ∷ 32 ∷ 33 ∷ 36 ∷ 41 ∷ 44 ∷ 45 ∷ 46 ∷ 47 ∷ 48 ∷ 49 ∷ 50 ∷ 51 ∷ 52 ∷ 53 ∷ 59 ∷ 63 ∷ 68 ∷ 69 ∷ 79 ∷ 80 ∷ 81 ∷ 82 ∷ 99 ∷ 101 ∷ 102 ∷ 103 ∷ 104 ∷ 105 ∷ []; empty = false; rank = 17 } ∷
    record { first = 44 ∷ 102 ∷ []; empty = false; rank = 1 } ∷
    record { first = 57 ∷ 59 ∷ 60 ∷ 65 ∷ 71 ∷ []; empty = false; rank = 1 } ∷
    record { first = 1 ∷ 25 ∷ 33 ∷ 36 ∷ 41 ∷ 45 ∷ 46 ∷ 47 ∷ 48 ∷ 49 ∷ 50 ∷ 51 ∷ 52 ∷ 53 ∷ 68 ∷ 69 ∷ 79 ∷ 80 ∷ 81 ∷ 82 ∷ 99 ∷ 101 ∷ 103 ∷ 104 ∷ 105 ∷ []; empty = false; rank = 16 } ∷
    record { first = 2 ∷ 15 ∷ 32 ∷ 44 ∷ 63 ∷ 102 ∷ []; empty = false; rank = 2 } ∷
    record { first = 6 ∷ []; empty = false; rank = 0 } ∷
    record { first = 1 ∷ 25 ∷ 33 ∷ 36 ∷ 41 ∷ 45 ∷ 46 ∷ 47 ∷ 48 ∷ 49 ∷ 50 ∷ 51 ∷ 52 ∷ 53 ∷ 68 ∷ 69 ∷ 79 ∷ 80 ∷ 81 ∷ 82 ∷ 99 ∷ 101 ∷ 103 ∷ 104 ∷ 105 ∷ []; empty = false; rank = 15 } ∷
    record { first = 65 ∷ 90 ∷ 91 ∷ 92 ∷ 93 ∷ 94 ∷ 95 ∷ 96 ∷ 97 ∷ 98 ∷ 108 ∷ []; empty = false; rank = 0 } ∷
    record { first = 1 ∷ 25 ∷ 33 ∷ 36 ∷ 41 ∷ 45 ∷ 46 ∷ 47 ∷ 48 ∷ 49 ∷ 50 ∷ 51 ∷ 52 ∷ 53 ∷ 68 ∷ 69 ∷ 79 ∷ 80 ∷ 81 ∷ 82 ∷ 99 ∷ 101 ∷ 103 ∷ 104 ∷ 105 ∷ []; empty = false; rank = 14 } ∷
    record { first = 1 ∷ 25 ∷ 33 ∷ 36 ∷ 41 ∷ 45 ∷ 46 ∷ 47 ∷ 48 ∷ 49 ∷ 50 ∷ 51 ∷ 52 ∷ 53 ∷ 68 ∷ 69 ∷ 79 ∷ 80 ∷ 81 ∷ 82 ∷ 99 ∷ 101 ∷ 103 ∷ 104 ∷ 105 ∷ []; empty = false; rank = 13 } ∷
    record { first = 1 ∷ 25 ∷ 33 ∷ 36 ∷ 41 ∷ 45 ∷ 46 ∷ 47 ∷ 48 ∷ 49 ∷ 50 ∷ 51 ∷ 52 ∷ 53 ∷ 68 ∷ 69 ∷ 79 ∷ 80 ∷ 81 ∷ 82 ∷ 99 ∷ 101 ∷ 103 ∷ 104 ∷ 105 ∷ []; empty = false; rank = 12 } ∷
    record { first = 1 ∷ 25 ∷ 33 ∷ 36 ∷ 41 ∷ 45 ∷ 46 ∷ 47 ∷ 48 ∷ 49 ∷ 50 ∷ 51 ∷ 52 ∷ 53 ∷ 68 ∷ 69 ∷ 79 ∷ 80 ∷ 81 ∷ 82 ∷ 99 ∷ 101 ∷ 103 ∷ 104 ∷ 105 ∷ []; empty = false; rank = 11 } ∷
    record { first = 1 ∷ 25 ∷ 33 ∷ 36 ∷ 41 ∷ 45 ∷ 46 ∷ 47 ∷ 48 ∷ 49 ∷ 50 ∷ 51 ∷ 52 ∷ 53 ∷ 68 ∷ 69 ∷ 79 ∷ 80 ∷ 81 ∷ 82 ∷ 99 ∷ 101 ∷ 103 ∷ 104 ∷ 105 ∷ []; empty = false; rank = 10 } ∷
    record { first = 1 ∷ 25 ∷ 33 ∷ 36 ∷ 41 ∷ 45 ∷ 46 ∷ 47 ∷ 48 ∷ 49 ∷ 50 ∷ 51 ∷ 52 ∷ 53 ∷ 68 ∷ 69 ∷ 79 ∷ 80 ∷ 81 ∷ 82 ∷ 99 ∷ 101 ∷ 103 ∷ 104 ∷ 105 ∷ []; empty = false; rank = 9 } ∷
    record { first = 1 ∷ 25 ∷ 33 ∷ 36 ∷ 41 ∷ 45 ∷ 46 ∷ 47 ∷ 48 ∷ 49 ∷ 50 ∷ 51 ∷ 52 ∷ 53 ∷ 68 ∷ 69 ∷ 79 ∷ 80 ∷ 81 ∷ 82 ∷ 99 ∷ 101 ∷ 103 ∷ 104 ∷ 105 ∷ []; empty = false; rank = 8 } ∷
    record { first = 1 ∷ 25 ∷ 33 ∷ 36 ∷ 41 ∷ 45 ∷ 46 ∷ 47 ∷ 48 ∷ 49 ∷ 50 ∷ 51 ∷ 52 ∷ 53 ∷ 68 ∷ 69 ∷ 79 ∷ 80 ∷ 81 ∷ 82 ∷ 99 ∷ 101 ∷ 103 ∷ 104 ∷ 105 ∷ []; empty = false; rank = 7 } ∷
    record { first = 22 ∷ 66 ∷ 67 ∷ 74 ∷ 75 ∷ []; empty = false; rank = 0 } ∷
    record { first = 1 ∷ 25 ∷ 33 ∷ 36 ∷ 41 ∷ 45 ∷ 46 ∷ 47 ∷ 48 ∷ 49 ∷ 50 ∷ 51 ∷ 52 ∷ 53 ∷ 68 ∷ 69 ∷ 79 ∷ 80 ∷ 81 ∷ 82 ∷ 99 ∷ 101 ∷ 103 ∷ 104 ∷ 105 ∷ []; empty = false; rank = 6 } ∷
    record { first = 89 ∷ 107 ∷ []; empty = false; rank = 0 } ∷
    record { first = 1 ∷ 25 ∷ 33 ∷ 36 ∷ 41 ∷ 45 ∷ 46 ∷ 47 ∷ 48 ∷ 49 ∷ 50 ∷ 51 ∷ 52 ∷ 53 ∷ 68 ∷ 69 ∷ 79 ∷ 80 ∷ 81 ∷ 82 ∷ 99 ∷ 101 ∷ 103 ∷ 104 ∷ 105 ∷ []; empty = false; rank = 5 } ∷
    record { first = 1 ∷ 25 ∷ 33 ∷ 36 ∷ 41 ∷ 45 ∷ 46 ∷ 47 ∷ 48 ∷ 49 ∷ 50 ∷ 51 ∷ 52 ∷ 53 ∷ 68 ∷ 69 ∷ 79 ∷ 80 ∷ 81 ∷ 82 ∷ 99 ∷ 101 ∷ 103 ∷ 104 ∷ 105 ∷ []; empty = false; rank = 4 } ∷
    record { first = 1 ∷ 25 ∷ 33 ∷ 36 ∷ 41 ∷ 45 ∷ 46 ∷ 47 ∷ 48 ∷ 49 ∷ 50 ∷ 51 ∷ 52 ∷ 53 ∷ 68 ∷ 69 ∷ 79 ∷ 80 ∷ 81 ∷ 82 ∷ 99 ∷ 101 ∷ 103 ∷ 104 ∷ 105 ∷ []; empty = false; rank = 3 } ∷
    record { first = 99 ∷ 104 ∷ []; empty = false; rank = 0 } ∷
    record { first = 1 ∷ 2 ∷ 15 ∷ 32 ∷ 44 ∷ 63 ∷ 102 ∷ []; empty = false; rank = 2 } ∷
    record { first = 1 ∷ 25 ∷ 33 ∷ 36 ∷ 41 ∷ 45 ∷ 46 ∷ 47 ∷ 48 ∷ 49 ∷ 50 ∷ 51 ∷ 52 ∷ 53 ∷ 55 ∷ 68 ∷ 69 ∷ 79 ∷ 80 ∷ 81 ∷ 82 ∷ 99 ∷ 101 ∷ 103 ∷ 104 ∷ 105 ∷ []; empty = false; rank = 16 } ∷
    record { first = 1 ∷ 25 ∷ 33 ∷ 36 ∷ 41 ∷ 45 ∷ 46 ∷ 47 ∷ 48 ∷ 49 ∷ 50 ∷ 51 ∷ 52 ∷ 53 ∷ 101 ∷ 103 ∷ []; empty = false; rank = 2 } ∷
    record { first = 1 ∷ 25 ∷ 33 ∷ 36 ∷ 41 ∷ 45 ∷ 46 ∷ 47 ∷ 48 ∷ 49 ∷ 50 ∷ 51 ∷ 52 ∷ 53 ∷ 101 ∷ 103 ∷ []; empty = false; rank = 1 } ∷
    record { first = 101 ∷ 103 ∷ []; empty = false; rank = 0 } ∷
    record { first = 57 ∷ 61 ∷ 64 ∷ []; empty = false; rank = 0 } ∷
    record { first = 1 ∷ 7 ∷ 33 ∷ 36 ∷ 67 ∷ []; empty = false; rank = 1 } ∷
    record { first = 1 ∷ 44 ∷ []; empty = false; rank = 1 } ∷
    record { first = 1 ∷ 44 ∷ []; empty = false; rank = 0 } ∷
    record { first = 53 ∷ 57 ∷ []; empty = false; rank = 1 } ∷
    record { first = 57 ∷ []; empty = false; rank = 0 } ∷
    record { first = 53 ∷ []; empty = false; rank = 0 } ∷
    record { first = 1 ∷ 2 ∷ 7 ∷ 10 ∷ 13 ∷ 15 ∷ 23 ∷ 24 ∷ 27 ∷ 28 ∷ 29 ∷ 31 ∷ 32 ∷ 35 ∷ 39 ∷ 41 ∷ 42 ∷ 44 ∷ 55 ∷ 59 ∷ 63 ∷ 67 ∷ 102 ∷ 106 ∷ []; empty = false; rank = 4 } ∷
    record { first = 1 ∷ 25 ∷ 33 ∷ 36 ∷ 41 ∷ 45 ∷ 46 ∷ 47 ∷ 48 ∷ 49 ∷ 50 ∷ 51 ∷ 52 ∷ 53 ∷ 68 ∷ 69 ∷ 79 ∷ 80 ∷ 81 ∷ 82 ∷ 99 ∷ 101 ∷ 103 ∷ 104 ∷ 105 ∷ []; empty = false; rank = 16 } ∷
    []
