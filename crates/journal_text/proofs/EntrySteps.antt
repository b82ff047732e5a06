-- Reading an entry part by part.
use Rattle.std.proofs.Common.{replicate, ◌++◌, ℕ, List, [], ◌∷◌, codes, Some, None, refl}
use Rattle.journal_text.specs.Forms.{Form, Then, Took, StuckAt}
use Rattle.std.proofs.lemmas.List.{length-replicate}
use Rattle.journal_text.specs.Numerals.{numeral}
use Rattle.journal_text.specs.Stops.{IsBefore}
use Rattle.journal_text.proofs.PathFronts.{may_extend}
use Rattle.journal_text.specs.Parts.{IsWord, IsNumeral, Ended, Counted, IsPathBehind, Put, Del, IsEntry, TookPath}
use Rattle.journal_text.proofs.Stuck.{then_took, first_stuck, second_stuck, word_unique, number_unique, counted_unique}
use Rattle.journal_text.proofs.Lines.{path_unique, path_took}
use Rattle.journal_text.proofs.EntryTexts.{put_text, del_text}

module _ (before bytes : List ℕ) (at : ℕ) (fine : IsBefore before) where
  abbrev Contents : ℕ → List ℕ → Form (List ℕ × Unit {0})
  Contents n path = Then (Counted n) (λ contents. IsWord (10 ∷ []))

  abbrev Named : ℕ → Form (List ℕ × (List ℕ × Unit {0}))
  Named n = Then (Ended (IsPathBehind before) 10) (Contents n)

  abbrev Sized : Unit {0} → Form (ℕ × (List ℕ × (List ℕ × Unit {0})))
  Sized _ = Then (Ended IsNumeral 32) Named

  abbrev later : List ℕ
  later = before ++ 97 ∷ []

  -- behind each part some text of what follows can stand
  contents_go_on : (n : ℕ) (path : List ℕ) → (y : List ℕ × Unit {0}) × ((then : List ℕ) × Contents n path y then)
  contents_go_on n path = (
    (replicate n 0, tt),
    (
      replicate n 0 ++ 10 ∷ [],
      record {
        first = replicate n 0;
        second = 10 ∷ [];
        spells = record { is = refl; len = length-replicate n 0 };
        then = record { is = refl };
        joined = refl;
      },
    ),
  )

  named_goes_on : (n : ℕ) → (y : List ℕ × (List ℕ × Unit {0})) × ((then : List ℕ) × Named n y then)
  named_goes_on n =
      let rest = contents_go_on n later in (
        (later, rest.0),
        (
          (later ++ 10 ∷ []) ++ rest.1.0,
          record {
            first = later ++ 10 ∷ [];
            second = rest.1.0;
            spells = record { body = later; spells = record { is = refl; may = may_extend before fine }; ended = refl };
            then = rest.1.1;
            joined = refl;
          },
        ),
      )

  sized_goes_on : (y : ℕ × (List ℕ × (List ℕ × Unit {0}))) × ((then : List ℕ) × Sized tt y then)
  sized_goes_on =
      let rest = named_goes_on 0 in (
        (0, rest.0),
        (
          (numeral 0 ++ 32 ∷ []) ++ rest.1.0,
          record {
            first = numeral 0 ++ 32 ∷ [];
            second = rest.1.0;
            spells = record { body = numeral 0; spells = record { is = refl }; ended = refl };
            then = rest.1.1;
            joined = refl;
          },
        ),
      )

  pub put_stuck_word : (stop : ℕ) → StuckAt (IsWord (codes "put ")) bytes at stop → StuckAt (Put before) bytes at stop
  put_stuck_word stop s = first_stuck (IsWord (codes "put ")) Sized bytes at stop (λ x text w. sized_goes_on) s

  on_word : (a stop : ℕ) → Took (IsWord (codes "put ")) bytes at a tt → StuckAt (Sized tt) bytes a stop → StuckAt (Put before) bytes at stop
  on_word a stop t s = second_stuck (IsWord (codes "put ")) Sized bytes at a stop tt (word_unique (codes "put ")) t s

  on_size : (a b n stop : ℕ) → Took (Ended IsNumeral 32) bytes a b n → StuckAt (Named n) bytes b stop → StuckAt (Sized tt) bytes a stop
  on_size a b n stop t s = second_stuck (Ended IsNumeral 32) Named bytes a b stop n (number_unique 32 refl) t s

  on_path : (b d n : ℕ) (path : List ℕ) (stop : ℕ) → TookPath before bytes b d path → StuckAt (Contents n path) bytes d stop → StuckAt (Named n) bytes b stop
  on_path b d n path stop t s = second_stuck (Ended (IsPathBehind before) 10) (Contents n) bytes b d stop path (path_unique before) (path_took before bytes b d path t) s

  pub put_stuck_size : (a stop : ℕ) → Took (IsWord (codes "put ")) bytes at a tt → StuckAt (Ended IsNumeral 32) bytes a stop → StuckAt (Put before) bytes at stop
  put_stuck_size a stop t s = on_word a stop t (first_stuck (Ended IsNumeral 32) Named bytes a stop (λ n text w. named_goes_on n) s)

  pub put_stuck_path : (a b n stop : ℕ) → Took (IsWord (codes "put ")) bytes at a tt → Took (Ended IsNumeral 32) bytes a b n → StuckAt (Ended (IsPathBehind before) 10) bytes b stop → StuckAt (Put before) bytes at stop
  put_stuck_path a b n stop t u s = on_word a stop t (on_size a b n stop u (first_stuck (Ended (IsPathBehind before) 10) (Contents n) bytes b stop (λ path text w. contents_go_on n path) s))

  pub put_stuck_contents : (a b d n : ℕ) (path : List ℕ) (stop : ℕ) → Took (IsWord (codes "put ")) bytes at a tt → Took (Ended IsNumeral 32) bytes a b n → TookPath before bytes b d path
      → StuckAt (Counted n) bytes d stop → StuckAt (Put before) bytes at stop
  put_stuck_contents a b d n path stop t u v s = on_word a stop t (on_size a b n stop u (on_path b d n path stop v (first_stuck (Counted n) (λ contents. IsWord (10 ∷ [])) bytes d stop (λ contents text w. (tt, (10 ∷ [], record { is = refl }))) s)))

  pub put_stuck_end : (a b d e n : ℕ) (path contents : List ℕ) (stop : ℕ) → Took (IsWord (codes "put ")) bytes at a tt → Took (Ended IsNumeral 32) bytes a b n → TookPath before bytes b d path
      → Took (Counted n) bytes d e contents → StuckAt (IsWord (10 ∷ [])) bytes e stop → StuckAt (Put before) bytes at stop
  put_stuck_end a b d e n path contents stop t u v w s = on_word a stop t (on_size a b n stop u (on_path b d n path stop v
      (second_stuck (Counted n) (λ contents. IsWord (10 ∷ [])) bytes d e stop contents (counted_unique n) w s)))

  pub put_took : (a b d e n : ℕ) (path contents : List ℕ) (end : ℕ) → Took (IsWord (codes "put ")) bytes at a tt → Took (Ended IsNumeral 32) bytes a b n → TookPath before bytes b d path
      → Took (Counted n) bytes d e contents → Took (IsWord (10 ∷ [])) bytes e end tt → Took (IsEntry before) bytes at end (path, Some contents)
  put_took a b d e n path contents end t u v w x =
      let whole = then_took (IsWord (codes "put ")) Sized bytes at a end tt _ t (then_took (Ended IsNumeral 32) Named bytes a b end n _ u
      (then_took (Ended (IsPathBehind before) 10) (Contents n) bytes b d end path _ (path_took before bytes b d path v)
      (then_took (Counted n) (λ contents. IsWord (10 ∷ [])) bytes d e end contents tt w x))) in
      record { place = whole.place; text = whole.text; spells = put_text before n path contents whole.text whole.spells; taken = whole.taken }

  pub del_stuck_word : (stop : ℕ) → StuckAt (IsWord (codes "del ")) bytes at stop → StuckAt (Del before) bytes at stop
  del_stuck_word stop s = first_stuck (IsWord (codes "del ")) (λ _. Ended (IsPathBehind before) 10) bytes at stop
      (λ x text w. (later, (later ++ 10 ∷ [], record { body = later; spells = record { is = refl; may = may_extend before fine }; ended = refl }))) s

  pub del_stuck_path : (a stop : ℕ) → Took (IsWord (codes "del ")) bytes at a tt → StuckAt (Ended (IsPathBehind before) 10) bytes a stop → StuckAt (Del before) bytes at stop
  del_stuck_path a stop t s = second_stuck (IsWord (codes "del ")) (λ _. Ended (IsPathBehind before) 10) bytes at a stop tt (word_unique (codes "del ")) t s

  pub del_took : (a : ℕ) (path : List ℕ) (end : ℕ) → Took (IsWord (codes "del ")) bytes at a tt → TookPath before bytes a end path → Took (IsEntry before) bytes at end (path, None)
  del_took a path end t u =
      let whole = then_took (IsWord (codes "del ")) (λ _. Ended (IsPathBehind before) 10) bytes at a end tt path t (path_took before bytes a end path u) in
      record { place = whole.place; text = whole.text; spells = del_text before path whole.text whole.spells; taken = whole.taken }
