-- Reading the line of the digest.
use Rattle.std.proofs.Common.{◌≡◌, ℕ, ◌<◌, ◌≤◌, List, [], ◌∷◌, ◌++◌, length, drop, codes, refl, sym, ap, ◌∙◌, subst, arith, length-drop}
use Rattle.std.proofs.lemmas.List.{append-nil, append_cancel_left, drop_all}
use Rattle.hex.specs.Hex.{encode_lower}
use Rattle.sha2.specs.Sha256.{sha256}
use Rattle.journal_text.specs.Forms.{Then, Took, StuckAt}
use Rattle.journal_text.specs.Parts.{IsWord, LastLine, LineStops}
use Rattle.journal_text.proofs.Split.{not_empty}
use Rattle.journal_text.specs.Text.{digest_line}
use Rattle.journal_text.proofs.Stuck.{then_took, first_stuck, second_stuck, word_unique}
use Rattle.journal_text.proofs.Whole.{line_is, line_stops}

module _ (body digits bytes : List ℕ) (at : ℕ) (e : digits ≡ encode_lower (sha256 body)) where
  unread : (stop : ℕ) → StuckAt (LastLine digits) bytes at stop → LineStops body bytes at stop
  unread stop s = line_stops body bytes at stop (subst (λ d. StuckAt (LastLine d) bytes at stop) e s)

  pub stuck_at_word : (stop : ℕ) → StuckAt (IsWord (codes "sha256 ")) bytes at stop → LineStops body bytes at stop
  stuck_at_word stop s = unread stop (first_stuck (IsWord (codes "sha256 ")) (λ _. Then (IsWord digits) (λ _. IsWord (10 ∷ []))) bytes at stop (λ x text w. ((tt, tt), (digits ++ 10 ∷ [], record { first = digits; second = 10 ∷ []; spells = record { is = refl }; then = record { is = refl }; joined = refl }))) s)

  on_word : (a stop : ℕ) → Took (IsWord (codes "sha256 ")) bytes at a tt → StuckAt (Then (IsWord digits) (λ _. IsWord (10 ∷ []))) bytes a stop → LineStops body bytes at stop
  on_word a stop t s = unread stop (second_stuck (IsWord (codes "sha256 ")) (λ _. Then (IsWord digits) (λ _. IsWord (10 ∷ []))) bytes at a stop tt (word_unique (codes "sha256 ")) t s)

  pub stuck_at_digits : (a stop : ℕ) → Took (IsWord (codes "sha256 ")) bytes at a tt → StuckAt (IsWord digits) bytes a stop → LineStops body bytes at stop
  stuck_at_digits a stop t s = on_word a stop t (first_stuck (IsWord digits) (λ _. IsWord (10 ∷ [])) bytes a stop (λ x text w. (tt, (10 ∷ [], record { is = refl }))) s)

  pub stuck_at_end : (a b stop : ℕ) → Took (IsWord (codes "sha256 ")) bytes at a tt → Took (IsWord digits) bytes a b tt → StuckAt (IsWord (10 ∷ [])) bytes b stop → LineStops body bytes at stop
  stuck_at_end a b stop t u s = on_word a stop t (second_stuck (IsWord digits) (λ _. IsWord (10 ∷ [])) bytes a b stop tt (word_unique digits) u s)

  pub line_took : (a b d : ℕ) → Took (IsWord (codes "sha256 ")) bytes at a tt → Took (IsWord digits) bytes a b tt → Took (IsWord (10 ∷ [])) bytes b d tt → drop at bytes ≡ digest_line body ++ drop d bytes
  line_took a b d t u w =
      let whole = then_took (IsWord (codes "sha256 ")) (λ _. Then (IsWord digits) (λ _. IsWord (10 ∷ []))) bytes at a d tt (tt, tt) t
      (then_took (IsWord digits) (λ _. IsWord (10 ∷ [])) bytes a b d tt tt u w) in
      whole.taken ∙ ap (λ l. l ++ drop d bytes) (line_is body (tt, (tt, tt)) whole.text (subst (λ x. LastLine x (tt, (tt, tt)) whole.text) e whole.spells))

  pub line_right : (a b d : ℕ) → Took (IsWord (codes "sha256 ")) bytes at a tt → Took (IsWord digits) bytes a b tt → Took (IsWord (10 ∷ [])) bytes b d tt → length bytes ≤ d → drop at bytes ≡ digest_line body
  line_right a b d t u w le = line_took a b d t u w ∙ (ap (λ l. digest_line body ++ l) (drop_all d bytes le) ∙ append-nil (digest_line body))

  pub line_over : (a b d : ℕ) → Took (IsWord (codes "sha256 ")) bytes at a tt → Took (IsWord digits) bytes a b tt → Took (IsWord (10 ∷ [])) bytes b d tt → d < length bytes → LineStops body bytes at d
  line_over a b d t u w lt =
      let seen = line_took a b d t u w in
      record {
        place = w.place;
        front = digest_line body;
        seen = seen;
        rest = [];
        begins = sym (append-nil (digest_line body));
        ends = λ x behind more there same. not_empty x more (append_cancel_left (digest_line body) [] (x ∷ more) (append-nil (digest_line body) ∙ same));
        differs = λ same.
            let none : drop d bytes ≡ [] = append_cancel_left (digest_line body) (drop d bytes) [] (sym seen ∙ (same ∙ sym (append-nil (digest_line body)))) in
            omega (arith, ap length none, length-drop d bytes);
      }
