-- A logical line's pieces are those of its natural lines.
use Rattle.std.proofs.Common.{◌≡◌, ℕ, zero, suc, ◌+◌, ◌≤◌, Bool, true, false, List, [], ◌∷◌, ◌++◌, length, take, drop, refl, sym, ◌∙◌, ap, arith, inl, inr, append_assoc, length-append}
use Rattle.std.specs.Prelude.{◌==◌, ◌||◌, if◌then◌else◌, ◌%◌}
use Rattle.std.proofs.Math.Seq.{take-add, drop-append-add}
use Rattle.std.proofs.lemmas.Bool.{cases_Bool, eqb-true, eqb-false, eq-eqb, ne_eqb, or_cases}
use Rattle.std.proofs.lemmas.List.{take-append-drop, drop-drop, length-take-le}
use Rattle.properties_tree.specs.Characters.{is_line_end, is_blank, backslash}
use Rattle.rw_base.specs.NaturalLines.{Line}
use Rattle.properties_tree.specs.Lines.{leading_blanks, behind_blanks, is_continued, is_odd, backslashes_behind}
use Rattle.properties_tree.specs.Entries.{LogicalLine, Piece, char, joint, bytes_of, chars, without_last, JoinedLine, join_lines, group_lines, logical_lines}
use Rattle.properties_tree.specs.Sizes.{text_length, ending_length}
use Rattle.properties_tree.specs.Cutting.{joins, joint_size, pieces_in, line_size}
use Rattle.properties_tree.proofs.Lengths.{behind_blanks_is, leading_is}
use Rattle.properties_tree.proofs.FirstLine.{line_text, behind_text, ending_text, lines_behind, line_of, first_line, at_end as nothing_behind}
use Rattle.properties_tree.proofs.Plain.{bytes_of-chars, grouped-none, joined-plain}
use Rattle.properties_tree.proofs.Whole.{bytes_of-append, ends_in_backslash, is_continued-behind_blanks, one_less, blanks_first}
use Rattle.properties_tree.proofs.Cut.{at_none, at_end, at_char, at_pair, at_joint}

-- ---- one natural line

odd_after : (n : ℕ) → is_odd n ≡ false → is_odd (n + 1) ≡ true
odd_after n e = let other = eqb-false (n % 2) 1 e in eq-eqb ((n + 1) % 2) 1 (omega arith)

even_after : (n : ℕ) → is_odd n ≡ true → is_odd (n + 1) ≡ false
even_after n e = let one = eqb-true (n % 2) 1 e in ne_eqb ((n + 1) % 2) 1 (omega arith)

-- the pieces of a line's text, and what its last backslash and the text behind it are
abbrev said : Bool → List ℕ → List ℕ → List Piece
said odd text back = if odd then chars (without_last text) ++ pieces_in (92 ∷ back) else chars text

said-longer : (odd : Bool) (b c : ℕ) (text back : List ℕ) → said odd (b ∷ c ∷ text) back ≡ char b ∷ said odd (c ∷ text) back
said-longer true b c text back = ap (λ k. chars (take k (b ∷ c ∷ text)) ++ pieces_in (92 ∷ back)) (one_less (length text))
said-longer false b c text back = refl

said-cons : (count b : ℕ) (text back : List ℕ) → is_odd count ≡ false → said (is_odd (backslashes_behind count text)) (b ∷ text) back ≡ char b ∷ said (is_odd (backslashes_behind count text)) text back
said-cons count b [] back even = rw even refl
said-cons count b (c ∷ text) back even = said-longer (is_odd (backslashes_behind count (c ∷ text))) b c text back

record IsSaid (s : List ℕ) (count : ℕ) : Type 0 where
  plain : is_odd count ≡ false → pieces_in s ≡ said (is_odd (backslashes_behind count (line_text s))) (line_text s) (behind_text s)
  escaped : is_odd count ≡ true → pieces_in (92 ∷ s) ≡ said (is_odd (backslashes_behind count (line_text s))) (92 ∷ line_text s) (behind_text s)

more_said : (b : ℕ) (rest : List ℕ) (count : ℕ) → is_line_end b ≡ false → ((n : ℕ) → IsSaid rest n) → IsSaid (b ∷ rest) count
more_said b rest count inside more =
    let t = line_text rest in
    let back = behind_text rest in
    elim (cases_Bool (b == 92)) [
      | inl slash ↦
          let here = eqb-true b 92 slash in
          record {
            plain = λ even. rw (inside, slash) (ap (λ k. pieces_in (k ∷ rest)) here ∙ ((more (count + 1)).escaped (odd_after count even) ∙ ap (λ k. said (is_odd (backslashes_behind (count + 1) t)) (k ∷ t) back) (sym here)));
            escaped = λ odd. rw (inside, slash)
                (at_pair 92 b rest refl inside
                ∙ (ap (λ ps. char 92 ∷ char b ∷ ps) ((more (count + 1)).plain (even_after count odd))
                ∙ (ap (λ ps. char 92 ∷ ps) (sym (said-cons (count + 1) b t back (even_after count odd))) ∙ sym (said-longer (is_odd (backslashes_behind (count + 1) t)) 92 b t back))));
          }
      | inr other ↦ record {
        plain = λ even. rw (inside, other) (at_char b rest inside other ∙ (ap (λ ps. char b ∷ ps) ((more 0).plain refl) ∙ sym (said-cons 0 b t back refl)));
        escaped = λ odd. rw (inside, other)
            (at_pair 92 b rest refl inside
            ∙ (ap (λ ps. char 92 ∷ char b ∷ ps) ((more 0).plain refl)
            ∙ (ap (λ ps. char 92 ∷ ps) (sym (said-cons 0 b t back refl)) ∙ sym (said-longer (is_odd (backslashes_behind 0 t)) 92 b t back))));
      }
    ]

is_said : (s : List ℕ) (count : ℕ) → IsSaid s count
is_said [] count = record { plain = λ even. rw even at_none; escaped = λ odd. rw odd refl }
is_said (b ∷ rest) count =
    elim (cases_Bool (is_line_end b)) [
      | inl e ↦ record { plain = λ even. rw (e, even) (at_end b rest e); escaped = λ odd. rw (e, odd) refl }
      | inr e ↦ more_said b rest count e (is_said rest)
    ]

pub line_said : (s : List ℕ) → pieces_in s ≡ said (is_continued (line_text s)) (line_text s) (behind_text s)
line_said s = (is_said s 0).plain refl

-- ---- blanks before a line

blank_inside : (b : ℕ) → is_blank b ≡ true → is_line_end b ≡ false
blank_inside b e =
    elim (or_cases (b == 32 || b == 9) (b == 12) e) [
      | inl two ↦ elim (or_cases (b == 32) (b == 9) two) [ inl space ↦ rw (eqb-true b 32 space) refl | inr tab ↦ rw (eqb-true b 9 tab) refl ]
      | inr feed ↦ rw (eqb-true b 12 feed) refl
    ]

-- a line behind its blanks
pub record IsBlanked (s : List ℕ) : Type 0 where
  pub text : behind_blanks (line_text s) ≡ line_text (behind_blanks s)
  pub rest : behind_text (behind_blanks s) ≡ behind_text s
  pub blanks : leading_blanks (line_text s) ≡ leading_blanks s

pub blanked : (s : List ℕ) → IsBlanked s
blanked [] = record { text = refl; rest = refl; blanks = refl }
blanked (b ∷ rest) =
    let more = blanked rest in
    elim (cases_Bool (is_blank b)) [
      | inl e ↦ let inside = blank_inside b e in record {
        text = rw (inside, e) more.text;
        rest = rw (inside, e) more.rest;
        blanks = rw (inside, e) (ap (λ t. b ∷ t) more.blanks);
      }
      | inr e ↦ elim (cases_Bool (is_line_end b)) [
        | inl end ↦ record { text = rw (end, e) (rw end refl); rest = rw e refl; blanks = rw (end, e) refl }
        | inr inside ↦ record { text = rw (inside, e) (rw inside refl); rest = rw e refl; blanks = rw (inside, e) refl }
      ]
    ]

-- ---- natural lines joined

-- what stands behind a line's text is a line end, or nothing
pub joins_behind : (s : List ℕ) → joins (behind_text s) ≡ true
joins_behind [] = refl
joins_behind (b ∷ rest) = elim (cases_Bool (is_line_end b)) [ inl e ↦ rw e (rw e refl) | inr e ↦ rw e (joins_behind rest) ]

-- The first line of a text and those in which it goes on are the text's pieces, and what stands behind them.
pub record IsLogical (s : List ℕ) : Type 0 where
  pub line : join_lines (line_text s) (ending_text (behind_text s)) (group_lines (is_continued (line_text s)) (lines_behind (behind_text s))).0 ≡ record { pieces = pieces_in s; ending = ending_text (drop (line_size s) s) }
  pub more : (group_lines (is_continued (line_text s)) (lines_behind (behind_text s))).1 ≡ logical_lines (lines_behind (drop (line_size s) s))
  pub end : joins (drop (line_size s) s) ≡ true

text_length-le : (s : List ℕ) → text_length s ≤ length s
text_length-le [] = omega arith
text_length-le (b ∷ rest) = elim (cases_Bool (is_line_end b)) [ inl e ↦ rw e (omega arith) | inr e ↦ rw e (let more = text_length-le rest in omega arith) ]

-- a line that ends
ends_alone : (s : List ℕ) → is_continued (line_text s) ≡ false → IsLogical s
ends_alone s ends =
    let pieces : pieces_in s ≡ chars (line_text s) = line_said s ∙ rw ends refl in
    let size : line_size s ≡ text_length s = ap (λ ps. length (bytes_of ps)) pieces ∙ (ap length (bytes_of-chars (line_text s)) ∙ length-take-le (text_length s) s (text_length-le s)) in
    record {
      line = rw (ends, grouped-none (lines_behind (behind_text s)), size, pieces) (joined-plain (line_text s) (ending_text (behind_text s)) ends);
      more = rw (ends, size) refl;
      end = rw size (joins_behind s);
    }

-- the text behind a line and the blanks of the next one
abbrev next_text : List ℕ → List ℕ
next_text s = behind_blanks (drop (ending_length (behind_text s)) (behind_text s))

joined-next : (text ending : List ℕ) (next : Line) (more : List Line) → join_lines text ending (next ∷ more)
    ≡ record { pieces = chars (without_last text) ++ joint ((backslash ∷ ending) ++ leading_blanks next.text) ∷ (join_lines (behind_blanks next.text) next.ending more).pieces; ending = (join_lines (behind_blanks next.text) next.ending more).ending }
unfolding join_lines
joined-next text ending next more = refl

joined-last : (text ending : List ℕ) → is_continued text ≡ true → join_lines text ending [] ≡ record { pieces = chars (without_last text) ++ joint (backslash ∷ ending) ∷ []; ending = [] }
unfolding join_lines
joined-last text ending on = rw on refl

grouped-next : (next : Line) (lines : List Line) → group_lines true (next ∷ lines) ≡ (next ∷ (group_lines (is_continued next.text) lines).0, (group_lines (is_continued next.text) lines).1)
unfolding group_lines
grouped-next next lines = refl

grouped-nil : (going : Bool) → group_lines going [] ≡ ([], [])
unfolding group_lines
grouped-nil true = refl
grouped-nil false = refl

module _ (s : List ℕ) (on : is_continued (line_text s) ≡ true) where
  abbrev t : List ℕ
  t = behind_text s

  abbrev after : List ℕ
  after = drop (ending_length t) t

  abbrev u : List ℕ
  u = behind_blanks after

  abbrev w : List ℕ
  w = without_last (line_text s)

  abbrev link : List ℕ
  link = (backslash ∷ ending_text t) ++ leading_blanks after

  link_is : pieces_in (92 ∷ t) ≡ joint link ∷ pieces_in u
  link_is =
      let size = length (leading_blanks after) in
      let text : take (joint_size t) t ≡ ending_text t ++ leading_blanks after = take-add (ending_length t) size t ∙ ap (λ x. ending_text t ++ x) (sym (leading_is after)) in
      let rest : drop (joint_size t) t ≡ u = sym (drop-drop size (ending_length t) t) ∙ sym (behind_blanks_is after) in
      at_joint 92 t refl (joins_behind s) ∙ (ap (λ x. joint (backslash ∷ x) ∷ pieces_in (drop (joint_size t) t)) text ∙ ap (λ x. joint link ∷ pieces_in x) rest)

  pieces_are : pieces_in s ≡ chars w ++ joint link ∷ pieces_in u
  pieces_are = line_said s ∙ (rw on refl ∙ ap (λ ps. chars w ++ ps) link_is)

  text_is : s ≡ (w ++ link) ++ u
  text_is =
      sym (take-append-drop (text_length s) s)
      ∙ (ap (λ x. x ++ t) (ends_in_backslash (line_text s) on)
      ∙ (ap (λ x. (w ++ backslash ∷ []) ++ x) (sym (take-append-drop (ending_length t) t) ∙ ap (λ x. ending_text t ++ x) (blanks_first after))
      ∙ regroup w (ending_text t) (leading_blanks after) u))
    where
      regroup : (a b c d : List ℕ) → (a ++ backslash ∷ []) ++ (b ++ (c ++ d)) ≡ (a ++ ((backslash ∷ b) ++ c)) ++ d
      regroup a b c d = simp append_assoc

  behind_is : drop (line_size s) s ≡ drop (line_size u) u
  behind_is =
      let raw_is : bytes_of (pieces_in s) ≡ (w ++ link) ++ bytes_of (pieces_in u) =
      ap bytes_of pieces_are ∙ (bytes_of-append (chars w) (joint link ∷ pieces_in u) ∙ (ap (λ x. x ++ (link ++ bytes_of (pieces_in u))) (bytes_of-chars w) ∙ sym (append_assoc w link (bytes_of (pieces_in u))))) in
      let size : line_size s ≡ length (w ++ link) + line_size u = ap length raw_is ∙ length-append (w ++ link) (bytes_of (pieces_in u)) in
      ap (λ n. drop n s) size ∙ (ap (drop (length (w ++ link) + line_size u)) text_is ∙ drop-append-add (w ++ link) u (line_size u))

  shorter : length u + 1 ≤ length s
  shorter =
      let all = ap length text_is in
      let parts = length-append (w ++ link) u in
      let front = length-append w link in
      omega arith

  -- behind the last line there is nothing
  goes_nowhere : IsLogical u → (ending_length t == 0) ≡ true → IsLogical s
  goes_nowhere next e =
      let none : t ≡ [] = nothing_behind s (eqb-true (ending_length t) 0 e) in
      let u_none : u ≡ [] = ap (λ x. behind_blanks (drop (ending_length x) x)) none in
      let rest_none : drop (line_size s) s ≡ [] = behind_is ∙ (ap (λ x. drop (line_size x) x) u_none ∙ ap (λ ps. drop (length (bytes_of ps)) []) at_none) in
      let pieces : pieces_in s ≡ chars w ++ joint (backslash ∷ []) ∷ [] =
      pieces_are ∙ (ap (λ x. chars w ++ joint ((backslash ∷ ending_text x) ++ leading_blanks (drop (ending_length x) x)) ∷ pieces_in (behind_blanks (drop (ending_length x) x))) none ∙ ap (λ ps. chars w ++ joint (backslash ∷ []) ∷ ps) at_none) in
      record {
        line =
            rw (on, e) (ap (λ (g : List Line × List LogicalLine). join_lines (line_text s) (ending_text t) g.0) (grouped-nil true)
            ∙ (joined-last (line_text s) (ending_text t) on
            ∙ (ap (λ x. record { pieces = chars w ++ joint (backslash ∷ ending_text x) ∷ []; ending = [] }) none
            ∙ (ap (λ (ps : List Piece). record { pieces = ps; ending = [] }) (sym pieces) ∙ ap (λ x. record { pieces = pieces_in s; ending = ending_text x }) (sym rest_none)))));
        more = rw (on, e) (ap (λ (g : List Line × List LogicalLine). g.1) (grouped-nil true) ∙ (sym (ap (λ (g : List Line × List LogicalLine). g.1) (grouped-nil false)) ∙ ap (λ x. logical_lines (lines_behind x)) (sym rest_none)));
        end = ap joins behind_is ∙ next.end;
      }

  goes_further : IsLogical u → (ending_length t == 0) ≡ false → IsLogical s
  goes_further next e =
      let L = lines_behind (behind_text after) in
      let g = is_continued (line_text after) in
      let B = blanked after in
      let behind : lines_behind t ≡ line_of after ∷ L = rw e (first_line after) in
      let goes : g ≡ is_continued (line_text u) = sym (is_continued-behind_blanks (line_text after)) ∙ ap is_continued B.text in
      let group : group_lines (is_continued (line_text s)) (lines_behind t) ≡ (line_of after ∷ (group_lines g L).0, (group_lines g L).1) =
      ap (λ x. group_lines x (lines_behind t)) on ∙ (ap (group_lines true) behind ∙ grouped-next (line_of after) L) in
      let J : join_lines (behind_blanks (line_text after)) (ending_text (behind_text after)) (group_lines g L).0 ≡ record { pieces = pieces_in u; ending = ending_text (drop (line_size u) u) } =
      ap (λ x. join_lines x (ending_text (behind_text after)) (group_lines g L).0) B.text
      ∙ (ap (λ x. join_lines (line_text u) (ending_text (behind_text after)) (group_lines x L).0) goes
      ∙ (ap (λ r. join_lines (line_text u) (ending_text r) (group_lines (is_continued (line_text u)) (lines_behind r)).0) (sym B.rest) ∙ next.line)) in
      record {
        line =
            ap (λ (x : List Line × List LogicalLine). join_lines (line_text s) (ending_text t) x.0) group
            ∙ (joined-next (line_text s) (ending_text t) (line_of after) (group_lines g L).0
            ∙ (ap (λ (j : JoinedLine). record { pieces = chars w ++ joint ((backslash ∷ ending_text t) ++ leading_blanks (line_text after)) ∷ j.pieces; ending = j.ending }) J
            ∙ (ap (λ (b : List ℕ). record { pieces = chars w ++ joint ((backslash ∷ ending_text t) ++ b) ∷ pieces_in u; ending = ending_text (drop (line_size u) u) }) B.blanks
            ∙ (ap (λ (ps : List Piece). record { pieces = ps; ending = ending_text (drop (line_size u) u) }) (sym pieces_are)
            ∙ ap (λ (r : List ℕ). record { pieces = pieces_in s; ending = ending_text r }) (sym behind_is)))));
        more =
            ap (λ (x : List Line × List LogicalLine). x.1) group
            ∙ (ap (λ x. (group_lines x L).1) goes
            ∙ (ap (λ r. (group_lines (is_continued (line_text u)) (lines_behind r)).1) (sym B.rest)
            ∙ (next.more ∙ ap (λ x. logical_lines (lines_behind x)) (sym behind_is))));
        end = ap joins behind_is ∙ next.end;
      }

  pub goes_on_in : IsLogical u → IsLogical s
  goes_on_in next = elim (cases_Bool (ending_length t == 0)) [ inl e ↦ goes_nowhere next e | inr e ↦ goes_further next e ]

logical_within : (n : ℕ) (s : List ℕ) → length s ≤ n → IsLogical s
logical_within zero [] h = ends_alone [] refl
logical_within zero (b ∷ rest) h = absurd (omega arith)
logical_within (suc n) s h =
    elim (cases_Bool (is_continued (line_text s))) [
      | inl on ↦ let less = shorter s on in goes_on_in s on (logical_within n (next_text s) (omega arith))
      | inr ends ↦ ends_alone s ends
    ]

pub logical : (s : List ℕ) → IsLogical s
logical s = logical_within (length s) s (omega arith)
