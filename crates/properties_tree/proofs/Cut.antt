-- The pieces of a text, one after another.
use Rattle.std.proofs.Common.{◌≡◌, ℕ, zero, suc, ◌≤◌, Bool, true, false, List, [], ◌∷◌, ◌++◌, length, take, drop, refl, sym, ◌∙◌, ap, subst, arith, inl, inr, append_assoc, append-nil, length-append, length-drop}
use Rattle.std.specs.Prelude.{◌==◌, ◌&&◌, not}
use Rattle.std.proofs.lemmas.Bool.{cases_Bool, false≢true, eqb-true}
use Rattle.std.proofs.lemmas.List.{take-append-drop, take_at, drop_at, length-take-le}
use Rattle.properties_tree.specs.Characters.{is_line_end, is_blank, is_separator, ends_key, backslash}
use Rattle.rw_base.specs.NaturalLines.{begins_with_lf}
use Rattle.properties_tree.specs.Lines.{leading_blanks, behind_blanks}
use Rattle.properties_tree.specs.Entries.{Piece, char, joint, bytes_of, characters_of, take_characters, key_length}
use Rattle.properties_tree.proofs.Lengths.{behind_blanks_is, leading_is, blanks-le}
use Rattle.properties_tree.specs.Cutting.{joins, joint_size, pieces_behind, pieces_in, key_front, separator_front, separator_from}

-- ---- one piece more

pub pieces_behind-drop : (n : ℕ) (s : List ℕ) → pieces_behind n s ≡ pieces_in (drop n s)
unfolding pieces_behind
pieces_behind-drop zero s = refl
pieces_behind-drop (suc n) [] = refl
pieces_behind-drop (suc n) (b ∷ rest) = pieces_behind-drop n rest

pub at_none : pieces_in [] ≡ []
unfolding pieces_behind
at_none = refl

pub at_end : (b : ℕ) (rest : List ℕ) → is_line_end b ≡ true → pieces_in (b ∷ rest) ≡ []
unfolding pieces_behind
at_end b rest e = rw e refl

pub at_char : (b : ℕ) (rest : List ℕ) → is_line_end b ≡ false → (b == 92) ≡ false → pieces_in (b ∷ rest) ≡ char b ∷ pieces_in rest
unfolding pieces_behind
at_char b rest e other = rw (e, other) refl

-- a backslash is no line end
pub no_end : (b : ℕ) → (b == 92) ≡ true → is_line_end b ≡ false
no_end b e = rw (eqb-true b 92 e) refl

pub at_pair : (b c : ℕ) (rest : List ℕ) → (b == 92) ≡ true → is_line_end c ≡ false → pieces_in (b ∷ c ∷ rest) ≡ char b ∷ char c ∷ pieces_in rest
unfolding pieces_behind
at_pair b c rest slash inside = rw (no_end b slash, slash, inside) refl

pub at_joint : (b : ℕ) (rest : List ℕ) → (b == 92) ≡ true → joins rest ≡ true → pieces_in (b ∷ rest) ≡ joint (backslash ∷ take (joint_size rest) rest) ∷ pieces_in (drop (joint_size rest) rest)
unfolding pieces_behind
at_joint b rest e j = rw (no_end b e, e, j) (ap (λ ps. joint (backslash ∷ take (joint_size rest) rest) ∷ ps) (pieces_behind-drop (joint_size rest) rest))

-- how a text goes on, piece by piece
pub data IsCut : List ℕ → Type 0 where
  nothing : IsCut []
  ended : {b : ℕ} {rest : List ℕ} → is_line_end b ≡ true → IsCut (b ∷ rest)
  by_char : {b : ℕ} {rest : List ℕ} → is_line_end b ≡ false → (b == 92) ≡ false → IsCut rest → IsCut (b ∷ rest)
  by_pair : {b c : ℕ} {rest : List ℕ} → (b == 92) ≡ true → is_line_end c ≡ false → IsCut rest → IsCut (b ∷ c ∷ rest)
  by_joint : {b : ℕ} {rest next : List ℕ} → (b == 92) ≡ true → joins rest ≡ true → next ≡ drop (joint_size rest) rest → IsCut next → IsCut (b ∷ rest)

cut_pair : (b : ℕ) (s : List ℕ) → (b == 92) ≡ true → joins s ≡ false → IsCut (drop 1 s) → IsCut (b ∷ s)
cut_pair b [] slash inside more = absurd (false≢true (sym inside))
cut_pair b (c ∷ rest) slash inside more = by_pair slash inside more

cut_within : (n : ℕ) (s : List ℕ) → length s ≤ n → IsCut s
cut_within n [] h = nothing
cut_within zero (b ∷ rest) h = absurd (omega arith)
cut_within (suc n) (b ∷ rest) h =
    elim (cases_Bool (is_line_end b)) [
      | inl e ↦ ended e
      | inr e ↦ elim (cases_Bool (b == 92)) [
        | inl slash ↦ elim (cases_Bool (joins rest)) [
          | inl j ↦ by_joint slash j refl (cut_within n (drop (joint_size rest) rest) (simp length-drop (omega arith)))
          | inr inside ↦ cut_pair b rest slash inside (cut_within n (drop 1 rest) (simp length-drop (omega arith)))
        ]
        | inr other ↦ by_char e other (cut_within n rest (omega arith))
      ]
    ]

pub cut : (s : List ℕ) → IsCut s
cut s = cut_within (length s) s (omega arith)

-- ---- a front of a text

-- x is nothing, or begins as y does
Meets : List ℕ → List ℕ → Type 0
Meets [] y = Unit {0}
Meets (b ∷ x) [] = ⊥
Meets (b ∷ x) (c ∷ y) = b ≡ c

-- These pieces are what a front of a text says, whatever stands behind it that begins as the text does there.
pub record IsFront (s : List ℕ) (done : List Piece) : Type 0 where
  pub back : List ℕ
  pub text : s ≡ bytes_of done ++ back
  alone : (x : List ℕ) → Meets x back → pieces_in (bytes_of done ++ x) ≡ done ++ pieces_in x

meets_same : (y : List ℕ) → Meets y y
unfolding Meets
meets_same [] = tt
meets_same (b ∷ y) = refl

meets_behind : (x y z : List ℕ) → Meets x y → Meets (z ++ x) (z ++ y)
unfolding Meets
meets_behind x y [] m = m
meets_behind x y (b ∷ z) m = refl

module _ (s : List ℕ) (done : List Piece) (front : IsFront s done) where
  unfolding_back : pieces_in s ≡ done ++ pieces_in front.back
  unfolding_back = ap pieces_in front.text ∙ front.alone front.back (meets_same front.back)

  back_is : front.back ≡ drop (length (bytes_of done)) s
  back_is = sym (ap (drop (length (bytes_of done))) front.text ∙ drop_at (bytes_of done) front.back (length (bytes_of done)) refl)

  -- the pieces behind the front are those of the text behind it
  pub pieces-behind : pieces_in s ≡ done ++ pieces_in (drop (length (bytes_of done)) s)
  pieces-behind = unfolding_back ∙ ap (λ t. done ++ pieces_in t) back_is

  -- the front's bytes alone say the same pieces
  pub pieces-alone : pieces_in (bytes_of done) ≡ done
  unfolding Meets
  pieces-alone = ap pieces_in (sym (append-nil (bytes_of done))) ∙ (front.alone [] tt ∙ (ap (λ ps. done ++ ps) at_none ∙ append-nil done))

  pub front_length : length (bytes_of done) ≤ length s
  front_length = let all = ap length front.text in let parts = length-append (bytes_of done) front.back in omega arith

-- ---- the same front of a longer or shorter text has the same joint

meets_none : (x : List ℕ) → Meets x [] → x ≡ []
unfolding Meets
meets_none [] m = refl
meets_none (b ∷ x) m = absurd m

-- no blank, so none at the front of what meets it
blanks_none : (x : List ℕ) (b : ℕ) (u : List ℕ) → is_blank b ≡ false → Meets x (b ∷ u) → leading_blanks x ≡ []
unfolding Meets
blanks_none [] b u other m = refl
blanks_none (c ∷ x) b u other m = rw (ap is_blank m ∙ other) refl

blanks_stop : (u x : List ℕ) → Meets x (behind_blanks u) → length (leading_blanks (leading_blanks u ++ x)) ≡ length (leading_blanks u)
blanks_stop [] x m = ap (λ t. length (leading_blanks t)) (meets_none x m)
blanks_stop (b ∷ u) x m =
    elim (cases_Bool (is_blank b)) [
      | inl e ↦ rw e (rw e (ap suc (blanks_stop u x (rw e at m))))
      | inr e ↦ rw e (ap length (blanks_none x b u e (rw e at m)))
    ]

first_no_lf : (x : List ℕ) (b : ℕ) (u : List ℕ) → (b == 10) ≡ false → Meets x (b ∷ u) → begins_with_lf x ≡ false
unfolding Meets
first_no_lf [] b u none m = refl
first_no_lf (c ∷ x) b u none m = ap (λ k. k == 10) m ∙ none

no_lf : (u x : List ℕ) → begins_with_lf u ≡ false → Meets x (behind_blanks u) → begins_with_lf (leading_blanks u ++ x) ≡ false
no_lf [] x none m = ap begins_with_lf (meets_none x m)
no_lf (b ∷ u) x none m =
    elim (cases_Bool (is_blank b)) [
      | inl e ↦ rw e none
      | inr e ↦ rw e (first_no_lf x b u none (rw e at m))
    ]

-- the bytes of a joint, by its line end
size-lf : (b : ℕ) (rest : List ℕ) → (b == 10) ≡ true → joint_size (b ∷ rest) ≡ suc (length (leading_blanks rest))
size-lf b rest lf = rw lf (omega arith)

size-crlf : (b c : ℕ) (rest : List ℕ) → (b == 10) ≡ false → (b == 13) ≡ true → (c == 10) ≡ true → joint_size (b ∷ c ∷ rest) ≡ suc (suc (length (leading_blanks rest)))
size-crlf b c rest not_lf cr lf = rw (not_lf, cr, lf) (omega arith)

size-cr : (b : ℕ) (rest : List ℕ) → (b == 10) ≡ false → (b == 13) ≡ true → begins_with_lf rest ≡ false → joint_size (b ∷ rest) ≡ suc (length (leading_blanks rest))
size-cr b rest not_lf cr alone = rw (not_lf, cr, alone) (omega arith)

-- a joint with its line end and blanks is one before any text that meets what stands behind it
record Stays (r x : List ℕ) : Type 0 where
  size : joint_size (take (joint_size r) r ++ x) ≡ joint_size r
  still : joins (take (joint_size r) r ++ x) ≡ true
  fits : joint_size r ≤ length r

module _ (u x : List ℕ) (m : Meets x (drop (length (leading_blanks u)) u)) where
  met : Meets x (behind_blanks u)
  met = subst (Meets x) (sym (behind_blanks_is u)) m

  same_blanks : length (leading_blanks (take (length (leading_blanks u)) u ++ x)) ≡ length (leading_blanks u)
  same_blanks = ap (λ t. length (leading_blanks (t ++ x))) (sym (leading_is u)) ∙ blanks_stop u x met

  stays_lf : (b : ℕ) → (b == 10) ≡ true → Stays (b ∷ u) x
  stays_lf b lf =
      let size = size-lf b u lf in
      record {
        size = rw size (size-lf b (take (length (leading_blanks u)) u ++ x) lf ∙ ap suc same_blanks);
        still = rw size (rw lf refl);
        fits = rw size (let le = blanks-le u in omega arith);
      }

  stays_crlf : (b c : ℕ) → (b == 10) ≡ false → (b == 13) ≡ true → (c == 10) ≡ true → Stays (b ∷ c ∷ u) x
  stays_crlf b c not_lf cr lf =
      let size = size-crlf b c u not_lf cr lf in
      record {
        size = rw size (size-crlf b c (take (length (leading_blanks u)) u ++ x) not_lf cr lf ∙ ap (λ n. suc (suc n)) same_blanks);
        still = rw size (rw (not_lf, cr) refl);
        fits = rw size (let le = blanks-le u in omega arith);
      }

  stays_cr : (b : ℕ) → (b == 10) ≡ false → (b == 13) ≡ true → begins_with_lf u ≡ false → Stays (b ∷ u) x
  stays_cr b not_lf cr alone =
      let size = size-cr b u not_lf cr alone in
      let alone' : begins_with_lf (take (length (leading_blanks u)) u ++ x) ≡ false = ap (λ t. begins_with_lf (t ++ x)) (sym (leading_is u)) ∙ no_lf u x alone met in
      record {
        size = rw size (size-cr b (take (length (leading_blanks u)) u ++ x) not_lf cr alone' ∙ ap suc same_blanks);
        still = rw size (rw (not_lf, cr) refl);
        fits = rw size (let le = blanks-le u in omega arith);
      }

stays_13 : (b : ℕ) (rest x : List ℕ) → (b == 10) ≡ false → (b == 13) ≡ true → Meets x (drop (joint_size (b ∷ rest)) (b ∷ rest)) → Stays (b ∷ rest) x
stays_13 b [] x not_lf cr m = stays_cr [] x (rw (size-cr b [] not_lf cr refl) at m) b not_lf cr refl
stays_13 b (c ∷ rest) x not_lf cr m =
    elim (cases_Bool (c == 10)) [
      | inl lf ↦ stays_crlf rest x (rw (size-crlf b c rest not_lf cr lf) at m) b c not_lf cr lf
      | inr alone ↦ stays_cr (c ∷ rest) x (rw (size-cr b (c ∷ rest) not_lf cr alone) at m) b not_lf cr alone
    ]

stays : (r x : List ℕ) → joins r ≡ true → Meets x (drop (joint_size r) r) → Stays r x
stays [] x j m = record { size = ap joint_size (meets_none x m); still = ap joins (meets_none x m); fits = omega arith }
stays (b ∷ rest) x j m =
    elim (cases_Bool (b == 10)) [
      | inl lf ↦ stays_lf rest x (rw (size-lf b rest lf) at m) b lf
      | inr not_lf ↦ stays_13 b rest x not_lf (rw not_lf at j) m
    ]

pub joint_size-le : (r : List ℕ) → joins r ≡ true → joint_size r ≤ length r
joint_size-le r j = (stays r (drop (joint_size r) r) j (meets_same (drop (joint_size r) r))).fits

-- ---- fronts, piece by piece

pub no_piece : (s : List ℕ) → IsFront s []
no_piece s = record { back = s; text = refl; alone = λ x m. refl }

pub one_char : (b : ℕ) (rest : List ℕ) (done : List Piece) → is_line_end b ≡ false → (b == 92) ≡ false → IsFront rest done → IsFront (b ∷ rest) (char b ∷ done)
one_char b rest done inside other more = record {
  back = more.back;
  text = ap (λ t. b ∷ t) more.text;
  alone = λ x m. at_char b (bytes_of done ++ x) inside other ∙ ap (λ ps. char b ∷ ps) (more.alone x m);
}

pub one_pair : (b c : ℕ) (rest : List ℕ) (done : List Piece) → (b == 92) ≡ true → is_line_end c ≡ false → IsFront rest done → IsFront (b ∷ c ∷ rest) (char b ∷ char c ∷ done)
one_pair b c rest done slash inside more = record {
  back = more.back;
  text = ap (λ t. b ∷ c ∷ t) more.text;
  alone = λ x m. at_pair b c (bytes_of done ++ x) slash inside ∙ ap (λ ps. char b ∷ char c ∷ ps) (more.alone x m);
}

pub one_joint : (b : ℕ) (rest : List ℕ) (done : List Piece) → (b == 92) ≡ true → joins rest ≡ true → IsFront (drop (joint_size rest) rest) done
    → IsFront (b ∷ rest) (joint (backslash ∷ take (joint_size rest) rest) ∷ done)
one_joint b rest done slash j more =
    let k = joint_size rest in
    let here = eqb-true b 92 slash in
    record {
      back = more.back;
      text = ap (λ c. c ∷ rest) here ∙ ap (λ t. 92 ∷ t) (sym (take-append-drop k rest) ∙ (ap (λ t. take k rest ++ t) more.text ∙ sym (append_assoc (take k rest) (bytes_of done) more.back)));
      alone = λ x m.
          let m' : Meets (bytes_of done ++ x) (drop k rest) = subst (Meets (bytes_of done ++ x)) (sym more.text) (meets_behind x more.back (bytes_of done) m) in
          let r = take k rest ++ (bytes_of done ++ x) in
          let same = (stays rest (bytes_of done ++ x) j m').size in
          let long = length-take-le k rest (joint_size-le rest j) in
          ap (λ t. pieces_in (92 ∷ t)) (append_assoc (take k rest) (bytes_of done) x)
          ∙ (at_joint 92 r refl (stays rest (bytes_of done ++ x) j m').still
          ∙ (ap (λ n. joint (backslash ∷ take n r) ∷ pieces_in (drop n r)) same
          ∙ (ap (λ t. joint (backslash ∷ t) ∷ pieces_in (drop k r)) (take_at (take k rest) (bytes_of done ++ x) k long)
          ∙ (ap (λ t. joint (backslash ∷ take k rest) ∷ pieces_in t) (drop_at (take k rest) (bytes_of done ++ x) k long)
          ∙ ap (λ ps. joint (backslash ∷ take k rest) ∷ ps) (more.alone x m)))));
    }

-- the whole logical line is a front
pub line_front : (s : List ℕ) → IsCut s → IsFront s (pieces_in s)
line_front [] nothing = subst (IsFront []) (sym at_none) (no_piece [])
line_front (b ∷ rest) (ended e) = subst (IsFront (b ∷ rest)) (sym (at_end b rest e)) (no_piece (b ∷ rest))
line_front (b ∷ rest) (by_char inside other more) = subst (IsFront (b ∷ rest)) (sym (at_char b rest inside other)) (one_char b rest (pieces_in rest) inside other (line_front rest more))
line_front (b ∷ c ∷ rest) (by_pair slash inside more) = subst (IsFront (b ∷ c ∷ rest)) (sym (at_pair b c rest slash inside)) (one_pair b c rest (pieces_in rest) slash inside (line_front rest more))
line_front (b ∷ rest) (by_joint {next = next} slash j e more) =
    subst (IsFront (b ∷ rest)) (sym (at_joint b rest slash j)) (one_joint b rest (pieces_in (drop (joint_size rest) rest)) slash j (subst (λ t. IsFront t (pieces_in t)) e (line_front next more)))

-- so is the key
front_or_none : (b : ℕ) (rest : List ℕ) (n : ℕ) → (b == 92) ≡ true → joins rest ≡ true → IsFront (drop (joint_size rest) rest) (take_characters n (pieces_in (drop (joint_size rest) rest)))
    → IsFront (b ∷ rest) (take_characters n (joint (backslash ∷ take (joint_size rest) rest) ∷ pieces_in (drop (joint_size rest) rest)))
front_or_none b rest zero slash j more = no_piece (b ∷ rest)
front_or_none b rest (suc n) slash j more = one_joint b rest (take_characters (suc n) (pieces_in (drop (joint_size rest) rest))) slash j more

pub key_is_front : (s : List ℕ) → IsCut s → IsFront s (key_front (pieces_in s))
key_is_front [] nothing = subst (λ ps. IsFront [] (key_front ps)) (sym at_none) (no_piece [])
key_is_front (b ∷ rest) (ended e) = subst (λ ps. IsFront (b ∷ rest) (key_front ps)) (sym (at_end b rest e)) (no_piece (b ∷ rest))
key_is_front (b ∷ rest) (by_char inside other more) =
    subst (λ ps. IsFront (b ∷ rest) (key_front ps)) (sym (at_char b rest inside other))
    (elim (cases_Bool (ends_key b)) [
      | inl e ↦ rw (other, e) (no_piece (b ∷ rest))
      | inr e ↦ rw (other, e) (one_char b rest (key_front (pieces_in rest)) inside other (key_is_front rest more))
    ])
key_is_front (b ∷ c ∷ rest) (by_pair slash inside more) =
    subst (λ ps. IsFront (b ∷ c ∷ rest) (key_front ps)) (sym (at_pair b c rest slash inside)) (rw slash (one_pair b c rest (key_front (pieces_in rest)) slash inside (key_is_front rest more)))
key_is_front (b ∷ rest) (by_joint {next = next} slash j e more) =
    subst (λ ps. IsFront (b ∷ rest) (key_front ps)) (sym (at_joint b rest slash j))
    (front_or_none b rest (key_length (characters_of (pieces_in (drop (joint_size rest) rest)))) slash j (subst (λ t. IsFront t (key_front (pieces_in t))) e (key_is_front next more)))

separator_pair : (marked : Bool) (c : ℕ) (ps : List Piece) (s : List ℕ) → IsFront s (separator_front marked (char 92 ∷ char c ∷ ps))
separator_pair true c ps s = no_piece s
separator_pair false c ps s = no_piece s

-- and the separator
pub separator_is_front : (marked : Bool) (s : List ℕ) → IsCut s → IsFront s (separator_front marked (pieces_in s))
separator_is_front marked [] nothing = subst (λ ps. IsFront [] (separator_front marked ps)) (sym at_none) (no_piece [])
separator_is_front marked (b ∷ rest) (ended e) = subst (λ ps. IsFront (b ∷ rest) (separator_front marked ps)) (sym (at_end b rest e)) (no_piece (b ∷ rest))
separator_is_front marked (b ∷ rest) (by_char inside other more) =
    subst (λ ps. IsFront (b ∷ rest) (separator_front marked ps)) (sym (at_char b rest inside other))
    (elim (cases_Bool (is_blank b)) [
      | inl e ↦ rw e (one_char b rest (separator_front marked (pieces_in rest)) inside other (separator_is_front marked rest more))
      | inr e ↦ elim (cases_Bool (not marked && is_separator b)) [
        | inl mark ↦ rw (e, mark) (one_char b rest (separator_front true (pieces_in rest)) inside other (separator_is_front true rest more))
        | inr none ↦ rw (e, none) (no_piece (b ∷ rest))
      ]
    ])
separator_is_front marked (b ∷ c ∷ rest) (by_pair slash inside more) =
    let here = eqb-true b 92 slash in
    subst (λ ps. IsFront (b ∷ c ∷ rest) (separator_front marked ps)) (sym (at_pair b c rest slash inside))
    (subst (λ k. IsFront (b ∷ c ∷ rest) (separator_front marked (char k ∷ char c ∷ pieces_in rest))) (sym here) (separator_pair marked c (pieces_in rest) (b ∷ c ∷ rest)))
separator_is_front marked (b ∷ rest) (by_joint {next = next} slash j e more) =
    subst (λ ps. IsFront (b ∷ rest) (separator_front marked ps)) (sym (at_joint b rest slash j))
    (front_or_none b rest (separator_from marked (characters_of (pieces_in (drop (joint_size rest) rest)))) slash j (subst (λ t. IsFront t (separator_front marked (pieces_in t))) e (separator_is_front marked next more)))
