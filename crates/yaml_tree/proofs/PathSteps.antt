-- How the reading of a key path goes on, and where it stops.
use Rattle.std.proofs.Common.{◌≡◌, ℕ, zero, suc, ◌+◌, ◌<◌, ◌≤◌, inl}
use Rattle.std.proofs.Common.{inr, List, [], ◌∷◌, ◌++◌, length, get_or, take, drop}
use Rattle.std.proofs.Common.{refl, sym, ap, subst, ◌∙◌}
use Rattle.std.proofs.Common.{arith, append_assoc, append-nil, length-append, length-drop, length-take-le}
use Rattle.std.proofs.Common.{take-append-drop}
use Rattle.std.specs.Prelude.{Some, None, ◌==◌, if◌then◌else◌}
use Rattle.std.proofs.lemmas.Bool.{cases_eq, eq-eqb, ne_eqb, cond-true, cond-false}
use Rattle.std.proofs.lemmas.List.{drop-drop, drop_at, drop_all, drop_more}
use Rattle.rw_base.specs.Fronts.{Form}
use Rattle.yaml_tree.specs.declared.key_path.PathStep.{PathStep}
use Rattle.yaml_tree.specs.declared.key_path.PathStep.TheVariants.{AnyName, AnyItem}
use Rattle.yaml_tree.specs.declared.key_path.TheConstants.{ITEMS}
use Rattle.yaml_tree.specs.KeyPaths.{AreNames, last, IsKeyPath, plain, rooted, rooted_dot, IsWrongAt}
use Rattle.yaml_tree.specs.PathReading.{run_size, name_size, step_of, start_size, common}
use Rattle.yaml_tree.specs.PathReading.{IsBehind, ended, dot, items, GoesOn}
use Rattle.yaml_tree.proofs.PathFronts.{first, lifted, wrong_at_once, behind_word}
use Rattle.yaml_tree.proofs.PathNames.{is_name, same_size, same_start, parted, joined, dollar_ends, dot_ends, run_none}

-- ---- one step further

-- The texts of F behind a front are those of G with these steps before them: where F is left, G is left behind it.
pub goes_on : (F G : Form (List PathStep)) (text : List ℕ) (steps : List PathStep) (at : ℕ) → GoesOn F text steps at
    → (front s : List ℕ) → drop at text ≡ front ++ s → (new : List PathStep)
    → ((x : List PathStep) (rest : List ℕ) → G x rest → F (new ++ x) (front ++ rest))
    → ((y : List PathStep) (rest : List ℕ) → first rest ≡ first s → F y (front ++ rest)
    → (x : List PathStep) × G x rest)
    → (k : ℕ) → length front ≡ k → GoesOn G text (steps ++ new) (at + k)
goes_on F G text steps at g front s is new up down k size =
    let left : drop (at + k) text ≡ s = sym (drop-drop k at text) ∙ (ap (drop k) is ∙ drop_at front s k size) in
    let long = length-drop at text in
    let both = ap length is ∙ length-append front s in
    record {
      inside = omega (arith, g.inside);
      path = λ more names.
          let inner : F (new ++ more) (drop at text) =
          subst (F (new ++ more)) (sym is) (up more s (subst (G more) left names)) in
          subst (λ (x : List PathStep). IsKeyPath x text) (sym (append_assoc steps new more))
          (g.path (new ++ more) inner);
      fault = λ n wrong.
          let inner : IsWrongAt F (drop at text) (k + n) =
          subst (λ x. IsWrongAt F x (k + n)) (sym is)
          (lifted G F front s (λ x rest h. (new ++ x, up x rest h)) down k n size
          (subst (λ x. IsWrongAt G x n) left wrong)) in
          subst (IsWrongAt IsKeyPath text) (omega arith) (g.fault (k + n) inner);
    }

-- a text whose texts are those of another form is wrong where they are
wrong_alike : (F G : Form (List PathStep)) (s : List ℕ) (n : ℕ)
    → ((x : List PathStep) (rest : List ℕ) → F x rest → (y : List PathStep) × G y rest)
    → ((y : List PathStep) (rest : List ℕ) → first rest ≡ first s → G y rest → (x : List PathStep) × F x rest)
    → IsWrongAt F s n → IsWrongAt G s n
wrong_alike F G s n up down w = subst (IsWrongAt G s) (omega arith) (lifted F G [] s up down 0 n refl w)

same_heads : (a b : ℕ) (x y : List ℕ) → a ∷ x ≡ b ∷ y → a ≡ b
same_heads a b x y e = cc

-- a text doesn't begin with `.` and with `[`
apart : (x y : List ℕ) → 46 ∷ x ≡ 91 ∷ y → ⊥
apart x y e = omega (arith, same_heads 46 91 x y e)

-- ---- before the first name

star : AreNames (AnyName ∷ []) (42 ∷ [])
star = last AnyName refl refl

whole : (text : List ℕ) → GoesOn IsKeyPath text [] 0
whole text = record {
  inside = omega arith;
  path = λ more p. p;
  fault = λ n w. subst (IsWrongAt IsKeyPath text) (omega arith) w;
}

-- no names begin with a byte that is neither `*` nor in a name
no_names : (b : ℕ) (s : List ℕ) (steps : List PathStep) → (b ≡ 42 → ⊥) → run_size (b ∷ s) ≡ 0
    → AreNames steps (b ∷ s) → ⊥
no_names b s steps other none names =
    let p = parted steps (b ∷ s) names in
    let size : name_size (b ∷ s) ≡ 0 = cond-false (b == 42) 1 (run_size (b ∷ s)) (ne_eqb b 42 other) ∙ none in
    omega (arith, p.some)

no_dollar : (s : List ℕ) (steps : List PathStep) → AreNames steps (36 ∷ s) → ⊥
no_dollar s steps = no_names 36 s steps (λ e. absurd (omega arith)) (run_none 36 s dollar_ends)

no_dot : (s : List ℕ) (steps : List PathStep) → AreNames steps (46 ∷ s) → ⊥
no_dot s steps = no_names 46 s steps (λ e. absurd (omega arith)) (run_none 46 s dot_ends)

starts_plain : (s : List ℕ) → (first s ≡ Some 36 → ⊥) → (y : List PathStep) (rest : List ℕ)
    → first rest ≡ first s → IsKeyPath y rest → (x : List PathStep) × AreNames x rest
starts_plain s other y rest e (plain names) = (y, names)
starts_plain s other y rest e (rooted r is names) = absurd (other (sym e ∙ ap first is))
starts_plain s other y rest e (rooted_dot r is names) = absurd (other (sym e ∙ ap first is))

starts_rooted : (s : List ℕ) → (first s ≡ Some 46 → ⊥) → (y : List PathStep) (rest : List ℕ)
    → first rest ≡ first s → IsKeyPath y (36 ∷ rest) → (x : List PathStep) × AreNames x rest
starts_rooted s other y rest e (plain names) = absurd (no_dollar rest y names)
starts_rooted s other y rest e (rooted r is names) =
    let same : r ≡ rest = cc in (y, subst (AreNames y) same names)
starts_rooted s other y rest e (rooted_dot r is names) =
    let same : rest ≡ 46 ∷ r = cc in absurd (other (sym e ∙ ap first same))

starts_rooted_dot : (s : List ℕ) (y : List PathStep) (rest : List ℕ)
    → first rest ≡ first s → IsKeyPath y (36 ∷ 46 ∷ rest) → (x : List PathStep) × AreNames x rest
starts_rooted_dot s y rest e (plain names) = absurd (no_dollar (46 ∷ rest) y names)
starts_rooted_dot s y rest e (rooted r is names) =
    let same : r ≡ 46 ∷ rest = cc in absurd (no_dot rest y (subst (AreNames y) same names))
starts_rooted_dot s y rest e (rooted_dot r is names) =
    let same : r ≡ rest = cc in (y, subst (AreNames y) same names)

start_plain : (text : List ℕ) → (first text ≡ Some 36 → ⊥) → GoesOn AreNames text [] 0
start_plain text other =
    goes_on IsKeyPath AreNames text [] 0 (whole text) [] text refl [] (λ x rest names. plain names)
    (starts_plain text other) 0 refl

start_rooted : (s : List ℕ) → (first s ≡ Some 46 → ⊥) → GoesOn AreNames (36 ∷ s) [] 1
start_rooted s other =
    goes_on IsKeyPath AreNames (36 ∷ s) [] 0 (whole (36 ∷ s)) (36 ∷ []) s refl []
    (λ x rest names. rooted rest refl names) (starts_rooted s other) 1 refl

start_rooted_dot : (s : List ℕ) → GoesOn AreNames (36 ∷ 46 ∷ s) [] 2
start_rooted_dot s =
    goes_on IsKeyPath AreNames (36 ∷ 46 ∷ s) [] 0 (whole (36 ∷ 46 ∷ s)) (36 ∷ 46 ∷ []) s refl []
    (λ x rest names. rooted_dot rest refl names) (starts_rooted_dot s) 2 refl

pub start_read : (text : List ℕ) → GoesOn AreNames text [] (start_size text)
start_read [] = start_plain [] (λ e. absurd (cc))
start_read (a ∷ []) = elim (cases_eq a 36) [
  | inl e ↦ subst (λ b. GoesOn AreNames (b ∷ []) [] (start_size (b ∷ []))) (sym e)
      (start_rooted [] (λ f. absurd (cc)))
  | inr other ↦ subst (GoesOn AreNames (a ∷ []) []) (sym (cond-false (a == 36) 1 0 (ne_eqb a 36 other)))
      (start_plain (a ∷ []) (λ f. other (cc)))
]
start_read (a ∷ b ∷ s) = elim (cases_eq a 36) [
  | inl e ↦ subst (λ x. GoesOn AreNames (x ∷ b ∷ s) [] (start_size (x ∷ b ∷ s))) (sym e) (elim (cases_eq b 46) [
    | inl f ↦ subst (λ x. GoesOn AreNames (36 ∷ x ∷ s) [] (start_size (36 ∷ x ∷ s))) (sym f) (start_rooted_dot s)
    | inr other ↦ subst (GoesOn AreNames (36 ∷ b ∷ s) []) (sym (cond-false (b == 46) 2 1 (ne_eqb b 46 other)))
        (start_rooted (b ∷ s) (λ f. other (cc)))
  ])
  | inr other ↦ subst (GoesOn AreNames (a ∷ b ∷ s) [])
      (sym (cond-false (a == 36) (if b == 46 then 2 else 1) 0 (ne_eqb a 36 other)))
      (start_plain (a ∷ b ∷ s) (λ f. other (cc)))
]

-- ---- a name

-- no name begins here
pub no_name : (s : List ℕ) → name_size s ≡ 0 → IsWrongAt AreNames s 0
no_name s none = wrong_at_once AreNames s (AnyName ∷ []) (42 ∷ []) star (λ y rest e names.
    omega (arith, same_start s rest none e, (parted y rest names).some))

behind_name : (s : List ℕ) (n : ℕ) → name_size s ≡ n → 0 < n → n ≤ length s → (y : List PathStep) (rest : List ℕ)
    → first rest ≡ first (drop n s) → AreNames y (take n s ++ rest) → (x : List PathStep) × IsBehind x rest
behind_name s n is some fits y rest e names =
    let p = parted y (take n s ++ rest) names in
    let size : name_size (take n s ++ rest) ≡ n = same_size s rest n is some e in
    let left : drop (name_size (take n s ++ rest)) (take n s ++ rest) ≡ rest =
    ap (λ m. drop m (take n s ++ rest)) size ∙ drop_at (take n s) rest n (length-take-le n s fits) in
    (p.more, subst (IsBehind p.more) left p.behind)

-- behind a name that was read
pub name_read : (text : List ℕ) (steps : List PathStep) (at n : ℕ) → GoesOn AreNames text steps at
    → name_size (drop at text) ≡ n → 0 < n → n ≤ length (drop at text)
    → GoesOn IsBehind text (steps ++ step_of (take n (drop at text)) ∷ []) (at + n)
name_read text steps at n g is some fits =
    let s = drop at text in
    goes_on AreNames IsBehind text steps at g (take n s) (drop n s) (sym (take-append-drop n s))
    (step_of (take n s) ∷ [])
    (λ x rest b. joined (step_of (take n s)) (take n s) rest x (is_name s n is some) b)
    (behind_name s n is some fits) n (length-take-le n s fits)

-- ---- behind a name

pub end_read : (text : List ℕ) (steps : List PathStep) (at : ℕ) → GoesOn IsBehind text steps at
    → drop at text ≡ [] → IsKeyPath steps text
end_read text steps at g e =
    subst (λ (x : List PathStep). IsKeyPath x text) (append-nil steps) (g.path [] (ended refl e))

behind_dot : (s : List ℕ) (y : List PathStep) (rest : List ℕ) → first rest ≡ first s → IsBehind y (46 ∷ rest)
    → (x : List PathStep) × AreNames x rest
behind_dot s y rest e (ended none is) = absurd (cc)
behind_dot s y rest e (dot r names is) = let same : r ≡ rest = cc in (y, subst (AreNames y) same names)
behind_dot s y rest e (items others r names is_steps is) = absurd (apart rest (42 ∷ 93 ∷ 46 ∷ r) is)

dot_read : (text : List ℕ) (steps : List PathStep) (at : ℕ) (s : List ℕ) → GoesOn IsBehind text steps at
    → drop at text ≡ 46 ∷ s → GoesOn AreNames text steps (at + 1)
dot_read text steps at s g is =
    subst (λ (x : List PathStep). GoesOn AreNames text x (at + 1)) (append-nil steps)
    (goes_on IsBehind AreNames text steps at g (46 ∷ []) s is [] (λ x rest names. dot rest names refl)
    (behind_dot s) 1 refl)

behind_items : (s : List ℕ) (y : List PathStep) (rest : List ℕ) → first rest ≡ first s
    → IsBehind y (91 ∷ 42 ∷ 93 ∷ 46 ∷ rest) → (x : List PathStep) × AreNames x rest
behind_items s y rest e (ended none is) = absurd (cc)
behind_items s y rest e (dot r names is) = absurd (apart r (42 ∷ 93 ∷ 46 ∷ rest) (sym is))
behind_items s y rest e (items others r names is_steps is) =
    let same : r ≡ rest = cc in (others, subst (AreNames others) same names)

items_read : (text : List ℕ) (steps : List PathStep) (at : ℕ) (s : List ℕ) → GoesOn IsBehind text steps at
    → drop at text ≡ 91 ∷ 42 ∷ 93 ∷ 46 ∷ s → GoesOn AreNames text (steps ++ AnyItem ∷ []) (at + 4)
items_read text steps at s g is =
    goes_on IsBehind AreNames text steps at g (91 ∷ 42 ∷ 93 ∷ 46 ∷ []) s is (AnyItem ∷ [])
    (λ x rest names. items x rest names refl refl) (behind_items s) 4 refl

-- ---- what isn't `[*].`

alike : (a b : ℕ) (w s : List ℕ) → a ≡ b → common (a ∷ w) (b ∷ s) ≡ common w s + 1
alike a b w s e = cond-true (a == b) (common w s + 1) 0 (eq-eqb a b e)

unlike : (a b : ℕ) (w s : List ℕ) → (a ≡ b → ⊥) → common (a ∷ w) (b ∷ s) ≡ 0
unlike a b w s e = cond-false (a == b) (common w s + 1) 0 (ne_eqb a b e)

-- A text that begins with a part of a word is wrong behind that part.
wrong_word : (F : Form (List PathStep)) (x : List PathStep) (t : List ℕ) → F x t → (w s : List ℕ)
    → common w s < length w → IsWrongAt (behind_word w F) s (common w s)
wrong_word F x t f [] s lt = absurd (omega arith)
wrong_word F x t f (a ∷ w) [] lt =
    wrong_at_once (behind_word (a ∷ w) F) [] x ((a ∷ w) ++ t) (t, (refl, f)) (λ y rest e g.
    let e : Some a ≡ None = sym (ap first g.1.0) ∙ e in absurd (cc))
wrong_word F x t f (a ∷ w) (b ∷ s) lt = elim (cases_eq a b) [
  | inl same ↦
      let less : common w s < length w = omega (arith, alike a b w s same) in
      let inner : IsWrongAt (behind_word (a ∷ w) F) (a ∷ s) (1 + common w s) =
      lifted (behind_word w F) (behind_word (a ∷ w) F) (a ∷ []) s
      (λ y rest g. (y, (g.0, (ap (λ z. a ∷ z) g.1.0, g.1.1))))
      (λ y rest e g. (y, (g.0, (tail a rest (w ++ g.0) g.1.0, g.1.1))))
      1 (common w s) refl (wrong_word F x t f w s less) in
      let count : 1 + common w s ≡ common (a ∷ w) (b ∷ s) = omega (arith, alike a b w s same) in
      subst (λ c. IsWrongAt (behind_word (a ∷ w) F) (c ∷ s) (common (a ∷ w) (b ∷ s))) same
      (subst (IsWrongAt (behind_word (a ∷ w) F) (a ∷ s)) count inner)
  | inr other ↦
      subst (IsWrongAt (behind_word (a ∷ w) F) (b ∷ s)) (sym (unlike a b w s other))
      (wrong_at_once (behind_word (a ∷ w) F) (b ∷ s) x ((a ∷ w) ++ t) (t, (refl, f)) (λ y rest e g.
      let heads : Some a ≡ Some b = sym (ap first g.1.0) ∙ e in other (cc)))
]
  where
    tail : (a : ℕ) (s t : List ℕ) → a ∷ s ≡ a ∷ t → s ≡ t
    tail a s t e = cc

-- behind a name stands neither the end, nor a dot, nor `[*].`
no_items : (b : ℕ) (s : List ℕ) → (b ≡ 46 → ⊥) → common ITEMS (b ∷ s) < 4
    → IsWrongAt IsBehind (b ∷ s) (common ITEMS (b ∷ s))
no_items b s other less =
    wrong_alike (behind_word ITEMS AreNames) IsBehind (b ∷ s) (common ITEMS (b ∷ s))
    (λ x rest g. (AnyItem ∷ x, items x g.0 g.1.1 refl g.1.0)) (behind_word_of b s other)
    (wrong_word AreNames (AnyName ∷ []) (42 ∷ []) star ITEMS (b ∷ s) less)
  where
    behind_word_of : (b : ℕ) (s : List ℕ) → (b ≡ 46 → ⊥) → (y : List PathStep) (rest : List ℕ)
        → first rest ≡ first (b ∷ s) → IsBehind y rest → (x : List PathStep) × behind_word ITEMS AreNames x rest
    behind_word_of b s other y rest e (ended none is) =
        let f : None ≡ Some b = sym (ap first is) ∙ e in absurd (cc)
    behind_word_of b s other y rest e (dot r names is) =
        let f : Some 46 ≡ Some b = sym (ap first is) ∙ e in absurd (other (cc))
    behind_word_of b s other y rest e (items others r names is_steps is) = (others, (r, (is, names)))

-- ---- `[*].`, byte by byte

pub common_past : (w s : List ℕ) (i : ℕ) → length w ≤ i → common (drop i w) (drop i s) ≡ 0
common_past w s i le = ap (λ x. common x (drop i s)) (drop_all i w le)

pub common_end : (w s : List ℕ) (i : ℕ) → length s ≤ i → common (drop i w) (drop i s) ≡ 0
common_end w s i le = ap (common (drop i w)) (drop_all i s le) ∙ nothing (drop i w)
  where
    nothing : (w : List ℕ) → common w [] ≡ 0
    nothing [] = refl
    nothing (a ∷ w) = refl

both : (w s : List ℕ) (i : ℕ) → i < length w → i < length s
    → common (drop i w) (drop i s) ≡ common (get_or w i 0 ∷ drop (i + 1) w) (get_or s i 0 ∷ drop (i + 1) s)
both w s i a b = ap (λ x. common x (drop i s)) (drop_more w i 0 a) ∙ ap (common (get_or w i 0 ∷ drop (i + 1) w))
    (drop_more s i 0 b)

pub common_unlike : (w s : List ℕ) (i : ℕ) → i < length w → i < length s → (get_or w i 0 ≡ get_or s i 0 → ⊥)
    → common (drop i w) (drop i s) ≡ 0
common_unlike w s i a b other =
    both w s i a b ∙ unlike (get_or w i 0) (get_or s i 0) (drop (i + 1) w) (drop (i + 1) s) other

pub common_alike : (w s : List ℕ) (i : ℕ) → i < length w → i < length s → get_or w i 0 ≡ get_or s i 0
    → common (drop i w) (drop i s) ≡ common (drop (i + 1) w) (drop (i + 1) s) + 1
common_alike w s i a b same =
    both w s i a b ∙ alike (get_or w i 0) (get_or s i 0) (drop (i + 1) w) (drop (i + 1) s) same

common_whole : (w s : List ℕ) → common w s ≡ length w → s ≡ w ++ drop (length w) s
common_whole [] s e = refl
common_whole (a ∷ w) [] e = absurd (omega arith)
common_whole (a ∷ w) (b ∷ s) e = elim (cases_eq a b) [
  | inl same ↦
      let rest : s ≡ w ++ drop (length w) s = common_whole w s (omega (arith, alike a b w s same)) in
      let heads : b ≡ a = sym same in
      cc
  | inr other ↦ absurd (omega (arith, unlike a b w s other))
]

-- behind a name stands neither the end nor a dot: what isn't `[*].` is wrong, and else names go on behind it
pub items_wrong : (text : List ℕ) (steps : List PathStep) (at : ℕ) → GoesOn IsBehind text steps at
    → 0 < length (drop at text) → (get_or (drop at text) 0 0 ≡ 46 → ⊥) → common ITEMS (drop at text) < 4
    → IsWrongAt IsKeyPath text (at + common ITEMS (drop at text))
items_wrong text steps at g some other less =
    g.fault (common ITEMS (drop at text)) (by_front (drop at text) some other less)
  where
    by_front : (s : List ℕ) → 0 < length s → (get_or s 0 0 ≡ 46 → ⊥) → common ITEMS s < 4
        → IsWrongAt IsBehind s (common ITEMS s)
    by_front [] some other less = absurd (omega arith)
    by_front (b ∷ s) some other less = no_items b s other less

pub items_next : (text : List ℕ) (steps : List PathStep) (at : ℕ) → GoesOn IsBehind text steps at
    → common ITEMS (drop at text) ≡ 4 → GoesOn AreNames text (steps ++ AnyItem ∷ []) (at + 4)
items_next text steps at g e = items_read text steps at (drop 4 (drop at text)) g (common_whole ITEMS (drop at text) e)

pub dot_next : (text : List ℕ) (steps : List PathStep) (at : ℕ) → GoesOn IsBehind text steps at
    → 0 < length (drop at text) → get_or (drop at text) 0 0 ≡ 46 → GoesOn AreNames text steps (at + 1)
dot_next text steps at g some e = dot_read text steps at (drop 1 (drop at text)) g (by_front (drop at text) some e)
  where
    by_front : (s : List ℕ) → 0 < length s → get_or s 0 0 ≡ 46 → s ≡ 46 ∷ drop 1 s
    by_front [] some e = absurd (omega arith)
    by_front (b ∷ s) some e = ap (λ x. x ∷ s) e

-- ---- a text is one path

same_behind : (t : List ℕ)
    → ((r : List ℕ) → length r < length t → (a b : List PathStep) → AreNames a r → AreNames b r → a ≡ b)
    → (a b : List PathStep) → IsBehind a t → IsBehind b t → a ≡ b
same_behind t ih a b (ended e is) (ended f js) = e ∙ sym f
same_behind t ih a b (ended e is) (dot r q js) = absurd (cc)
same_behind t ih a b (ended e is) (items o r q f js) = absurd (cc)
same_behind t ih a b (dot r p is) (ended f js) = absurd (cc)
same_behind t ih a b (dot r p is) (dot r2 q js) =
    let same : r2 ≡ r = cc in ih r (omega (arith, ap length is)) a b p (subst (AreNames b) same q)
same_behind t ih a b (dot r p is) (items o r2 q f js) = absurd (apart r (42 ∷ 93 ∷ 46 ∷ r2) (sym is ∙ js))
same_behind t ih a b (items o r p e is) (ended f js) = absurd (cc)
same_behind t ih a b (items o r p e is) (dot r2 q js) = absurd (apart r2 (42 ∷ 93 ∷ 46 ∷ r) (sym js ∙ is))
same_behind t ih a b (items o r p e is) (items o2 r2 q f js) =
    let same : r2 ≡ r = cc in
    let rest : o ≡ o2 = ih r (omega (arith, ap length is)) o o2 p (subst (AreNames o2) same q) in
    e ∙ (ap (λ x. AnyItem ∷ x) rest ∙ sym f)

same_below : (k : ℕ) (s : List ℕ) → length s < k → (a b : List PathStep) → AreNames a s → AreNames b s → a ≡ b
same_below zero s lt a b p q = absurd (omega arith)
same_below (suc k) s lt a b p q =
    let x = parted a s p in
    let y = parted b s q in
    let n = name_size s in
    let long = length-drop n s in
    let inner : x.more ≡ y.more = same_behind (drop n s) (λ r less. same_below k r (omega (arith, x.some)))
    x.more y.more x.behind y.behind in
    x.is ∙ (ap (λ z. step_of (take n s) ∷ z) inner ∙ sym y.is)

same_names : (s : List ℕ) (a b : List PathStep) → AreNames a s → AreNames b s → a ≡ b
same_names s = same_below (suc (length s)) s (omega arith)

pub same_paths : (s : List ℕ) (a b : List PathStep) → IsKeyPath a s → IsKeyPath b s → a ≡ b
same_paths s a b (plain p) (plain q) = same_names s a b p q
same_paths s a b (plain p) (rooted r is q) = absurd (no_dollar r a (subst (AreNames a) is p))
same_paths s a b (plain p) (rooted_dot r is q) = absurd (no_dollar (46 ∷ r) a (subst (AreNames a) is p))
same_paths s a b (rooted r is p) (plain q) = absurd (no_dollar r b (subst (AreNames b) is q))
same_paths s a b (rooted r is p) (rooted r2 js q) =
    let same : r2 ≡ r = cc in same_names r a b p (subst (AreNames b) same q)
same_paths s a b (rooted r is p) (rooted_dot r2 js q) =
    let same : r ≡ 46 ∷ r2 = cc in absurd (no_dot r2 a (subst (AreNames a) same p))
same_paths s a b (rooted_dot r is p) (plain q) = absurd (no_dollar (46 ∷ r) b (subst (AreNames b) is q))
same_paths s a b (rooted_dot r is p) (rooted r2 js q) =
    let same : r2 ≡ 46 ∷ r = cc in absurd (no_dot r b (subst (AreNames b) same q))
same_paths s a b (rooted_dot r is p) (rooted_dot r2 js q) =
    let same : r2 ≡ r = cc in same_names r a b p (subst (AreNames b) same q)
