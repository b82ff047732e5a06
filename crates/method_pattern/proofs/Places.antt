-- Where a text is no text of a form, from one form to another.
use Rattle.std.proofs.Common.{◌≡◌, ℕ, zero, suc, ◌+◌, ◌-◌, ◌<◌, ◌≤◌, inl, inr, Bool, true, false, ◌&&◌, List, [], ◌∷◌, ◌++◌, length}
use Rattle.std.proofs.Common.{get_or, take, drop, refl, sym, ap, subst, ◌∙◌, arith, add-one, append_assoc}
use Rattle.std.proofs.Common.{length-append, length-drop}
use Rattle.std.specs.Prelude.{Option, Some, None}
use Rattle.std.specs.List.{list_all}
use Rattle.std.proofs.lemmas.Bool.{and_parts, cases_lt}
use Rattle.std.proofs.lemmas.List.{take_at, drop_at, take-append-le, drop-drop, drop_more, drop_all}
use Rattle.std.proofs.lemmas.List.Folds.{list_all_more}
use Rattle.std.proofs.Math.Seq.{take-add}
use Rattle.rw_base.specs.Fronts.{Form, BeginsSome}
use Rattle.method_pattern.specs.Texts.{IsWrongAt}
use Rattle.method_pattern.specs.Reading.{GoesOn, Ends, IsRunSize}

-- the first byte, if there is one
abbrev pub first : List ℕ → Option ℕ
first [] = None
first (b ∷ s) = Some b

pub first_front : (s rest : List ℕ) (n : ℕ) → n < length s → first (take (n + 1) s ++ rest) ≡ first s
first_front [] rest n lt = absurd (omega arith)
first_front (b ∷ s) rest n lt = rw add-one refl

pub front_taken : (front s : List ℕ) (k n : ℕ) → length front ≡ k → take (k + n) (front ++ s) ≡ front ++ take n s
front_taken front s k n e =
    take-add k n (front ++ s)
    ∙ (ap (λ x. x ++ take n (drop k (front ++ s))) (take_at front s k e)
    ∙ ap (λ x. front ++ take n x) (drop_at front s k e))

-- ---- behind a front

-- Behind a front the texts of G are those of F, where what is left begins with the byte with which s begins.
module _ {X Y : Type 0} (F : Form X) (G : Form Y) (front s : List ℕ)
    (up : (x : X) (rest : List ℕ) → F x rest → (y : Y) × G y (front ++ rest))
    (down : (y : Y) (rest : List ℕ) → first rest ≡ first s → G y (front ++ rest) → (x : X) × F x rest)
    (k n : ℕ) (size : length front ≡ k) (w : IsWrongAt F s n) where
  lifted_begins : BeginsSome G (take (k + n) (front ++ s))
  lifted_begins =
      let b = w.longest.begins in
      let g = up b.0 (take n s ++ b.1.0) b.1.1 in
      let same : front ++ (take n s ++ b.1.0) ≡ take (k + n) (front ++ s) ++ b.1.0 =
      sym (append_assoc front (take n s) b.1.0) ∙ ap (λ x. x ++ b.1.0) (sym (front_taken front s k n size)) in
      (g.0, (b.1.0, subst (G g.0) same g.1))

  lifted_ends : k + n < length (front ++ s) → BeginsSome G (take (k + n + 1) (front ++ s)) → ⊥
  lifted_ends lt b =
      let inside : n < length s = omega (arith, length-append front s) in
      let more : k + n + 1 ≡ k + (n + 1) = omega arith in
      let same : take (k + n + 1) (front ++ s) ++ b.1.0 ≡ front ++ (take (n + 1) s ++ b.1.0) =
      ap (λ m. take m (front ++ s) ++ b.1.0) more
      ∙ (ap (λ x. x ++ b.1.0) (front_taken front s k (n + 1) size) ∙ append_assoc front (take (n + 1) s) b.1.0) in
      let f = down b.0 (take (n + 1) s ++ b.1.0) (first_front s b.1.0 n inside) (subst (G b.0) same b.1.1) in
      w.longest.ends inside (f.0, (b.1.0, f.1))

  pub lifted : IsWrongAt G (front ++ s) (k + n)
  lifted = record {
    wrong = λ y g. let f = down y s refl g in w.wrong f.0 f.1;
    longest = record {
      within = omega (arith, length-append front s, w.longest.within);
      begins = lifted_begins;
      ends = lifted_ends;
    };
  }

-- the same without a front: where the first byte decides for a form
pub chosen : {X Y : Type 0} (F : Form X) (G : Form Y) (s : List ℕ) (n : ℕ)
    → ((x : X) (rest : List ℕ) → F x rest → (y : Y) × G y rest)
    → ((y : Y) (rest : List ℕ) → first rest ≡ first s → G y rest → (x : X) × F x rest)
    → IsWrongAt F s n → IsWrongAt G s n
chosen F G s n up down w = subst (IsWrongAt G s) (omega arith) (lifted F G [] s up down 0 n refl w)

-- ---- at a front

-- Some text of the form has this front, and none goes on with the first byte of s, if there is one, or ends there.
module _ {X : Type 0} (F : Form X) (front s : List ℕ) (k : ℕ) (size : length front ≡ k)
    (x : X) (t : List ℕ) (begins : F x (front ++ t))
    (none : (y : X) (rest : List ℕ) → first rest ≡ first s → F y (front ++ rest) → ⊥) where
  stuck_begins : BeginsSome F (take k (front ++ s))
  stuck_begins = (x, (t, subst (λ f. F x (f ++ t)) (sym (take_at front s k size)) begins))

  stuck_ends : k < length (front ++ s) → BeginsSome F (take (k + 1) (front ++ s)) → ⊥
  stuck_ends lt b =
      let inside : 0 < length s = omega (arith, length-append front s) in
      let same : take (k + 1) (front ++ s) ++ b.1.0 ≡ front ++ (take (0 + 1) s ++ b.1.0) =
      ap (λ f. f ++ b.1.0) (front_taken front s k 1 size) ∙ append_assoc front (take 1 s) b.1.0 in
      none b.0 (take (0 + 1) s ++ b.1.0) (first_front s b.1.0 0 inside) (subst (F b.0) same b.1.1)

  pub stuck : IsWrongAt F (front ++ s) k
  stuck = record {
    wrong = λ y g. none y s refl g;
    longest = record {
      within = omega (arith, length-append front s);
      begins = stuck_begins;
      ends = stuck_ends;
    };
  }

-- ---- runs of bytes

pub ends_alike : (p : ℕ → Bool) (s t : List ℕ) → first s ≡ first t → Ends p t → Ends p s
ends_alike p [] t e h = tt
ends_alike p (b ∷ s) [] e h = absurd (cc)
ends_alike p (b ∷ s) (c ∷ t) e h = let same : b ≡ c = cc in ap p same ∙ h

pub run_taken : (p : ℕ → Bool) (n : ℕ) (s : List ℕ) → list_all p s ≡ true → list_all p (take n s) ≡ true
run_taken p zero s h = refl
run_taken p (suc n) [] h = refl
run_taken p (suc n) (b ∷ s) h =
    let w = and_parts (p b) (list_all p s) h in
    ap (λ v. v && list_all p (take n s)) w.0 ∙ run_taken p n s w.1

pub run_more : (p : ℕ → Bool) (s : List ℕ) (i : ℕ) → i < length s → list_all p (take i s) ≡ true → p (get_or s i 0) ≡ true
    → list_all p (take (i + 1) s) ≡ true
run_more p s i lt run passes =
    list_all_more p s i 0 lt ∙ (ap (λ v. v && p (get_or s i 0)) run ∙ passes)

pub run_stops : (p : ℕ → Bool) (s : List ℕ) (i : ℕ) → i < length s → list_all p (take i s) ≡ true → p (get_or s i 0) ≡ false
    → IsRunSize p s i
run_stops p s i lt run fails = record {
  inside = omega arith;
  run = run;
  ends = subst (Ends p) (sym (drop_more s i 0 lt)) fails;
}

pub run_whole : (p : ℕ → Bool) (s : List ℕ) (i : ℕ) → length s ≡ i → list_all p (take i s) ≡ true → IsRunSize p s (length s)
run_whole p s i is run = record {
  inside = omega arith;
  run = ap (λ n. list_all p (take n s)) is ∙ run;
  ends = subst (Ends p) (sym (drop_all (length s) s (omega arith))) tt;
}

-- a text is cut into a run and what is behind it in one way
pub cut : (p : ℕ → Bool) (o u t v : List ℕ) → list_all p o ≡ true → list_all p u ≡ true → Ends p t → Ends p v
    → o ++ t ≡ u ++ v → (o ≡ u) × (t ≡ v)
cut p [] [] t v a b h k e = (refl, e)
cut p [] (c ∷ u) [] v a b h k e = absurd (cc)
cut p [] (c ∷ u) (d ∷ t) v a b h k e =
    let same : d ≡ c = cc in
    let w = and_parts (p c) (list_all p u) b in
    absurd (let f : true ≡ false = sym w.0 ∙ (ap p (sym same) ∙ h) in cc)
cut p (c ∷ o) [] t [] a b h k e = absurd (cc)
cut p (c ∷ o) [] t (d ∷ v) a b h k e =
    let same : c ≡ d = cc in
    let w = and_parts (p c) (list_all p o) a in
    absurd (let f : true ≡ false = sym w.0 ∙ (ap p same ∙ k) in cc)
cut p (c ∷ o) (d ∷ u) t v a b h k e =
    let heads : c ≡ d = cc in
    let tails : o ++ t ≡ u ++ v = cc in
    let w = and_parts (p c) (list_all p o) a in
    let x = and_parts (p d) (list_all p u) b in
    let r = cut p o u t v w.1 x.1 h k tails in
    ((let front : o ≡ u = r.0 in cc), r.1)

-- a run at the front of a text is a front of the run there
pub front_in : (p : ℕ → Bool) (a r u v : List ℕ) → list_all p a ≡ true → Ends p v → a ++ r ≡ u ++ v
    → (z : List ℕ) × (u ≡ a ++ z)
front_in p [] r u v h k e = (u, refl)
front_in p (c ∷ a) r [] [] h k e = absurd (cc)
front_in p (c ∷ a) r [] (d ∷ v) h k e =
    let same : c ≡ d = cc in
    let w = and_parts (p c) (list_all p a) h in
    absurd (let f : true ≡ false = sym w.0 ∙ (ap p same ∙ k) in cc)
front_in p (c ∷ a) r (d ∷ u) v h k e =
    let heads : c ≡ d = cc in
    let tails : a ++ r ≡ u ++ v = cc in
    let w = and_parts (p c) (list_all p a) h in
    let z = front_in p a r u v w.1 k tails in
    (z.0, (let front : u ≡ a ++ z.0 = z.1 in cc))

-- a text of a form behind which no run goes on
pub record IsCut {X : Type 0} (T : Form X) (p : ℕ → Bool) (s : List ℕ) : Type 0 where
  pub value : X
  pub front : List ℕ
  pub behind : List ℕ
  pub is : s ≡ front ++ behind
  pub form : T value front
  pub ends : Ends p behind

-- Each text of W begins with a run that is a text of T, and each text of T goes on as a text of W: W is wrong where T is.
module _ {X Y : Type 0} (T : Form X) (W : Form Y) (p : ℕ → Bool)
    (runs : (x : X) (o : List ℕ) → T x o → list_all p o ≡ true)
    (split : (y : Y) (s : List ℕ) → W y s → IsCut T p s)
    (up : (x : X) (o : List ℕ) → T x o → (y : Y) × ((r : List ℕ) × W y (o ++ r)))
    (o tail : List ℕ) (run : list_all p o ≡ true) (tail_ends : Ends p tail) where
  -- where a text of W begins with the run and goes on as the tail, the run is a text of T
  pub run_is : (y : Y) (rest : List ℕ) → first rest ≡ first tail → W y (o ++ rest) → (x : X) × T x o
  run_is y rest e h =
      let c = split y (o ++ rest) h in
      let same = cut p o c.front rest c.behind run (runs c.value c.front c.form) (ends_alike p rest tail e tail_ends) c.ends c.is in
      (c.value, subst (T c.value) (sym same.0) c.form)

  widened_begins : (m : ℕ) → IsWrongAt T o m → BeginsSome W (take m (o ++ tail))
  widened_begins m w =
      let b = w.longest.begins in
      let u = up b.0 (take m o ++ b.1.0) b.1.1 in
      let fits : m ≤ length o = w.longest.within in
      let same : (take m o ++ b.1.0) ++ u.1.0 ≡ take m (o ++ tail) ++ (b.1.0 ++ u.1.0) =
      append_assoc (take m o) b.1.0 u.1.0 ∙ ap (λ f. f ++ (b.1.0 ++ u.1.0)) (sym (take-append-le m o tail fits)) in
      (u.0, (b.1.0 ++ u.1.0, subst (W u.0) same u.1.1))

  inside_ends : (m : ℕ) → m < length o → IsWrongAt T o m → BeginsSome W (take (m + 1) (o ++ tail)) → ⊥
  inside_ends m lt w b =
      let fits : m + 1 ≤ length o = omega arith in
      let same : take (m + 1) (o ++ tail) ++ b.1.0 ≡ take (m + 1) o ++ b.1.0 =
      ap (λ f. f ++ b.1.0) (take-append-le (m + 1) o tail fits) in
      let c = split b.0 (take (m + 1) o ++ b.1.0) (subst (W b.0) same b.1.1) in
      let z = front_in p (take (m + 1) o) b.1.0 c.front c.behind (run_taken p (m + 1) o run) c.ends c.is in
      w.longest.ends lt (c.value, (z.0, subst (T c.value) z.1 c.form))

  behind_ends : (m : ℕ) → m ≡ length o → m < length (o ++ tail) → IsWrongAt T o m
      → BeginsSome W (take (m + 1) (o ++ tail)) → ⊥
  behind_ends m is lt w b =
      let inside : 0 < length tail = omega (arith, length-append o tail) in
      let same : take (m + 1) (o ++ tail) ++ b.1.0 ≡ o ++ (take (0 + 1) tail ++ b.1.0) =
      ap (λ f. f ++ b.1.0) (front_taken o tail m 1 (sym is)) ∙ append_assoc o (take 1 tail) b.1.0 in
      let t = run_is b.0 (take (0 + 1) tail ++ b.1.0) (first_front tail b.1.0 0 inside) (subst (W b.0) same b.1.1) in
      w.wrong t.0 t.1

  pub widened : (m : ℕ) → IsWrongAt T o m → IsWrongAt W (o ++ tail) m
  widened m w = record {
    wrong = λ y h. let t = run_is y tail refl h in w.wrong t.0 t.1;
    longest = record {
      within = omega (arith, length-append o tail, w.longest.within);
      begins = widened_begins m w;
      ends = λ lt b. elim (cases_lt m (length o)) [
        | inl inner ↦ inside_ends m inner w b
        | inr outer ↦ behind_ends m (omega (arith, w.longest.within)) lt w b
      ];
    };
  }

-- ---- going on

pub begun_reading : {X : Type 0} (F : Form X) (text : List ℕ) → GoesOn F F (λ x. x) text 0
begun_reading F text = record {
  inside = omega arith;
  value = λ x h. h;
  fault = λ n w. subst (IsWrongAt F text) (omega arith) w;
}

-- The texts of F behind a front are those of G: where F is left, G is left behind it.
pub goes_on : {X Y Z : Type 0} (W : Form Z) (F : Form Y) (G : Form X) (join : Y → Z) (more : X → Y) (text : List ℕ) (at : ℕ)
    → GoesOn W F join text at → (front s : List ℕ) → drop at text ≡ front ++ s
    → ((x : X) (rest : List ℕ) → G x rest → F (more x) (front ++ rest))
    → ((y : Y) (rest : List ℕ) → first rest ≡ first s → F y (front ++ rest) → (x : X) × G x rest)
    → (k : ℕ) → length front ≡ k → GoesOn W G (λ x. join (more x)) text (at + k)
goes_on W F G join more text at g front s is up down k size =
    let left : drop (at + k) text ≡ s = sym (drop-drop k at text) ∙ (ap (drop k) is ∙ drop_at front s k size) in
    let long = length-drop at text in
    let both = ap length is ∙ length-append front s in
    record {
      inside = omega (arith, g.inside);
      value = λ x h.
          let inner : F (more x) (drop at text) = subst (F (more x)) (sym is) (up x s (subst (G x) left h)) in
          g.value (more x) inner;
      fault = λ n wrong.
          let inner : IsWrongAt F (drop at text) (k + n) =
          subst (λ x. IsWrongAt F x (k + n)) (sym is)
          (lifted G F front s (λ x rest h. (more x, up x rest h)) down k n size
          (subst (λ x. IsWrongAt G x n) left wrong)) in
          subst (IsWrongAt W text) (omega arith) (g.fault (k + n) inner);
    }

pub rejoined : {X Y : Type 0} (W : Form Y) (F : Form X) (j k : X → Y) (text : List ℕ) (at : ℕ) → GoesOn W F j text at
    → ((x : X) → j x ≡ k x) → GoesOn W F k text at
rejoined W F j k text at g same = record {
  inside = g.inside;
  value = λ x h. subst (λ y. W y text) (same x) (g.value x h);
  fault = g.fault;
}

-- ---- slices as the code cuts them

pub slice_is : (text : List ℕ) (at n : ℕ) → take (at + n - at) (drop at text) ≡ take n (drop at text)
slice_is text at n = let same : at + n - at ≡ n = omega arith in ap (λ k. take k (drop at text)) same

pub first_at : (s : List ℕ) (n : ℕ) → n < length s → first (drop n s) ≡ Some (get_or s n 0)
first_at s n lt = ap first (drop_more s n 0 lt)
