-- Where a text is no text of a form, from one form to another that goes on behind a front.
use Rattle.std.proofs.Common.{◌≡◌, ℕ, ◌+◌, ◌<◌, List, [], ◌∷◌, ◌++◌, length, take, drop, refl, sym, ap}
use Rattle.std.proofs.Common.{subst, ◌∙◌, arith, add-one, append_assoc, length-append}
use Rattle.std.specs.Prelude.{Option, Some, None}
use Rattle.std.proofs.lemmas.List.{take_at, drop_at}
use Rattle.std.proofs.Math.Seq.{take-add}
use Rattle.rw_base.specs.Fronts.{Form, BeginsSome}
use Rattle.yaml_tree.specs.KeyPaths.{IsWrongAt}

-- the first byte, if there is one
abbrev pub first : List ℕ → Option ℕ
first [] = None
first (b ∷ s) = Some b

first_front : (s rest : List ℕ) (n : ℕ) → n < length s → first (take (n + 1) s ++ rest) ≡ first s
first_front [] rest n lt = absurd (omega arith)
first_front (b ∷ s) rest n lt = rw add-one refl

front_taken : (front s : List ℕ) (k n : ℕ) → length front ≡ k → take (k + n) (front ++ s) ≡ front ++ take n s
front_taken front s k n e =
    take-add k n (front ++ s)
    ∙ (ap (λ x. x ++ take n (drop k (front ++ s))) (take_at front s k e)
    ∙ ap (λ x. front ++ take n x) (drop_at front s k e))

-- Behind a front the texts of G are those of F, where what is left begins with the byte with which s begins.
module _ {X Y : Type 0} (F : Form X) (G : Form Y) (front s : List ℕ)
    (up : (x : X) (rest : List ℕ) → F x rest → (y : Y) × G y (front ++ rest))
    (down : (y : Y) (rest : List ℕ) → first rest ≡ first s → G y (front ++ rest) → (x : X) × F x rest)
    (k n : ℕ) (size : length front ≡ k) (w : IsWrongAt F s n) where
  lifted_begins : BeginsSome G (take (k + n) (front ++ s))
  lifted_begins =
      let b = w.longest.begins in
      let g = up b.0 (take n s ++ b.1.0) b.1.1 in
      let same : front ++ (take n s ++ b.1.0) ≡ take (k + n) (front ++ s) ++ b.1.0 =
      sym (append_assoc front (take n s) b.1.0) ∙ ap (λ x. x ++ b.1.0) (sym (front_taken front s k n size)) in
      (g.0, (b.1.0, subst (G g.0) same g.1))

  lifted_ends : k + n < length (front ++ s) → BeginsSome G (take (k + n + 1) (front ++ s)) → ⊥
  lifted_ends lt b =
      let inside : n < length s = omega (arith, length-append front s) in
      let more : k + n + 1 ≡ k + (n + 1) = omega arith in
      let same : take (k + n + 1) (front ++ s) ++ b.1.0 ≡ front ++ (take (n + 1) s ++ b.1.0) =
      ap (λ m. take m (front ++ s) ++ b.1.0) more
      ∙ (ap (λ x. x ++ b.1.0) (front_taken front s k (n + 1) size) ∙ append_assoc front (take (n + 1) s) b.1.0) in
      let f = down b.0 (take (n + 1) s ++ b.1.0) (first_front s b.1.0 n inside) (subst (G b.0) same b.1.1) in
      w.longest.ends inside (f.0, (b.1.0, f.1))

  pub lifted : IsWrongAt G (front ++ s) (k + n)
  lifted = record {
    wrong = λ y g. let f = down y s refl g in w.wrong f.0 f.1;
    longest = record {
      within = omega (arith, length-append front s, w.longest.within);
      begins = lifted_begins;
      ends = lifted_ends;
    };
  }

-- No text of the form begins with the first byte of s, if there is one, and s is none: it is wrong at once.
pub wrong_at_once : {X : Type 0} (F : Form X) (s : List ℕ) → (x : X) (t : List ℕ) → F x t
    → ((y : X) (rest : List ℕ) → first rest ≡ first s → F y rest → ⊥) → IsWrongAt F s 0
wrong_at_once F s x t f none = record {
  wrong = λ y g. none y s refl g;
  longest = record {
    within = omega arith;
    begins = (x, (t, f));
    ends = λ lt b. none b.0 (take (0 + 1) s ++ b.1.0) (first_front s b.1.0 0 lt) b.1.1;
  };
}

-- the texts that begin with a word and go on as texts of a form
abbrev pub behind_word : {X : Type 0} → List ℕ → Form X → Form X
behind_word word F x s = (rest : List ℕ) × ((s ≡ word ++ rest) × F x rest)
