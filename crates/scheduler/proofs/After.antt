-- What is kept stays kept.
use Rattle.std.proofs.Common.{◌≡◌, ℕ, true, false, List, [], ◌∷◌, ◌++◌, refl, sym, ap, ◌∙◌, subst, length, arith}
use Rattle.std.specs.Prelude.{if◌then◌else◌, ◌||◌}
use Rattle.std.specs.Str.{bytes_eq}
use Rattle.std.specs.Ordering.{nat_cmp}
use Rattle.std.specs.Cmp.Lexicographic.{slice_cmp}
use Rattle.std.specs.declared.cmp.Ordering.TheVariants.{Less}
use Rattle.std.proofs.lemmas.Slice.Eq.{bytes_eq-Decides}
use Rattle.kept_files.specs.States.{State, has_path, IsKept, IsBelow, AreKept, put_file}
use Rattle.kept_files.specs.declared.file.KeptFile.{KeptFile}
use Rattle.scheduler.specs.declared.fate.Fate.{Fate}
use Rattle.scheduler.specs.declared.fate.Fate.TheVariants.{Stays, Goes, Lost, Taken, Becomes}
use Rattle.scheduler.specs.Fates.{settled, is_among}
use Rattle.scheduler.specs.Steps.{left_at, left, moved_from, moved, beside, next, put_files, IsFateKept, AreFatesKept, AreAllKept}

-- ---- what goes elsewhere

moved_at_kept : (f : KeptFile) (d : Fate) (rest : State) → IsFateKept d → AreAllKept rest → AreAllKept (moved_from f d ++ rest)
moved_at_kept f Stays rest r k = k
moved_at_kept f Goes rest r k = k
moved_at_kept f (Lost x) rest r k = k
moved_at_kept f Taken rest r k = k
moved_at_kept f (Becomes g) rest r k = elim (bytes_eq g.path f.path) as (λ b. AreAllKept ((if b then [] else g ∷ []) ++ rest)) [ true ↦ k | false ↦ (r, k) ]

moved_kept : (fs : State) (ds : List Fate) → AreFatesKept ds → AreAllKept (moved fs ds)
unfolding beside AreFatesKept
moved_kept [] ds r = tt
moved_kept (f ∷ fs) [] r = tt
moved_kept (f ∷ fs) (d ∷ ds) r = moved_at_kept f d (moved fs ds) r.0 (moved_kept fs ds r.1)

-- ---- what is left at its path

pub left_at_below : (p : List ℕ) (f : KeptFile) (d : Fate) (rest : State) → slice_cmp nat_cmp p f.path ≡ Less → IsBelow p rest → IsBelow p (left_at f d ++ rest)
left_at_below p f Stays rest e b = (e, b)
left_at_below p f Goes rest e b = b
left_at_below p f (Lost x) rest e b = (e, b)
left_at_below p f Taken rest e b = (e, b)
left_at_below p f (Becomes g) rest e b = elim (bytes_eq g.path f.path) as (λ t. bytes_eq g.path f.path ≡ t → IsBelow p ((if t then g ∷ [] else []) ++ rest)) [
  | true ↦ λ same. (subst (λ q. slice_cmp nat_cmp p q ≡ Less) (sym ((bytes_eq-Decides g.path f.path).0 same)) e, b)
  | false ↦ λ other. b
] refl

pub left_below : (p : List ℕ) (fs : State) (ds : List Fate) → IsBelow p fs → IsBelow p (left fs ds)
unfolding beside
left_below p [] ds b = tt
left_below p (f ∷ fs) [] b = tt
left_below p (f ∷ fs) (d ∷ ds) b = left_at_below p f d (left fs ds) b.0 (left_below p fs ds b.1)

left_at_kept : (f : KeptFile) (d : Fate) (rest : State) → IsKept f → IsFateKept d → IsBelow f.path rest → AreKept rest → AreKept (left_at f d ++ rest)
unfolding AreKept
left_at_kept f Stays rest r s b k = (r, (b, k))
left_at_kept f Goes rest r s b k = k
left_at_kept f (Lost x) rest r s b k = (r, (b, k))
left_at_kept f Taken rest r s b k = (r, (b, k))
left_at_kept f (Becomes g) rest r s b k = elim (bytes_eq g.path f.path) as (λ t. bytes_eq g.path f.path ≡ t → AreKept ((if t then g ∷ [] else []) ++ rest)) [
  | true ↦ λ same. (s, (subst (λ q. IsBelow q rest) (sym ((bytes_eq-Decides g.path f.path).0 same)) b, k))
  | false ↦ λ other. k
] refl

left_kept : (fs : State) (ds : List Fate) → AreKept fs → AreFatesKept ds → AreKept (left fs ds)
unfolding beside AreFatesKept AreKept
left_kept [] ds k r = tt
left_kept (f ∷ fs) [] k r = tt
left_kept (f ∷ fs) (d ∷ ds) k r = left_at_kept f d (left fs ds) k.0 r.0 (left_below f.path fs ds k.1.0) (left_kept fs ds k.1.1 r.1)

pub left_is_kept : (files out : State) (ds : List Fate) → AreKept files → AreFatesKept ds → out ≡ left files ds → AreKept out
left_is_kept files out ds k r e = subst AreKept (sym e) (left_kept files ds k r)

pub moved_is_kept : (files out : State) (ds : List Fate) → AreFatesKept ds → out ≡ moved files ds → AreAllKept out
moved_is_kept files out ds r e = subst AreAllKept (sym e) (moved_kept files ds r)

-- ---- one after another is put

module _ (xs gs a b all : State) (g : KeptFile) where
  pub put_more : xs ≡ g ∷ gs → b ≡ put_file g a → put_files xs a ≡ all → put_files gs b ≡ all
  put_more is h e = ap (put_files gs) h ∙ (sym (ap (λ ys. put_files ys a) is) ∙ e)

  pub first_kept : xs ≡ g ∷ gs → AreAllKept xs → IsKept g
  first_kept is k = (subst AreAllKept is k).0

  pub others_kept : xs ≡ g ∷ gs → AreAllKept xs → AreAllKept gs
  others_kept is k = (subst AreAllKept is k).1

pub put_end : (xs a all : State) → xs ≡ [] → put_files xs a ≡ all → a ≡ all
put_end xs a all is e = sym (ap (λ ys. put_files ys a) is) ∙ e

pub put_start : (files xs a : State) (ds : List Fate) → xs ≡ moved files ds → a ≡ left files ds → put_files xs a ≡ next files ds
unfolding next
put_start files xs a ds e h = ap (λ ys. put_files ys a) e ∙ ap (put_files (moved files ds)) h

pub none_left : {A : Type 0} (xs : List A) (n : ℕ) → n ≡ 0 → n ≡ length xs → xs ≡ []
none_left [] n z e = refl
none_left (x ∷ xs) n z e = absurd (omega (arith, z, e))

pub ruleset next_is = (put_start)

-- ---- what is settled has been read

settled_becomes_kept : (stood : State) (taken : List (List ℕ)) (f g : KeptFile) (fs : State) (ds : List Fate) → IsKept g → ((more : List (List ℕ)) → AreFatesKept (settled stood more fs ds)) → AreFatesKept (settled stood taken (f ∷ fs) (Becomes g ∷ ds))
unfolding settled AreFatesKept
settled_becomes_kept stood taken f g fs ds r all = elim (bytes_eq g.path f.path) as (λ b. AreFatesKept (if b then Becomes g ∷ settled stood taken fs ds else if has_path stood g.path || is_among g.path taken then Taken ∷ settled stood taken fs ds else Becomes g ∷ settled stood (taken ++ g.path ∷ []) fs ds)) [
  | true ↦ (r, all taken)
  | false ↦ elim (has_path stood g.path || is_among g.path taken) as (λ b. AreFatesKept (if b then Taken ∷ settled stood taken fs ds else Becomes g ∷ settled stood (taken ++ g.path ∷ []) fs ds)) [
    | true ↦ (tt, all taken)
    | false ↦ (r, all (taken ++ g.path ∷ []))
  ]
]

pub settled_kept : (stood : State) (taken : List (List ℕ)) (fs : State) (ds : List Fate) → AreFatesKept ds → AreFatesKept (settled stood taken fs ds)
unfolding settled AreFatesKept
settled_kept stood taken [] ds r = tt
settled_kept stood taken (f ∷ fs) [] r = tt
settled_kept stood taken (f ∷ fs) (Stays ∷ ds) r = (tt, settled_kept stood taken fs ds r.1)
settled_kept stood taken (f ∷ fs) (Goes ∷ ds) r = (tt, settled_kept stood taken fs ds r.1)
settled_kept stood taken (f ∷ fs) (Lost x ∷ ds) r = (tt, settled_kept stood taken fs ds r.1)
settled_kept stood taken (f ∷ fs) (Taken ∷ ds) r = (tt, settled_kept stood taken fs ds r.1)
settled_kept stood taken (f ∷ fs) (Becomes g ∷ ds) r = settled_becomes_kept stood taken f g fs ds r.0 (λ more. settled_kept stood more fs ds r.1)
