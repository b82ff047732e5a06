-- What holds of the files of a state.
use Rattle.std.proofs.Common.{◌≡◌, ℕ, zero, suc, ◌<◌, ◌+◌, ◌-◌, ◌^◌, ◌≤◌, min, nat_lt, Bool, true, false, ◌||◌, List, [], ◌∷◌, ◌++◌, length, take, drop, get_or, set, refl, sym, ap, ◌∙◌, subst, arith, add-one, drop-cons, append_assoc, Some, None, Result, Ok, Err, if◌then◌else◌}
use Rattle.std.proofs.lemmas.List.{get_or_default, take_more, take_all, set_split, drop_all}
use Rattle.std.proofs.lemmas.List.Folds.{list_any_more, list_any_at}
use Rattle.std.proofs.lemmas.Bool.Decides.{nat_tests}
use Rattle.std.specs.Prelude.{slice_index_or}
use Rattle.std.specs.List.{list_any}
use Rattle.std.specs.Str.{bytes_eq}
use Rattle.std.specs.Ordering.{match_ordering, nat_cmp, ordering_reverse}
use Rattle.std.specs.Cmp.Lexicographic.{slice_cmp, nat_list_cmp_total}
use Rattle.std.specs.FinMap.{slice_cmp-IsAntisymmetric, nat_cmp-IsAntisymmetric}
use Rattle.std.specs.declared.cmp.Ordering.{Ordering}
use Rattle.std.specs.declared.cmp.Ordering.TheVariants.{Less, Equal, Greater}
use Rattle.rw_base.specs.Arena.{Arena, end_of}
use Rattle.rw_base.specs.declared.leaves.TheConstants.{MOST_BYTES}
use Rattle.rw_base.specs.declared.place.Refused.{Refused}
use Rattle.kept_files.specs.declared.reading.Reading.TheVariants as reading
use Rattle.properties_tree.specs.Layout.{tree_of}
use Rattle.properties_tree.specs.Refusal.{too_large}
use Rattle.kept_files.specs.declared.kind.FileKind.{FileKind}
use Rattle.kept_files.specs.declared.kind.FileKind.TheVariants.{Java, Yaml, Properties, Other}
use Rattle.kept_files.specs.Kinds.{kind_of}
use Rattle.kept_files.specs.Readings.{java_reading, yaml_reading, properties_reading, IsReadAs, IsReading}
use Rattle.kept_files.specs.States.{State, IsBelow, AreKept, put_file, IsKept, EndsAt, file_at, no_file, has_path, held_by, held_bytes, tree_in, properties_in, yaml_in}
use Rattle.kept_files.specs.declared.file.KeptFile.{KeptFile}

-- the file of a number is kept
pub kept_at : (files : State) (i : ℕ) (d : KeptFile) → AreKept files → i < length files → IsKept (slice_index_or files i d)
unfolding AreKept
kept_at [] i d k lt = absurd (omega arith)
kept_at (f ∷ fs) zero d k lt = k.0
kept_at (f ∷ fs) (suc i) d k lt = kept_at fs i d k.1.1 (omega arith)

pub is_at : (files : State) (i : ℕ) (f : KeptFile) → i < length files → slice_index_or files i f ≡ f → f ≡ file_at files i
unfolding file_at
is_at files i f lt e = sym e ∙ get_or_default files i f no_file lt

pub ruleset at_places = (kept_at, is_at)

-- ---- a file is put among those of a state

below_through : (p q : List ℕ) (fs : State) → slice_cmp nat_cmp p q ≡ Less → IsBelow q fs → IsBelow p fs
below_through p q [] e b = tt
below_through p q (f ∷ fs) e b = (nat_list_cmp_total.trans p q f.path e b.0, below_through p q fs e b.1)

below_same : (p q : List ℕ) (fs : State) → p ≡ q → IsBelow q fs → IsBelow p fs
below_same p q fs e b = subst (λ r. IsBelow r fs) (sym e) b

below_by : (p : List ℕ) (g f : KeptFile) (fs more : State) (r : Ordering) → slice_cmp nat_cmp p g.path ≡ Less → slice_cmp nat_cmp p f.path ≡ Less → IsBelow p fs → IsBelow p more → IsBelow p (match_ordering r (g ∷ f ∷ fs) (g ∷ fs) (f ∷ more))
below_by p g f fs more Less e h b c = (e, (h, b))
below_by p g f fs more Equal e h b c = (e, b)
below_by p g f fs more Greater e h b c = (h, c)

below_put : (p : List ℕ) (g : KeptFile) (fs : State) → slice_cmp nat_cmp p g.path ≡ Less → IsBelow p fs → IsBelow p (put_file g fs)
unfolding put_file
below_put p g [] e b = (e, tt)
below_put p g (f ∷ fs) e b = below_by p g f fs (put_file g fs) (slice_cmp nat_cmp g.path f.path) e b.0 b.1 (below_put p g fs e b.1)

kept_by : (g f : KeptFile) (fs more : State) (r : Ordering) → slice_cmp nat_cmp g.path f.path ≡ r → IsKept g → IsKept f → IsBelow f.path fs → AreKept fs → AreKept more → (slice_cmp nat_cmp f.path g.path ≡ Less → IsBelow f.path more) → AreKept (match_ordering r (g ∷ f ∷ fs) (g ∷ fs) (f ∷ more))
unfolding AreKept
kept_by g f fs more Less e rg rf b k m h = (rg, ((e, below_through g.path f.path fs e b), (rf, (b, k))))
kept_by g f fs more Equal e rg rf b k m h = (rg, (below_same g.path f.path fs (slice_cmp-IsAntisymmetric nat_cmp-IsAntisymmetric g.path f.path e) b, k))
kept_by g f fs more Greater e rg rf b k m h = (rf, (h (nat_list_cmp_total.antisymm f.path g.path ∙ ap ordering_reverse e), m))

pub kept_put : (g : KeptFile) (fs : State) → IsKept g → AreKept fs → AreKept (put_file g fs)
unfolding AreKept put_file
kept_put g [] r k = (r, (tt, tt))
kept_put g (f ∷ fs) r k = kept_by g f fs (put_file g fs) (slice_cmp nat_cmp g.path f.path) refl r k.0 k.1.0 k.1.1 (kept_put g fs r k.1.1) (λ e. below_put f.path g fs e k.1.0)

-- ---- where a file goes

abbrev pub GoesOn : KeptFile → State → ℕ → Type 0
GoesOn g files k = put_file g files ≡ take k files ++ put_file g (drop k files)

module _ (g : KeptFile) (files : State) (i : ℕ) where
  cut : (d : KeptFile) → i < length files → drop i files ≡ get_or files i d ∷ drop (i + 1) files
  cut d lt = drop-cons files i d lt ∙ rw add-one refl

  put_cut : (d : KeptFile) → i < length files → GoesOn g files i → put_file g files ≡ take i files ++ put_file g (get_or files i d ∷ drop (i + 1) files)
  put_cut d lt e = e ∙ ap (λ xs. take i files ++ put_file g xs) (cut d lt)

  pub put_greater : (d : KeptFile) → i < length files → GoesOn g files i → slice_cmp nat_cmp g.path (get_or files i d).path ≡ Greater → GoesOn g files (i + 1)
  unfolding put_file
  put_greater d lt e c =
      put_cut d lt e
      ∙ (ap (λ xs. take i files ++ xs) (rw c refl)
      ∙ (sym (append_assoc (take i files) (get_or files i d ∷ []) (put_file g (drop (i + 1) files)))
      ∙ ap (λ xs. xs ++ put_file g (drop (i + 1) files)) (sym (take_more files i d lt))))

  pub put_equal : (d : KeptFile) → i < length files → GoesOn g files i → slice_cmp nat_cmp g.path (get_or files i d).path ≡ Equal → put_file g files ≡ take i files ++ g ∷ drop (i + 1) files
  unfolding put_file
  put_equal d lt e c = put_cut d lt e ∙ ap (λ xs. take i files ++ xs) (rw c refl)

  pub put_less : (d : KeptFile) → i < length files → GoesOn g files i → slice_cmp nat_cmp g.path (get_or files i d).path ≡ Less → put_file g files ≡ take i files ++ g ∷ drop i files
  unfolding put_file
  put_less d lt e c = put_cut d lt e ∙ (ap (λ xs. take i files ++ xs) (rw c refl) ∙ ap (λ xs. take i files ++ g ∷ xs) (sym (cut d lt)))

  pub put_last : length files ≤ i → GoesOn g files i → put_file g files ≡ take i files ++ g ∷ drop i files
  unfolding put_file
  put_last le e = e ∙ ap (λ xs. take i files ++ xs) (ap (put_file g) (drop_all i files le) ∙ ap (λ xs. g ∷ xs) (sym (drop_all i files le)))

  pub put_set : i < length files → put_file g files ≡ take i files ++ g ∷ drop (i + 1) files → set files i g ≡ put_file g files
  put_set lt e = set_split files i g lt ∙ (rw (← add-one) (sym e))

pub ruleset put_steps = (put_greater, put_equal, put_less, put_last)

pub ruleset put_ends = (put_set, set_split, kept_put)

-- ---- whether one of a list passes a test

module _ {A : Type 0} (p : A → Bool) (xs : List A) (i : ℕ) where
  pub any_more : (d : A) → i < length xs → list_any p (take i xs) ≡ false → p (get_or xs i d) ≡ false → list_any p (take (i + 1) xs) ≡ false
  any_more d lt e h = list_any_more p xs i d lt ∙ (ap (λ b. b || p (get_or xs i d)) e ∙ h)

  pub any_here : (d : A) → i < length xs → p (get_or xs i d) ≡ true → true ≡ list_any p xs
  any_here d lt h = sym (list_any_at p xs i d lt h)

  pub any_end : length xs ≤ i → list_any p (take i xs) ≡ false → false ≡ list_any p xs
  any_end le e = sym e ∙ ap (list_any p) (take_all i xs le)

pub has_is : (files : State) (path : List ℕ) → list_any (λ f. bytes_eq f.path path) files ≡ has_path files path
unfolding has_path
has_is files path = refl

pub has_true : (files : State) (path : List ℕ) (i : ℕ) (d : KeptFile) → i < length files → bytes_eq (get_or files i d).path path ≡ true → true ≡ has_path files path
has_true files path i d lt h = any_here (λ f. bytes_eq f.path path) files i d lt h ∙ has_is files path

pub has_false : (files : State) (path : List ℕ) (i : ℕ) → length files ≤ i → list_any (λ f. bytes_eq f.path path) (take i files) ≡ false → false ≡ has_path files path
has_false files path i le e = any_end (λ f. bytes_eq f.path path) files i le e ∙ has_is files path

pub ruleset any_by = (any_more, has_true, has_false)

-- ---- held bytes

cut_at : (fs : State) (i : ℕ) (d : KeptFile) → i < length fs → drop i fs ≡ get_or fs i d ∷ drop (i + 1) fs
cut_at fs i d lt = drop-cons fs i d lt ∙ rw add-one refl

pub held_more : (fs : State) (i h a : ℕ) (d : KeptFile) → i < length fs → min (h + held_bytes (drop i fs)) (2 ^ 64 - 1) ≡ a → min (min (h + held_by (get_or fs i d)) (2 ^ 64 - 1) + held_bytes (drop (i + 1) fs)) (2 ^ 64 - 1) ≡ a
unfolding held_bytes
held_more fs i h a d lt e =
    let c : held_bytes (drop i fs) ≡ held_by (get_or fs i d) + held_bytes (drop (i + 1) fs) = ap held_bytes (cut_at fs i d lt) in
    omega arith

pub held_end : (fs : State) (i h a : ℕ) → length fs ≤ i → h < 2 ^ 64 → min (h + held_bytes (drop i fs)) (2 ^ 64 - 1) ≡ a → h ≡ a
unfolding held_bytes
held_end fs i h a le lt e =
    let c : held_bytes (drop i fs) ≡ 0 = ap held_bytes (drop_all i fs le) in
    omega arith

pub ruleset held = (held_more, held_end)

-- ---- trees that were read

small_or_refused : (b : Bool) (t : Arena) (bytes : List ℕ) → reading.Properties t ≡ (if b then reading.Refused (too_large bytes) else reading.Properties (tree_of bytes)) → t ≡ tree_of bytes
small_or_refused true t bytes e = absurd (cc)
small_or_refused false t bytes e = cc

not_java : (t : Arena) (o : Result Arena Refused) → reading.Properties t ≡ java_reading o → ⊥
not_java t (Ok u) e = absurd (cc)
not_java t (Err r) e = absurd (cc)

not_yaml : (t : Arena) (o : Result Arena Refused) → reading.Properties t ≡ yaml_reading o → ⊥
not_yaml t (Ok u) e = absurd (cc)
not_yaml t (Err r) e = absurd (cc)

tree_by : (k : FileKind) (bytes : List ℕ) (t : Arena) → IsReadAs k bytes (reading.Properties t) → t ≡ tree_of bytes
unfolding IsReadAs properties_reading
tree_by Java bytes t e = absurd (not_java t e.0 e.1.1)
tree_by Yaml bytes t e = absurd (not_yaml t e.0 e.1.1)
tree_by Properties bytes t e = small_or_refused (nat_lt MOST_BYTES (length bytes)) t bytes e
tree_by Other bytes t e = absurd (cc)

is_small : (b : Bool) (t : Arena) (bytes : List ℕ)
    → reading.Properties t ≡ (if b then reading.Refused (too_large bytes) else reading.Properties (tree_of bytes))
    → b ≡ false
is_small true t bytes e = absurd (cc)
is_small false t bytes e = refl

at_most : (a b : ℕ) → nat_lt a b ≡ false → b ≤ a
at_most a b h = grind (arith, nat_tests)

size_by : (k : FileKind) (bytes : List ℕ) (t : Arena) → IsReadAs k bytes (reading.Properties t)
    → length bytes ≤ MOST_BYTES
unfolding IsReadAs properties_reading
size_by Java bytes t e = absurd (not_java t e.0 e.1.1)
size_by Yaml bytes t e = absurd (not_yaml t e.0 e.1.1)
size_by Properties bytes t e =
    at_most MOST_BYTES (length bytes) (is_small (nat_lt MOST_BYTES (length bytes)) t bytes e)
size_by Other bytes t e = absurd (cc)

properties_size : (path bytes : List ℕ) (t : Arena) → IsReading path (Some bytes) (reading.Properties t)
    → length bytes ≤ MOST_BYTES
unfolding IsReading
properties_size path bytes t e = size_by (kind_of path) bytes t e

properties_tree : (path bytes : List ℕ) (t : Arena) → IsReading path (Some bytes) (reading.Properties t) → t ≡ tree_of bytes
unfolding IsReading
properties_tree path bytes t e = tree_by (kind_of path) bytes t e

-- the tree of a properties file is that of its bytes
pub tree_is : (f : KeptFile) (t : Arena) (bytes : List ℕ) → IsKept f → f.reading ≡ reading.Properties t → f.bytes ≡ Some bytes → t ≡ tree_of bytes
tree_is f t bytes k e b = properties_tree f.path bytes t (subst (λ r. IsReading f.path (Some bytes) r) e (subst (λ o. IsReading f.path o f.reading) b k.reading))

pub size_is : (f : KeptFile) (t : Arena) (bytes : List ℕ) → IsKept f → f.reading ≡ reading.Properties t
    → f.bytes ≡ Some bytes → length bytes ≤ MOST_BYTES
size_is f t bytes k e b =
    properties_size f.path bytes t (subst (λ r. IsReading f.path (Some bytes) r) e
    (subst (λ o. IsReading f.path o f.reading) b k.reading))

-- a tree ends where the bytes end
pub ends_at : (f : KeptFile) (t : Arena) (bytes : List ℕ) → IsKept f → f.reading ≡ reading.Yaml t → f.bytes ≡ Some bytes → length bytes ≡ end_of t
ends_at f t bytes k e b = sym (subst (λ r. EndsAt (tree_in r) (Some bytes)) e (subst (λ o. EndsAt (tree_in f.reading) o) b k.whole))

pub properties_are : (f : KeptFile) (t : Arena) (bytes : List ℕ) → f.reading ≡ reading.Properties t → f.bytes ≡ Some bytes → Some (t, bytes) ≡ properties_in f
unfolding properties_in
properties_are f t bytes e b = rw (e, b) refl

pub no_properties : (f : KeptFile) (t : Arena) → f.reading ≡ reading.Properties t → f.bytes ≡ None → None ≡ properties_in f
unfolding properties_in
no_properties f t e b = rw (e, b) refl

pub java_no_properties : (f : KeptFile) (t : Arena) → f.reading ≡ reading.Java t → None ≡ properties_in f
unfolding properties_in
java_no_properties f t e = rw e refl

pub yaml_no_properties : (f : KeptFile) (t : Arena) → f.reading ≡ reading.Yaml t → None ≡ properties_in f
unfolding properties_in
yaml_no_properties f t e = rw e refl

pub unread_no_properties : (f : KeptFile) → f.reading ≡ reading.Unread → None ≡ properties_in f
unfolding properties_in
unread_no_properties f e = rw e refl

pub refused_no_properties : (f : KeptFile) (r : Refused) → f.reading ≡ reading.Refused r → None ≡ properties_in f
unfolding properties_in
refused_no_properties f r e = rw e refl

pub yaml_are : (f : KeptFile) (t : Arena) (bytes : List ℕ) → f.reading ≡ reading.Yaml t → f.bytes ≡ Some bytes → Some (t, bytes) ≡ yaml_in f
unfolding yaml_in
yaml_are f t bytes e b = rw (e, b) refl

pub no_yaml : (f : KeptFile) (t : Arena) → f.reading ≡ reading.Yaml t → f.bytes ≡ None → None ≡ yaml_in f
unfolding yaml_in
no_yaml f t e b = rw (e, b) refl

pub java_no_yaml : (f : KeptFile) (t : Arena) → f.reading ≡ reading.Java t → None ≡ yaml_in f
unfolding yaml_in
java_no_yaml f t e = rw e refl

pub properties_no_yaml : (f : KeptFile) (t : Arena) → f.reading ≡ reading.Properties t → None ≡ yaml_in f
unfolding yaml_in
properties_no_yaml f t e = rw e refl

pub unread_no_yaml : (f : KeptFile) → f.reading ≡ reading.Unread → None ≡ yaml_in f
unfolding yaml_in
unread_no_yaml f e = rw e refl

pub refused_no_yaml : (f : KeptFile) (r : Refused) → f.reading ≡ reading.Refused r → None ≡ yaml_in f
unfolding yaml_in
refused_no_yaml f r e = rw e refl

pub read_as : (f : KeptFile) (t : Arena) → f.reading ≡ reading.Properties t → tree_in f.reading ≡ Some t
read_as f t e = rw e refl

pub read_as_yaml : (f : KeptFile) (t : Arena) → f.reading ≡ reading.Yaml t → tree_in f.reading ≡ Some t
read_as_yaml f t e = rw e refl

pub ruleset trees = (
  tree_is,
  size_is,
  ends_at,
  properties_are,
  no_properties,
  java_no_properties,
  yaml_no_properties,
  unread_no_properties,
  refused_no_properties,
  yaml_are,
  no_yaml,
  java_no_yaml,
  properties_no_yaml,
  unread_no_yaml,
  refused_no_yaml,
  read_as,
  read_as_yaml,
)
