-- How the answers of rows grow with one row more.
use Rattle.std.proofs.Common.{◌≡◌, ◌∙◌, refl, sym, ap, subst, ℕ, List, [], ◌∷◌, ◌++◌, Bool, true, false, ◌&&◌, Option, None, Some}
use Rattle.std.proofs.Common.{if◌then◌else◌, filter, map, append-nil, ◌+◌, ◌<◌, suc, length, get_or, take, drop}
use Rattle.std.specs.List.{flat_map, AllByRecursion as EachIs}
use Rattle.std.proofs.Math.Seq.{drop-cons}
use Rattle.std.proofs.lemmas.Grind.{flat_map-append}
use Rattle.std.proofs.lemmas.List.{map-append, take-append-drop, take-map, take_more, get_or-map, length-map}
use Rattle.dialogue.specs.Dialogue.{run}
use Rattle.std.proofs.lemmas.List.Elements.{filter-append}
use Rattle.indexmap.specs.IndexMap.{IndexMap, get}
use Rattle.jtypes.specs.World.{World, name_eq, first, world_of}
use Rattle.jtypes.specs.declared.ask.Ask.TheVariants.{Class, Field, Methods}
use Rattle.jtypes.specs.declared.signatures.FieldSig.{FieldSig}
use Rattle.jtypes.specs.declared.signatures.Header.{Header}
use Rattle.jtypes.specs.declared.signatures.MethodSig.{MethodSig}
use Rattle.declared_types.specs.Signatures.{fields_of, methods_of}
use Rattle.declared_types.specs.declared.written.DeclaredType.{DeclaredType}
use Rattle.class_world.specs.Once.{is_declared, NamesDiffer}
use Rattle.class_world.specs.Worlds.{fields_in, methods_in}
use Rattle.class_world.specs.Rows.{IsRow, header_of, field_of_row, methods_of_row, field_at, methods_at, rows_world}
use Rattle.class_world.specs.declared.row.ClassRow.{ClassRow}
use Rattle.class_world.proofs.FirstNamed.{first-front, first-nil}
use Rattle.class_world.proofs.Names.{same_names}
use Rattle.class_world.proofs.OneMore.{or_false, new_behind}
use Rattle.class_world.proofs.Owned.{fields_owned, methods_owned}
use Rattle.class_world.proofs.Worlds.{worlds_same}

-- members of one owner, among those of another
module _ {A : Type 0} (owner name : A → List ℕ) (o n : List ℕ) (own : List ℕ) where
  abbrev asked_for : A → Bool
  asked_for x = name_eq (owner x) o && name_eq (name x) n

  pub filter-own : name_eq own o ≡ true → (xs : List A) → EachIs (λ x. owner x ≡ own) xs
      → filter asked_for xs ≡ filter (λ x. name_eq (name x) n) xs
  filter-own e [] h = refl
  filter-own e (x ∷ xs) h =
      ap (λ b. if b && name_eq (name x) n then x ∷ filter asked_for xs else filter asked_for xs) (ap (λ p. name_eq p o) h.0 ∙ e)
      ∙ ap (λ ys. if name_eq (name x) n then x ∷ ys else ys) (filter-own e xs h.1)

  pub filter-foreign : name_eq own o ≡ false → (xs : List A) → EachIs (λ x. owner x ≡ own) xs → filter asked_for xs ≡ []
  filter-foreign e [] h = refl
  filter-foreign e (x ∷ xs) h =
      ap (λ b. if b && name_eq (name x) n then x ∷ filter asked_for xs else filter asked_for xs) (ap (λ p. name_eq p o) h.0 ∙ e)
      ∙ filter-foreign e xs h.1

abbrev fields_at : List ℕ → List ℕ → List FieldSig → List FieldSig
fields_at o n xs = filter (λ f. name_eq f.owner o && name_eq f.name n) xs

abbrev methods_named : List ℕ → List ℕ → List MethodSig → List MethodSig
methods_named o n xs = filter (λ m. name_eq m.owner o && name_eq m.name n) xs

no_row : (r : Option ClassRow) → header_of r ≡ None → r ≡ None
no_row None e = refl
no_row (Some r) e = absurd (let h : Some r.header ≡ None = e in cc)

module _ {S : Type 0} (old new : IndexMap (List ℕ) ClassRow S) (row : ClassRow) (h : Header) (fs gs : List FieldSig)
    (ms ns : List MethodSig) (hs : List Header) (is : IsRow row h gs ns)
    (put : (n : List ℕ) → get name_eq new n ≡ (if name_eq row.header.name n then Some row else get name_eq old n))
    (before : rows_world old ≡ world_of hs fs ms) (absent : first (filter (λ k. name_eq k.name h.name) hs) ≡ None)
    (own_fields : EachIs (λ f. f.owner ≡ h.name) gs) (own_methods : EachIs (λ m. m.owner ≡ h.name) ns) where
  put_here : (n : List ℕ) → name_eq h.name n ≡ true → get name_eq new n ≡ Some row
  put_here n e = put n ∙ ap (λ b. if b then Some row else get name_eq old n) (ap (λ k. name_eq k.name n) is.head ∙ e)

  put_else : (n : List ℕ) → name_eq h.name n ≡ false → get name_eq new n ≡ get name_eq old n
  put_else n e = put n ∙ ap (λ b. if b then Some row else get name_eq old n) (ap (λ k. name_eq k.name n) is.head ∙ e)

  none_before : (n : List ℕ) → name_eq h.name n ≡ true → first (filter (λ k. name_eq k.name n) hs) ≡ None
  none_before n e = subst (λ m. first (filter (λ k. name_eq k.name m) hs) ≡ None) (same_names h.name n e) absent

  no_row_before : (n : List ℕ) → name_eq h.name n ≡ true → get name_eq old n ≡ None
  no_row_before n e = no_row (get name_eq old n) (ap (λ w. w (Class n)) before ∙ none_before n e)

  class_more : (n : List ℕ) → header_of (get name_eq new n) ≡ first (filter (λ k. name_eq k.name n) (hs ++ h ∷ []))
  class_more n = by_test (name_eq h.name n) refl
    where
      split : first (filter (λ k. name_eq k.name n) (hs ++ h ∷ []))
          ≡ first (filter (λ k. name_eq k.name n) hs ++ filter (λ k. name_eq k.name n) (h ∷ []))
      split = ap first (filter-append (λ k. name_eq k.name n) hs (h ∷ []))

      by_test : (b : Bool) → name_eq h.name n ≡ b
          → header_of (get name_eq new n) ≡ first (filter (λ k. name_eq k.name n) (hs ++ h ∷ []))
      by_test true e =
          ap header_of (put_here n e) ∙ ap Some is.head
          ∙ sym (split ∙ first-front _ _ (none_before n e) ∙ ap (λ b. first (if b then h ∷ [] else [])) e)
      by_test false e =
          ap header_of (put_else n e) ∙ ap (λ w. w (Class n)) before
          ∙ sym (split ∙ first-nil _ _ (ap (λ b. if b then h ∷ [] else []) e))

  field_more : (o n : List ℕ) → field_of_row (get name_eq new o) n
      ≡ first (filter (λ f. name_eq f.owner o && name_eq f.name n) (fs ++ gs))
  field_more o n = by_test (name_eq h.name o) refl
    where
      split : first (fields_at o n (fs ++ gs)) ≡ first (fields_at o n fs ++ fields_at o n gs)
      split = ap first (filter-append (λ f. name_eq f.owner o && name_eq f.name n) fs gs)

      by_test : (b : Bool) → name_eq h.name o ≡ b → field_of_row (get name_eq new o) n ≡ first (fields_at o n (fs ++ gs))
      by_test true e =
          let none : first (fields_at o n fs) ≡ None =
          sym (ap (λ w. w (Field o n)) before) ∙ ap (λ r. field_of_row r n) (no_row_before o e) in
          ap (λ r. field_of_row r n) (put_here o e) ∙ is.each_field n
          ∙ sym (split ∙ first-front _ _ none ∙ ap first (filter-own (λ f. f.owner) (λ f. f.name) o n h.name e gs own_fields))
      by_test false e =
          ap (λ r. field_of_row r n) (put_else o e) ∙ ap (λ w. w (Field o n)) before
          ∙ sym (split ∙ first-nil _ _ (filter-foreign (λ f. f.owner) (λ f. f.name) o n h.name e gs own_fields))

  methods_more : (o n : List ℕ) → methods_of_row (get name_eq new o) n
      ≡ filter (λ m. name_eq m.owner o && name_eq m.name n) (ms ++ ns)
  methods_more o n = by_test (name_eq h.name o) refl
    where
      split : methods_named o n (ms ++ ns) ≡ methods_named o n ms ++ methods_named o n ns
      split = filter-append (λ m. name_eq m.owner o && name_eq m.name n) ms ns

      by_test : (b : Bool) → name_eq h.name o ≡ b → methods_of_row (get name_eq new o) n ≡ methods_named o n (ms ++ ns)
      by_test true e =
          let none : methods_named o n ms ≡ [] =
          sym (ap (λ w. w (Methods o n)) before) ∙ ap (λ r. methods_of_row r n) (no_row_before o e) in
          ap (λ r. methods_of_row r n) (put_here o e) ∙ is.each_method n
          ∙ sym (split ∙ ap (λ xs. xs ++ methods_named o n ns) none
          ∙ filter-own (λ m. m.owner) (λ m. m.name) o n h.name e ns own_methods)
      by_test false e =
          ap (λ r. methods_of_row r n) (put_else o e) ∙ ap (λ w. w (Methods o n)) before
          ∙ sym (split ∙ ap (λ xs. methods_named o n ms ++ xs) (filter-foreign (λ m. m.owner) (λ m. m.name) o n h.name e ns own_methods)
          ∙ append-nil (methods_named o n ms))

  pub rows_more : rows_world new ≡ world_of (hs ++ h ∷ []) (fs ++ gs) (ms ++ ns)
  rows_more = worlds_same (rows_world new) (world_of (hs ++ h ∷ []) (fs ++ gs) (ms ++ ns)) class_more field_more methods_more

-- ---- in a list of declared types

none_of : (g : DeclaredType → Header) → ((d : DeclaredType) → (g d).name ≡ d.name) → (n : List ℕ) (ds : List DeclaredType)
    → is_declared n ds ≡ false → first (filter (λ k. name_eq k.name n) (map g ds)) ≡ None
none_of g same n [] e = refl
none_of g same n (d ∷ ds) e =
    let both = or_false (name_eq d.name n) (is_declared n ds) e in
    let rest : List Header = filter (λ k. name_eq k.name n) (map g ds) in
    ap (λ b. first (if b then g d ∷ rest else rest)) (ap (λ k. name_eq k n) (same d) ∙ both.0)
    ∙ none_of g same n ds both.1

module _ {S : Type 0} (old new : IndexMap (List ℕ) ClassRow S) (row : ClassRow) (w : World) (all : List DeclaredType)
    (g : DeclaredType → Header) (same : (d : DeclaredType) → (g d).name ≡ d.name) (headers : List Header)
    (are : headers ≡ map g all) (differ : NamesDiffer all) (i : ℕ) (lt : i < length all) (d : DeclaredType)
    (at : d ≡ get_or all i d) (h : Header) (at_header : h ≡ get_or headers i h)
    (is : IsRow row h (run (fields_of d) w) (run (methods_of d) w))
    (put : (n : List ℕ) → get name_eq new n ≡ (if name_eq row.header.name n then Some row else get name_eq old n))
    (before : rows_world old ≡ world_of (take i headers) (fields_in w (take i all)) (methods_in w (take i all))) where
  header_is : h ≡ g d
  header_is = at_header ∙ ap (λ hs. get_or hs i h) are ∙ get_or-map g all i d h lt ∙ ap g (sym at)

  same_name : d.name ≡ h.name
  same_name = sym (same d) ∙ ap (λ k. k.name) (sym header_is)

  types_more : take (i + 1) all ≡ take i all ++ d ∷ []
  types_more = take_more all i d lt ∙ ap (λ x. take i all ++ x ∷ []) (sym at)

  headers_before : take i headers ≡ map g (take i all)
  headers_before = ap (λ hs. take i hs) are ∙ take-map g i all

  headers_more : take (i + 1) headers ≡ take i headers ++ h ∷ []
  headers_more = take_more headers i h within ∙ ap (λ x. take i headers ++ x ∷ []) (sym at_header)
    where
      within : i < length headers
      within = subst (λ n. i < n) (sym (ap length are ∙ length-map all g)) lt

  fields_more : fields_in w (take (i + 1) all) ≡ fields_in w (take i all) ++ run (fields_of d) w
  fields_more =
      ap (λ ds. fields_in w ds) types_more
      ∙ flat_map-append (λ x. run (fields_of x) w) (take i all) (d ∷ [])
      ∙ ap (λ xs. fields_in w (take i all) ++ xs) (append-nil (run (fields_of d) w))

  methods_of_more : methods_in w (take (i + 1) all) ≡ methods_in w (take i all) ++ run (methods_of d) w
  methods_of_more =
      ap (λ ds. methods_in w ds) types_more
      ∙ flat_map-append (λ x. run (methods_of x) w) (take i all) (d ∷ [])
      ∙ ap (λ xs. methods_in w (take i all) ++ xs) (append-nil (run (methods_of d) w))

  absent : first (filter (λ k. name_eq k.name h.name) (take i headers)) ≡ None
  absent =
      let split : all ≡ take i all ++ d ∷ drop (suc i) all =
      sym (take-append-drop i all)
      ∙ ap (λ ys. take i all ++ ys) (drop-cons all i d lt ∙ ap (λ x. x ∷ drop (suc i) all) (sym at)) in
      let free : is_declared d.name (take i all) ≡ false =
      new_behind (take i all) (drop (suc i) all) d (subst NamesDiffer split differ) in
      ap (λ hs. first (filter (λ k. name_eq k.name h.name) hs)) headers_before
      ∙ none_of g same h.name (take i all) (subst (λ n. is_declared n (take i all) ≡ false) same_name free)

  pub row_step : rows_world new
      ≡ world_of (take (i + 1) headers) (fields_in w (take (i + 1) all)) (methods_in w (take (i + 1) all))
  row_step =
      rows_more old new row h (fields_in w (take i all)) (run (fields_of d) w) (methods_in w (take i all))
      (run (methods_of d) w) (take i headers) is put before absent
      (subst (λ n. EachIs (λ (f : FieldSig). f.owner ≡ n) (run (fields_of d) w)) same_name (fields_owned d w))
      (subst (λ n. EachIs (λ (m : MethodSig). m.owner ≡ n) (run (methods_of d) w)) same_name (methods_owned d w))
      ∙ sym (ap (λ hs. world_of hs (fields_in w (take (i + 1) all)) (methods_in w (take (i + 1) all))) headers_more
      ∙ ap (λ fs. world_of (take i headers ++ h ∷ []) fs (methods_in w (take (i + 1) all))) fields_more
      ∙ ap (λ ms. world_of (take i headers ++ h ∷ []) (fields_in w (take i all) ++ run (fields_of d) w) ms) methods_of_more)
