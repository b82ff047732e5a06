-- Edits of leaves in the entries that a key path finds: they fit the tree.
use Rattle.std.proofs.Common.{◌≡◌, ℕ, zero, suc, ◌+◌, ◌<◌, ◌≤◌, ◌==◌, ◌&&◌, Bool, true, false, List, [], ◌∷◌, ◌++◌, length, map, refl, sym, ap, subst, ◌∙◌, append_assoc, arith}
use Rattle.std.specs.Prelude.{Option, Some, None, IfSome, All, if◌then◌else◌}
use Rattle.std.specs.List.{flat_map}
use Rattle.std.proofs.lemmas.List.Elements.{All-nil, All-cons}
use Rattle.rw_base.specs.declared.edit.Edit.{Edit}
use Rattle.rw_base.specs.declared.edit.Item.TheVariants as item
use Rattle.rw_base.specs.declared.edit.Spot.{Spot}
use Rattle.rw_base.specs.declared.edit.Spot.TheVariants as spot
use Rattle.rw_base.specs.declared.tree.NodeId.{NodeId}
use Rattle.rw_base.specs.Arena.{Arena, IsTree, kind_of, first_of, past_of}
use Rattle.rw_base.specs.Trees.{Numbered, none, leaf, node}
use Rattle.rw_base.specs.Laid.{kids_of}
use Rattle.rw_base.specs.NewText.{IsSpot, IsItemOf, AreRanked, AreEdits}
use Rattle.rw_base.specs.RankedEdits.{ranked_are_edits}
use Rattle.rw_grammar.specs.Results.{class_in}
use Rattle.kept_files.specs.FileEdits.{with_edits, FitTree, FitsFile}
use Rattle.kept_files.specs.States.{tree_in}
use Rattle.kept_files.specs.declared.file.KeptFile.{KeptFile}
use Rattle.rw_host.specs.declared.file.FileEdit.{FileEdit}
use Rattle.yaml_lex.specs.declared.class.TheConstants.{FSCALAR}
use Rattle.yaml_tree.specs.declared.entry.EntryView.{EntryView}
use Rattle.yaml_tree.specs.Entries.{behind, leaf_first, node_first, of_class, lone_scalar, key_in, with_key}
use Rattle.conf_recipes.specs.YamlLeaves.{entry_at, text_at}
use Rattle.conf_recipes.proofs.YamlSpans.{IsLaid, laid_rises, laid_behind, node_laid, AreFound}

-- edits of leaves rise by the numbers of the leaves
abbrev pub leaf_rank : Spot → ℕ
leaf_rank (spot.Leaf i) = i
leaf_rank (spot.Node n) = 0

-- the kinds of entries, of items of flow collections, and of their contents
abbrev ENTRY : ℕ
ENTRY = 5

abbrev FITEM : ℕ
FITEM = 9

abbrev FCONTENT : ℕ
FCONTENT = 11

module _ (t : Arena) where
  -- edits of the tree, of leaves one behind another, from one to before another
  abbrev pub AreWritten : ℕ → List Edit → ℕ → Type 0
  AreWritten a [] b = a ≤ b
  AreWritten a (e ∷ es) b =
      (a ≤ leaf_rank e.spot) × IsSpot t e.spot × All (IsItemOf t e.spot) e.items
      × AreWritten (leaf_rank e.spot + 1) es b

  pub written_earlier : (a c : ℕ) (es : List Edit) (b : ℕ) → a ≤ c → AreWritten c es b → AreWritten a es b
  written_earlier a c [] b le h = omega (arith, le, h)
  written_earlier a c (e ∷ es) b le h = (omega (arith, le, h.0), h.1, h.2, h.3)

  pub written_both : (a : ℕ) (es : List Edit) (c : ℕ) (fs : List Edit) (b : ℕ) → AreWritten a es c
      → AreWritten c fs b → AreWritten a (es ++ fs) b
  written_both a [] c fs b h g = written_earlier a c fs b h g
  written_both a (e ∷ es) c fs b h g = (h.0, h.1, h.2, written_both (leaf_rank e.spot + 1) es c fs b h.3 g)

  pub one_written : (a i : ℕ) (text : List ℕ) (b : ℕ) → a ≤ i → i < length t.leaves → i < b
      → AreWritten a (text_at i text ∷ []) b
  one_written a i text b after inside before = (
    after,
    inside,
    All-cons (IsItemOf t (spot.Leaf i)) (item.Text text) [] tt (All-nil (IsItemOf t (spot.Leaf i))),
    omega (arith, before),
  )

  written_ranked : (a : ℕ) (es : List Edit) (b : ℕ) → AreWritten a es b → AreRanked t leaf_rank a es
  unfolding AreRanked
  written_ranked a [] b h = tt
  written_ranked a (e ∷ es) b h = (h.0, h.1, h.2, written_ranked (leaf_rank e.spot + 1) es b h.3)

  pub written_are_edits : (a : ℕ) (es : List Edit) (b : ℕ) → AreWritten a es b → AreEdits t es
  written_are_edits a es b h = ranked_are_edits t leaf_rank a es (written_ranked a es b h)

  -- ---- entries

  pub record IsValueIn (a b : ℕ) (m : NodeId) : Type 0 where
    pub inside : m.0 < length t.nodes
    pub first : a ≤ first_of t.nodes m.0
    pub past : past_of t.nodes m.0 ≤ b

  -- an entry's key and value lie from one leaf to before another
  pub record IsEntryIn (a b : ℕ) (e : EntryView) : Type 0 where
    pub first : a ≤ e.key_leaf
    pub inside : e.key_leaf < length t.leaves
    pub past : e.key_leaf < b
    pub value : IfSome e.value (IsValueIn a b)

  value_in : (a c : ℕ) (g : Numbered) (b : ℕ) → a ≤ c → IsLaid t c g b → IfSome (node_first g) (IsValueIn a b)
  value_in a c none b le h = tt
  value_in a c (leaf l f) b le h = tt
  value_in a c (node n kind kids f) b le h = record {
    inside = h.0.inside;
    first = omega (arith, le, h.0.first);
    past = laid_rises t (past_of t.nodes n) f b h.2;
  }

  -- a key is the first leaf
  pub record IsFirst (a b key : ℕ) : Type 0 where
    pub here : key ≡ a
    pub inside : a < length t.leaves
    pub past : a < b

  first_leaf : (kids : Numbered) (a b key : ℕ) → IsLaid t a kids b → leaf_first kids ≡ Some key → IsFirst a b key
  first_leaf none a b key h e = absurd (cc)
  first_leaf (node n kind kids f) a b key h e = absurd (cc)
  first_leaf (leaf l f) a b key h e =
      let same : l ≡ key = cc in
      record { here = sym same ∙ h.0; inside = h.1; past = omega (arith, laid_rises t (a + 1) f b h.2) }

  module _ (class : ℕ → ℕ) where
    scalar_leaf : (o : Option ℕ) (key : ℕ) → of_class class FSCALAR o ≡ Some key → o ≡ Some key
    scalar_leaf None key e = absurd (cc)
    scalar_leaf (Some l) key e = by_test (class l == FSCALAR) e
      where
        by_test : (b : Bool) → (if b then Some l else None) ≡ Some key → Some l ≡ Some key
        by_test true e = e
        by_test false e = absurd (cc)

    lone_first : (kids : Numbered) (a b key : ℕ) → IsLaid t a kids b → lone_scalar class kids ≡ Some key
        → IsFirst a b key
    lone_first none a b key h e = absurd (cc)
    lone_first (leaf l f) a b key h e = absurd (cc)
    lone_first (node n kind kids f) a b key h e = by_test (kind == FCONTENT) e
      where
        inner : IsFirst a (past_of t.nodes n) key → IsFirst a b key
        inner is = record {
          here = is.here;
          inside = is.inside;
          past = omega (arith, is.past, laid_rises t (past_of t.nodes n) f b h.2);
        }

        by_test : (c : Bool) → (if c then of_class class FSCALAR (leaf_first kids) else None) ≡ Some key
            → IsFirst a b key
        by_test true e = inner (first_leaf kids a (past_of t.nodes n) key h.1
            (scalar_leaf (leaf_first kids) key e))
        by_test false e = absurd (cc)

    pub key_first : (kind : ℕ) (kids : Numbered) (a b key : ℕ) → IsLaid t a kids b
        → key_in class true kind kids ≡ Some key → IsFirst a b key
    key_first kind kids a b key h e = by_tests (kind == ENTRY) (kind == FITEM) e
      where
        by_tests : (c d : Bool)
            → (if c then leaf_first kids else if true && d then lone_scalar class kids else None) ≡ Some key
            → IsFirst a b key
        by_tests true d e = first_leaf kids a b key h e
        by_tests false true e = lone_first kids a b key h e
        by_tests false false e = absurd (cc)

  -- ---- what is written at entries

  module _ (pick : EntryView → List Edit)
      (fits : (a b : ℕ) (e : EntryView) → a ≤ b → IsEntryIn a b e → AreWritten a (pick e) b) where
    one_entry : (class : ℕ → ℕ) (n kind : ℕ) (kids : Numbered) (a b : ℕ) → IsLaid t a kids b → (o : Option ℕ)
        → key_in class true kind kids ≡ o → AreWritten a (flat_map pick (with_key class n kind kids o)) b
    one_entry class n kind kids a b h None e = laid_rises t a kids b h
    one_entry class n kind kids a b h (Some key) e =
        let is = key_first class kind kids a b key h e in
        let more = laid_behind t 2 a kids b h in
        let here = is.here in
        let past = is.past in
        let rises : a ≤ b = laid_rises t a kids b h in
        written_both a (pick _) b [] b
        (fits a b _ rises (record {
          first = omega (arith, here);
          inside = subst (λ k. k < length t.leaves) (sym here) is.inside;
          past = omega (arith, here, past);
          value = value_in a more.0 (behind 2 kids) b more.1 more.2;
        }))
        (omega arith)

    pub entries_written : IsTree t → (a : ℕ) (ns : List NodeId) (b : ℕ) → AreFound t a ns b
        → AreWritten a (flat_map pick (flat_map (entry_at t) ns)) b
    entries_written tree a [] b h = h
    entries_written tree a (n ∷ ns) b h =
        subst (λ es. AreWritten a es b) (sym (flat_both (entry_at t n) (flat_map (entry_at t) ns)))
        (written_earlier a (first_of t.nodes n.0)
        (flat_map pick (entry_at t n) ++ flat_map pick (flat_map (entry_at t) ns)) b h.0
        (written_both (first_of t.nodes n.0) (flat_map pick (entry_at t n)) (past_of t.nodes n.0)
        (flat_map pick (flat_map (entry_at t) ns)) b
        (one_entry (class_in t.leaves) n.0 (kind_of t.nodes n.0) (kids_of t.nodes n.0) (first_of t.nodes n.0)
        (past_of t.nodes n.0) (node_laid t tree n.0 h.1)
        (key_in (class_in t.leaves) true (kind_of t.nodes n.0) (kids_of t.nodes n.0)) refl)
        (entries_written tree (past_of t.nodes n.0) ns b h.2)))
      where
        flat_both : (xs ys : List EntryView) → flat_map pick (xs ++ ys) ≡ flat_map pick xs ++ flat_map pick ys
        flat_both [] ys = refl
        flat_both (x ∷ xs) ys = ap (λ z. pick x ++ z) (flat_both xs ys)
            ∙ sym (append_assoc (pick x) (flat_map pick xs) (flat_map pick ys))

pub none_fit : (t : Arena) → AreEdits t []
unfolding AreEdits
none_fit t = tt

-- edits of a file's tree are edits of the file
pub fits_file : (f g : KeptFile) (t : Arena) (es : List Edit) (e : FileEdit) → f ≡ g → tree_in f.reading ≡ Some t
    → AreEdits t es → e ≡ with_edits es → FitsFile g e
fits_file f g t es e same there fit is = subst (λ h. FitsFile h e) same (subst (FitsFile f) (sym is) (by_edits es fit))
  where
    by_edits : (es : List Edit) → AreEdits t es → FitsFile f (with_edits es)
    by_edits [] fit = tt
    by_edits (x ∷ xs) fit = subst (λ o. FitTree o (x ∷ xs)) (sym there) fit
