-- The imports on demand, row by row.
use Rattle.std.proofs.Common.{◌≡◌, ◌∙◌, sym, ap, subst, ℕ, List, [], ◌∷◌, ◌++◌, ◌+◌, ◌<◌, Option, true, false}
use Rattle.std.proofs.Common.{if◌then◌else◌, take, length, get_or, map, filter, append-nil, add-one}
use Rattle.std.proofs.Math.Seq.{take-suc}
use Rattle.std.proofs.lemmas.List.{map-append}
use Rattle.std.proofs.lemmas.List.Elements.{filter-append}
use Rattle.dialogue.specs.Dialogue.{done, in_turn}
use Rattle.dialogue.specs.Told.{Told}
use Rattle.dialogue.specs.ToldLaws.{told_done, told_bind, in_turn_told}
use Rattle.jtypes.specs.World.{World, Rule}
use Rattle.jtypes.specs.declared.ask.Ask.{Ask}
use Rattle.j_names.specs.Members.{joined, type_at}
use Rattle.j_names.specs.Names.{look_on_demand, and_more, the_one, type_on_demand, types_on_demand, is_package_row}
use Rattle.j_names.specs.Names.{java_lang}
use Rattle.j_names.specs.declared.context.ImportRow.{ImportRow}
use Rattle.j_names.specs.declared.packages.OnDemand.{OnDemand}
use Rattle.j_names.specs.declared.packages.OnDemand.TheVariants.{Nothing}
use Rattle.jtypes.specs.declared.symbol.Symbol.{Symbol}

pub look_told : (top : Option (List ℕ)) (n : List ℕ) (so_far : OnDemand) (p : List ℕ) (w : World) (s t : List Ask)
    (found : Option Symbol) → Told (type_at top (joined p n)) w s t found
    → Told (look_on_demand top n so_far p) w s t (and_more so_far found)
look_told top n so_far p w s t found h = told_bind (type_at top (joined p n))
    (λ f. done (and_more so_far f)) w s t t found (and_more so_far found) h (told_done w t (and_more so_far found))

abbrev pub packages : List ImportRow → List (List ℕ)
packages rows = map (λ row. row.name) (filter is_package_row rows)

module _ (rows : List ImportRow) (i : ℕ) (row : ImportRow) (lt : i < length rows) (is : row ≡ get_or rows i row) where
  packages_more : packages (take (i + 1) rows) ≡ packages (take i rows) ++ map (λ row. row.name)
      (if is_package_row row then row ∷ [] else [])
  packages_more = rw add-one (
      ap packages (take-suc rows i row lt ∙ ap (λ y. take i rows ++ y ∷ []) (sym is))
      ∙ ap (map (λ row. row.name)) (filter-append is_package_row (take i rows) (row ∷ []))
      ∙ map-append (λ row. row.name) (filter is_package_row (take i rows))
      (if is_package_row row then row ∷ [] else []))

  module _ (go : OnDemand → List ℕ → Rule OnDemand) (w : World) (s m : List Ask) (a : OnDemand)
      (h : Told (in_turn go Nothing (packages (take i rows))) w s m a) where
    pub row_looked : is_package_row row ≡ true → (t : List Ask) (b : OnDemand) → Told (go a row.name) w m t b
        → Told (in_turn go Nothing (packages (take (i + 1) rows))) w s t b
    row_looked e t b k = subst (λ ps. Told (in_turn go Nothing ps) w s t b)
        (sym (packages_more ∙ ap (λ r. packages (take i rows) ++ map (λ row. row.name) (if r then row ∷ [] else []))
        e)) (in_turn_told w (packages (take i rows)) row.name s m t go Nothing a b h k)

    pub row_left : is_package_row row ≡ false → Told (in_turn go Nothing (packages (take (i + 1) rows))) w s m a
    row_left e = subst (λ ps. Told (in_turn go Nothing ps) w s m a)
        (sym (packages_more ∙ ap (λ r. packages (take i rows) ++ map (λ row. row.name) (if r then row ∷ [] else []))
        e ∙ append-nil (packages (take i rows)))) h

pub all_looked : (top : Option (List ℕ)) (rows : List ImportRow) (n : List ℕ) (w : World) (s m t : List Ask)
    (a b : OnDemand) → Told (in_turn (look_on_demand top n) Nothing (packages rows)) w s m a
    → Told (look_on_demand top n a java_lang) w m t b → Told (type_on_demand top rows n) w s t (the_one b)
unfolding type_on_demand
all_looked top rows n w s m t a b h k =
    told_bind (in_turn (look_on_demand top n) Nothing (types_on_demand rows)) (λ all. done (the_one all)) w s t t b
    (the_one b)
    (in_turn_told w (packages rows) java_lang s m t (look_on_demand top n) Nothing a b h k)
    (told_done w t (the_one b))
