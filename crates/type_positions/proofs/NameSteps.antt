-- Judgements of names, put together of what their calls ask and note.
use Rattle.std.proofs.Common.{◌≡◌, ℕ, suc, ◌+◌, ◌<◌, ◌≤◌, List, [], ◌∷◌, refl, sym, ap, get_or, drop, take, ◌-◌, length, add-one, arith}
use Rattle.std.proofs.Math.Seq.{drop-cons}
use Rattle.std.proofs.lemmas.Grind.{common_steps}
use Rattle.dialogue.specs.Told.{Told}
use Rattle.jtypes.specs.World.{World, Rule}
use Rattle.jtypes.specs.declared.ask.Ask.{Ask}
use Rattle.jtypes.specs.declared.symbol.Symbol.{Symbol}
use Rattle.jtypes.specs.declared.symbol.Symbol.TheVariants.{Unknown}
use Rattle.j_names.specs.declared.context.Frame.{Frame}
use Rattle.j_names.specs.declared.context.UnitContext.{UnitContext}
use Rattle.j_names.specs.Dots.{type_behind}
use Rattle.j_names.specs.Names.{top_around, type_named, type_or_package}
use Rattle.judging.specs.Judging.{Judged, looking}
use Rattle.judging.specs.JudgingLaws.{judged_give, judged_looking, judged_then}
use Rattle.judging.specs.declared.log.Log.{Log}
use Rattle.type_positions.specs.declared.names.NamedLeaf.{NamedLeaf}
use Rattle.type_positions.specs.TypeNames.{noted, part_behind, parts_behind, lone_name, first_part, type_name}

-- what a rule gives is noted
pub looked_up : (d : Rule Symbol) (leaf : ℕ) (w : World) (old new : Log) (asks : List Ask) (m s : Symbol)
    → Told d w old.asks asks m → Judged (noted leaf m) w (record old { asks = asks }) new s
    → Judged (looking d (noted leaf)) w old new s
looked_up d leaf w old new asks m s h k =
    judged_looking d (noted leaf) w old (record old { asks = asks }) new m s h refl k

pub lone_judged : (cx : UnitContext) (frames : List Frame) (p : NamedLeaf) (w : World) (old new : Log) (asks : List Ask)
    (m s : Symbol) → Told (type_named cx frames p.name) w old.asks asks m
    → Judged (noted p.leaf m) w (record old { asks = asks }) new s → Judged (lone_name cx frames p) w old new s
unfolding lone_name
lone_judged cx frames p w old new asks m s h k = looked_up (type_named cx frames p.name) p.leaf w old new asks m s h k

pub first_judged : (cx : UnitContext) (frames : List Frame) (p : NamedLeaf) (w : World) (old new : Log) (asks : List Ask)
    (m s : Symbol) → Told (type_or_package cx frames p.name) w old.asks asks m
    → Judged (noted p.leaf m) w (record old { asks = asks }) new s → Judged (first_part cx frames p) w old new s
unfolding first_part
first_judged cx frames p w old new asks m s h k =
    looked_up (type_or_package cx frames p.name) p.leaf w old new asks m s h k

pub behind_judged : (cx : UnitContext) (scope : Symbol) (p : NamedLeaf) (w : World) (old new : Log) (asks : List Ask)
    (m s : Symbol) → Told (type_behind (top_around cx) scope p.name) w old.asks asks m
    → Judged (noted p.leaf m) w (record old { asks = asks }) new s → Judged (part_behind cx scope p) w old new s
unfolding part_behind
behind_judged cx scope p w old new asks m s h k =
    looked_up (type_behind (top_around cx) scope p.name) p.leaf w old new asks m s h k

-- no further parts
pub parts_end : (cx : UnitContext) (s : Symbol) (ps : List NamedLeaf) (w : World) (l : Log) → ps ≡ []
    → Judged (parts_behind cx s ps) w l l s
unfolding parts_behind
parts_end cx s ps w l e = rw e (judged_give w l s)

-- one part, and then those behind it
pub parts_next : (cx : UnitContext) (s t y : Symbol) (p : NamedLeaf) (ps qs : List NamedLeaf) (w : World) (l m n : Log)
    → ps ≡ p ∷ qs → Judged (part_behind cx s p) w l m t → Judged (parts_behind cx t qs) w m n y
    → Judged (parts_behind cx s ps) w l n y
unfolding parts_behind
parts_next cx s t y p ps qs w l m n e h k =
    rw e (judged_then (part_behind cx s p) (λ u. parts_behind cx u qs) w l m n t y h k)

-- names by how many parts they have
pub no_name : (cx : UnitContext) (frames : List Frame) (ps : List NamedLeaf) (w : World) (l : Log) → length ps < 1
    → Judged (type_name cx frames ps) w l l Unknown
unfolding type_name
no_name cx frames [] w l lt = judged_give w l Unknown
no_name cx frames (p ∷ ps) w l lt = absurd (omega arith)

pub one_part : (cx : UnitContext) (frames : List Frame) (p : NamedLeaf) (ps : List NamedLeaf) (w : World) (l m : Log)
    (s : Symbol) → 1 ≤ length ps → length ps < 2 → p ≡ get_or ps 0 p → Judged (lone_name cx frames p) w l m s
    → Judged (type_name cx frames ps) w l m s
unfolding type_name
one_part cx frames p [] w l m s le lt e h = absurd (omega arith)
one_part cx frames p (q ∷ []) w l m s le lt e h = rw e at h
one_part cx frames p (q ∷ r ∷ ps) w l m s le lt e h = absurd (omega arith)

pub more_parts : (cx : UnitContext) (frames : List Frame) (p : NamedLeaf) (ps : List NamedLeaf) (w : World)
    (l m n : Log) (s t : Symbol) → 2 ≤ length ps → p ≡ get_or ps 0 p → Judged (first_part cx frames p) w l m s
    → Judged (parts_behind cx s (drop 1 ps)) w m n t → Judged (type_name cx frames ps) w l n t
unfolding type_name
more_parts cx frames p [] w l m n s t le e h k = absurd (omega arith)
more_parts cx frames p (q ∷ []) w l m n s t le e h k = absurd (omega arith)
more_parts cx frames p (q ∷ r ∷ ps) w l m n s t le e h k =
    judged_then (first_part cx frames q) (λ u. parts_behind cx u (r ∷ ps)) w l m n s t (rw e at h) k

pub behind_first : (ps : List NamedLeaf) → take (length ps - 1) (drop 1 ps) ≡ drop 1 ps
behind_first ps = grind (arith, common_steps)

-- the part at a place of a list, and those behind it
pub here : {A : Type 0} (xs : List A) (i : ℕ) (x : A) → i < length xs → x ≡ get_or xs i x
    → drop i xs ≡ x ∷ drop (i + 1) xs
here xs i x lt e = rw (add-one, drop-cons xs i x) (ap (λ y. y ∷ drop (suc i) xs) (sym e))
