-- Judgements of imports, put together of what their calls ask and note.
use Rattle.std.proofs.Common.{◌≡◌, ℕ, zero, suc, ◌+◌, ◌<◌, List, [], ◌∷◌, refl, Bool, ◌&&◌, nat_eq, drop, length, arith}
use Rattle.std.proofs.lemmas.Bool.Decides.{nat_tests}
use Rattle.dialogue.specs.Told.{Told}
use Rattle.jtypes.specs.World.{World}
use Rattle.jtypes.specs.declared.ask.Ask.{Ask}
use Rattle.jtypes.specs.declared.symbol.Symbol.{Symbol}
use Rattle.jtypes.specs.declared.symbol.Symbol.TheVariants.{Package, Unknown}
use Rattle.j_names.specs.declared.context.UnitContext.{UnitContext}
use Rattle.judging.specs.Judging.{Judged}
use Rattle.judging.specs.JudgingLaws.{judged_give, judged_then}
use Rattle.judging.specs.declared.log.Log.{Log}
use Rattle.type_positions.specs.declared.names.ImportPart.{ImportPart}
use Rattle.type_positions.specs.declared.names.ImportPart.TheVariants.{Name, All}
use Rattle.type_positions.specs.declared.names.NamedLeaf.{NamedLeaf}
use Rattle.type_positions.specs.Declarations.{import_behind, import_part, import_parts, imported, is_end}
use Rattle.type_positions.specs.TypeNames.{noted}
use Rattle.type_positions.proofs.NameSteps.{looked_up}

pub name_judged : (cx : UnitContext) (static_end : Bool) (scope : Symbol) (p : NamedLeaf) (w : World) (old new : Log)
    (asks : List Ask) (m s : Symbol) → Told (import_behind cx static_end scope p.name) w old.asks asks m
    → Judged (noted p.leaf m) w (record old { asks = asks }) new s
    → Judged (import_part cx static_end scope (Name p)) w old new s
unfolding import_part
name_judged cx static_end scope p w old new asks m s h k =
    looked_up (import_behind cx static_end scope p.name) p.leaf w old new asks m s h k

pub all_judged : (cx : UnitContext) (static_end : Bool) (scope : Symbol) (w : World) (l : Log)
    → Judged (import_part cx static_end scope All) w l l Unknown
unfolding import_part
all_judged cx static_end scope w l = judged_give w l Unknown

-- no further parts
pub imports_end : (cx : UnitContext) (b : Bool) (s : Symbol) (ps : List ImportPart) (w : World) (l : Log) → ps ≡ []
    → Judged (import_parts cx b s ps) w l l s
unfolding import_parts
imports_end cx b s ps w l e = rw e (judged_give w l s)

-- one part, and then those behind it
pub imports_next : (cx : UnitContext) (b static_end : Bool) (s t y : Symbol) (p : ImportPart) (ps qs : List ImportPart)
    (w : World) (l m n : Log) → ps ≡ p ∷ qs → static_end ≡ (b && is_end qs)
    → Judged (import_part cx static_end s p) w l m t → Judged (import_parts cx b t qs) w m n y
    → Judged (import_parts cx b s ps) w l n y
unfolding import_parts
imports_next cx b static_end s t y p ps qs w l m n e is h k =
    rw e (judged_then (import_part cx (b && is_end qs) s p) (λ u. import_parts cx b u qs) w l m n t y (rw is at h) k)

-- a part is the last one where nothing stands behind it
pub end_is : (xs : List ImportPart) (i : ℕ) → i < length xs → nat_eq (i + 1) (length xs) ≡ is_end (drop (i + 1) xs)
end_is [] i lt = absurd (omega arith)
end_is (x ∷ []) zero lt = refl
end_is (x ∷ []) (suc i) lt = absurd (omega arith)
end_is (x ∷ y ∷ ys) zero lt = grind (arith, nat_tests)
end_is (x ∷ y ∷ ys) (suc i) lt =
    let more : i + 1 < length (x ∷ y ∷ ys) = omega arith in
    grind (arith, nat_tests, end_is (y ∷ ys) i (omega arith))

pub imported_judged : (cx : UnitContext) (is_static : Bool) (p : NamedLeaf) (ps : List ImportPart) (w : World)
    (l m n : Log) (s t : Symbol) → Judged (noted p.leaf (Package p.name)) w l m s
    → Judged (import_parts cx is_static s ps) w m n t → Judged (imported cx is_static p ps) w l n t
unfolding imported
imported_judged cx is_static p ps w l m n s t h k =
    judged_then (noted p.leaf (Package p.name)) (λ u. import_parts cx is_static u ps) w l m n s t h k
