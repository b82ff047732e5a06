-- What a text adds, accepted or refused.
use Rattle.std.proofs.Common.{◌≡◌, ◌∙◌, ℕ, List, [], ◌++◌, Result, Ok, Err, sym, refl, append-nil}
use Rattle.rw_base.specs.declared.place.Refused.{Refused}
use Rattle.rw_base.specs.Arena.{Arena}
use Rattle.java_reader.specs.Reading.{IsJavaRead}
use Rattle.java_reader.specs.declared.read.TheConstants.{UNIT}
use Rattle.declared_types.specs.declared.written.DeclaredType.{DeclaredType}
use Rattle.class_table.specs.Words.{parts_at}
use Rattle.class_table.specs.Declarations.{skeleton_of}
use Rattle.class_table.specs.Stubs.{AreAdded, accepted, refused}

pub accepted_adds : (bytes : List ℕ) (before after : List DeclaredType) (t : Arena) → IsJavaRead UNIT bytes (Ok t)
    → after ≡ before ++ skeleton_of (parts_at t bytes t.root) → AreAdded bytes before after
accepted_adds bytes before after t read e = record {
  more = skeleton_of (parts_at t bytes t.root);
  of_text = accepted (record { tree = t; read = read; are = refl });
  are_behind = e;
}

pub refused_adds : (bytes : List ℕ) (before after : List DeclaredType) (r : Refused) → IsJavaRead UNIT bytes (Err r)
    → after ≡ before → AreAdded bytes before after
refused_adds bytes before after r read e = record {
  more = [];
  of_text = refused r read refl;
  are_behind = e ∙ sym (append-nil before);
}

pub ok_apart : {A E : Type 0} (r : Result A E) (a : A) (e : E) → r ≡ Ok a → r ≡ Err e → ⊥
ok_apart r a e p q = absurd (let bad : Ok a ≡ Err e = sym p ∙ q in cc)

-- the error of a result, whatever the type of what it has else
abbrev pub err_or : {A E : Type 0} → E → Result A E → E
err_or other (Ok a) = other
err_or other (Err e) = e
