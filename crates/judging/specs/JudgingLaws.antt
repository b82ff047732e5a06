-- How one judgement follows another: what proofs above cite.
use Rattle.std.proofs.Common.{◌≡◌, List, [], ◌++◌, sym, ◌∙◌, ap, append-nil, append_assoc}
use Rattle.dialogue.specs.Dialogue.{bind, done}
use Rattle.dialogue.specs.DialogueLaws.{run_alike, asked_alike}
use Rattle.dialogue.specs.Told.{Told}
use Rattle.dialogue.specs.ToldLaws.{told_done, told_bind}
use Rattle.jtypes.specs.World.{World, Rule}
use Rattle.judging.specs.declared.log.Log.{Log}
use Rattle.judging.specs.declared.log.Note.{Note}
use Rattle.judging.specs.Alike.{IsDecidedByAnswers}
use Rattle.judging.specs.Judging.{Judging, give, noting, and_then, looking, Judged}

pub judged_give : {A : Type 0} (w : World) (l : Log) (a : A) → Judged (give a) w l l a
judged_give w l a = record { noted = []; told = told_done w l.asks _; notes = sym (append-nil l.notes) }

pub judged_noting : {A : Type 0} (w : World) (l m : Log) (ns : List Note) (a : A) → m.asks ≡ l.asks
    → m.notes ≡ l.notes ++ ns → Judged (noting ns a) w l m a
judged_noting w l m ns a e f = record { noted = ns; told = rw e (told_done w l.asks _); notes = f }

pub judged_then : {A B : Type 0} (d : Judging A) (f : A → Judging B) (w : World) (l m n : Log) (x : A) (y : B)
    → Judged d w l m x → Judged (f x) w m n y → Judged (and_then d f) w l n y
judged_then d f w l m n x y h k = record {
  noted = h.noted ++ k.noted;
  told = told_bind d
      (λ z. bind (f z.value) (λ u. done (record { value = u.value; notes = z.notes ++ u.notes }))) w l.asks m.asks
      n.asks (record { value = x; notes = h.noted }) (record { value = y; notes = h.noted ++ k.noted }) h.told
      (told_bind (f x) (λ u. done (record { value = u.value; notes = h.noted ++ u.notes })) w m.asks n.asks n.asks
      (record { value = y; notes = k.noted }) (record { value = y; notes = h.noted ++ k.noted }) k.told
      (told_done w n.asks _));
  notes = k.notes ∙ ap (λ ns. ns ++ k.noted) h.notes ∙ append_assoc l.notes h.noted k.noted;
}

-- a rule that notes nothing, and then a judgement
pub judged_looking : {A B : Type 0} (d : Rule A) (f : A → Judging B) (w : World) (l m n : Log) (x : A) (y : B)
    → Told d w l.asks m.asks x → m.notes ≡ l.notes → Judged (f x) w m n y → Judged (looking d f) w l n y
judged_looking d f w l m n x y h e k = record {
  noted = k.noted;
  told = told_bind d f w l.asks m.asks n.asks x (record { value = y; notes = k.noted }) h k.told;
  notes = k.notes ∙ ap (λ ns. ns ++ k.noted) e;
}

-- every judgement rests on the answers to its questions
pub decided : {A : Type 0} (d : Judging A) → IsDecidedByAnswers d
decided d = record { gives = run_alike d; asks = asked_alike d }
