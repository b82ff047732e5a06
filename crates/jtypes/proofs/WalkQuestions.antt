-- What the tests ask, and what the walk gives as the rule.
use Rattle.std.proofs.Common.{◌≡◌, ℕ, List, [], ◌∷◌, refl, sym, ◌∙◌, ap, subst, inl, inr, Bool, true, false, ◌||◌, append-nil, map, ◌↔◌, if◌then◌else◌}
use Rattle.std.specs.List.{list_any}
use Rattle.dialogue.specs.Dialogue.{done, bind, run, asked, In}
use Rattle.dialogue.specs.DialogueLaws.{run-bind, asked-bind, run_alike}
use Rattle.dialogue.specs.Told.{Told, Heard}
use Rattle.dialogue.specs.ToldLaws.{heard_same, told_done}
use Rattle.jtypes.specs.World.{World, Rule, name_eq}
use Rattle.jtypes.specs.Subtype.{Reaches, classes_reached, class_subtype, subtype, object_name, longest_row, AsksTheWalk, is_reference, type_eq}
use Rattle.jtypes.specs.declared.ask.Ask.{Ask}
use Rattle.jtypes.specs.declared.ask.Ask.TheVariants.{Class as AskClass}
use Rattle.jtypes.specs.Arrays.{ArrayOf}
use Rattle.jtypes.specs.declared.types.JType.{JType}
use Rattle.jtypes.specs.declared.types.JType.TheVariants.{Class}
use Rattle.jtypes.proofs.Reached.{reached_reaches, reaches_reached, asked_reached}
use Rattle.jtypes.proofs.Equality.{same_bool, or_right, any_in, in_any, names_decide, names_differ, differ_names}

to_map : (f : List ℕ → Ask) (xs : List (List ℕ)) (x : List ℕ) (q : Ask) → q ≡ f x → In x xs → In q (map f xs)
to_map f [] x q e i = absurd i
to_map f (y ∷ ys) x q e (inl k) = inl (e ∙ ap f k)
to_map f (y ∷ ys) x q e (inr k) = inr (to_map f ys x q e k)

of_map : (f : List ℕ → Ask) (xs : List (List ℕ)) (q : Ask) → In q (map f xs) → (x : List ℕ) × In x xs × (q ≡ f x)
of_map f [] q i = absurd i
of_map f (y ∷ ys) q (inl e) = (y, inl refl, e)
of_map f (y ∷ ys) q (inr i) = let p = of_map f ys q i in (p.0, inr p.1, p.2)

map_in : (f : List ℕ → Ask) (xs ys : List (List ℕ)) → ((b : List ℕ) → In b xs → In b ys) → (q : Ask) → In q (map f xs) → In q (map f ys)
map_in f xs ys h q i = let p = of_map f xs q i in to_map f ys p.0 q p.2 (h p.0 p.1)

abbrev rest : List ℕ → List (List ℕ) → Rule Bool
rest b cs = done (list_any (λ c. name_eq b c) cs)

walk_asks : (w : World) (a b : List ℕ) → asked (bind (classes_reached longest_row a) (rest b)) w ≡ map AskClass (run (classes_reached longest_row a) w)
walk_asks w a b = asked-bind (classes_reached longest_row a) (rest b) w ∙ append-nil _ ∙ asked_reached w longest_row a

at_once : (t : Bool) (d : Rule Bool) (w : World) (s : List Ask) → t ≡ true → Told (if t then done true else d) w s s true
at_once t d w s h = rw h (told_done w s true)

pub told_same : (a b : List ℕ) (w : World) (s : List Ask) → a ≡ b → Told (class_subtype a b) w s s true
unfolding class_subtype
told_same a b w s e = at_once (name_eq a b || name_eq b object_name) _ w s (ap (λ r. r || name_eq b object_name) ((names_decide a b).1 e))

pub told_object : (a b : List ℕ) (w : World) (s : List Ask) → b ≡ object_name → Told (class_subtype a b) w s s true
unfolding class_subtype
told_object a b w s e = at_once (name_eq a b || name_eq b object_name) _ w s (or_right (name_eq a b) (name_eq b object_name) ((names_decide b object_name).1 e))

pub told_walk : (a b : List ℕ) (w : World) (s s' : List Ask) (ns : List (List ℕ)) (r : Bool) → (a ≡ b → ⊥) → (b ≡ object_name → ⊥) → ((c : List ℕ) → In c ns ↔ Reaches w longest_row a c) → Heard s (map AskClass ns) s' → ((r ≡ true → In b ns) × (In b ns → r ≡ true)) → Told (class_subtype a b) w s s' r
unfolding class_subtype
told_walk a b w s s' ns r ne other iff h t =
    let all = run (classes_reached longest_row a) w in
    let f : (c : List ℕ) → In c ns → In c all = λ c i. reaches_reached w longest_row a c ((iff c).0 i) in
    let g : (c : List ℕ) → In c all → In c ns = λ c i. (iff c).1 (reached_reaches w longest_row a c i) in
    rw (names_differ a b ne, names_differ b object_name other) (record {
      gives = same_bool r _ (λ k. in_any name_eq names_decide b all (f b (t.0 k))) (λ k. t.1 (g b (any_in name_eq names_decide b all k))) ∙ sym (run-bind (classes_reached longest_row a) (rest b) w);
      asks = subst (λ qs. Heard s qs s') (sym (walk_asks w a b)) (heard_same s s' (map AskClass ns) (map AskClass all) (map_in AskClass ns all f) (map_in AskClass all ns g) h);
    })

pub class_asks : (w : World) (a b : List ℕ) (q : Ask) → In q (asked (class_subtype a b) w) → AsksTheWalk w a b q
unfolding class_subtype
class_asks w a b q h = by_tests (name_eq a b) (name_eq b object_name) refl refl h
  where
    by_tests : (r s : Bool) → name_eq a b ≡ r → name_eq b object_name ≡ s → In q (asked (if r || s then done true else bind (classes_reached longest_row a) (rest b)) w) → AsksTheWalk w a b q
    by_tests true s e f i = absurd i
    by_tests false true e f i = absurd i
    by_tests false false e f i = let p = of_map AskClass (run (classes_reached longest_row a) w) q (subst (In q) (walk_asks w a b) i) in (differ_names a b e, differ_names b object_name f, (p.0, reached_reaches w longest_row a p.0 p.1, p.2))

pub asks_class : (w : World) (a b : List ℕ) (q : Ask) → AsksTheWalk w a b q → In q (asked (class_subtype a b) w)
unfolding class_subtype
asks_class w a b q h =
    rw (names_differ a b h.0, names_differ b object_name h.1) (subst (In q) (sym (walk_asks w a b)) (to_map AskClass (run (classes_reached longest_row a) w) h.2.0 q h.2.2 (reaches_reached w longest_row a h.2.0 h.2.1)))

-- a test between two classes asks for the walk alone
pub subtype_asks : (w : World) (a b : List ℕ) (q : Ask) → In q (asked (subtype (Class a) (Class b)) w) ↔ AsksTheWalk w a b q
unfolding subtype
subtype_asks w a b q = (class_asks w a b q, asks_class w a b q)

pub elements_ask : (w : World) (a b : JType) → is_reference a ≡ true → asked (subtype (ArrayOf a) (ArrayOf b)) w ≡ asked (subtype a b) w
unfolding subtype
elements_ask w a b h = ap (λ r. asked (if r then subtype a b else done (type_eq a b)) w) h

-- worlds with equal headers on the walk give the same
pub walk_alike : (w v : World) (a b : List ℕ) → ((m : List ℕ) → Reaches w longest_row a m → w (AskClass m) ≡ v (AskClass m)) → run (subtype (Class a) (Class b)) v ≡ run (subtype (Class a) (Class b)) w
walk_alike w v a b h = run_alike (subtype (Class a) (Class b)) w v (λ q i. let p = (subtype_asks w a b q).0 i in subst (λ x. w x ≡ v x) (sym p.2.2) (h p.2.0 p.2.1))
