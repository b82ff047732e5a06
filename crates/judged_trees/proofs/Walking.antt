-- The parts of a node, so far and the rest.
use Rattle.std.proofs.Common.{◌≡◌, ℕ, List, [], ◌∷◌, ◌++◌, refl, sym, ◌∙◌, ap, append-nil, append_assoc, length}
use Rattle.std.proofs.Common.{take, drop, ◌≤◌, ◌-◌, arith, length-append, length-drop}
use Rattle.std.proofs.Math.Seq.{take-append_seam, drop-append_seam}
use Rattle.std.proofs.lemmas.List.{take_all}
use Rattle.jtypes.specs.World.{World}
use Rattle.rw_base.specs.Arena.{AreBelow}
use Rattle.rw_base.specs.declared.tree.Part.{Part}
use Rattle.rw_base.specs.declared.tree.Part.TheVariants as part
use Rattle.rw_base.specs.Trees.{none, leaf, node, Numbered}
use Rattle.j_names.specs.declared.context.Frame.{Frame}
use Rattle.judging.specs.declared.log.Log.{Log}
use Rattle.judging.specs.Judging.{give, and_then, Judged}
use Rattle.judging.specs.JudgingLaws.{judged_give, judged_then}
use Rattle.judged_trees.specs.Followed.{NodeJudged, Scoped}
use Rattle.judged_trees.specs.Parts.{part_of, PartJudged}
use Rattle.judged_trees.specs.Tables.{Site, Tables}
use Rattle.judged_trees.specs.Trees.{parts, judged, placed}

taken : {A : Type 0} (n : ℕ) (all front back : List A) → n ≡ length front → all ≡ front ++ back → take n all ≡ front
taken n all front back e h = rw (h, e) (take-append_seam front back)

dropped : {A : Type 0} (n : ℕ) (all front back : List A) → n ≡ length front → all ≡ front ++ back → drop n all ≡ back
dropped n all front back e h = rw (h, e) (drop-append_seam front back)

pub fits : {A : Type 0} (n : ℕ) (all front back : List A) → n ≡ length front → all ≡ front ++ back → n ≤ length all
fits n all front back e h = omega (arith, e, ap length h, length-append front back)

-- a slice from a place on is all that stands behind it
pub all_behind : {A : Type 0} (n : ℕ) (xs : List A) → take (length xs - n) (drop n xs) ≡ drop n xs
all_behind n xs = take_all (length xs - n) (drop n xs) (omega (arith, length-drop n xs))

module _ {V G : Type 0} (t : Tables V G) (site : Site G) (w : World) where
  -- what the rest gives is what all gives
  pub record Walking (rest : Numbered) (around scopes : List Frame) (before all : List V) (old now : Log) : Type 0 where
    pub vs : List V
    pub left : List Frame
    pub going : (y : List V × List Frame) (l : Log) → Judged (parts t site around rest vs left) w now l y
        → Judged (parts t site around site.trees [] []) w old l y
    pub frames : scopes ≡ around ++ left
    pub values : all ≡ before ++ vs

  pub walking_start : (around : List Frame) (before : List V) (old : Log)
      → Walking site.trees around around before before old old
  walking_start around before old = record {
    vs = [];
    left = [];
    going = λ y l h. h;
    frames = sym (append-nil around);
    values = sym (append-nil before);
  }

  pub walking_leaf : (i : ℕ) (rest : Numbered) (around scopes : List Frame) (before all : List V) (old now : Log)
      → Walking (leaf i rest) around scopes before all old now → Walking rest around scopes before all old now
  unfolding parts
  walking_leaf i rest around scopes before all old now h =
      record { vs = h.vs; left = h.left; going = h.going; frames = h.frames; values = h.values }

  parts_node : (around : List Frame) (n k : ℕ) (own rest : Numbered) (vs : List V) (left : List Frame)
      → parts t site around (node n k own rest) vs left
      ≡ and_then (part_of t site around (node n k own rest) vs left n k own)
      (λ v. parts t site around rest (vs ++ v.0 ∷ []) v.1)
  unfolding parts part_of judged
  parts_node around n k own rest vs left = refl

  pub walking_node : (n k : ℕ) (own rest : Numbered) (around scopes next : List Frame) (before all more : List V)
      (old now end : Log) (outer base : ℕ) → outer ≡ length around → base ≡ length before
      → (h : Walking (node n k own rest) around scopes before all old now)
      → PartJudged (part_of t site (take outer scopes) (node n k own rest) (drop base all) (drop outer scopes) n k own)
      w now end (take outer scopes) next all more
      → Walking rest around next before more old end
  walking_node n k own rest around scopes next before all more old now end outer base eo eb h p =
      let front : take outer scopes ≡ around = taken outer scopes around h.left eo h.frames in
      let back : drop outer scopes ≡ h.left = dropped outer scopes around h.left eo h.frames in
      let these : drop base all ≡ h.vs = dropped base all before h.vs eb h.values in
      let told = rw (front, back, these) at p.judged in
      record {
        vs = h.vs ++ p.value ∷ [];
        left = p.left;
        going = λ y l k'. h.going y l (rw (parts_node around n k own rest h.vs h.left)
            (judged_then _ _ w now end l (p.value, p.left) y told k'));
        frames = p.frames ∙ ap (λ s. s ++ p.left) front;
        values = p.values ∙ ap (λ vs. vs ++ p.value ∷ []) h.values ∙ append_assoc before h.vs (p.value ∷ []);
      }

  pub walking_end : (around scopes last : List Frame) (before all : List V) (old now end : Log) (outer base : ℕ) (v : V)
      → outer ≡ length around → base ≡ length before → Walking none around scopes before all old now
      → Judged (t.value_of site (drop base all) scopes) w now end v
      → last ≡ take outer scopes ++ t.left_in_scope site (drop base all) (drop outer scopes)
      → NodeJudged (judged t site around) w old end around last v
  unfolding parts judged
  walking_end around scopes last before all old now end outer base v eo eb h c e =
      let front : take outer scopes ≡ around = taken outer scopes around h.left eo h.frames in
      let back : drop outer scopes ≡ h.left = dropped outer scopes around h.left eo h.frames in
      let these : drop base all ≡ h.vs = dropped base all before h.vs eb h.values in
      let left = t.left_in_scope site h.vs h.left in
      let told = rw (these, h.frames) at c in
      record {
        left = left;
        judged = judged_then (parts t site around site.trees [] [])
            (λ p. and_then (t.value_of site p.0 (around ++ p.1)) (λ u. give (u, t.left_in_scope site p.0 p.1)))
            w old now end (h.vs, h.left) (v, left)
            (h.going (h.vs, h.left) now (judged_give w now (h.vs, h.left)))
            (judged_then (t.value_of site h.vs (around ++ h.left)) (λ u. give (u, left)) w now end end v (v, left) told
            (judged_give w end (v, left)));
        frames = e ∙ (rw (front, back, these) refl);
      }

  pub kept : (before all : List V) (scopes around : List Frame) (rest : Numbered) (old now : Log) (base : ℕ)
      → base ≡ length before → Walking rest around scopes before all old now → take base all ≡ before
  kept before all scopes around rest old now base eb h = taken base all before h.vs eb h.values

  -- a part, by what comes into scope before it and its own judgement
  pub part_judged : (n k : ℕ) (own from : Numbered) (outer base : ℕ) (inner : G) (scopes mid last : List Frame)
      (all more : List V) (old here end : Log) (v : V)
      → inner ≡ t.given_to site from (drop base all)
      → Scoped (t.scope_for site from (drop base all) (take outer scopes) (drop outer scopes)) w old here
      (take outer scopes) mid
      → NodeJudged (judged t (record { number = n; kind = k; trees = own; given = inner }) mid) w here end mid last v
      → more ≡ all ++ v ∷ []
      → PartJudged (part_of t site (take outer scopes) from (drop base all) (drop outer scopes) n k own) w old end
      (take outer scopes) last all more
  unfolding part_of
  part_judged n k own from outer base inner scopes mid last all more old here end v eg sc h ev =
      let s = take outer scopes in
      let before = sc.before in
      let inside = t.given_to site from (drop base all) in
      let told = rw (sc.frames, eg) at h in
      let this : Site G = record { number = n; kind = k; trees = own; given = inside } in
      record {
        value = v;
        left = before ++ told.left;
        judged = judged_then (t.scope_for site from (drop base all) s (drop outer scopes))
            (λ b. placed t b (judged t this (s ++ b))) w old here end before (v, before ++ told.left) sc.judged
            (judged_then (judged t this (s ++ before)) (λ u. give (u.0, before ++ u.1)) w here end end (v, told.left)
            (v, before ++ told.left) told.judged (judged_give w end (v, before ++ told.left)));
        frames = told.frames ∙ append_assoc s before told.left;
        values = ev;
      }

-- what lies below a node of the tree lies in the tree
pub all_below : (leaf_count n m : ℕ) (ps : List Part) → n ≤ m → AreBelow leaf_count n ps → AreBelow leaf_count m ps
all_below leaf_count n m [] le b = b
all_below leaf_count n m (part.Leaf i ∷ ps) le b = (b.0, all_below leaf_count n m ps le b.1)
all_below leaf_count n m (part.Node k ∷ ps) le b = (omega (arith, le, b.0), all_below leaf_count n m ps le b.1)
