-- A file written in one pass: how far it is copied.
use Rattle.std.proofs.Common.{◌≡◌, ◌≢◌, ℕ, ◌+◌, ◌-◌, ◌<◌, ◌≤◌, List, [], ◌++◌, length, drop, refl, sym, ap, ◌∙◌, append_assoc, arith, length-drop}
use Rattle.std.specs.Prelude.{slice_range, Option, None, Some}
use Rattle.std.proofs.lemmas.List.{take_all}
use Rattle.rw_base.specs.Joins.{joined_slices}
use Rattle.properties_tree.specs.Keys.{with_key, IsKeyPlace, IsNextKey}
use Rattle.properties_tree.specs.declared.keys.KeyPlace.{KeyPlace}

-- What is written, and what is not copied yet before a place, stand before the rest, which has the keys from there on.
pub record IsCopied (key spelled bytes whole out : List ℕ) (copied at : ℕ) : Type 0 where
  pub ordered : copied ≤ at
  pub inside : at ≤ length bytes
  pub same : (out ++ slice_range bytes copied at) ++ with_key key spelled (drop at bytes) ≡ whole

module _ (key spelled bytes whole out : List ℕ) (copied at : ℕ) (is : IsCopied key spelled bytes whole out copied at) where
  pub key_copied : (p : KeyPlace) (longer : List ℕ) → IsKeyPlace key bytes at p → longer ≡ (out ++ slice_range bytes copied p.from) ++ spelled → IsCopied key spelled bytes whole longer p.to p.next
  key_copied p longer found pushed = record {
    ordered = found.behind;
    inside = found.inside;
    same =
        let tail = slice_range bytes p.to p.next ++ with_key key spelled (drop p.next bytes) in
        let ordered = is.ordered in
        ap (λ o. (o ++ slice_range bytes p.to p.next) ++ with_key key spelled (drop p.next bytes)) pushed
        ∙ (ap (λ s. ((((out ++ s) ++ spelled) ++ slice_range bytes p.to p.next) ++ with_key key spelled (drop p.next bytes))) (sym (joined_slices bytes copied at p.from ordered found.from))
        ∙ (regrouped out (slice_range bytes copied at) (slice_range bytes at p.from) spelled (slice_range bytes p.to p.next) (with_key key spelled (drop p.next bytes))
        ∙ (ap (λ t. (out ++ slice_range bytes copied at) ++ t) (sym (found.new spelled)) ∙ is.same)));
  }
    where
      regrouped : (a b c d e f : List ℕ) → (((a ++ (b ++ c)) ++ d) ++ e) ++ f ≡ (a ++ b) ++ (c ++ (d ++ (e ++ f)))
      regrouped a b c d e f = simp append_assoc

  rest_copied : IsNextKey key bytes at None → out ++ drop copied bytes ≡ whole
  rest_copied none =
      let ordered = is.ordered in
      let inside = is.inside in
      ap (λ t. out ++ t) (sym (to_end ordered inside)) ∙ (sym (append_assoc out (slice_range bytes copied at) (drop at bytes)) ∙ (ap (λ t. (out ++ slice_range bytes copied at) ++ t) (sym (none spelled)) ∙ is.same))
    where
      to_end : copied ≤ at → at ≤ length bytes → slice_range bytes copied at ++ drop at bytes ≡ drop copied bytes
      to_end ordered inside =
          ap (λ t. slice_range bytes copied at ++ t) (sym (take_all (length bytes - at) (drop at bytes) (omega (arith, length-drop at bytes))))
          ∙ (joined_slices bytes copied at (length bytes) ordered inside ∙ take_all (length bytes - copied) (drop copied bytes) (omega (arith, length-drop copied bytes)))

-- what is copied before the next key, or before the rest where there is none
pub record IsWritten (key spelled bytes out : List ℕ) (copied : ℕ) (next : Option KeyPlace) : Type 0 where
  pub at : ℕ
  pub is : IsCopied key spelled bytes (with_key key spelled bytes) out copied at
  pub follows : IsNextKey key bytes at next

pub none_written : (key spelled bytes : List ℕ) (first : KeyPlace) → IsKeyPlace key bytes 0 first → IsWritten key spelled bytes [] 0 (Some first)
none_written key spelled bytes first found = record {
  at = 0;
  is = record { ordered = omega arith; inside = omega arith; same = refl };
  follows = found;
}

pub more_written : (key spelled bytes out longer : List ℕ) (copied : ℕ) (p : KeyPlace) (next : Option KeyPlace) → IsWritten key spelled bytes out copied (Some p) → longer ≡ (out ++ slice_range bytes copied p.from) ++ spelled
    → IsNextKey key bytes p.next next → IsWritten key spelled bytes longer p.to next
more_written key spelled bytes out longer copied p next is pushed more = record {
  at = p.next;
  is = key_copied key spelled bytes (with_key key spelled bytes) out copied is.at is.is p longer is.follows pushed;
  follows = more;
}

pub all_written : (key spelled bytes out : List ℕ) (copied : ℕ) → IsWritten key spelled bytes out copied None → out ++ drop copied bytes ≡ with_key key spelled bytes
all_written key spelled bytes out copied is = rest_copied key spelled bytes (with_key key spelled bytes) out copied is.at is.is is.follows

pub ended_written : (key spelled bytes out : List ℕ) (copied : ℕ) (next : Option KeyPlace) → ((p : KeyPlace) → next ≢ Some p) → IsWritten key spelled bytes out copied next → out ++ drop copied bytes ≡ with_key key spelled bytes
ended_written key spelled bytes out copied None none is = all_written key spelled bytes out copied is
ended_written key spelled bytes out copied (Some p) none is = absurd (none p refl)

-- how many bytes are left behind the next key
abbrev pub left_behind : List ℕ → Option KeyPlace → ℕ
left_behind bytes None = 0
left_behind bytes (Some p) = length bytes - p.next + 1

pub fewer : (key bytes : List ℕ) (p : KeyPlace) (next : Option KeyPlace) → p.next ≤ length bytes → IsNextKey key bytes p.next next → left_behind bytes next < left_behind bytes (Some p)
fewer key bytes p None inside found = omega arith
fewer key bytes p (Some q) inside found = let further = found.further in let last = found.inside in omega arith
