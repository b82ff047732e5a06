-- Lists joined piece by piece.
use Rattle.std.proofs.Common.{◌≡◌, ℕ, List, ◌++◌, ap, ◌∙◌, append_assoc}

pub three_pieces : (o a b c x y z : List ℕ) → x ≡ o ++ a → y ≡ x ++ b → z ≡ y ++ c → z ≡ o ++ (a ++ b ++ c)
three_pieces o a b c x y z e f g = g ∙ ap (λ t. t ++ c) (f ∙ ap (λ t. t ++ b) e) ∙ simp append_assoc
