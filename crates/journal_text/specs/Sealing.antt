-- What a sealed batch holds.
use Rattle.std.specs.Prelude.{◌≡◌, ◌≤◌, ℕ, List, [], ◌∷◌, length}
use Rattle.journal_text.specs.Changes.{Change, gate, journal, IsBatch}
use Rattle.journal_text.specs.Text.{journal_text}

pub record IsSealed (changes : List Change) (text journal_path gate_path gate_byte : List ℕ) : Type 0 where
  pub batch : IsBatch changes
  pub whole : text ≡ journal_text changes
  pub size : length text ≤ 1073741824
  pub journal_is : journal_path ≡ journal
  pub gate_is : gate_path ≡ gate
  pub one : gate_byte ≡ 49 ∷ []
