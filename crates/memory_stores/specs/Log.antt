-- What contracts see of a table with its log.
use Rattle.std.specs.Prelude.{ℕ, List, refl}
use Rattle.std.specs.Coded.{Coded, code_by, coded×, coded_ℕ, coded_list}
use Rattle.memory_stores.specs.States.{States, states_code}
use Rattle.memory_stores.specs.Images.{Stage}

-- what the table knows and for how many more paths it has room, what the syncs found, the last first, and for how many
-- more calls the log has room
pub record LoggedKnowledge : Type 0 where
  pub states : States
  pub spare : ℕ
  pub past : List Stage
  pub room : ℕ

abbrev pub stage_code : Coded Stage
stage_code = coded× states_code coded_ℕ

abbrev pub logged_code : Coded LoggedKnowledge
logged_code =
    code_by (States × (ℕ × (List Stage × ℕ)))
    (coded× states_code (coded× coded_ℕ (coded× (coded_list stage_code) coded_ℕ)))
    (λ k. (k.states, (k.spare, (k.past, k.room))))
    (λ p. record { states = p.0; spare = p.1.0; past = p.1.1.0; room = p.1.1.1 })
    (λ _. refl)
