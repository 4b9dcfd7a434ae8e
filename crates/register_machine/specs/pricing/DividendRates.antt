-- The dividend rates of a journal: as they were declared, and as they were corrected.
use Rattle.std.specs.Option.{option_map_or}
use Rattle.std.specs.Prelude.{Bool, List, ℕ, ◌&&◌, ◌==◌, find}
use Rattle.agent_events.specs.declared.request.DividendForm.{DividendForm}
use Rattle.agent_events.specs.declared.request.FixRateForm.{FixRateForm}
use Rattle.register_machine.specs.journal.Choices.{last_of}
use Rattle.register_machine.specs.journal.Journals.{Journal}
use Rattle.register_machine.specs.journal.Kinds.{dividend_in, each_in, rate_fix_in}

-- the dividend rates as they were declared and as they were corrected
pub record Rates : Type 0 where
  pub declared : List DividendForm
  pub fixed : List FixRateForm

abbrev pub rates_of : Journal → Rates
rates_of journal = record { declared = each_in dividend_in journal; fixed = each_in rate_fix_in journal }

abbrev pub declares : ℕ → ℕ → DividendForm → Bool
declares class moment form = form.class == class && form.moment == moment

abbrev pub fixes_rate : ℕ → ℕ → FixRateForm → Bool
fixes_rate class moment form = form.class == class && form.moment == moment

abbrev pub rate_declared : Rates → ℕ → ℕ → ℕ
rate_declared rates class moment =
    option_map_or (λ form. form.rate) (find (declares class moment) rates.declared) 0

-- the rate of the last correction, else of the dividend, else 0
abbrev pub rate_at : Rates → ℕ → ℕ → ℕ
rate_at rates class moment =
    option_map_or (λ form. form.rate) (last_of (fixes_rate class moment) rates.fixed) (rate_declared rates class moment)
