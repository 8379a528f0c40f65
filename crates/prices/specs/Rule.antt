-- The price rule. Assumes nothing.
use Rattle.std.specs.Prelude.{ℕ, ◌%◌, Bool, ◌&&◌, List, ◌==◌, nat_le, nat_lt}
use Rattle.prices.specs.declared.steps.StepRow.{StepRow}
use Rattle.prices.specs.Steps.{step_at, house_steps}

-- n is a multiple of its step; where the step is 0, no n from 1 is
abbrev pub on_step : List StepRow → ℕ → Bool
on_step rows n = nat_lt 0 (step_at rows n) && n % step_at rows n == 0

-- a price by the table: from 1 to 10,000,000 units, on its step
abbrev pub lawful_by : List StepRow → ℕ → Bool
lawful_by rows n = nat_le 1 n && (nat_le n 10000000 && on_step rows n)

-- a price by the house's table
unfoldable pub lawful_price : ℕ → Bool
lawful_price n = lawful_by house_steps n
