-- The step table and the step at a price. Assumes nothing.
use Rattle.std.specs.Prelude.{ℕ, cond, List, [], ◌∷◌, fold, nat_le}
use Rattle.prices.specs.declared.steps.StepRow.{StepRow}

-- the row's step where the row starts at or below n, and else the step so far
abbrev pub step_past : StepRow → ℕ → ℕ → ℕ
step_past row n step = cond (nat_le row.start n) row.step step

-- the step of the last row that starts at or below n; 0 where there is none
abbrev pub step_at : List StepRow → ℕ → ℕ
step_at rows n = fold (λ step row. step_past row n step) 0 rows

-- the house's table
abbrev pub house_steps : List StepRow
house_steps =
    record { start = 1; step = 1 } ∷ record { start = 500; step = 2 } ∷ record { start = 1000; step = 5 }
    ∷ record { start = 5000; step = 25 } ∷ record { start = 50000; step = 50 } ∷ record { start = 100000; step = 100 } ∷ []
