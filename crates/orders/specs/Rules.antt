-- The order rules. Assumes nothing.
use Rattle.std.specs.Prelude.{ℕ, ◌%◌, Bool, true, ◌&&◌, Some, None, Option, ◌==◌, nat_le}
use Rattle.prices.specs.Rule.{lawful_price}
use Rattle.records.specs.declared.letters.OrderType.{OrderType}
use Rattle.records.specs.declared.letters.OrderType.TheVariants.{Limit, Market}
use Rattle.records.specs.declared.letters.Qualifier.{Qualifier}
use Rattle.records.specs.declared.letters.Qualifier.TheVariants.{Unqualified, FillOrKill, ImmediateOrCancel}

-- a limit keeps the price rule; a market order's price field is 0
abbrev pub price_rule : OrderType → ℕ → Bool
price_rule Limit n = lawful_price n
price_rule Market n = n == 0

-- a multiple of 100 from 100 to 1,000,000
abbrev pub quantity_rule : ℕ → Bool
quantity_rule q = nat_le 100 q && (nat_le q 1000000 && q % 100 == 0)

-- 0, or a multiple of 100 up to the quantity
abbrev pub minimum_rule : ℕ → ℕ → Bool
minimum_rule q m = nat_le m q && m % 100 == 0

-- market and fill-or-kill orders have no minimum
abbrev pub mix_rule : OrderType → Qualifier → ℕ → Bool
mix_rule Market q m = m == 0
mix_rule Limit FillOrKill m = m == 0
mix_rule Limit Unqualified m = true
mix_rule Limit ImmediateOrCancel m = true

-- an order is a limit order where it has a limit
abbrev pub type_by : {P : Type 0} → Option P → OrderType
type_by None = Market
type_by (Some price) = Limit
