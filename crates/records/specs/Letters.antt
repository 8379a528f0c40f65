-- The letters of a record. Assumes nothing.
use Rattle.std.specs.Prelude.{ℕ, cond, ◌==◌}
use Rattle.records.specs.declared.letters.Side.{Side}
use Rattle.records.specs.declared.letters.Side.TheVariants.{Buy, Sell}
use Rattle.records.specs.declared.letters.OrderType.{OrderType}
use Rattle.records.specs.declared.letters.OrderType.TheVariants.{Limit, Market}
use Rattle.records.specs.declared.letters.Qualifier.{Qualifier}
use Rattle.records.specs.declared.letters.Qualifier.TheVariants.{Unqualified, FillOrKill, ImmediateOrCancel}
use Rattle.records.specs.declared.letters.Capacity.{Capacity}
use Rattle.records.specs.declared.letters.Capacity.TheVariants.{Investor, Dealer}

-- B, S
abbrev pub side_letter : Side → ℕ
side_letter Buy = 66
side_letter Sell = 83

-- L, M
abbrev pub type_letter : OrderType → ℕ
type_letter Limit = 76
type_letter Market = 77

-- N, F, I
abbrev pub qualifier_letter : Qualifier → ℕ
qualifier_letter Unqualified = 78
qualifier_letter FillOrKill = 70
qualifier_letter ImmediateOrCancel = 73

-- I, D
abbrev pub capacity_letter : Capacity → ℕ
capacity_letter Investor = 73
capacity_letter Dealer = 68

-- what a listed letter spells
abbrev pub side_of : ℕ → Side
side_of b = cond (b == 66) Buy Sell

abbrev pub type_of : ℕ → OrderType
type_of b = cond (b == 76) Limit Market

abbrev pub qualifier_of : ℕ → Qualifier
qualifier_of b = cond (b == 78) Unqualified (cond (b == 70) FillOrKill ImmediateOrCancel)

abbrev pub capacity_of : ℕ → Capacity
capacity_of b = cond (b == 73) Investor Dealer
