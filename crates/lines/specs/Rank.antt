-- Rank by side and price, and then by what a kind adds. Assumes nothing.
use Rattle.std.specs.Prelude.{ℕ, Bool, true, false, ◌&&◌, ◌||◌, ◌==◌, nat_lt}
use Rattle.records.specs.declared.letters.Side.{Side}
use Rattle.records.specs.declared.letters.Side.TheVariants.{Buy, Sell}
use Rattle.records.specs.declared.letters.Capacity.{Capacity}
use Rattle.records.specs.declared.letters.Capacity.TheVariants.{Investor, Dealer}

-- the lower price first; at one price by the tie
abbrev pub lower_before : ℕ → ℕ → Bool → Bool
lower_before p q tie = nat_lt p q || (p == q && tie)

-- buyers before sellers; of buyers the higher price first, of sellers the lower; at one price by the tie
abbrev pub rank_before : Side → Side → ℕ → ℕ → Bool → Bool
rank_before Buy Buy p q tie = lower_before q p tie
rank_before Buy Sell p q tie = true
rank_before Sell Buy p q tie = false
rank_before Sell Sell p q tie = lower_before p q tie

-- the lower number, whatever the classes
abbrev pub number_tie : {C : Type 0} → C → C → ℕ → ℕ → Bool
number_tie c d m n = nat_lt m n

-- investors before dealers; within one capacity the lower number
abbrev pub capacity_tie : Capacity → Capacity → ℕ → ℕ → Bool
capacity_tie Investor Investor m n = nat_lt m n
capacity_tie Investor Dealer m n = true
capacity_tie Dealer Investor m n = false
capacity_tie Dealer Dealer m n = nat_lt m n
