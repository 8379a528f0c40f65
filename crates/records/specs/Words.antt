-- A side and a capacity in words. Assumes nothing.
use Rattle.std.specs.Prelude.{ℕ, List, codes}
use Rattle.records.specs.declared.letters.Side.{Side}
use Rattle.records.specs.declared.letters.Side.TheVariants.{Buy, Sell}
use Rattle.records.specs.declared.letters.Capacity.{Capacity}
use Rattle.records.specs.declared.letters.Capacity.TheVariants.{Investor, Dealer}

abbrev pub side_word : Side → List ℕ
side_word Buy = codes "buy"
side_word Sell = codes "sell"

abbrev pub capacity_word : Capacity → List ℕ
capacity_word Investor = codes "investor"
capacity_word Dealer = codes "dealer"
