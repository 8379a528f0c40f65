-- A price is its units.
use Rattle.std.proofs.Common.{◌≡◌, true}
use mathlib.Core.Bool.{Bool-set}
use mathlib.Core.HLevel.{is_prop→PathP}
use Rattle.prices.specs.Rule.{lawful_price}
use Rattle.prices.specs.declared.price.Price.{Price}

pub same_price : (p q : Price) → p.units ≡ q.units → p ≡ q
same_price p q e j = record {
  units = e j;
  lawful = is_prop→PathP (λ k. lawful_price (e k) ≡ true) (λ k. Bool-set _ _) p.lawful q.lawful j;
}
