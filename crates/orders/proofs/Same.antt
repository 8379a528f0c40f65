-- An order is its fields.
use Rattle.std.proofs.Common.{◌≡◌, ℕ, true, List, Some, None, Ok, Option, Result, sym, refl, ap, ◌∙◌, arith}
use mathlib.Core.Bool.{Bool-set}
use mathlib.Core.HLevel.{is_prop→PathP}
use Rattle.prices.specs.declared.price.Price.{Price}
use Rattle.prices.proofs.Same.{same_price}
use Rattle.records.specs.declared.record.EntryFields.{EntryFields}
use Rattle.records.specs.Reading.{Reading, entry}
use Rattle.orders.specs.declared.fault.OrderFault.{OrderFault}
use Rattle.orders.specs.declared.order.Order.{Order}
use Rattle.orders.specs.Rules.{minimum_rule, mix_rule, quantity_rule, type_by}
use Rattle.orders.specs.Orders.{fields_of, units_or_zero}

same_limit : (a b : Option Price) → type_by a ≡ type_by b → units_or_zero a ≡ units_or_zero b → a ≡ b
same_limit None None t u = refl
same_limit None (Some q) t u = absurd (let z : ◌≡◌ {A = ℕ} 0 1 = cc in omega arith)
same_limit (Some p) None t u = absurd (let z : ◌≡◌ {A = ℕ} 0 1 = cc in omega arith)
same_limit (Some p) (Some q) t u = ap Some (same_price p q u)

pub same_order : (o p : Order) → fields_of o ≡ fields_of p → o ≡ p
same_order o p e =
    let limit = same_limit o.limit p.limit (ap (λ (f : EntryFields). f.order_type) e) (ap (λ (f : EntryFields). f.price) e) in
    let qualifier = ap (λ (f : EntryFields). f.qualifier) e in
    let quantity = ap (λ (f : EntryFields). f.quantity) e in
    let minimum = ap (λ (f : EntryFields). f.minimum) e in
    λ j. record {
      side = (e j).side;
      limit = limit j;
      qualifier = qualifier j;
      quantity = quantity j;
      minimum = minimum j;
      capacity = (e j).capacity;
      lot = is_prop→PathP (λ k. quantity_rule (quantity k) ≡ true) (λ k. Bool-set _ _) o.lot p.lot j;
      least = is_prop→PathP (λ k. minimum_rule (quantity k) (minimum k) ≡ true) (λ k. Bool-set _ _) o.least p.least j;
      mix = is_prop→PathP (λ k. mix_rule (type_by (limit k)) (qualifier k) (minimum k) ≡ true) (λ k. Bool-set _ _) o.mix p.mix j;
    }

same_entry : (f g : EntryFields) (a b : List ℕ) (i j : ℕ) → ◌≡◌ {A = Result (Option Reading) OrderFault} (Ok (Some (entry f a i))) (Ok (Some (entry g b j))) → f ≡ g
same_entry f g a b i j e = cc

-- two orders that one record says are one order
pub order_itself : (o p : Order) (r : Result (Option Reading) OrderFault) (a b : List ℕ) (i j : ℕ) → r ≡ Ok (Some (entry (fields_of o) a i)) → r ≡ Ok (Some (entry (fields_of p) b j)) → o ≡ p
order_itself o p r a b i j d e = same_order o p (same_entry (fields_of o) (fields_of p) a b i j (sym d ∙ e))
