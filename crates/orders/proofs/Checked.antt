-- What is checked, by what is read.
use Rattle.std.proofs.Common.{◌≡◌, ℕ, true, List, Some, None, Ok, Option, Result, sym, refl, ap, ◌∙◌, arith}
use Rattle.std.proofs.lemmas.Bool.{cond-false, not_from_true}
use Rattle.prices.specs.declared.price.Price.{Price}
use Rattle.records.specs.declared.fault.RecordFault.{RecordFault}
use Rattle.records.specs.Refusals.{unless, on_ok}
use Rattle.records.specs.Reading.{Reading, start, entry, read_at}
use Rattle.orders.specs.declared.fault.OrderFault.{OrderFault}
use Rattle.orders.specs.declared.order.Order.{Order}
use Rattle.orders.specs.Rules.{price_rule, type_by}
use Rattle.orders.specs.Checks.{check_at, checked, fault_in, order_fault}
use Rattle.orders.specs.Orders.{fields_of, units_or_zero}

pub check_at_is : (input : List ℕ) (at : ℕ) (r : Result (Option Reading) RecordFault) → r ≡ read_at input at → check_at input at ≡ checked r
unfolding check_at
check_at_is input at r e = ap checked (sym e)

-- the fields of an order have no fault
price_kept : (limit : Option Price) → price_rule (type_by limit) (units_or_zero limit) ≡ true
price_kept None = refl
price_kept (Some p) = p.lawful

pub order_faultless : (o : Order) → order_fault (fields_of o) ≡ None
order_faultless o =
    cond-false _ _ _ (not_from_true _ (price_kept o.limit))
    ∙ (cond-false _ _ _ (not_from_true _ o.lot)
    ∙ (cond-false _ _ _ (not_from_true _ o.least)
    ∙ cond-false _ _ _ (not_from_true _ o.mix)))

-- a record that is read as an order's fields is accepted
pub order_accepted : (o : Order) (b account : List ℕ) (place : ℕ) → read_at b 0 ≡ Ok (Some (entry (fields_of o) account place)) → check_at b 0 ≡ Ok (Some (entry (fields_of o) account place))
order_accepted o b account place e =
    check_at_is b 0 _ (sym e) ∙ ap (λ fault. unless fault (Some (entry (fields_of o) account place))) (order_faultless o)

pub reference_accepted : (p : Price) (b : List ℕ) → read_at b 0 ≡ Ok (Some (start p.units)) → check_at b 0 ≡ Ok (Some (start p.units))
reference_accepted p b e =
    check_at_is b 0 _ (sym e) ∙ ap (λ fault. unless fault (Some (start p.units))) (cond-false _ _ _ (not_from_true _ p.lawful))

-- a record that is read, and is checked to r
unless_some : (o : Option OrderFault) (m : Reading) → on_ok Some (unless o m) ≡ unless o (Some m)
unless_some None m = refl
unless_some (Some fault) m = refl

pub check_some : (input : List ℕ) (at : ℕ) (m : Reading) (r : Result Reading OrderFault) → Ok (Some m) ≡ read_at input at → r ≡ unless (fault_in m) m → on_ok Some r ≡ check_at input at
check_some input at m r e f = ap (on_ok Some) f ∙ (unless_some (fault_in m) m ∙ sym (check_at_is input at (Ok (Some m)) e))

pub same_reading : (o : Option OrderFault) (m n : Reading) → Ok n ≡ unless o m → n ≡ m
same_reading None m n e = cc
same_reading (Some fault) m n e = absurd (let z : ◌≡◌ {A = ℕ} 0 1 = cc in omega arith)
