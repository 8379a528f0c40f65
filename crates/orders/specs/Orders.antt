-- Orders by their fields. Assumes nothing.
use Rattle.std.specs.Prelude.{ℕ, Bool, true, false, ◌&&◌, Some, None, Option, ◌==◌}
use Rattle.prices.specs.declared.price.Price.{Price}
use Rattle.records.specs.declared.letters.OrderType.{OrderType}
use Rattle.records.specs.declared.letters.OrderType.TheVariants.{Limit, Market}
use Rattle.records.specs.declared.letters.Qualifier.{Qualifier}
use Rattle.records.specs.declared.letters.Qualifier.TheVariants.{Unqualified, FillOrKill, ImmediateOrCancel}
use Rattle.records.specs.declared.record.EntryFields.{EntryFields}
use Rattle.orders.specs.declared.order.Order.{Order}
use Rattle.orders.specs.Rules.{type_by}

abbrev pub price_of : Price → ℕ
price_of p = p.units

-- the price field: 0 at a market order
abbrev pub units_or_zero : Option Price → ℕ
units_or_zero None = 0
units_or_zero (Some price) = price.units

abbrev pub limit_fields : Option Price → OrderType × ℕ
limit_fields limit = (type_by limit, units_or_zero limit)

abbrev pub fields_of : Order → EntryFields
fields_of o =
    record {
      side = o.side;
      order_type = type_by o.limit;
      qualifier = o.qualifier;
      price = units_or_zero o.limit;
      quantity = o.quantity;
      minimum = o.minimum;
      capacity = o.capacity;
    }

-- a limit order with no qualifier and no minimum
abbrev pub is_limit : OrderType → Bool
is_limit Limit = true
is_limit Market = false

abbrev pub is_unqualified : Qualifier → Bool
is_unqualified Unqualified = true
is_unqualified FillOrKill = false
is_unqualified ImmediateOrCancel = false

abbrev pub is_plain : EntryFields → Bool
is_plain f = is_limit f.order_type && (is_unqualified f.qualifier && f.minimum == 0)
