-- Plain orders by their fields. Assumes nothing.
use Rattle.records.specs.declared.letters.OrderType.TheVariants.{Limit}
use Rattle.records.specs.declared.letters.Qualifier.TheVariants.{Unqualified}
use Rattle.records.specs.declared.record.EntryFields.{EntryFields}
use Rattle.orders.specs.declared.order.plain.PlainOrder.{PlainOrder}

abbrev pub plain_fields : PlainOrder → EntryFields
plain_fields p =
    record {
      side = p.side;
      order_type = Limit;
      qualifier = Unqualified;
      price = p.price.units;
      quantity = p.quantity;
      minimum = 0;
      capacity = p.capacity;
    }
