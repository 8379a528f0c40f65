-- The faults of the order layer by what is told of them. Assumes nothing.
use Rattle.std.specs.Prelude.{codes}
use Rattle.records.specs.Refusals.{Row, record_row}
use Rattle.orders.specs.declared.fault.OrderFault.{OrderFault}
use Rattle.orders.specs.declared.fault.OrderFault.TheVariants.{Record, Price, Quantity, Minimum, Mix}

abbrev pub order_row : OrderFault → Row
order_row (Record fault) = record_row fault
order_row Price = record { number = 4; word = codes "PRICE"; layer = 2; byte = 4 }
order_row Quantity = record { number = 5; word = codes "QUANTITY"; layer = 2; byte = 8 }
order_row Minimum = record { number = 6; word = codes "MINIMUM"; layer = 2; byte = 16 }
order_row Mix = record { number = 7; word = codes "MIX"; layer = 2; byte = 3 }
