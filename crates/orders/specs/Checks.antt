-- The refusals of the order layer: each condition, and the first that holds. Assumes nothing.
use Rattle.std.specs.Prelude.{ℕ, Bool, not, List, [], ◌∷◌, Some, None, Ok, Err, Option, Result}
use Rattle.prices.specs.Rule.{lawful_price}
use Rattle.records.specs.declared.fault.RecordFault.{RecordFault}
use Rattle.records.specs.declared.record.EntryFields.{EntryFields}
use Rattle.records.specs.Refusals.{first_of, unless}
use Rattle.records.specs.Reading.{Reading, start, entry, withdrawal, opening, halt, resumption, closing, read_at}
use Rattle.orders.specs.declared.fault.OrderFault.{OrderFault}
use Rattle.orders.specs.declared.fault.OrderFault.TheVariants.{Record, Price, Quantity, Minimum, Mix}
use Rattle.orders.specs.Rules.{price_rule, quantity_rule, minimum_rule, mix_rule}

abbrev pub price_holds : EntryFields → Bool
price_holds f = not (price_rule f.order_type f.price)

abbrev pub quantity_holds : EntryFields → Bool
quantity_holds f = not (quantity_rule f.quantity)

abbrev pub minimum_holds : EntryFields → Bool
minimum_holds f = not (minimum_rule f.quantity f.minimum)

abbrev pub mix_holds : EntryFields → Bool
mix_holds f = not (mix_rule f.order_type f.qualifier f.minimum)

abbrev pub order_fault : EntryFields → Option OrderFault
order_fault f = first_of ((price_holds f, Price) ∷ (quantity_holds f, Quantity) ∷ (minimum_holds f, Minimum) ∷ (mix_holds f, Mix) ∷ [])

-- of what a record says
abbrev pub fault_in : Reading → Option OrderFault
fault_in (start reference) = first_of ((not (lawful_price reference), Price) ∷ [])
fault_in (entry f account place) = order_fault f
fault_in (withdrawal number) = None
fault_in opening = None
fault_in halt = None
fault_in resumption = None
fault_in closing = None

abbrev pub checked : Result (Option Reading) RecordFault → Result (Option Reading) OrderFault
checked (Err fault) = Err (Record fault)
checked (Ok None) = Ok None
checked (Ok (Some says)) = unless (fault_in says) (Some says)

-- the record at a place of the input: a fault of its bytes before one of its order
unfoldable pub check_at : List ℕ → ℕ → Result (Option Reading) OrderFault
check_at input at = checked (read_at input at)
