-- What an instruction says, as the record says it. Assumes nothing.
use Rattle.prices.specs.declared.price.Price.{Price}
use Rattle.records.specs.declared.record.KeptAccount.{KeptAccount}
use Rattle.records.specs.declared.record.Message.{Message}
use Rattle.records.specs.declared.record.Message.TheVariants.{Start, Entry, Withdrawal, Opening, Halt, Resumption, Closing}
use Rattle.records.specs.Reading.{Reading, start, entry, withdrawal, opening, halt, resumption, closing}
use Rattle.orders.specs.declared.order.Order.{Order}
use Rattle.orders.specs.Orders.{fields_of}

abbrev pub says : Message Price Order KeptAccount → Reading
says (Start reference) = start reference.units
says (Entry order account) = entry (fields_of order) account.bytes account.place
says (Withdrawal number) = withdrawal number
says Opening = opening
says Halt = halt
says Resumption = resumption
says Closing = closing
