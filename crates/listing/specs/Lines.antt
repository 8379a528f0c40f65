-- The listing of an order file. Assumes nothing.
use Rattle.std.specs.Prelude.{ℕ, zero, suc, ◌+◌, ◌*◌, ◌/◌, ◌%◌, min, List, [], ◌++◌, length, Some, None, Ok, Err, codes, decimal, Option, Result}
use Rattle.records.specs.RefusalText.{refusal_text}
use Rattle.records.specs.Refusals.{Row}
use Rattle.records.specs.Reading.{Reading}
use Rattle.orders.specs.declared.fault.OrderFault.{OrderFault}
use Rattle.orders.specs.Checks.{check_at}
use Rattle.orders.specs.Refusals.{order_row}
use Rattle.listing.specs.Words.{reading_text}

-- a line: the record's index, and what is said of it
abbrev pub line : ℕ → List ℕ → List ℕ
line index text = decimal index ++ (codes " " ++ (text ++ codes "\n"))

abbrev pub refused_text : Row → List ℕ
refused_text row = codes "refused " ++ refusal_text row.number row.word row.layer row.byte

abbrev pub line_of : ℕ → Result (Option Reading) OrderFault → List ℕ
line_of index (Ok None) = []
line_of index (Ok (Some reading)) = line index (reading_text reading)
line_of index (Err fault) = line index (refused_text (order_row fault))

abbrev pub accepted : Result (Option Reading) OrderFault → ℕ
accepted (Ok None) = 0
accepted (Ok (Some reading)) = 1
accepted (Err fault) = 0

abbrev pub refused : Result (Option Reading) OrderFault → ℕ
refused (Ok None) = 0
refused (Ok (Some reading)) = 0
refused (Err fault) = 1

-- what is answered of the record with an index, from 0
abbrev pub answer_at : List ℕ → ℕ → Result (Option Reading) OrderFault
answer_at input index = check_at input (index * 32)

-- over the first n records
abbrev pub lines : List ℕ → ℕ → List ℕ
lines input zero = []
lines input (suc n) = lines input n ++ line_of n (answer_at input n)

abbrev pub accepted_in : List ℕ → ℕ → ℕ
accepted_in input zero = 0
accepted_in input (suc n) = accepted_in input n + accepted (answer_at input n)

abbrev pub refused_in : List ℕ → ℕ → ℕ
refused_in input zero = 0
refused_in input (suc n) = refused_in input n + refused (answer_at input n)

-- the records of an input: one for each 32 bytes, and one more where bytes are left
abbrev pub record_count : List ℕ → ℕ
record_count input = length input / 32 + min (length input % 32) 1

abbrev pub counts_text : ℕ → ℕ → List ℕ
counts_text taken left = decimal taken ++ (codes " accepted, " ++ (decimal left ++ codes " refused\n"))

abbrev pub listing : List ℕ → List ℕ
listing input = lines input (record_count input) ++ counts_text (accepted_in input (record_count input)) (refused_in input (record_count input))
