-- What a tape means: its trades, its memory and its free places. Assumes nothing.
use Rattle.std.specs.Prelude.{ℕ, ◌-◌, List, length, take}
use Rattle.std.specs.Borrow.{GName}
use Rattle.rules.specs.declared.terms.Trade.{Trade}
use Rattle.tape.specs.declared.Tape.{Tape}

abbrev pub memory : Tape → List Trade
memory t = t.places.now

abbrev pub written : Tape → List Trade
written t = take t.used t.places.now

abbrev pub free : Tape → ℕ
free t = length (memory t) - length (written t)

-- which reference the memory was lent by
abbrev pub lender : Tape → GName
lender t = t.places.ghost_name
