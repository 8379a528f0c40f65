-- The faults of the book layer by what is told of them. Assumes nothing.
use Rattle.std.specs.Prelude.{codes}
use Rattle.records.specs.Refusals.{Row}
use Rattle.rules.specs.declared.terms.BookFault.{BookFault}
use Rattle.rules.specs.declared.terms.BookFault.TheVariants.{Turn, Spent, Band, Empty, Tape, Shortfall, Full, Sheet, Unknown}

abbrev pub book_row : BookFault → Row
book_row Turn = record { number = 8; word = codes "TURN"; layer = 3; byte = 0 }
book_row Spent = record { number = 9; word = codes "SPENT"; layer = 3; byte = 0 }
book_row Band = record { number = 10; word = codes "BAND"; layer = 3; byte = 0 }
book_row Empty = record { number = 11; word = codes "EMPTY"; layer = 3; byte = 0 }
book_row Tape = record { number = 12; word = codes "TAPE"; layer = 3; byte = 0 }
book_row Shortfall = record { number = 13; word = codes "SHORTFALL"; layer = 3; byte = 0 }
book_row Full = record { number = 14; word = codes "FULL"; layer = 3; byte = 0 }
book_row Sheet = record { number = 15; word = codes "SHEET"; layer = 3; byte = 0 }
book_row Unknown = record { number = 16; word = codes "UNKNOWN"; layer = 3; byte = 0 }
