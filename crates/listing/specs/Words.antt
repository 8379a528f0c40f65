-- The text of one record. Assumes nothing.
use Rattle.std.specs.Prelude.{ℕ, List, ◌++◌, codes, decimal}
use Rattle.prices.specs.Text.{price_text}
use Rattle.records.specs.declared.record.EntryFields.{EntryFields}
use Rattle.records.specs.Reading.{Reading, start, entry, withdrawal, opening, halt, resumption, closing}
use Rattle.records.specs.Words.{capacity_word, side_word}
use Rattle.orders.specs.Words.{marks_text, price_or_market}

abbrev pub entry_text : EntryFields → List ℕ → List ℕ
entry_text f account =
    codes "entry: " ++ (side_word f.side ++ (codes " " ++ (decimal f.quantity ++ (codes " at " ++ (price_or_market f.order_type f.price
    ++ (marks_text f.qualifier f.minimum ++ (codes ", " ++ (capacity_word f.capacity ++ (codes ", account " ++ account)))))))))

abbrev pub reading_text : Reading → List ℕ
reading_text (start reference) = codes "start at reference " ++ price_text reference
reading_text (entry f account place) = entry_text f account
reading_text (withdrawal number) = codes "withdrawal of " ++ decimal number
reading_text opening = codes "opening"
reading_text halt = codes "halt"
reading_text resumption = codes "resumption"
reading_text closing = codes "closing"
