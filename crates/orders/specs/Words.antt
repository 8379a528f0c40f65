-- An order in words. Assumes nothing.
use Rattle.std.specs.Prelude.{ℕ, cond, List, [], ◌++◌, codes, decimal, ◌==◌}
use Rattle.prices.specs.Text.{price_text}
use Rattle.records.specs.declared.letters.OrderType.{OrderType}
use Rattle.records.specs.declared.letters.OrderType.TheVariants.{Limit, Market}
use Rattle.records.specs.declared.letters.Qualifier.{Qualifier}
use Rattle.records.specs.declared.letters.Qualifier.TheVariants.{Unqualified, FillOrKill, ImmediateOrCancel}
use Rattle.records.specs.declared.record.EntryFields.{EntryFields}
use Rattle.records.specs.Words.{capacity_word, side_word}

abbrev pub qualifier_part : Qualifier → List ℕ
qualifier_part Unqualified = []
qualifier_part FillOrKill = codes ", fill-or-kill"
qualifier_part ImmediateOrCancel = codes ", immediate-or-cancel"

-- what follows the price: the qualifier, and the minimum where there is one
abbrev pub marks_text : Qualifier → ℕ → List ℕ
marks_text q m = cond (m == 0) (qualifier_part q) (qualifier_part q ++ (codes ", minimum " ++ decimal m))

abbrev pub price_or_market : OrderType → ℕ → List ℕ
price_or_market Limit n = price_text n
price_or_market Market n = codes "market"

abbrev pub order_text : EntryFields → List ℕ
order_text f =
    side_word f.side ++ (codes " " ++ (decimal f.quantity ++ (codes " at " ++ (price_or_market f.order_type f.price
    ++ (marks_text f.qualifier f.minimum ++ (codes ", " ++ capacity_word f.capacity))))))
