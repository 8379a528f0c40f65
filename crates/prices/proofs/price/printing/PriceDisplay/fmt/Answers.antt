use Rattle.std.proofs.Common.{◌/◌, ◌%◌, ◌∷◌, ◌++◌, ap, ◌∙◌}
use Rattle.std.specs.Fmt.{decimal, styled_decimal}
use Rattle.std.proofs.Output.{has_written_of_eq}
use Rattle.prices.proofs.Places.{price_printed}
use Rattle.prices.proofs.price.printing.PriceDisplay.fmt.Goals as goal

pub returns-clause-writes : goal.returns-clause-writes
returns-clause-writes g c plain ok =
    let units = c.args.self.now.units in
    has_written_of_eq _ _ _ _ _ (ap (λ s. decimal (units / 10000) ++ 46 ∷ styled_decimal s (units % 10000)) c.laid_out.ensures ∙ price_printed units) (c.write.ensures.writes plain ok)
