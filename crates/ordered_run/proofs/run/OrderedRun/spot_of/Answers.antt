use Rattle.std.proofs.Common.{◌≡◌, not, length, rules, tests, ap, sym, ◌∙◌}
use Rattle.std.proofs.lemmas.Iterator.{YieldsList-from_slice}
use Rattle.std.proofs.lemmas.Iterator.Search.{position_from_yields_List}
use Rattle.std.specs.Option.{unwrap_or}
use Rattle.std.specs.List.{position}
use Rattle.ordered_run.specs.Run.{spot}
use Rattle.ordered_run.proofs.Places.{spot_is}
use Rattle.ordered_run.proofs.run.OrderedRun.spot_of.Goals as goal

pub returns : goal.returns
returns g c =
    let before = g.T.Ranked.precedes in
    let x = c.args.x.now in
    let xs = c.as_slice-items.result.now in
    let first : c.position.result ≡ position (λ y. not (before y x)) xs
    = position_from_yields_List (λ y. not (before y x)) _ _ c.position.result c.position.ensures.ran (YieldsList-from_slice _ c.iter.ensures.rest) (λ y b q k. search (rules, tests)) in
    c.unwrap_or.ensures ∙ ap (λ o. unwrap_or o (length xs)) first ∙ sym (spot_is before x xs) ∙ ap (spot before x) c.as_slice-items.ensures
