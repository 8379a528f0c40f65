use Rattle.std.proofs.Common.{eqb, rules, tests, ap, sym, ◌∙◌}
use Rattle.std.proofs.lemmas.Iterator.{YieldsList-from_slice}
use Rattle.std.proofs.lemmas.Iterator.Search.{position_from_yields_List}
use Rattle.ordered_run.specs.Run.{place}
use Rattle.ordered_run.proofs.Places.{place_is}
use Rattle.ordered_run.proofs.run.OrderedRun.find.Goals as goal

pub returns : goal.returns
returns g c =
    let key = g.T.Ranked.key in
    let xs = c.as_slice.result.now in
    position_from_yields_List (λ x. eqb (key x) c.args.sought) _ _ c.position.result c.position.ensures.ran (YieldsList-from_slice _ c.iter.ensures.rest) (λ x b q k. search (rules, tests))
    ∙ sym (place_is key c.args.sought xs)
    ∙ ap (place key c.args.sought) c.as_slice.ensures
