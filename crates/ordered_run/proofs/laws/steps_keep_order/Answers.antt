use Rattle.ordered_run.proofs.Orders.{step_keeps}
use Rattle.ordered_run.proofs.laws.steps_keep_order.Goals as goal

pub returns : goal.returns
returns g c = step_keeps g.T.Ranked.key g.T.Ranked.precedes g.met.T.Ranked.ranking.transitive g.met.T.Ranked.ranking.total
