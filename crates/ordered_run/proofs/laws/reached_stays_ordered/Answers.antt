use Rattle.ordered_run.proofs.Orders.{reach_sound}
use Rattle.ordered_run.proofs.laws.reached_stays_ordered.Goals as goal

pub returns : goal.returns
returns g c = reach_sound g.T.Ranked.key g.T.Ranked.precedes g.met.T.Ranked.ranking.transitive g.met.T.Ranked.ranking.total
