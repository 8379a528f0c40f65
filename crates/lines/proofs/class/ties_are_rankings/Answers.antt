use Rattle.lines.specs.Ranks.{ranking_by_class}
use Rattle.lines.proofs.class.ties_are_rankings.Goals as goal

pub returns-clause-class : goal.returns-clause-class
returns-clause-class g c = λ number class. ranking_by_class g.met.C.Ord.total number class g.C.Class.tie g.met.C.Class.ties
