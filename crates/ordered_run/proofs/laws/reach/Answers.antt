use Rattle.std.proofs.Common.{◌≡◌, [], length, sym, subst, arith}
use Rattle.std.proofs.lemmas.Grind.{common_steps}
use Rattle.ordered_run.specs.Items.{items}
use Rattle.ordered_run.specs.Theorems.{Sound, reached}
use Rattle.ordered_run.proofs.Orders.{reach_sound}
use Rattle.ordered_run.proofs.laws.reach.Goals as goal

pub returns-clause-sound : goal.returns-clause-sound
returns-clause-sound g c =
    let key = g.T.Ranked.key in
    let before = g.T.Ranked.precedes in
    let laws = g.met.T.Ranked.ranking in
    let room = length c.args.slots.now in
    let steps = c.args.steps.now in
    let is : items c.loop-s.run ≡ reached key before room steps [] = grind (arith, common_steps) in
    subst (Sound key before) (sym is) (reach_sound key before laws.transitive laws.total room steps)
