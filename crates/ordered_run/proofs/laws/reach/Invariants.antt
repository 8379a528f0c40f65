use Rattle.std.proofs.Common.{◌≡◌, [], length, drop}
use Rattle.ordered_run.specs.Items.{items, memory}
use Rattle.ordered_run.specs.Theorems.{reached}
use Rattle.ordered_run.proofs.laws.reach.Given as goal

abbrev pub invariant-loop-s : goal.invariant-loop-s
invariant-loop-s g l =
    let key = g.T.Ranked.key in
    let before = g.T.Ranked.precedes in
    let room = length (memory l.run) in
    (room ≡ length (memory l.initial.run)) × (reached key before room (drop l.s-index l.steps) (items l.run) ≡ reached key before room l.steps [])
