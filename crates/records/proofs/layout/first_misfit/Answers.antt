use Rattle.std.proofs.Common.{rules}
use Rattle.std.proofs.iter.runs.Made.{chains}
use Rattle.records.proofs.Misfits.{Looked, misfit_found}
use Rattle.records.proofs.layout.first_misfit.Goals as goal

pub returns : goal.returns
returns c =
    let looked : Looked c.args.rules.now c.args.bytes.now c.position.result = search (rules, chains) in
    misfit_found c.args.rules.now c.args.bytes.now c.position.result looked
