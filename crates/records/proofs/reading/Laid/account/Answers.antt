use Rattle.std.proofs.Common.{◌≡◌, drop, ap, ◌∙◌, rules}
use Rattle.records.specs.Layout.{account_layout, misfit}
use Rattle.records.proofs.Misfits.{account_fits}
use Rattle.records.proofs.reading.Laid.account.Goals as goal

pub invariant_of-result : goal.invariant_of-result
invariant_of-result c =
    let last : c.unwrap.result.now ≡ drop 20 (drop 4 c.args.self.bytes.now) = search rules in
    record { printable = ap (misfit account_layout) last ∙ account_fits c.args.self.bytes.now c.requires }
