use Rattle.std.proofs.Common.{rules}
use Rattle.records.proofs.Entries.{entry_is, spelled}
use Rattle.records.proofs.Misfits.{capacity_fits}
use Rattle.records.proofs.reading.Laid.entry.Goals as goal

pub unwrap-requires-4 : goal.unwrap-requires-4
unwrap-requires-4 c = let fits = capacity_fits c.args.self.bytes.now (search rules) c.requires in search rules

pub returns : goal.returns
returns c =
    let b = c.args.self.bytes.now in
    entry_is b c.args.self.at _ _ _ _ _ _ _ _ _
    (spelled _ _ _ _ c.try_from.ensures c.unwrap.ensures) (spelled _ _ _ _ c.try_from-2.ensures c.unwrap-2.ensures) (spelled _ _ _ _ c.try_from-3.ensures c.unwrap-3.ensures)
    c.number.ensures c.number-2.ensures c.number-3.ensures (spelled _ _ _ _ c.try_from-4.ensures c.unwrap-4.ensures) c.account.ensures.bytes c.account.ensures.place
