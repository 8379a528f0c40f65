use Rattle.std.proofs.Common.{sym, rules}
use Rattle.records.proofs.Inputs.{entry_written}
use Rattle.records.proofs.writing.write_entry.Goals as goal

pub returns-clause-read : goal.returns-clause-read
returns-clause-read c =
    entry_written c.args.fields c.args.account.now c.entry_in_bytes.result c.entry_in_bytes.ensures (search rules) (search rules) (search rules) (search rules) (sym c.in_default.ensures)
