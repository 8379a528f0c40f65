use Rattle.std.proofs.Common.{rules}
use Rattle.records.proofs.Inputs.{short_written}
use Rattle.records.proofs.writing.write_short.Goals as goal

pub returns-in-Start-clause-read : goal.returns-in-Start-clause-read
returns-in-Start-clause-read c = short_written c.args.short c.one_number.result (search rules) (search rules)

pub returns-in-Withdrawal-clause-read : goal.returns-in-Withdrawal-clause-read
returns-in-Withdrawal-clause-read c = short_written c.args.short c.one_number-in-Withdrawal.result (search rules) (search rules)

pub returns-in-Opening-clause-read : goal.returns-in-Opening-clause-read
returns-in-Opening-clause-read c = short_written c.args.short c.letter_alone.result (search rules) (search rules)

pub returns-in-Halt-clause-read : goal.returns-in-Halt-clause-read
returns-in-Halt-clause-read c = short_written c.args.short c.letter_alone-in-Halt.result (search rules) (search rules)

pub returns-in-Resumption-clause-read : goal.returns-in-Resumption-clause-read
returns-in-Resumption-clause-read c = short_written c.args.short c.letter_alone-in-Resumption.result (search rules) (search rules)

pub returns-in-Closing-clause-read : goal.returns-in-Closing-clause-read
returns-in-Closing-clause-read c = short_written c.args.short c.letter_alone-in-Closing.result (search rules) (search rules)
