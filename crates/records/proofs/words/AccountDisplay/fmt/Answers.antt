use Rattle.std.proofs.Common.{◌≤◌, length, rules}
use Rattle.std.proofs.lemmas.Str.{IsUtf8-from_ascii}
use Rattle.records.proofs.Misfits.{printable_ascii}
use Rattle.records.proofs.words.AccountDisplay.fmt.Goals as goal

pub unwrap-requires : goal.unwrap-requires
unwrap-requires g c =
    let bytes = c.args.self.now.bytes.now in
    let short : length bytes ≤ 8 = search rules in
    let text = IsUtf8-from_ascii bytes (printable_ascii bytes short c.args.self.now.printable) in
    search rules
