use Rattle.std.proofs.Common.{◌≡◌, get_or, Ok, sym, ap, ◌∙◌, rules}
use Rattle.records.specs.Kinds.{HasNoKind, kind_letter, kind_layout}
use Rattle.records.specs.Layout.{misfit}
use Rattle.records.specs.Reading.{reading_of}
use Rattle.std.specs.Option.{option_map}
use Rattle.records.specs.declared.fault.RecordFault.TheVariants.{Byte}
use Rattle.records.specs.Refusals.{unless}
use Rattle.records.proofs.KindRows.{by_kind, kept_by, refused_by, said, unlisted}
use Rattle.records.proofs.reading.Laid.read.Goals.{in-Start, in-Entry, in-Withdrawal, in-Opening, in-Halt, in-Resumption, in-Closing}
use Rattle.records.proofs.reading.Laid.read.Goals as goal

pub returns-in_err-kind : goal.returns-in_err-kind
returns-in_err-kind c =
    let none : HasNoKind (get_or c.args.self.bytes.now 0 0) = search rules in
    let is = unlisted c.args.self.bytes.now c.args.self.at none in
    search rules

pub returns-in_err-check : goal.returns-in_err-check
returns-in_err-check c =
    let b = c.args.self.bytes.now in
    let kind = c.in_ok-kind.kind in
    let letter : get_or b 0 0 ≡ kind_letter kind = search rules in
    let told = c.check.ensures ∙ ap (λ layout. unless (option_map Byte (misfit layout b)) tt) c.layout.ensures in
    let is = by_kind kind b c.args.self.at letter ∙ refused_by (misfit (kind_layout kind) b) c.check.result c.in_err-check.field-0.0 (said kind b c.args.self.at) told c.in_err-check.was in
    search rules

pub returns : goal.returns
returns c =
    let b = c.args.self.bytes.now in
    let kind = c.in_ok-kind.kind in
    let letter : get_or b 0 0 ≡ kind_letter kind = search rules in
    let told = c.check.ensures ∙ ap (λ layout. unless (option_map Byte (misfit layout b)) tt) c.layout.ensures in
    let is = by_kind kind b c.args.self.at letter ∙ kept_by (misfit (kind_layout kind) b) c.check.result _ (said kind b c.args.self.at) told c.in_ok-check.was in
    let says : reading_of c.match-kind.result ≡ said kind b c.args.self.at =
    elim c.match-kind.branch [ in-Start w ↦ search rules | in-Entry w ↦ search rules | in-Withdrawal w ↦ search rules | in-Opening w ↦ search rules | in-Halt w ↦ search rules | in-Resumption w ↦ search rules | in-Closing w ↦ search rules ] in
    ap Ok says ∙ sym is
