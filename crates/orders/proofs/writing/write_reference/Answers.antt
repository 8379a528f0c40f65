use Rattle.std.proofs.Common.{◌≡◌, Some, Ok, ap, ◌∙◌, subst}
use Rattle.records.specs.Bytes.{start_bytes}
use Rattle.records.specs.Reading.{read_at, start}
use Rattle.orders.proofs.Checked.{reference_accepted}
use Rattle.orders.proofs.writing.write_reference.Goals as goal

pub returns : goal.returns
returns c = record {
  after = c.write_short.ensures.after ∙ ap start_bytes c.units.ensures;
  read = reference_accepted c.args.reference c.write_short.new.out
      (subst (λ n. read_at c.write_short.new.out 0 ≡ Ok (Some (start n))) c.units.ensures c.write_short.ensures.read);
}
