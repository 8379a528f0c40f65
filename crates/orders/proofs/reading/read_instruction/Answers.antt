use Rattle.std.proofs.Common.{◌≡◌, ℕ, take, drop, None, Ok, Err, Option, Result, sym, ap, ◌∙◌, subst}
use Rattle.std.specs.Option.{option_map}
use Rattle.std.proofs.lemmas.Result.{err_from_is_err_and}
use Rattle.records.specs.declared.fault.RecordFault.{RecordFault}
use Rattle.records.specs.declared.record.Account.{Account}
use Rattle.records.specs.declared.record.EntryFields.{EntryFields}
use Rattle.records.specs.declared.record.Message.{Message}
use Rattle.records.specs.Reading.{Accepted, AccountIn, Reading, bytes_of, reading_of}
use Rattle.orders.proofs.Checked.{check_at_is, check_some, same_reading}
use Rattle.orders.specs.Checks.{fault_in}
use Rattle.orders.proofs.reading.read_instruction.Goals as goal

-- what was read, where a record was found
abbrev read_as : Option (Message ℕ EntryFields Account) → Result (Option Reading) RecordFault
read_as found = Ok (option_map reading_of found)

pub returns-in_err-found : goal.returns-in_err-found
returns-in_err-found c =
    let p = err_from_is_err_and c.from_residual.result c.from_residual.ensures.1 in
    let e = c.in_err-found.ensures.is in
    rw (p.1, p.2) (record { is = sym (check_at_is c.args.input.now c.args.at _ e); written = tt; account = tt })

pub returns-in_default : goal.returns-in_default
returns-in_default c =
    let e = sym (ap read_as c.in_default.is) ∙ c.in_ok-found.ensures.is in
    record { is = sym (check_at_is c.args.input.now c.args.at (Ok None) e); written = tt; account = tt }

pub returns-in_err-checked : goal.returns-in_err-checked
returns-in_err-checked c =
    let p = err_from_is_err_and c.from_residual-in_err-checked.result c.from_residual-in_err-checked.ensures.1 in
    let e = sym (ap read_as c.in-Some.is) ∙ c.in_ok-found.ensures.is in
    let f = c.in_err-checked.ensures in
    rw (p.1, p.2) (record { is = check_some c.args.input.now c.args.at (reading_of c.in-Some.found) (Err c.in_err-checked.field-0.0) e f; written = tt; account = tt })

pub returns : goal.returns
returns c =
    let e = sym (ap read_as c.in-Some.is) ∙ c.in_ok-found.ensures.is in
    let lies = subst (λ o. Accepted (read_as o) (AccountIn c.args.input.now)) c.in-Some.is c.in_ok-found.ensures.account in
    let again = subst (λ o. Accepted (read_as o) (λ m. bytes_of m ≡ take 32 (drop c.args.at c.args.input.now))) c.in-Some.is c.in_ok-found.ensures.written in
    let f = c.in_ok-checked.ensures in
    let same = same_reading (fault_in (reading_of c.in-Some.found)) (reading_of c.in-Some.found) _ f in
    record {
      is = check_some c.args.input.now c.args.at (reading_of c.in-Some.found) _ e f;
      written = ap bytes_of same ∙ again;
      account = subst (AccountIn c.args.input.now) (sym same) lies;
    }
