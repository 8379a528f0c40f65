use Rattle.std.proofs.Common.{◌≡◌, ◌<◌, ◌≤◌, length, take, drop, Some, sym, ap, ◌∙◌, arith, rules}
use Rattle.std.proofs.lemmas.List.{take_rest}
use Rattle.std.proofs.lemmas.Result.{err_from_is_err_and}
use Rattle.records.specs.Reading.{read_32}
use Rattle.records.proofs.RoundTrips.{written_again, account_lies}
use Rattle.records.proofs.Inputs.{read_at_end, read_at_tail, read_at_whole, length_record, bytes_part}
use Rattle.records.specs.Refusals.{on_ok}
use Rattle.records.proofs.reading.read_record.Goals as goal

pub returns-then-at-input : goal.returns-then-at-input
returns-then-at-input c = record {
  is = sym (read_at_end c.args.input.now c.args.at c.if-at-input.true);
  written = tt;
  account = tt;
}

pub returns-in_default-clause-is : goal.returns-in_default-clause-is
returns-in_default-clause-is c =
    let e = ap length (take_rest c.args.input.now c.args.at) in
    let short : length (drop c.args.at c.args.input.now) < 32 = search rules in
    sym (read_at_tail c.args.input.now c.args.at c.if-at-input.false short)

pub returns-in_err-read : goal.returns-in_err-read
returns-in_err-read c =
    let p = err_from_is_err_and c.from_residual.result c.from_residual.ensures.1 in
    let e = take_rest c.args.input.now c.args.at in
    let n = ap length e in
    let chunk : c.in-Some.bytes.now ≡ take 32 (drop c.args.at c.args.input.now) = search rules in
    let long : 32 ≤ length (drop c.args.at c.args.input.now) = search rules in
    let read = c.in_err-read.ensures ∙ ap (λ b. read_32 b c.args.at) chunk in
    rw (p.1, p.2) (record {
      is = ap (on_ok Some) read ∙ sym (read_at_whole c.args.input.now c.args.at long);
      written = tt;
      account = tt;
    })

pub returns : goal.returns
returns c =
    let e = take_rest c.args.input.now c.args.at in
    let n = ap length e in
    let chunk : c.in-Some.bytes.now ≡ take 32 (drop c.args.at c.args.input.now) = search rules in
    let long : 32 ≤ length (drop c.args.at c.args.input.now) = search rules in
    let read = c.in_ok-read.ensures ∙ ap (λ b. read_32 b c.args.at) chunk in
    record {
      is = ap (on_ok Some) read ∙ sym (read_at_whole c.args.input.now c.args.at long);
      written = written_again (take 32 (drop c.args.at c.args.input.now)) c.args.at _ (length_record c.args.input.now c.args.at long)
          (bytes_part c.args.input.now c.args.at 32 (λ i. omega (arith, c.type_inv.input i))) (sym read);
      account = account_lies c.args.input.now c.args.at _ (sym read);
    }
