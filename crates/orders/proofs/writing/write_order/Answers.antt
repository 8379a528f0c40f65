use Rattle.std.proofs.Common.{◌≡◌, cond, is_ok, IfOk, Some, Ok, ap, ◌∙◌, subst}
use Rattle.std.proofs.lemmas.Result.{IfOk-weaker}
use Rattle.records.specs.Bytes.{entry_bytes}
use Rattle.records.specs.Reading.{entry, read_at}
use Rattle.orders.proofs.Checked.{order_accepted}
use Rattle.orders.proofs.Same.{order_itself}
use Rattle.orders.proofs.writing.write_order.Goals as goal

pub returns : goal.returns
returns c =
    let account = c.args.account.now in
    let out = c.write_entry.new.out in
    let read = subst (λ f. IfOk c.write_entry.result (λ _. read_at out 0 ≡ Ok (Some (entry f account 24)))) c.into.ensures c.write_entry.ensures.read in
    record {
      answer = c.write_entry.ensures.answer;
      after = c.write_entry.ensures.after ∙ ap (λ f. cond (is_ok c.write_entry.result) (entry_bytes f account) c.args.out.now) c.into.ensures;
      read = IfOk-weaker c.write_entry.result _ _ (λ _ e. order_accepted c.args.order out account 24 e) read;
      itself = IfOk-weaker c.write_entry.result _ _
          (λ _ e o bytes place f. order_itself o c.args.order _ bytes account place 24 f (order_accepted c.args.order out account 24 e)) read;
    }
