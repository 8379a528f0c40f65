use Rattle.std.proofs.Common.{◌≡◌, ◌+◌, ◌*◌, ◌++◌, true, false, is_ok, sym, ap, ◌∙◌, arith}
use Rattle.std.specs.Option.{option_map}
use Rattle.records.specs.Refusals.{on_ok}
use Rattle.orders.specs.Instructions.{says}
use Rattle.listing.specs.Lines.{accepted_in, answer_at, line_of, lines, refused_in}
use Rattle.listing.proofs.Counts.{accepted_more, counted, counts_at_most, is_ok_said, lines_more, present, refused_more}
use Rattle.listing.proofs.lines.check_listing.Goals.{then-is_ok, else-is_ok}
use Rattle.listing.proofs.lines.check_listing.Goals as goal

pub overflow_add-accepted : goal.overflow_add-accepted
overflow_add-accepted c = omega (arith, c.loop-index.invariant.1, counts_at_most c.args.input.now c.loop-index.index, c.loop-index-test.true)

pub overflow_add-refused : goal.overflow_add-refused
overflow_add-refused c = omega (arith, c.loop-index.invariant.2, counts_at_most c.args.input.now c.loop-index.index, c.loop-index-test.true)

pub loop-index-preserved : goal.loop-index-preserved
loop-index-preserved c =
    let input = c.args.input.now in
    let index = c.loop-index.index in
    let answer = answer_at input index in
    let there = present input (index * 32) (omega (arith, c.loop-index-test.true, c.div_ceil-index-end.ensures)) in
    let same : c.is_ok.result ≡ is_ok answer = c.is_ok.ensures.value ∙ is_ok_said (option_map says) c.read_instruction-found.result ∙ ap is_ok c.read_instruction-found.ensures.is in
    let counts : (c.if-is_ok.accepted ≡ accepted_in input (index + 1)) × (c.if-is_ok.refused ≡ refused_in input (index + 1)) =
    elim c.if-is_ok.branch [
      | then-is_ok w ↦ let n = counted true answer there (sym w.if-is_ok.true ∙ same) in (
        omega (arith, w.accepted-is, n.0, c.loop-index.invariant.1, accepted_more input index),
        omega (arith, w.refused-is, n.1, c.loop-index.invariant.2, refused_more input index),
      )
      | else-is_ok w ↦ let n = counted false answer there (sym w.if-is_ok.false ∙ same) in (
        omega (arith, w.accepted-is, n.0, c.loop-index.invariant.1, accepted_more input index),
        omega (arith, w.refused-is, n.1, c.loop-index.invariant.2, refused_more input index),
      )
    ] in (
      c.in_ok-write.ensures.bytes ∙ (ap (λ t. t ++ line_of index (on_ok (option_map says) c.read_instruction-found.result)) c.loop-index.invariant.0
          ∙ (ap (λ told. lines input index ++ line_of index told) c.read_instruction-found.ensures.is ∙ sym (lines_more input index))),
      counts.0,
      counts.1,
    )
