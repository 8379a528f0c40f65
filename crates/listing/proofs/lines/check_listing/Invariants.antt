use Rattle.std.proofs.Common.{◌≡◌, string_bytes}
use Rattle.listing.specs.Lines.{accepted_in, lines, refused_in}
use Rattle.listing.proofs.lines.check_listing.Given as goal

abbrev pub invariant-loop-index : goal.invariant-loop-index
invariant-loop-index l =
    (string_bytes l.text ≡ lines l.input l.index) × (l.accepted ≡ accepted_in l.input l.index) × (l.refused ≡ refused_in l.input l.index)
