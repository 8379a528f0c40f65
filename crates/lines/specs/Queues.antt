-- A line as it lies in a run, whatever its kind. Assumes nothing.
use Rattle.lines.specs.declared.queued.Queued.{Queued}
use Rattle.lines.specs.Kind.{Kind}

abbrev pub queued : {L : Type 0} → Kind L → Kind (Queued L)
queued K = record {
  number = λ x. K.number x.0;
  side = λ x. K.side x.0;
  price = λ x. K.price x.0;
  left = λ x. K.left x.0;
  precedes = λ x y. K.precedes x.0 y.0;
  made = λ o n p q. record { 0 = K.made o n p q };
  taken = λ q x. record { 0 = K.taken q x.0 };
}
