-- The two kinds of line. Assumes nothing.
use Rattle.std.specs.Prelude.{ℕ, ◌-◌, Bool}
use Rattle.orders.specs.declared.order.Order.{Order}
use Rattle.records.specs.declared.letters.Capacity.{Capacity}
use Rattle.lines.specs.declared.class.Alike.{Alike}
use Rattle.lines.specs.declared.resting.Resting.{Resting}
use Rattle.lines.specs.Kind.{Kind}
use Rattle.lines.specs.Rank.{capacity_tie, number_tie, rank_before}

-- lines rank by side and price, and at one side and price by the tie of their classes and numbers; class tells an order's class
abbrev pub kind_of : {C : Type 0} → (Order → C) → (C → C → ℕ → ℕ → Bool) → Kind (Resting C)
kind_of class tie = record {
  number = λ x. x.number;
  side = λ x. x.side;
  price = λ x. x.price;
  left = λ x. x.left;
  precedes = λ x y. rank_before x.side y.side x.price.units y.price.units (tie x.class y.class x.number y.number);
  made = λ o n p q. record { number = n; side = o.side; price = p; left = q; class = class o };
  taken = λ q x. record { number = x.number; side = x.side; price = x.price; left = x.left - q; class = x.class };
}

-- price, then the lower number
abbrev pub time_kind : Kind (Resting Alike)
time_kind = kind_of (λ o. record {}) number_tie

-- price, then investors before dealers, then the lower number
abbrev pub capacity_kind : Kind (Resting Capacity)
capacity_kind = kind_of (λ o. o.capacity) capacity_tie
