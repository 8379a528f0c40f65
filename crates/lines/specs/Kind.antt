-- What a kind of line is, and the laws that every kind keeps. Assumes nothing.
use Rattle.std.specs.Prelude.{◌≡◌, ℕ, ◌+◌, ◌<◌, ◌≤◌, Bool, true}
use Rattle.prices.specs.declared.price.Price.{Price}
use Rattle.records.specs.declared.letters.Side.{Side}
use Rattle.records.specs.declared.letters.Side.TheVariants.{Buy, Sell}
use Rattle.orders.specs.declared.order.Order.{Order}

pub record Kind (L : Type 0) : Type 0 where
  pub number : L → ℕ
  pub side : L → Side
  pub price : L → Price
  pub left : L → ℕ
  pub precedes : L → L → Bool
  -- the line of an order, with its number, its price and its shares
  pub made : Order → ℕ → Price → ℕ → L
  -- the line with so many shares taken off
  pub taken : ℕ → L → L

-- a line tells the facts that it was made of
pub record Making {L : Type 0} (K : Kind L) : Type 0 where
  pub its_number : (o : Order) (n : ℕ) (p : Price) (q : ℕ) → K.number (K.made o n p q) ≡ n
  pub its_side : (o : Order) (n : ℕ) (p : Price) (q : ℕ) → K.side (K.made o n p q) ≡ o.side
  pub its_price : (o : Order) (n : ℕ) (p : Price) (q : ℕ) → K.price (K.made o n p q) ≡ p
  pub its_left : (o : Order) (n : ℕ) (p : Price) (q : ℕ) → K.left (K.made o n p q) ≡ q

-- every buyer precedes every seller; of two buyers the higher price precedes, of two sellers the lower
pub record Sides {L : Type 0} (K : Kind L) : Type 0 where
  pub buyers_first : (x y : L) → K.side x ≡ Buy → K.side y ≡ Sell → K.precedes x y ≡ true
  pub higher_first : (x y : L) → K.side x ≡ Buy → K.side y ≡ Buy → (K.price y).units < (K.price x).units → K.precedes x y ≡ true
  pub lower_first : (x y : L) → K.side x ≡ Sell → K.side y ≡ Sell → (K.price x).units < (K.price y).units → K.precedes x y ≡ true

-- taking off up to what is left lowers it by that much, and changes nothing else
pub record Taking {L : Type 0} (K : Kind L) : Type 0 where
  pub lowers : (q : ℕ) (x : L) → q ≤ K.left x → K.left (K.taken q x) + q ≡ K.left x
  pub same_number : (q : ℕ) (x : L) → K.number (K.taken q x) ≡ K.number x
  pub same_side : (q : ℕ) (x : L) → K.side (K.taken q x) ≡ K.side x
  pub same_price : (q : ℕ) (x : L) → K.price (K.taken q x) ≡ K.price x
  pub same_before : (q : ℕ) (x y : L) → K.precedes (K.taken q x) y ≡ K.precedes x y
  pub same_behind : (q : ℕ) (x y : L) → K.precedes y (K.taken q x) ≡ K.precedes y x
