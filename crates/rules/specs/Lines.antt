-- Lists of lines: what is taken from their front, sums, places. Assumes nothing.
--     swept e q xs      what q shares take from the front of xs, while e accepts the price
use Rattle.std.specs.Prelude.{ℕ, ◌+◌, ◌-◌, Bool, true, false, cond, ◌&&◌, ◌||◌, List, [], ◌∷◌, ◌==◌, nat_le, nat_lt}
use Rattle.prices.specs.declared.price.Price.{Price}
use Rattle.lines.specs.Kind.{Kind}

-- so many shares of the line with this number, which rests at this price
pub record Fill : Type 0 where
  pub number : ℕ
  pub price : Price
  pub shares : ℕ

pub record Sweep (L : Type 0) : Type 0 where
  pub fills : List Fill
  pub rest : List L
  pub wanting : ℕ

abbrev pub sum_of : {X : Type 0} → (X → ℕ) → List X → ℕ
sum_of f [] = 0
sum_of f (x ∷ xs) = f x + sum_of f xs

-- n, if the test passes
abbrev pub only : Bool → ℕ → ℕ
only b n = cond b n 0

abbrev pub total : List Fill → ℕ
total fs = sum_of (λ f. f.shares) fs

abbrev pub is_empty : {X : Type 0} → List X → Bool
is_empty [] = true
is_empty (x ∷ xs) = false

module _ {L : Type 0} (K : Kind L) where
  abbrev pub units : L → ℕ
  units x = (K.price x).units

  abbrev pub fill : L → ℕ → Fill
  fill x q = record { number = K.number x; price = K.price x; shares = q }

  abbrev pub used : L → Sweep L → Sweep L
  used x s = record { fills = fill x (K.left x) ∷ s.fills; rest = s.rest; wanting = s.wanting }

  abbrev pub parted : ℕ → L → List L → Sweep L
  parted q x xs = record { fills = fill x q ∷ []; rest = K.taken q x ∷ xs; wanting = 0 }

  abbrev pub untouched : ℕ → List L → Sweep L
  untouched q xs = record { fills = []; rest = xs; wanting = q }

  abbrev pub swept : (ℕ → Bool) → ℕ → List L → Sweep L
  swept e q [] = untouched q []
  swept e q (x ∷ xs) =
      cond (e (units x) && nat_lt 0 q) (cond (nat_le (K.left x) q) (used x (swept e (q - K.left x) xs)) (parted q x xs)) (untouched q (x ∷ xs))

  -- the shares of the lines whose price passes
  abbrev pub shares : (ℕ → Bool) → List L → ℕ
  shares e xs = sum_of (λ x. only (e (units x)) (K.left x)) xs

  -- whether a line's price passes
  abbrev pub any_passes : (ℕ → Bool) → List L → Bool
  any_passes e [] = false
  any_passes e (x ∷ xs) = e (units x) || any_passes e xs

  -- the shares left of the lines with the number n
  abbrev pub resting : ℕ → List L → ℕ
  resting n xs = sum_of (λ x. only (n == K.number x) (K.left x)) xs

  abbrev pub has_number : ℕ → List L → Bool
  has_number n [] = false
  has_number n (x ∷ xs) = n == K.number x || has_number n xs

  abbrev pub all_left : List L → ℕ
  all_left xs = sum_of K.left xs

  -- a line's place is before the first that it precedes
  abbrev pub placed : L → List L → List L
  placed x [] = x ∷ []
  placed x (y ∷ ys) = cond (K.precedes x y) (x ∷ y ∷ ys) (y ∷ placed x ys)

  -- all lines but that with the number n
  abbrev pub without : ℕ → List L → List L
  without n [] = []
  without n (x ∷ xs) = cond (n == K.number x) (without n xs) (x ∷ without n xs)
