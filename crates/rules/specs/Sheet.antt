-- What the auction sheet sums, over lines of any kind, and the opening price. Assumes nothing.
use Rattle.std.specs.Prelude.{◌≡◌, ℕ, ◌<◌, ◌≤◌, cond, List, [], ◌∷◌, ◌++◌, map, ◌==◌, nat_le, nat_lt}
use Rattle.prices.specs.declared.price.Price.{Price}
use Rattle.lines.specs.Kind.{Kind}
use Rattle.rules.specs.Lines.{shares, units}
use Rattle.rules.specs.Opening.{Passes, choice, volume_at}

-- one price of the book, the shares of buyers at it or higher and of sellers at it or lower
pub record Level : Type 0 where
  pub price : Price
  pub demanded : ℕ
  pub supplied : ℕ

-- a price among others, the highest first, each once
abbrev pub ranged : Price → List Price → List Price
ranged p [] = p ∷ []
ranged p (q ∷ qs) = cond (p.units == q.units) (q ∷ qs) (cond (nat_lt q.units p.units) (p ∷ q ∷ qs) (q ∷ ranged p qs))

module _ {L : Type 0} (K : Kind L) where
  -- the shares of buyers at a price or higher
  abbrev pub demand : List L → ℕ → ℕ
  demand buyers p = shares K (nat_le p) buyers

  -- the shares of sellers at a price or lower
  abbrev pub supply : List L → ℕ → ℕ
  supply sellers p = shares K (λ r. nat_le r p) sellers

  abbrev pub volume : ℕ → List L → List L → ℕ → ℕ
  volume reference buyers sellers = volume_at (demand buyers) (supply sellers) reference

  abbrev pub level : List L → List L → Price → Level
  level buyers sellers p = record { price = p; demanded = demand buyers p.units; supplied = supply sellers p.units }

  -- the prices of lines, and the sheet: a level for each price of the book
  abbrev pub price_range : List L → List Price
  price_range [] = []
  price_range (x ∷ xs) = ranged (K.price x) (price_range xs)

  abbrev pub levels : List L → List L → List Level
  levels buyers sellers = map (level buyers sellers) (price_range (buyers ++ sellers))

  abbrev pub prices : List L → List L → List ℕ
  prices buyers sellers = map (units K) (buyers ++ sellers)

  -- the choice among the book's prices, or the reference where no share would trade at it or there is none
  abbrev pub chosen_of : ℕ → List L → List L → List ℕ → ℕ
  chosen_of reference buyers sellers [] = reference
  chosen_of reference buyers sellers (p ∷ ps) =
      let c = choice (demand buyers) (supply sellers) reference p ps in
      cond (nat_lt 0 (volume reference buyers sellers c)) c reference

  unfoldable pub opening_price : ℕ → List L → List L → ℕ
  opening_price reference buyers sellers = chosen_of reference buyers sellers (prices buyers sellers)

  pub record OpeningSettled (reference : ℕ) (buyers sellers : List L) : Type 0 where
    -- no number, taken as a price, would move more shares
    pub greatest : (q : ℕ) → volume reference buyers sellers q ≤ volume reference buyers sellers (opening_price reference buyers sellers)
    -- where a share trades, the price passes the five tests against the prices of the book, and no other does
    pub passes : 0 < volume reference buyers sellers (opening_price reference buyers sellers) → Passes (demand buyers) (supply sellers) reference (prices buyers sellers) (opening_price reference buyers sellers)
    pub only : (p : ℕ) → 0 < volume reference buyers sellers p → Passes (demand buyers) (supply sellers) reference (prices buyers sellers) p → p ≡ opening_price reference buyers sellers
    -- where none does, it is the reference
    pub quiet : volume reference buyers sellers (opening_price reference buyers sellers) ≡ 0 → opening_price reference buyers sellers ≡ reference

  abbrev pub OpeningsAreSettled : Type 0
  OpeningsAreSettled = (reference : ℕ) (buyers sellers : List L) → OpeningSettled reference buyers sellers
