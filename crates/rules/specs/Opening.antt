-- The opening price: the five tests as comparisons between prices, and as a choice among them. Assumes nothing.
use Rattle.std.specs.Prelude.{◌≡◌, ℕ, ◌+◌, ◌-◌, ◌<◌, ◌≤◌, min, max, Bool, cond, ◌&&◌, ◌||◌, ltb, List, [], ◌∷◌, filter, ◌==◌, nat_lt}
use Rattle.std.specs.List.{ContainsAt, AllByRecursion}

-- how far two numbers lie apart
abbrev pub apart : ℕ → ℕ → ℕ
apart m n = (m - n) + (n - m)

-- by the first pair, and where that is even by the second
abbrev pub less_or : ℕ → ℕ → ℕ → ℕ → Bool
less_or a b c d = nat_lt a b || (a == b && nat_lt c d)

-- the one that no later one beats
abbrev pub best : (ℕ → ℕ → Bool) → ℕ → List ℕ → ℕ
best beats p [] = p
best beats p (q ∷ qs) = best beats (cond (beats q p) q p) qs

abbrev pub higher : ℕ → ℕ → Bool
higher q p = nat_lt p q

abbrev pub lower : ℕ → ℕ → Bool
lower q p = nat_lt q p

-- the shares of buyers at a price or higher, and of sellers at it or lower
module _ (demand supply : ℕ → ℕ) (reference : ℕ) where
  abbrev pub volume_at : ℕ → ℕ
  volume_at p = min (demand p) (supply p)

  -- without its sign
  abbrev pub imbalance_at : ℕ → ℕ
  imbalance_at p = apart (demand p) (supply p)

  abbrev pub distance : ℕ → ℕ
  distance p = apart p reference

  -- q is even with p by the first two tests
  abbrev pub Even : ℕ → ℕ → Type 0
  Even q p = (volume_at q ≡ volume_at p) × (imbalance_at q ≡ imbalance_at p)

  -- of those even with p, the highest with buyers in excess, and the lowest with sellers in excess
  abbrev pub HighestBought : List ℕ → ℕ → ℕ → Type 0
  HighestBought ps p h = ContainsAt ps h × Even h p × (supply h < demand h) × AllByRecursion (λ q. Even q p → supply q < demand q → q ≤ h) ps

  abbrev pub LowestSold : List ℕ → ℕ → ℕ → Type 0
  LowestSold ps p l = ContainsAt ps l × Even l p × (demand l < supply l) × AllByRecursion (λ q. Even q p → demand q < supply q → l ≤ q) ps

  -- p is the one of h and l that is nearer to the reference, and at equal distance the higher
  abbrev pub Nearer : ℕ → ℕ → ℕ → Type 0
  Nearer h l p = (distance l < distance h → p ≡ l) × (distance h < distance l → p ≡ h) × (distance h ≡ distance l → p ≡ max h l)

  -- p passes the five tests against the prices ps
  pub record Passes (ps : List ℕ) (p : ℕ) : Type 0 where
    pub listed : ContainsAt ps p
    -- 1: no price has more volume
    pub most_volume : AllByRecursion (λ q. volume_at q ≤ volume_at p) ps
    -- 2: of those with as much, none has less imbalance
    pub least_imbalance : AllByRecursion (λ q. volume_at q ≡ volume_at p → imbalance_at p ≤ imbalance_at q) ps
    -- 3: where buyers exceed at all that remain, none is higher; where sellers do, none is lower
    pub all_bought : AllByRecursion (λ q. Even q p → supply q < demand q) ps → AllByRecursion (λ q. Even q p → q ≤ p) ps
    pub all_sold : AllByRecursion (λ q. Even q p → demand q < supply q) ps → AllByRecursion (λ q. Even q p → p ≤ q) ps
    -- 4: where both signs remain, it is the nearer of the highest with buyers and the lowest with sellers in excess
    pub both_signs : (h l : ℕ) → HighestBought ps p h → LowestSold ps p l → Nearer h l p
    -- 5: where nothing is over at any that remains, none is nearer, and none at its distance is higher
    pub all_even : AllByRecursion (λ q. Even q p → demand q ≡ supply q) ps → AllByRecursion (λ q. Even q p → (distance p ≤ distance q) × (distance q ≡ distance p → q ≤ p)) ps

  -- more volume, or as much and less imbalance
  abbrev pub trades_more : ℕ → ℕ → Bool
  trades_more q p = less_or (volume_at p) (volume_at q) (imbalance_at q) (imbalance_at p)

  -- nearer to the reference, or as near and higher
  abbrev pub nearer : ℕ → ℕ → Bool
  nearer q p = less_or (distance q) (distance p) p q

  -- those that remain with w after the first two tests
  abbrev pub remaining : ℕ → List ℕ → List ℕ
  remaining w ps = filter (λ q. (volume_at q == volume_at w) && imbalance_at q == imbalance_at w) ps

  -- by the signs of what remains: those with buyers in excess, those with sellers in excess, and all of them
  abbrev pub by_signs : ℕ → List ℕ → List ℕ → List ℕ → ℕ
  by_signs w [] [] rs = best nearer w rs
  by_signs w (b ∷ bs) [] rs = best higher b bs
  by_signs w [] (s ∷ ss) rs = best lower s ss
  by_signs w (b ∷ bs) (s ∷ ss) rs = best nearer (best higher b bs) (best lower s ss ∷ [])

  abbrev pub settled : ℕ → List ℕ → ℕ
  settled w rs = by_signs w (filter (λ q. ltb (supply q) (demand q)) rs) (filter (λ q. ltb (demand q) (supply q)) rs) rs

  -- the choice among the prices p and ps
  unfoldable pub choice : ℕ → List ℕ → ℕ
  choice p ps = let w = best trades_more p ps in settled w (remaining w (p ∷ ps))

-- the choice passes the five tests, and nothing else does
abbrev pub ChoiceIsSettled : Type 0
ChoiceIsSettled =
    (demand supply : ℕ → ℕ) (reference p : ℕ) (ps : List ℕ) →
    Passes demand supply reference (p ∷ ps) (choice demand supply reference p ps)
    × ((r : ℕ) → Passes demand supply reference (p ∷ ps) r → r ≡ choice demand supply reference p ps)
