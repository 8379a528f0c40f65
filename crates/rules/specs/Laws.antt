-- What holds of every book that is reached. Assumes nothing.
use Rattle.std.specs.Prelude.{◌≡◌, ℕ, ◌+◌, ◌<◌, ◌≤◌, min, true, List, [], ◌∷◌, ◌++◌, length, None, ◌≢◌}
use Rattle.std.specs.List.{AllByRecursion}
use Rattle.prices.specs.declared.price.Price.{Price}
use Rattle.records.specs.declared.letters.Side.{Side}
use Rattle.records.specs.declared.letters.Side.TheVariants.{Buy, Sell}
use Rattle.ordered_run.specs.Ranking.{Ranking}
use Rattle.lines.specs.Kind.{Kind, Making, Sides, Taking}
use Rattle.rules.specs.declared.terms.Status.{Status}
use Rattle.rules.specs.declared.terms.Status.TheVariants.{PreOpen, Calling, Running, Halted, Closed}
use Rattle.rules.specs.Lines.{units}
use Rattle.rules.specs.Book.{Book}

-- the laws of a kind of line
pub record Lawful {L : Type 0} (K : Kind L) : Type 0 where
  pub making : Making K
  pub ranking : Ranking K.number K.precedes
  pub sides : Sides K
  pub taking : Taking K

-- R holds between each element and each later one; between each of xs and each of ys
abbrev pub Pairwise : {X : Type 0} → (X → X → Type 0) → List X → Type 0
Pairwise R [] = Unit {0}
Pairwise R (x ∷ xs) = AllByRecursion (R x) xs × Pairwise R xs

abbrev pub Across : {X : Type 0} → (X → X → Type 0) → List X → List X → Type 0
Across R xs ys = AllByRecursion (λ x. AllByRecursion (R x) ys) xs

module _ {L : Type 0} (K : Kind L) where
  -- rank, and numbers apart
  abbrev pub Before : L → L → Type 0
  Before x y = (K.precedes x y ≡ true) × (K.number x ≢ K.number y)

  pub record Good (side : Side) (next : ℕ) (x : L) : Type 0 where
    pub on_side : K.side x ≡ side
    pub some_left : 0 < K.left x
    pub numbered : K.number x < next

  -- the lines stand in the order of their rank, with numbers of their own below the next, buyers first, each with shares left, and fit their places
  pub record Sound (s : Book L) : Type 0 where
    pub ranked : Pairwise Before (s.buyers ++ s.sellers)
    pub of_buyers : AllByRecursion (Good Buy s.next) s.buyers
    pub of_sellers : AllByRecursion (Good Sell s.next) s.sellers
    pub fits : length s.buyers + length s.sellers ≤ s.places

  -- every resting buyer's price is below every resting seller's
  abbrev pub Below : List L → List L → Type 0
  Below bs ss = Across (λ b o. units K b < units K o) bs ss

  -- while the book is running or halted
  abbrev pub Uncrossed : Status → Book L → Type 0
  Uncrossed PreOpen s = Unit {0}
  Uncrossed Calling s = Unit {0}
  Uncrossed Running s = Below s.buyers s.sellers
  Uncrossed Halted s = Below s.buyers s.sellers
  Uncrossed Closed s = Unit {0}

  -- a book as it is started: of a longer run the first 4,096 lines are used
  abbrev pub fresh : Price → ℕ → Book L
  fresh reference run = record { status = PreOpen; reference = reference; next = 1; last = None; buyers = []; sellers = []; places = min run 4096 }
