-- The laws of a ranking. Assumes nothing.
use Rattle.std.specs.Prelude.{◌≡◌, ℕ, Bool, true, false, not, ◌≢◌}

pub record Ranking {X : Type 0} (key : X → ℕ) (precedes : X → X → Bool) : Type 0 where
  -- nothing precedes itself
  pub irreflexive : (x : X) → precedes x x ≡ false
  pub transitive : (x y z : X) → precedes x y ≡ true → precedes y z ≡ true → precedes x z ≡ true
  -- of two with different keys exactly one precedes the other
  pub total : (x y : X) → (key x ≢ key y) → precedes y x ≡ not (precedes x y)
