-- Rank by side and price is a ranking where the tie is one, whatever is ranked. Assumes nothing.
use Rattle.std.specs.Prelude.{◌≡◌, ℕ, Bool, true, false, not}
use Rattle.std.proofs.Common.{subst, rules, arith, refl}
use Rattle.std.proofs.lemmas.Grind.{common_steps}
use Rattle.std.specs.declared.cmp.Ordering.{Ordering}
use Rattle.std.specs.declared.cmp.Ordering.TheVariants.{Equal}
use Rattle.std.specs.Ordering.{is_lt, nat_cmp, on, ordering_then, then_cmp}
use Rattle.std.specs.Cmp.{IsTotalOrder}
use Rattle.std.specs.Cmp.Rules.{comparing}
use Rattle.ordered_run.specs.Ranking.{Ranking}
use Rattle.records.specs.declared.letters.Side.{Side}
use Rattle.records.specs.declared.letters.Side.TheVariants.{Buy, Sell}
use Rattle.records.specs.declared.letters.Capacity.{Capacity}
use Rattle.records.specs.declared.letters.Capacity.TheVariants.{Investor, Dealer}
use Rattle.lines.specs.Rank.{capacity_tie, lower_before, rank_before}

lower_self : (p : ℕ) (t : Bool) → t ≡ false → lower_before p p t ≡ false
lower_self p t e = grind (arith, common_steps)

lower_transitive : (p q r : ℕ) (t u v : Bool) → lower_before p q t ≡ true → lower_before q r u ≡ true → (t ≡ true → u ≡ true → v ≡ true) → lower_before p r v ≡ true
lower_transitive p q r t u v e f both = grind (arith, common_steps)

lower_not : (p q : ℕ) (t u : Bool) → u ≡ not t → lower_before q p u ≡ not (lower_before p q t)
lower_not p q t u e = grind (arith, common_steps)

self_by : (s : Side) (p : ℕ) (t : Bool) → t ≡ false → rank_before s s p p t ≡ false
self_by Buy p t e = lower_self p t e
self_by Sell p t e = lower_self p t e

transitive_by : (a b c : Side) (p q r : ℕ) (t u v : Bool) → rank_before a b p q t ≡ true → rank_before b c q r u ≡ true → (t ≡ true → u ≡ true → v ≡ true) → rank_before a c p r v ≡ true
transitive_by Buy Buy Buy p q r t u v e f both = lower_transitive r q p u t v f e (λ x y. both y x)
transitive_by Sell Sell Sell p q r t u v e f both = lower_transitive p q r t u v e f both
transitive_by Buy Buy Sell p q r t u v e f both = refl
transitive_by Buy Sell Sell p q r t u v e f both = refl
transitive_by Buy Sell Buy p q r t u v e f both = search rules
transitive_by Sell Buy Buy p q r t u v e f both = search rules
transitive_by Sell Buy Sell p q r t u v e f both = search rules
transitive_by Sell Sell Buy p q r t u v e f both = search rules

total_by : (a b : Side) (p q : ℕ) (t u : Bool) → u ≡ not t → rank_before b a q p u ≡ not (rank_before a b p q t)
total_by Buy Buy p q t u e = lower_not q p t u e
total_by Buy Sell p q t u e = refl
total_by Sell Buy p q t u e = refl
total_by Sell Sell p q t u e = lower_not p q t u e

module _ {X : Type 0} (number : X → ℕ) (side : X → Side) (price : X → ℕ) (tie : X → X → Bool) (tied : Ranking number tie) where
  abbrev before : X → X → Bool
  before x y = rank_before (side x) (side y) (price x) (price y) (tie x y)

  pub ranking_by_price : Ranking number before
  ranking_by_price = record {
    irreflexive = λ x. self_by (side x) (price x) (tie x x) (tied.irreflexive x);
    transitive = λ x y z e f. transitive_by (side x) (side y) (side z) (price x) (price y) (price z) (tie x y) (tie y z) (tie x z) e f (tied.transitive x y z);
    total = λ x y apart. total_by (side x) (side y) (price x) (price y) (tie x y) (tie y x) (tied.total x y apart);
  }

-- a total order is a ranking by a number that it tells apart
ranking_by_order : {X : Type 0} (number : X → ℕ) {R : X → X → Ordering} → IsTotalOrder R → ((x y : X) → R x y ≡ Equal → number x ≡ number y) → Ranking number (λ x y. is_lt (R x y))
ranking_by_order number o alike = Prim.search rules

-- a tie is a ranking where it goes by an order of classes, and within one class by the lower number
module _ {X C : Type 0} {cmp : C → C → Ordering} (o : IsTotalOrder cmp) (number : X → ℕ) (class : X → C) (tie : C → C → ℕ → ℕ → Bool) (ties : (c d : C) (m n : ℕ) → is_lt (ordering_then (cmp c d) (nat_cmp m n)) ≡ tie c d m n) where
  abbrev order : X → X → Ordering
  order = then_cmp (on class cmp) (on number nat_cmp)

  abbrev tie_of : X → X → Bool
  tie_of x y = tie (class x) (class y) (number x) (number y)

  tie_by_order : (x y : X) → is_lt (order x y) ≡ tie_of x y
  tie_by_order x y = ties (class x) (class y) (number x) (number y)

  pub ranking_by_class : Ranking number tie_of
  ranking_by_class = subst (Ranking number) (λ i x y. tie_by_order x y i) (ranking_by_order number {R = order} (Prim.search (comparing, rules)) (λ x y e. Prim.search rules))

-- the tie of the capacity kind is one, whatever is ranked
abbrev place : Capacity → ℕ
place Investor = 0
place Dealer = 1

capacity_ties : (c d : Capacity) (m n : ℕ) → is_lt (ordering_then (nat_cmp (place c) (place d)) (nat_cmp m n)) ≡ capacity_tie c d m n
capacity_ties Investor Investor m n = Prim.search rules
capacity_ties Investor Dealer m n = refl
capacity_ties Dealer Investor m n = refl
capacity_ties Dealer Dealer m n = Prim.search rules

pub ranking_by_capacity : {X : Type 0} (number : X → ℕ) (capacity : X → Capacity) → Ranking number (λ x y. capacity_tie (capacity x) (capacity y) (number x) (number y))
ranking_by_capacity number capacity = ranking_by_class {cmp = on place nat_cmp} (Prim.search (comparing, rules)) number capacity capacity_tie capacity_ties
