-- What the rank says of the prices of a side. Assumes nothing.
use Rattle.records.specs.declared.letters.Side.TheVariants.{Buy, Sell}
use Rattle.rules.specs.Lines.{swept, total, units}
use Rattle.rules.specs.Book.{Book, volume_of}
use Rattle.rules.specs.Laws.{Before, Good, Pairwise, Lawful}
use Rattle.std.proofs.Common.{◌≡◌, ℕ, ◌≤◌, true, leb, List, sym, ◌∙◌, ⊎_elim, arith}
use Rattle.std.proofs.lemmas.Bool.{true≢false, cases_lt, leb-true, le-leb}
use Rattle.lines.specs.Kind.{Kind}
use Rattle.rules.proofs.Lists.{pairwise_weaker}
use Rattle.rules.proofs.Sweeps.{Falls, sweep, trades_all}
use Rattle.rules.proofs.Sound.{OneSide, Held}

module _ {L : Type 0} {K : Kind L} (W : Lawful K) where
  -- never both ways round
  pub one_way : (x y : L) → K.precedes x y ≡ true → K.precedes y x ≡ true → ⊥
  one_way x y p q = true≢false (sym (W.ranking.transitive x y x p q) ∙ W.ranking.irreflexive x)

  pub bids_fall : (n : ℕ) (xs : List L) → OneSide K Buy n xs → Pairwise (λ x y. units K y ≤ units K x) xs
  bids_fall n xs h = pairwise_weaker (Good K Buy n) (Before K) (λ x y. units K y ≤ units K x)
      (λ x y g k b. ⊎_elim (λ l. absurd (one_way x y b.0 (W.sides.higher_first y x k.on_side g.on_side l))) (λ l. l) (cases_lt (units K x) (units K y)))
      xs h.good h.ranked

  pub offers_rise : (n : ℕ) (xs : List L) → OneSide K Sell n xs → Pairwise (λ x y. units K x ≤ units K y) xs
  offers_rise n xs h = pairwise_weaker (Good K Sell n) (Before K) (λ x y. units K x ≤ units K y)
      (λ x y g k b. ⊎_elim (λ l. absurd (one_way x y b.0 (W.sides.lower_first y x k.on_side g.on_side l))) (λ l. l) (cases_lt (units K y) (units K x)))
      xs h.good h.ranked

  pub demand_falls : (p n : ℕ) (xs : List L) → OneSide K Buy n xs → Pairwise (Falls K (leb p)) xs
  demand_falls p n xs h = pairwise_weaker (Good K Buy n) (λ x y. units K y ≤ units K x) (Falls K (leb p))
      (λ x y _ _ l t. le-leb p (units K x) (omega (arith, leb-true p (units K y) t))) xs h.good (bids_fall n xs h)

  pub supply_falls : (p n : ℕ) (xs : List L) → OneSide K Sell n xs → Pairwise (Falls K (λ r. leb r p)) xs
  supply_falls p n xs h = pairwise_weaker (Good K Sell n) (λ x y. units K x ≤ units K y) (Falls K (λ r. leb r p))
      (λ x y _ _ l t. le-leb (units K x) p (omega (arith, leb-true (units K y) p t))) xs h.good (offers_rise n xs h)

  -- an opening trades its volume on either side
  pub demand_traded : (s : Book L) (p : ℕ) → Held K s → total (swept K (leb p) (volume_of K s p) s.buyers).fills ≡ volume_of K s p
  demand_traded s p h = omega (arith, trades_all (sweep K (leb p) (volume_of K s p) s.buyers) (demand_falls p s.next s.buyers h.buyers))

  pub supply_traded : (s : Book L) (p : ℕ) → Held K s → total (swept K (λ r. leb r p) (volume_of K s p) s.sellers).fills ≡ volume_of K s p
  supply_traded s p h = omega (arith, trades_all (sweep K (λ r. leb r p) (volume_of K s p) s.sellers) (supply_falls p s.next s.sellers h.sellers))
