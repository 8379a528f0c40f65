-- The sheet has a level for each price. Assumes nothing.
use Rattle.std.proofs.Common.{◌≡◌, ◌+◌, ◌<◌, ◌≤◌, false, eqb, ltb, List, [], ◌∷◌, ◌++◌, map, length, sym, refl, inl, inr, ⊎_elim, arith, length-append}
use lib.ListN.{length-map}
use Rattle.std.specs.List.{AllByRecursion}
use Rattle.std.proofs.ByRecursion.{All-weaker, All-map}
use Rattle.std.proofs.lemmas.Bool.{cond_both, eqb-true, eqb-false, ltb-true, ltb-false}
use Rattle.prices.specs.declared.price.Price.{Price}
use Rattle.lines.specs.Kind.{Kind}
use Rattle.rules.specs.Lines.{units}
use Rattle.rules.specs.Sheet.{Level, demand, level, levels, price_range, ranged, supply}
use Rattle.rules.specs.Book.{Book, lines_in}
use Rattle.rules.specs.Laws.{Pairwise}
use Rattle.rules.specs.Fair.{FairSheet, SomeOf}
use Rattle.rules.proofs.Lists.{all_any, some_map}

abbrev Higher : Price → Price → Type 0
Higher p q = q.units < p.units

ranged_all : (P : Price → Type 0) (p : Price) (qs : List Price) → P p → AllByRecursion P qs → AllByRecursion P (ranged p qs)
ranged_all P p [] h a = (h, tt)
ranged_all P p (q ∷ qs) h a =
    cond_both (eqb p.units q.units) _ _ (AllByRecursion P) (λ _. a)
    (λ _. cond_both (ltb q.units p.units) _ _ (AllByRecursion P) (λ _. (h, a)) (λ _. (a.0, ranged_all P p qs h a.1)))

ranged_falls : (p : Price) (qs : List Price) → Pairwise Higher qs → Pairwise Higher (ranged p qs)
ranged_falls p [] h = (tt, tt)
ranged_falls p (q ∷ qs) h =
    cond_both (eqb p.units q.units) _ _ (Pairwise Higher) (λ _. h)
    (λ e. cond_both (ltb q.units p.units) _ _ (Pairwise Higher)
    (λ t. let l = ltb-true q.units p.units t in ((l, All-weaker (Higher q) (Higher p) (λ r k. omega arith) qs h.0), h))
    (λ f. (ranged_all (Higher q) p qs (higher e f) h.0, ranged_falls p qs h.1)))
  where
    higher : eqb p.units q.units ≡ false → ltb q.units p.units ≡ false → p.units < q.units
    higher e f = omega (arith, ltb-false q.units p.units f, eqb-false p.units q.units e)

ranged_has : (p : Price) (qs : List Price) → SomeOf (λ q. q.units ≡ p.units) (ranged p qs)
ranged_has p [] = inl refl
ranged_has p (q ∷ qs) =
    cond_both (eqb p.units q.units) _ _ (SomeOf (λ r. r.units ≡ p.units)) (λ t. inl (sym (eqb-true p.units q.units t)))
    (λ _. cond_both (ltb q.units p.units) _ _ (SomeOf (λ r. r.units ≡ p.units)) (λ _. inl refl) (λ _. inr (ranged_has p qs)))

ranged_keeps : (P : Price → Type 0) (p : Price) (qs : List Price) → SomeOf P qs → SomeOf P (ranged p qs)
ranged_keeps P p [] h = absurd h
ranged_keeps P p (q ∷ qs) h =
    cond_both (eqb p.units q.units) _ _ (SomeOf P) (λ _. h)
    (λ _. cond_both (ltb q.units p.units) _ _ (SomeOf P) (λ _. inr h) (λ _. ⊎_elim (λ k. inl k) (λ k. inr (ranged_keeps P p qs k)) h))

ranged_length : (p : Price) (qs : List Price) → length (ranged p qs) ≤ length qs + 1
ranged_length p [] = omega arith
ranged_length p (q ∷ qs) =
    cond_both (eqb p.units q.units) _ _ (λ zs. length zs ≤ length (q ∷ qs) + 1) (λ _. omega arith)
    (λ _. cond_both (ltb q.units p.units) _ _ (λ zs. length zs ≤ length (q ∷ qs) + 1) (λ _. omega arith) (λ _. omega (arith, ranged_length p qs)))

pairwise_map : {X Y : Type 0} (R : Y → Y → Type 0) (f : X → Y) (xs : List X) → Pairwise (λ x y. R (f x) (f y)) xs → Pairwise R (map f xs)
pairwise_map R f [] h = tt
pairwise_map R f (x ∷ xs) h = (All-map (R (f x)) f xs h.0, pairwise_map R f xs h.1)

module _ {L : Type 0} (K : Kind L) where
  range_falls : (xs : List L) → Pairwise Higher (price_range K xs)
  range_falls [] = tt
  range_falls (x ∷ xs) = ranged_falls (K.price x) (price_range K xs) (range_falls xs)

  range_has : (xs : List L) → AllByRecursion (λ x. SomeOf (λ q. q.units ≡ units K x) (price_range K xs)) xs
  range_has [] = tt
  range_has (x ∷ xs) = (
    ranged_has (K.price x) (price_range K xs),
    All-weaker (λ y. SomeOf (λ q. q.units ≡ units K y) (price_range K xs)) (λ y. SomeOf (λ q. q.units ≡ units K y) (price_range K (x ∷ xs)))
        (λ y k. ranged_keeps (λ q. q.units ≡ units K y) (K.price x) (price_range K xs) k) xs (range_has xs),
  )

  range_of : (xs : List L) → AllByRecursion (λ q. SomeOf (λ x. K.price x ≡ q) xs) (price_range K xs)
  range_of [] = tt
  range_of (x ∷ xs) =
      ranged_all (λ q. SomeOf (λ y. K.price y ≡ q) (x ∷ xs)) (K.price x) (price_range K xs) (inl refl)
      (All-weaker (λ q. SomeOf (λ y. K.price y ≡ q) xs) (λ q. SomeOf (λ y. K.price y ≡ q) (x ∷ xs)) (λ q k. inr k) (price_range K xs) (range_of xs))

  range_length : (xs : List L) → length (price_range K xs) ≤ length xs
  range_length [] = omega arith
  range_length (x ∷ xs) = omega (arith, ranged_length (K.price x) (price_range K xs), range_length xs)

  pub levels_fit : (s : Book L) → length (levels K s.buyers s.sellers) ≤ lines_in K s
  levels_fit s = omega (arith, length-map (price_range K (s.buyers ++ s.sellers)) (level K s.buyers s.sellers), range_length (s.buyers ++ s.sellers), length-append s.buyers s.sellers)

  pub fair_sheet : (s : Book L) → FairSheet K s (levels K s.buyers s.sellers)
  fair_sheet s =
      let xs : List L = s.buyers ++ s.sellers in
      let f : Price → Level = level K s.buyers s.sellers in
      let ps : List Price = price_range K xs in
      record {
        highest_first = pairwise_map (λ a b. b.price.units < a.price.units) f ps (range_falls xs);
        each_price = All-weaker (λ x. SomeOf (λ q. q.units ≡ units K x) ps) (λ x. SomeOf (λ l. l.price.units ≡ units K x) (map f ps)) (λ x k. some_map (λ l. l.price.units ≡ units K x) f ps k) xs (range_has xs);
        no_other = All-map (λ l. SomeOf (λ x. K.price x ≡ l.price) xs) f ps (range_of xs);
        summed = All-map (λ l. (l.demanded ≡ demand K s.buyers l.price.units) × (l.supplied ≡ supply K s.sellers l.price.units)) f ps (all_any (λ p. (demand K s.buyers p.units ≡ demand K s.buyers p.units) × (supply K s.sellers p.units ≡ supply K s.sellers p.units)) (λ p. (refl, refl)) ps);
      }
