-- An opening has the greatest volume, and leaves the book uncrossed. Assumes nothing.
use Rattle.prices.specs.declared.price.Price.{Price}
use Rattle.records.specs.declared.letters.Side.{Side}
use Rattle.records.specs.declared.letters.Side.TheVariants.{Buy, Sell}
use Rattle.rules.specs.Sheet.{opening_price}
use Rattle.rules.proofs.Volumes.{openings_settled}
use Rattle.rules.specs.Lines.{shares, swept, units}
use Rattle.rules.specs.Book.{Book, opens_at, priced_at, volume_of}
use Rattle.rules.specs.Laws.{Below, Good, Lawful}
use Rattle.std.proofs.Common.{◌≡◌, ℕ, ◌<◌, ◌≤◌, Bool, true, false, eqb, leb, ◌⊎◌, List, [], ◌∷◌, ◌++◌, map, sym, refl, ap, ◌∙◌, subst, inl, inr, ⊎_elim, arith}
use Rattle.std.specs.List.{ContainsAt, AllByRecursion}
use Rattle.std.proofs.ByRecursion.{all-has, all_has_itself, All-weaker}
use Rattle.std.proofs.lemmas.Bool.{cond-true, cond-false, eqb-false, cases_lt, cases_Bool, eqb-true, le-leb}
use Rattle.lines.specs.Kind.{Kind}
use Rattle.rules.proofs.Lists.{only_true}
use Rattle.rules.proofs.Sweeps.{sweep, traded_passed}
use Rattle.rules.proofs.Sound.{Held, side_swept}
use Rattle.rules.proofs.Prices.{demand_falls, supply_falls, demand_traded, supply_traded}

module _ {L : Type 0} (K : Kind L) where
  -- a line with shares left counts wherever its price passes
  counts : (b : Side) (n : ℕ) (xs : List L) → AllByRecursion (Good K b n) xs → AllByRecursion (λ x. (d : ℕ → Bool) → d (units K x) ≡ true → 0 < shares K d xs) xs
  counts b n [] a = tt
  counts b n (x ∷ xs) a = (
    λ d t. omega (arith, only_true (d (units K x)) (K.left x) t, a.0.some_left),
    All-weaker (λ y. (d : ℕ → Bool) → d (units K y) ≡ true → 0 < shares K d xs) (λ y. (d : ℕ → Bool) → d (units K y) ≡ true → 0 < shares K d (x ∷ xs)) (λ y f d t. omega (arith, f d t)) xs (counts b n xs a.1),
  )

  -- if no price has both buyers and sellers, the sides do not cross
  no_cross : (n : ℕ) (bs os : List L) → AllByRecursion (Good K Buy n) bs → AllByRecursion (Good K Sell n) os → ((q : ℕ) → 0 < shares K (leb q) bs → 0 < shares K (λ r. leb r q) os → ⊥) → Below K bs os
  no_cross n bs os gb go never =
      let C : List L → L → Type 0 = λ xs x. (d : ℕ → Bool) → d (units K x) ≡ true → 0 < shares K d xs in
      All-weaker (C bs) (λ b. AllByRecursion (λ o. units K b < units K o) os)
      (λ b cb. All-weaker (C os) (λ o. units K b < units K o)
      (λ o co. ⊎_elim (λ l. l)
      (λ l. absurd (never (units K o) (cb (leb (units K o)) (le-leb (units K o) (units K b) l)) (co (λ r. leb r (units K o)) (le-leb (units K o) (units K o) (omega arith)))))
      (cases_lt (units K b) (units K o)))
      os (counts Sell n os go))
      bs (counts Buy n bs gb)

module _ {L : Type 0} {K : Kind L} (W : Lawful K) where
  -- an opening at the greatest volume leaves the sides apart
  pub opening_below : (s : Book L) (p : ℕ) → Held K s → ((q : ℕ) → volume_of K s q ≤ volume_of K s p) → Below K (swept K (leb p) (volume_of K s p) s.buyers).rest (swept K (λ r. leb r p) (volume_of K s p) s.sellers).rest
  opening_below s p h most =
      let v : ℕ = volume_of K s p in
      let rb = sweep K (leb p) v s.buyers in
      let ro = sweep K (λ r. leb r p) v s.sellers in
      no_cross K s.next _ _
      (side_swept W Buy s.next rb h.buyers).good
      (side_swept W Sell s.next ro h.sellers).good
      (λ q nb ns. omega (
        arith,
        most q,
        demand_traded W s p h,
        supply_traded W s p h,
        traded_passed W.taking (leb q) rb (demand_falls W q s.next s.buyers h.buyers) nb,
        traded_passed W.taking (λ r. leb r q) ro (supply_falls W q s.next s.sellers h.sellers) ns,
      ))

-- the price with the units of one of the lines
priced_units : {L : Type 0} (K : Kind L) (d : Price) (n : ℕ) (xs : List L) → (n ≡ d.units) ⊎ ContainsAt (map (units K) xs) n → (priced_at K d n xs).units ≡ n
priced_units K d n [] (inl e) = sym e
priced_units K d n [] (inr h) = absurd (all-has (λ _. ⊥) [] n tt h)
priced_units K d n (x ∷ xs) h =
    ⊎_elim
    (λ (t : eqb n (units K x) ≡ true). ap (λ p. p.units) (cond-true (eqb n (units K x)) (K.price x) (priced_at K d n xs) t) ∙ sym (eqb-true n (units K x) t))
    (λ (f : eqb n (units K x) ≡ false). ap (λ p. p.units) (cond-false (eqb n (units K x)) (K.price x) (priced_at K d n xs) f) ∙ priced_units K d n xs (later h f))
    (cases_Bool (eqb n (units K x)))
  where
    later : (n ≡ d.units) ⊎ ContainsAt (map (units K) (x ∷ xs)) n → eqb n (units K x) ≡ false → (n ≡ d.units) ⊎ ContainsAt (map (units K) xs) n
    later (inl e) f = inl e
    later (inr h) f = inr (all-has (λ m. (m ≡ n) → ContainsAt (map (units K) xs) n) (units K x ∷ map (units K) xs) n
        ((λ e. absurd (eqb-false n (units K x) f (sym e))), All-weaker (ContainsAt (map (units K) xs)) (λ m. (m ≡ n) → ContainsAt (map (units K) xs) n) (λ m k e. subst (ContainsAt (map (units K) xs)) e k) (map (units K) xs) (all_has_itself (map (units K) xs))) h refl)

-- the opening price in units
pub opens_units : {L : Type 0} (K : Kind L) (s : Book L) → (opens_at K s).units ≡ opening_price K s.reference.units s.buyers s.sellers
opens_units K s =
    let o : ℕ = opening_price K s.reference.units s.buyers s.sellers in
    let h = openings_settled K s.reference.units s.buyers s.sellers in
    priced_units K s.reference o (s.buyers ++ s.sellers)
    (⊎_elim (λ (l : 0 < volume_of K s o). inr (h.passes l).listed) (λ (z : volume_of K s o ≤ 0). inl (h.quiet (omega arith))) (cases_lt 0 (volume_of K s o)))

-- it moves the most shares of every number
pub price_best : {L : Type 0} (K : Kind L) (s : Book L) (q : ℕ) → volume_of K s q ≤ volume_of K s (opens_at K s).units
price_best K s q = rw (opens_units K s) ((openings_settled K s.reference.units s.buyers s.sellers).greatest q)
