-- The opening price moves the most shares of every number. Assumes nothing.
use Rattle.std.proofs.Common.{◌≡◌, ℕ, ◌<◌, ◌≤◌, Bool, true, false, ltb, leb, ◌⊎◌, List, [], ◌∷◌, ◌++◌, map, refl, subst, inl, inr, ⊎_elim, arith}
use Rattle.std.specs.List.{AllByRecursion}
use Rattle.std.proofs.ByRecursion.{All-weaker}
use Rattle.std.proofs.lemmas.Bool.{cases_Bool, cases_lt, cond_both, cond-false, cond-true, leb-false, leb-true, le-leb, lt-leb, ltb-false, ltb-true}
use Rattle.lines.specs.Kind.{Kind}
use Rattle.rules.specs.Lines.{shares, units}
use Rattle.rules.specs.Opening.{Passes, choice}
use Rattle.rules.specs.Sheet.{OpeningsAreSettled, chosen_of, demand, opening_price, prices, supply, volume}
use Rattle.rules.proofs.Choices.{choice_settled}

module _ {L : Type 0} (K : Kind L) where
  none_pass : (e : ℕ → Bool) (xs : List L) → AllByRecursion (λ x. e (units K x) ≡ false) xs → shares K e xs ≡ 0
  none_pass e [] a = refl
  none_pass e (x ∷ xs) a = omega (arith, cond-false (e (units K x)) (K.left x) 0 a.0, none_pass e xs a.1)

  -- a test that more lines pass has no fewer shares
  more_pass : (d e : ℕ → Bool) (xs : List L) → AllByRecursion (λ x. d (units K x) ≡ true → e (units K x) ≡ true) xs → shares K d xs ≤ shares K e xs
  more_pass d e [] a = omega arith
  more_pass d e (x ∷ xs) a =
      ⊎_elim
      (λ (t : d (units K x) ≡ true). omega (arith, more_pass d e xs a.1, cond-true (d (units K x)) (K.left x) 0 t, cond-true (e (units K x)) (K.left x) 0 (a.0 t)))
      (λ (f : d (units K x) ≡ false). omega (arith, more_pass d e xs a.1, cond-false (d (units K x)) (K.left x) 0 f))
      (cases_Bool (d (units K x)))

  all_any : (P : L → Type 0) → ((x : L) → P x) → (xs : List L) → AllByRecursion P xs
  all_any P f [] = tt
  all_any P f (x ∷ xs) = (f x, all_any P f xs)

  all_front : (P : ℕ → Type 0) (xs ys : List L) → AllByRecursion P (map (units K) (xs ++ ys)) → AllByRecursion (λ x. P (units K x)) xs
  all_front P [] ys a = tt
  all_front P (x ∷ xs) ys a = (a.0, all_front P xs ys a.1)

  -- no line is at q or above, or there is a lowest price of those that are
  lowest : (P : ℕ → Type 0) (q : ℕ) (xs : List L) → AllByRecursion (λ x. P (units K x)) xs
      → AllByRecursion (λ y. leb q (units K y) ≡ false) xs ⊎ ((p : ℕ) × (q ≤ p) × P p × AllByRecursion (λ y. q ≤ units K y → p ≤ units K y) xs)
  lowest P q [] a = inl tt
  lowest P q (x ∷ xs) a =
      let off : L → Type 0 = λ y. leb q (units K y) ≡ false in
      let from : ℕ → L → Type 0 = λ p y. q ≤ units K y → p ≤ units K y in
      ⊎_elim
      (λ (l : units K x < q). ⊎_elim
      (λ n. inl (lt-leb q (units K x) l, n))
      (λ r. inr (r.0, r.1, r.2, (λ k. absurd (omega arith), r.3)))
      (lowest P q xs a.1))
      (λ (l : q ≤ units K x). ⊎_elim
      (λ n. inr (units K x, l, a.0, (λ _. omega arith, All-weaker off (from (units K x)) (λ y f k. absurd (omega (arith, leb-false q (units K y) f))) xs n)))
      (λ r. ⊎_elim
      (λ m. inr (units K x, l, a.0, (λ _. omega arith, All-weaker (from r.0) (from (units K x)) (λ y f k. omega (arith, f k)) xs r.3)))
      (λ m. inr (r.0, r.1, r.2, (λ _. m, r.3)))
      (cases_lt (units K x) r.0))
      (lowest P q xs a.1))
      (cases_lt (units K x) q)

  -- what the volume at no buyer's price passes, it passes at no number
  volume_most : (ref : ℕ) (buyers sellers : List L) (m : ℕ) → AllByRecursion (λ x. volume K ref buyers sellers (units K x) ≤ m) buyers → (q : ℕ) → volume K ref buyers sellers q ≤ m
  volume_most ref buyers sellers m a q =
      ⊎_elim
      (λ n. omega (arith, none_pass (leb q) buyers n))
      (λ r. omega (
        arith,
        r.2,
        more_pass (leb q) (leb r.0) buyers (All-weaker (λ y. q ≤ units K y → r.0 ≤ units K y) (λ y. leb q (units K y) ≡ true → leb r.0 (units K y) ≡ true) (λ y f t. le-leb r.0 (units K y) (f (leb-true q (units K y) t))) buyers r.3),
        more_pass (λ u. leb u q) (λ u. leb u r.0) sellers (all_any (λ y. leb (units K y) q ≡ true → leb (units K y) r.0 ≡ true) (λ y t. le-leb (units K y) r.0 (omega (arith, leb-true (units K y) q t, r.1))) sellers),
      ))
      (lowest (λ p. volume K ref buyers sellers p ≤ m) q buyers a)

  -- the prices as a list that is or is not empty
  chosen_settled : (ref : ℕ) (buyers sellers : List L) (ps : List ℕ) → ps ≡ prices K buyers sellers →
      let o = chosen_of K ref buyers sellers ps in
      ((q : ℕ) → volume K ref buyers sellers q ≤ volume K ref buyers sellers o)
      × (0 < volume K ref buyers sellers o → Passes (demand K buyers) (supply K sellers) ref ps o)
      × ((p : ℕ) → 0 < volume K ref buyers sellers p → Passes (demand K buyers) (supply K sellers) ref ps p → p ≡ o)
      × (volume K ref buyers sellers o ≡ 0 → o ≡ ref)
  chosen_settled ref buyers sellers [] e =
      let most = volume_most ref buyers sellers 0 (all_front (λ p. volume K ref buyers sellers p ≤ 0) buyers sellers (subst (AllByRecursion (λ p. volume K ref buyers sellers p ≤ 0)) e tt)) in
      ((λ q. omega (arith, most q)), (λ l. absurd (omega (arith, most ref))), (λ p l _. absurd (omega (arith, most p))), (λ _. refl))
  chosen_settled ref buyers sellers (p ∷ ps) e =
      let c : ℕ = choice (demand K buyers) (supply K sellers) ref p ps in
      let V : ℕ → ℕ = volume K ref buyers sellers in
      let both = choice_settled (demand K buyers) (supply K sellers) ref p ps in
      let most = volume_most ref buyers sellers (V c) (all_front (λ q. V q ≤ V c) buyers sellers (subst (AllByRecursion (λ q. V q ≤ V c)) e both.0.most_volume)) in
      cond_both (ltb 0 (V c)) c ref
      (λ o. ((q : ℕ) → V q ≤ V o) × (0 < V o → Passes (demand K buyers) (supply K sellers) ref (p ∷ ps) o) × ((r : ℕ) → 0 < V r → Passes (demand K buyers) (supply K sellers) ref (p ∷ ps) r → r ≡ o) × (V o ≡ 0 → o ≡ ref))
      (λ t. (most, (λ _. both.0), (λ r _ pr. both.1 r pr), (λ z. absurd (omega (arith, ltb-true 0 (V c) t)))))
      (λ f.
      let z : V c ≡ 0 = omega (arith, ltb-false 0 (V c) f) in
      ((λ q. omega (arith, most q)), (λ l. absurd (omega (arith, most ref))), (λ r l _. absurd (omega (arith, most r))), (λ _. refl)))

  pub openings_settled : OpeningsAreSettled K
  unfolding opening_price
  openings_settled ref buyers sellers =
      let h = chosen_settled ref buyers sellers (prices K buyers sellers) refl in
      record { greatest = h.0; passes = h.1; only = h.2; quiet = h.3 }
