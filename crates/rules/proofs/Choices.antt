-- The choice of the opening price passes the five tests, and nothing else does. Assumes nothing.
use Rattle.std.proofs.Common.{◌≡◌, ℕ, ◌<◌, ◌≤◌, max, Bool, true, false, ◌&&◌, eqb, ltb, List, [], ◌∷◌, filter, sym, refl, ◌∙◌, subst, ⊎_elim, arith}
use Rattle.std.specs.List.{ContainsAt, AllByRecursion}
use Rattle.std.proofs.ByRecursion.{all-has, all_has_itself, All-weaker}
use Rattle.std.proofs.lemmas.Bool.{and_from, and_left, and_parts, and_right, cases_Bool, cases_lt, cases_order, cond_both, cond-true, cond-false, eq-eqb, eqb-true, le-ltb, lt-ltb, ltb-false, ltb-true, ne_eqb, or_cases, or_from, or_left, or_parts, or_right, true≢false}
use Rattle.rules.specs.Opening.{ChoiceIsSettled, Even, HighestBought, LowestSold, Nearer, Passes, best, by_signs, choice, distance, higher, imbalance_at, less_or, lower, nearer, remaining, trades_more, volume_at}

less_or_yes : (a b c d : ℕ) → less_or a b c d ≡ true → (a ≤ b) × (a ≡ b → c ≤ d)
less_or_yes a b c d e =
    ⊎_elim
    (λ (l : ltb a b ≡ true). (omega (arith, ltb-true a b l), (λ s. absurd (omega (arith, ltb-true a b l)))))
    (λ (l : (eqb a b && ltb c d) ≡ true). let p = and_parts (eqb a b) (ltb c d) l in (omega (arith, eqb-true a b p.0), (λ s. omega (arith, ltb-true c d p.1))))
    (or_cases (ltb a b) (eqb a b && ltb c d) e)

less_or_no : (a b c d : ℕ) → less_or a b c d ≡ false → (b ≤ a) × (b ≡ a → d ≤ c)
less_or_no a b c d e =
    let p = or_parts (ltb a b) (eqb a b && ltb c d) e in (
      ltb-false a b p.0,
      (λ s. ⊎_elim (λ (t : ltb c d ≡ true). absurd (true≢false (sym (and_from (eqb a b) (ltb c d) (eq-eqb a b (sym s)) t) ∙ p.1))) (λ (f : ltb c d ≡ false). ltb-false c d f) (cases_Bool (ltb c d))),
    )

-- where R says of two which is as good: what is chosen is as good as each
module _ (beats : ℕ → ℕ → Bool) (R : ℕ → ℕ → Type 0) (self : (x : ℕ) → R x x) (through : (x y z : ℕ) → R x y → R y z → R x z)
    (wins : (q p : ℕ) → beats q p ≡ true → R q p) (keeps : (q p : ℕ) → beats q p ≡ false → R p q) where
  best_first : (p : ℕ) (ps : List ℕ) → R (best beats p ps) p
  best_first p [] = self p
  best_first p (q ∷ qs) =
      cond_both (beats q p) q p (λ k. R (best beats k qs) p)
      (λ t. through _ q p (best_first q qs) (wins q p t))
      (λ f. best_first p qs)

  best_all : (p : ℕ) (ps : List ℕ) → AllByRecursion (R (best beats p ps)) ps
  best_all p [] = tt
  best_all p (q ∷ qs) =
      cond_both (beats q p) q p (λ k. R (best beats k qs) q × AllByRecursion (R (best beats k qs)) qs)
      (λ t. (best_first q qs, best_all q qs))
      (λ f. (through _ p q (best_first p qs) (keeps q p f), best_all p qs))

best_in : (beats : ℕ → ℕ → Bool) (P : ℕ → Type 0) (p : ℕ) (ps : List ℕ) → P p → AllByRecursion P ps → P (best beats p ps)
best_in beats P p [] h a = h
best_in beats P p (q ∷ qs) h a = cond_both (beats q p) q p (λ k. P (best beats k qs)) (λ _. best_in beats P q qs a.0 a.1) (λ _. best_in beats P p qs h a.1)

all_two : (P Q S : ℕ → Type 0) → ((x : ℕ) → P x → Q x → S x) → (xs : List ℕ) → AllByRecursion P xs → AllByRecursion Q xs → AllByRecursion S xs
all_two P Q S f [] h k = tt
all_two P Q S f (x ∷ xs) h k = (f x h.0 k.0, all_two P Q S f xs h.1 k.1)

kept_if : (t : ℕ → Bool) (P : ℕ → Type 0) (xs : List ℕ) → AllByRecursion (λ q. t q ≡ true → P q) xs → AllByRecursion P (filter t xs)
kept_if t P [] a = tt
kept_if t P (x ∷ xs) a = cond_both (t x) _ _ (AllByRecursion P) (λ e. (a.0 e, kept_if t P xs a.1)) (λ _. kept_if t P xs a.1)

kept_from : (t : ℕ → Bool) (P : ℕ → Type 0) (xs : List ℕ) → AllByRecursion P (filter t xs) → AllByRecursion (λ q. t q ≡ true → P q) xs
kept_from t P [] a = tt
kept_from t P (x ∷ xs) a =
    ⊎_elim
    (λ (e : t x ≡ true). let b = subst (AllByRecursion P) (cond-true (t x) (x ∷ filter t xs) (filter t xs) e) a in ((λ _. b.0), kept_from t P xs b.1))
    (λ (e : t x ≡ false). let b = subst (AllByRecursion P) (cond-false (t x) (x ∷ filter t xs) (filter t xs) e) a in ((λ y. absurd (true≢false (sym y ∙ e))), kept_from t P xs b))
    (cases_Bool (t x))

highest_all : (b : ℕ) (bs : List ℕ) → AllByRecursion (λ q. q ≤ best higher b bs) (b ∷ bs)
highest_all b bs =
    let R : ℕ → ℕ → Type 0 = λ x y. y ≤ x in
    let self : (x : ℕ) → R x x = λ x. omega arith in
    let through : (x y z : ℕ) → R x y → R y z → R x z = λ x y z h k. omega arith in
    let wins : (q p : ℕ) → higher q p ≡ true → R q p = λ q p e. omega (arith, ltb-true p q e) in
    let keeps : (q p : ℕ) → higher q p ≡ false → R p q = λ q p e. omega (arith, ltb-false p q e) in
    (best_first higher R self through wins keeps b bs, best_all higher R self through wins keeps b bs)

lowest_all : (b : ℕ) (bs : List ℕ) → AllByRecursion (λ q. best lower b bs ≤ q) (b ∷ bs)
lowest_all b bs =
    let R : ℕ → ℕ → Type 0 = λ x y. x ≤ y in
    let self : (x : ℕ) → R x x = λ x. omega arith in
    let through : (x y z : ℕ) → R x y → R y z → R x z = λ x y z h k. omega arith in
    let wins : (q p : ℕ) → lower q p ≡ true → R q p = λ q p e. omega (arith, ltb-true q p e) in
    let keeps : (q p : ℕ) → lower q p ≡ false → R p q = λ q p e. omega (arith, ltb-false q p e) in
    (best_first lower R self through wins keeps b bs, best_all lower R self through wins keeps b bs)

module _ (d s : ℕ → ℕ) (ref : ℕ) where
  -- short names at the demand d, the supply s and the reference ref
  abbrev V : ℕ → ℕ
  V = volume_at d s ref

  abbrev I : ℕ → ℕ
  I = imbalance_at d s ref

  abbrev D : ℕ → ℕ
  D = distance d s ref

  abbrev AsNear : ℕ → ℕ → Type 0
  AsNear x y = (D x ≤ D y) × (D y ≡ D x → y ≤ x)

  nearest_all : (w : ℕ) (rs : List ℕ) → AsNear (best (nearer d s ref) w rs) w × AllByRecursion (AsNear (best (nearer d s ref) w rs)) rs
  nearest_all w rs =
      let self : (x : ℕ) → AsNear x x = λ x. (omega arith, (λ _. omega arith)) in
      let through : (x y z : ℕ) → AsNear x y → AsNear y z → AsNear x z = λ x y z h k. (omega (arith, h.0, k.0), (λ e. omega (arith, h.1 (omega (arith, h.0, k.0)), k.1 (omega (arith, h.0, k.0))))) in
      let wins : (q p : ℕ) → nearer d s ref q p ≡ true → AsNear q p = λ q p e. let y = less_or_yes (D q) (D p) p q e in (y.0, (λ f. y.1 (sym f))) in
      let keeps : (q p : ℕ) → nearer d s ref q p ≡ false → AsNear p q = λ q p e. let n = less_or_no (D q) (D p) p q e in (n.0, (λ f. n.1 (sym f))) in
      (best_first (nearer d s ref) AsNear self through wins keeps w rs, best_all (nearer d s ref) AsNear self through wins keeps w rs)

  -- w trades as much as q, and where q trades as much has no more imbalance
  abbrev AsMuch : ℕ → ℕ → Type 0
  AsMuch x y = (V y ≤ V x) × (V y ≡ V x → I x ≤ I y)

  much_all : (p : ℕ) (ps : List ℕ) → AllByRecursion (AsMuch (best (trades_more d s ref) p ps)) (p ∷ ps)
  much_all p ps =
      let self : (x : ℕ) → AsMuch x x = λ x. (omega arith, (λ _. omega arith)) in
      let through : (x y z : ℕ) → AsMuch x y → AsMuch y z → AsMuch x z = λ x y z h k. (omega (arith, h.0, k.0), (λ e. omega (arith, h.1 (omega (arith, h.0, k.0)), k.1 (omega (arith, h.0, k.0))))) in
      let wins : (q r : ℕ) → trades_more d s ref q r ≡ true → AsMuch q r = λ q r e. let y = less_or_yes (V r) (V q) (I q) (I r) e in (y.0, y.1) in
      let keeps : (q r : ℕ) → trades_more d s ref q r ≡ false → AsMuch r q = λ q r e. let n = less_or_no (V r) (V q) (I q) (I r) e in (n.0, n.1) in
      (best_first (trades_more d s ref) AsMuch self through wins keeps p ps, best_all (trades_more d s ref) AsMuch self through wins keeps p ps)

  -- what remains with w of the prices A
  module _ (A : List ℕ) (w : ℕ) where
    abbrev Left : ℕ → Type 0
    Left q = ContainsAt A q × Even d s ref q w

    abbrev Bought : ℕ → Type 0
    Bought q = Left q × (s q < d q)

    abbrev Sold : ℕ → Type 0
    Sold q = Left q × (d q < s q)

    -- the tests three to five, of what remains with w
    pub record Settles (c : ℕ) : Type 0 where
      pub left : Left c
      pub bought : AllByRecursion (λ q. Even d s ref q w → s q < d q) A → AllByRecursion (λ q. Even d s ref q w → q ≤ c) A
      pub sold : AllByRecursion (λ q. Even d s ref q w → d q < s q) A → AllByRecursion (λ q. Even d s ref q w → c ≤ q) A
      pub both : (h l : ℕ) → HighestBought d s ref A w h → LowestSold d s ref A w l → Nearer d s ref h l c
      pub even : AllByRecursion (λ q. Even d s ref q w → d q ≡ s q) A → AllByRecursion (λ q. Even d s ref q w → AsNear c q) A

    -- the signs of what remains
    data Signs : Type 0 where
      none_over : AllByRecursion (λ q. Even d s ref q w → d q ≡ s q) A → Signs
      all_over : AllByRecursion (λ q. Even d s ref q w → s q < d q) A → Signs
      all_under : AllByRecursion (λ q. Even d s ref q w → d q < s q) A → Signs
      mixed : (h l : ℕ) → HighestBought d s ref A w h → LowestSold d s ref A w l → Signs

    -- lists of what remains, of those with buyers and of those with sellers in excess
    pub record Listed (rs bs ss : List ℕ) : Type 1 where
      pub own : ContainsAt A w
      pub each : AllByRecursion Left rs
      pub each_bought : AllByRecursion Bought bs
      pub each_sold : AllByRecursion Sold ss
      pub from_all : (P : ℕ → Type 0) → AllByRecursion P rs → AllByRecursion (λ q. Even d s ref q w → P q) A
      pub from_bought : (P : ℕ → Type 0) → AllByRecursion P bs → AllByRecursion (λ q. Even d s ref q w → s q < d q → P q) A
      pub from_sold : (P : ℕ → Type 0) → AllByRecursion P ss → AllByRecursion (λ q. Even d s ref q w → d q < s q → P q) A

    same : Even d s ref w w
    same = (refl, refl)

    -- what holds of each that is even with w holds of one that remains
    at : (P : ℕ → Type 0) (q : ℕ) → AllByRecursion (λ r. Even d s ref r w → P r) A → Left q → P q
    at P q a h = all-has (λ r. Even d s ref r w → P r) A q a h.0 h.1

    anything : (P : ℕ → Type 0) → ⊥ → AllByRecursion (λ q. Even d s ref q w → P q) A
    anything P z = absurd z

    high : (b : ℕ) (bs : List ℕ) → AllByRecursion Bought (b ∷ bs) → Bought (best higher b bs)
    high b bs a = best_in higher Bought b bs a.0 a.1

    low : (b : ℕ) (bs : List ℕ) → AllByRecursion Sold (b ∷ bs) → Sold (best lower b bs)
    low b bs a = best_in lower Sold b bs a.0 a.1

    signs : (rs bs ss : List ℕ) → Listed rs bs ss → Signs
    signs rs [] [] k =
        none_over (all_two (λ q. Even d s ref q w → s q < d q → ⊥) (λ q. Even d s ref q w → d q < s q → ⊥) (λ q. Even d s ref q w → d q ≡ s q)
        (λ q f g e. ⊎_elim (λ l. absurd (f e l)) (λ l. ⊎_elim (λ m. absurd (g e m)) (λ m. omega arith) (cases_lt (d q) (s q))) (cases_lt (s q) (d q)))
        A (k.from_bought (λ _. ⊥) tt) (k.from_sold (λ _. ⊥) tt))
    signs rs (b ∷ bs) [] k =
        all_over (All-weaker (λ q. Even d s ref q w → d q < s q → ⊥) (λ q. Even d s ref q w → s q < d q)
        (λ q g e. ⊎_elim (λ l. l) (λ l. ⊎_elim (λ m. absurd (g e m)) (λ m. absurd (omega (arith, e.1, k.each_bought.0.0.1.1, k.each_bought.0.1))) (cases_lt (d q) (s q))) (cases_lt (s q) (d q)))
        A (k.from_sold (λ _. ⊥) tt))
    signs rs [] (b ∷ ss) k =
        all_under (All-weaker (λ q. Even d s ref q w → s q < d q → ⊥) (λ q. Even d s ref q w → d q < s q)
        (λ q g e. ⊎_elim (λ l. absurd (g e l)) (λ l. ⊎_elim (λ m. m) (λ m. absurd (omega (arith, e.1, k.each_sold.0.0.1.1, k.each_sold.0.1))) (cases_lt (d q) (s q))) (cases_lt (s q) (d q)))
        A (k.from_bought (λ _. ⊥) tt))
    signs rs (b ∷ bs) (c ∷ ss) k =
        let h = high b bs k.each_bought in
        let l = low c ss k.each_sold in
        mixed (best higher b bs) (best lower c ss)
        (h.0.0, h.0.1, h.1, k.from_bought (λ q. q ≤ best higher b bs) (highest_all b bs))
        (l.0.0, l.0.1, l.1, k.from_sold (λ q. best lower c ss ≤ q) (lowest_all c ss))

    -- the nearer of h and l
    near_of : (h l : ℕ) → Nearer d s ref h l (best (nearer d s ref) h (l ∷ []))
    near_of h l = (
      (λ e. cond-true _ _ _ (or_left _ _ (lt-ltb (D l) (D h) e))),
      (λ e. cond-false _ _ _ (or_from _ _ (le-ltb (D l) (D h) (omega arith)) (and_left _ _ (ne_eqb (D l) (D h) (λ f. omega arith))))),
      (λ e. ⊎_elim
          (λ (m : h < l). let top : l ≡ max h l = omega arith in cond-true _ _ _ (or_right _ _ (and_from _ _ (eq-eqb (D l) (D h) (sym e)) (lt-ltb h l m))) ∙ top)
          (λ (m : l ≤ h). let top : h ≡ max h l = omega arith in cond-false _ _ _ (or_from _ _ (le-ltb (D l) (D h) (omega arith)) (and_right _ _ (le-ltb h l m))) ∙ top)
          (cases_lt h l)),
    )

    -- there is one highest and one lowest
    one_high : (h k : ℕ) → HighestBought d s ref A w h → HighestBought d s ref A w k → h ≡ k
    one_high h k a b =
        let le : (x y : ℕ) → HighestBought d s ref A w x → HighestBought d s ref A w y → x ≤ y
        = λ x y f g. all-has (λ q. Even d s ref q w → s q < d q → q ≤ y) A x g.3 f.0 f.1 f.2 in
        omega (arith, le h k a b, le k h b a)

    one_low : (h k : ℕ) → LowestSold d s ref A w h → LowestSold d s ref A w k → h ≡ k
    one_low h k a b =
        let le : (x y : ℕ) → LowestSold d s ref A w x → LowestSold d s ref A w y → y ≤ x
        = λ x y f g. all-has (λ q. Even d s ref q w → d q < s q → y ≤ q) A x g.3 f.0 f.1 f.2 in
        omega (arith, le h k a b, le k h b a)

    settle : (rs bs ss : List ℕ) → Listed rs bs ss → Settles (by_signs d s ref w bs ss rs)
    settle rs [] [] k =
        let own : Left w = (k.own, same) in
        let c = nearest_all w rs in
        record {
          left = best_in (nearer d s ref) Left w rs own k.each;
          bought = λ a. anything (λ q. q ≤ best (nearer d s ref) w rs) (at (λ q. s q < d q → ⊥) w (k.from_bought (λ _. ⊥) tt) own (at (λ q. s q < d q) w a own));
          sold = λ a. anything (λ q. best (nearer d s ref) w rs ≤ q) (at (λ q. d q < s q → ⊥) w (k.from_sold (λ _. ⊥) tt) own (at (λ q. d q < s q) w a own));
          both = λ h l f g. absurd (at (λ q. s q < d q → ⊥) h (k.from_bought (λ _. ⊥) tt) (f.0, f.1) f.2);
          even = λ a. k.from_all (AsNear (best (nearer d s ref) w rs)) c.1;
        }
    settle rs (b ∷ bs) [] k =
        let h = high b bs k.each_bought in
        record {
          left = h.0;
          bought = λ a. all_two (λ q. Even d s ref q w → s q < d q) (λ q. Even d s ref q w → s q < d q → q ≤ best higher b bs) (λ q. Even d s ref q w → q ≤ best higher b bs)
              (λ q f g e. g e (f e)) A a (k.from_bought (λ q. q ≤ best higher b bs) (highest_all b bs));
          sold = λ a. anything (λ q. best higher b bs ≤ q) (omega (arith, h.1, at (λ q. d q < s q) (best higher b bs) a h.0));
          both = λ x l f g. absurd (at (λ q. d q < s q → ⊥) l (k.from_sold (λ _. ⊥) tt) (g.0, g.1) g.2);
          even = λ a. anything (AsNear (best higher b bs)) (omega (arith, h.1, at (λ q. d q ≡ s q) (best higher b bs) a h.0));
        }
    settle rs [] (b ∷ ss) k =
        let l = low b ss k.each_sold in
        record {
          left = l.0;
          bought = λ a. anything (λ q. q ≤ best lower b ss) (omega (arith, l.1, at (λ q. s q < d q) (best lower b ss) a l.0));
          sold = λ a. all_two (λ q. Even d s ref q w → d q < s q) (λ q. Even d s ref q w → d q < s q → best lower b ss ≤ q) (λ q. Even d s ref q w → best lower b ss ≤ q)
              (λ q f g e. g e (f e)) A a (k.from_sold (λ q. best lower b ss ≤ q) (lowest_all b ss));
          both = λ h x f g. absurd (at (λ q. s q < d q → ⊥) h (k.from_bought (λ _. ⊥) tt) (f.0, f.1) f.2);
          even = λ a. anything (AsNear (best lower b ss)) (omega (arith, l.1, at (λ q. d q ≡ s q) (best lower b ss) a l.0));
        }
    settle rs (b ∷ bs) (c ∷ ss) k =
        let x : ℕ = best higher b bs in
        let y : ℕ = best lower c ss in
        let z : ℕ = best (nearer d s ref) x (y ∷ []) in
        let h : Bought x = high b bs k.each_bought in
        let l : Sold y = low c ss k.each_sold in
        let top : HighestBought d s ref A w x = (h.0.0, h.0.1, h.1, k.from_bought (λ q. q ≤ x) (highest_all b bs)) in
        let bottom : LowestSold d s ref A w y = (l.0.0, l.0.1, l.1, k.from_sold (λ q. y ≤ q) (lowest_all c ss)) in
        record {
          left = best_in (nearer d s ref) Left x (y ∷ []) h.0 (l.0, tt);
          bought = λ a. anything (λ q. q ≤ z) (omega (arith, l.1, at (λ q. s q < d q) y a l.0));
          sold = λ a. anything (λ q. z ≤ q) (omega (arith, h.1, at (λ q. d q < s q) x a h.0));
          both = λ u v f g. subst (λ n. Nearer d s ref n v z) (one_high x u top f) (subst (λ n. Nearer d s ref x n z) (one_low y v bottom g) (near_of x y));
          even = λ a. anything (AsNear z) (omega (arith, h.1, at (λ q. d q ≡ s q) x a h.0));
        }

    -- the tests speak of what is even with c as of what is even with w
    passes : (c : ℕ) → AllByRecursion (AsMuch w) A → Settles c → Passes d s ref A c
    passes c much t =
        let e = t.left.1 in
        let to : (q : ℕ) → Even d s ref q c → Even d s ref q w = λ q f. (f.0 ∙ e.0, f.1 ∙ e.1) in
        let fro : (q : ℕ) → Even d s ref q w → Even d s ref q c = λ q f. (f.0 ∙ sym e.0, f.1 ∙ sym e.1) in
        let on : (P : ℕ → Type 0) → AllByRecursion (λ q. Even d s ref q c → P q) A → AllByRecursion (λ q. Even d s ref q w → P q) A = λ P a. All-weaker (λ q. Even d s ref q c → P q) (λ q. Even d s ref q w → P q) (λ q f k. f (fro q k)) A a in
        let back : (P : ℕ → Type 0) → AllByRecursion (λ q. Even d s ref q w → P q) A → AllByRecursion (λ q. Even d s ref q c → P q) A = λ P a. All-weaker (λ q. Even d s ref q w → P q) (λ q. Even d s ref q c → P q) (λ q f k. f (to q k)) A a in
        record {
          listed = t.left.0;
          most_volume = All-weaker (AsMuch w) (λ q. V q ≤ V c) (λ q m. omega (arith, m.0, e.0)) A much;
          least_imbalance = All-weaker (AsMuch w) (λ q. V q ≡ V c → I c ≤ I q) (λ q m f. omega (arith, m.1 (f ∙ e.0), e.1)) A much;
          all_bought = λ a. back (λ q. q ≤ c) (t.bought (on (λ q. s q < d q) a));
          all_sold = λ a. back (λ q. c ≤ q) (t.sold (on (λ q. d q < s q) a));
          both_signs = λ h l f g. t.both h l (f.0, to h f.1, f.2, on (λ q. s q < d q → q ≤ h) f.3) (g.0, to l g.1, g.2, on (λ q. d q < s q → l ≤ q) g.3);
          all_even = λ a. back (AsNear c) (t.even (on (λ q. d q ≡ s q) a));
        }

    -- two that pass are one
    only_one : (c r : ℕ) → Even d s ref c w → Passes d s ref A c → Passes d s ref A r → Signs → r ≡ c
    only_one c r ec pc pr sg =
        let vc = all-has (λ q. V q ≤ V r) A c pr.most_volume pc.listed in
        let vr = all-has (λ q. V q ≤ V c) A r pc.most_volume pr.listed in
        let v : V r ≡ V c = omega arith in
        let ic = all-has (λ q. V q ≡ V r → I r ≤ I q) A c pr.least_imbalance pc.listed (sym v) in
        let ir = all-has (λ q. V q ≡ V c → I c ≤ I q) A r pc.least_imbalance pr.listed v in
        let i : I r ≡ I c = omega arith in
        let er : Even d s ref r w = (v ∙ ec.0, i ∙ ec.1) in
        go sg v i er
      where
        go : Signs → V r ≡ V c → I r ≡ I c → Even d s ref r w → r ≡ c
        go (none_over a) v i er =
            let near : (x y : ℕ) → Even d s ref x w → Even d s ref y w → Passes d s ref A x → ContainsAt A y → AsNear x y
            = λ x y ex ey px hy. all-has (λ q. Even d s ref q x → AsNear x q) A y (px.all_even (All-weaker (λ q. Even d s ref q w → d q ≡ s q) (λ q. Even d s ref q x → d q ≡ s q) (λ q f k. f (k.0 ∙ ex.0, k.1 ∙ ex.1)) A a)) hy (ey.0 ∙ sym ex.0, ey.1 ∙ sym ex.1) in
            let rc = near r c er ec pr pc.listed in
            let cr = near c r ec er pc pr.listed in
            let dd : D c ≡ D r = omega (arith, rc.0, cr.0) in
            omega (arith, rc.1 dd, cr.1 (sym dd))
        go (all_over a) v i er =
            let top : (x y : ℕ) → Even d s ref x w → Even d s ref y w → Passes d s ref A x → ContainsAt A y → y ≤ x
            = λ x y ex ey px hy. all-has (λ q. Even d s ref q x → q ≤ x) A y (px.all_bought (All-weaker (λ q. Even d s ref q w → s q < d q) (λ q. Even d s ref q x → s q < d q) (λ q f k. f (k.0 ∙ ex.0, k.1 ∙ ex.1)) A a)) hy (ey.0 ∙ sym ex.0, ey.1 ∙ sym ex.1) in
            omega (arith, top r c er ec pr pc.listed, top c r ec er pc pr.listed)
        go (all_under a) v i er =
            let bottom : (x y : ℕ) → Even d s ref x w → Even d s ref y w → Passes d s ref A x → ContainsAt A y → x ≤ y
            = λ x y ex ey px hy. all-has (λ q. Even d s ref q x → x ≤ q) A y (px.all_sold (All-weaker (λ q. Even d s ref q w → d q < s q) (λ q. Even d s ref q x → d q < s q) (λ q f k. f (k.0 ∙ ex.0, k.1 ∙ ex.1)) A a)) hy (ey.0 ∙ sym ex.0, ey.1 ∙ sym ex.1) in
            omega (arith, bottom r c er ec pr pc.listed, bottom c r ec er pc pr.listed)
        go (mixed h l f g) v i er =
            let near : (x : ℕ) → Even d s ref x w → Passes d s ref A x → Nearer d s ref h l x
            = λ x ex px. px.both_signs h l
            (f.0, (f.1.0 ∙ sym ex.0, f.1.1 ∙ sym ex.1), f.2, All-weaker (λ q. Even d s ref q w → s q < d q → q ≤ h) (λ q. Even d s ref q x → s q < d q → q ≤ h) (λ q k m. k (m.0 ∙ ex.0, m.1 ∙ ex.1)) A f.3)
            (g.0, (g.1.0 ∙ sym ex.0, g.1.1 ∙ sym ex.1), g.2, All-weaker (λ q. Even d s ref q w → d q < s q → l ≤ q) (λ q. Even d s ref q x → d q < s q → l ≤ q) (λ q k m. k (m.0 ∙ ex.0, m.1 ∙ ex.1)) A g.3) in
            let nr = near r er pr in
            let nc = near c ec pc in
            ⊎_elim (λ e. nr.2 e ∙ sym (nc.2 e))
            (⊎_elim (λ e. nr.1 e ∙ sym (nc.1 e)) (λ e. nr.0 e ∙ sym (nc.0 e)))
            (cases_order (D h) (D l))

    abbrev rest : List ℕ
    rest = remaining d s ref w A

    from_rest : (P : ℕ → Type 0) → AllByRecursion P rest → AllByRecursion (λ q. Even d s ref q w → P q) A
    from_rest P a =
        All-weaker (λ q. (eqb (V q) (V w) && eqb (I q) (I w)) ≡ true → P q) (λ q. Even d s ref q w → P q)
        (λ q f e. f (and_from (eqb (V q) (V w)) (eqb (I q) (I w)) (eq-eqb (V q) (V w) e.0) (eq-eqb (I q) (I w) e.1)))
        A (kept_from (λ q. eqb (V q) (V w) && eqb (I q) (I w)) P A a)

    each_left : AllByRecursion Left rest
    each_left =
        kept_if (λ q. eqb (V q) (V w) && eqb (I q) (I w)) Left A
        (All-weaker (ContainsAt A) (λ q. (eqb (V q) (V w) && eqb (I q) (I w)) ≡ true → Left q)
        (λ q h e. let p = and_parts (eqb (V q) (V w)) (eqb (I q) (I w)) e in (h, (eqb-true (V q) (V w) p.0, eqb-true (I q) (I w) p.1))) A (all_has_itself A))

    -- those of the rest at which m is below n
    each_below : (m n : ℕ → ℕ) → AllByRecursion (λ q. Left q × (m q < n q)) (filter (λ q. ltb (m q) (n q)) rest)
    each_below m n =
        kept_if (λ q. ltb (m q) (n q)) (λ q. Left q × (m q < n q)) rest
        (All-weaker Left (λ q. ltb (m q) (n q) ≡ true → Left q × (m q < n q)) (λ q h e. (h, ltb-true (m q) (n q) e)) rest each_left)

    from_below : (m n : ℕ → ℕ) (P : ℕ → Type 0) → AllByRecursion P (filter (λ q. ltb (m q) (n q)) rest) → AllByRecursion (λ q. Even d s ref q w → m q < n q → P q) A
    from_below m n P a =
        All-weaker (λ q. Even d s ref q w → ltb (m q) (n q) ≡ true → P q) (λ q. Even d s ref q w → m q < n q → P q)
        (λ q f e l. f e (lt-ltb (m q) (n q) l)) A (from_rest (λ q. ltb (m q) (n q) ≡ true → P q) (kept_from (λ q. ltb (m q) (n q)) P rest a))

    rest_listed : ContainsAt A w → Listed rest (filter (λ q. ltb (s q) (d q)) rest) (filter (λ q. ltb (d q) (s q)) rest)
    rest_listed own = record {
      own = own;
      each = each_left;
      each_bought = each_below s d;
      each_sold = each_below d s;
      from_all = from_rest;
      from_bought = from_below s d;
      from_sold = from_below d s;
    }

pub choice_settled : ChoiceIsSettled
unfolding choice
choice_settled d s ref p ps =
    let w : ℕ = best (trades_more d s ref) p ps in
    let A : List ℕ = p ∷ ps in
    let has : AllByRecursion (ContainsAt A) A = all_has_itself A in
    let own : ContainsAt A w = best_in (trades_more d s ref) (ContainsAt A) p ps has.0 has.1 in
    let k = rest_listed d s ref A w own in
    let t = settle d s ref A w _ _ _ k in
    let c = passes d s ref A w _ (much_all d s ref p ps) t in
    (c, (λ r pr. only_one d s ref A w _ r t.left.1 c pr (signs d s ref A w _ _ _ k)))
