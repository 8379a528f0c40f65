-- What a sweep does, step by step, and what follows. Assumes nothing.
use Rattle.rules.specs.Lines.{Fill, Sweep, all_left, fill, only, parted, resting, shares, sum_of, swept, total, units, untouched, used}
use Rattle.rules.specs.Laws.{Pairwise}
use Rattle.std.proofs.Common.{◌≡◌, ℕ, ◌+◌, ◌-◌, ◌<◌, ◌≤◌, min, Bool, true, false, ◌&&◌, eqb, ltb, leb, List, [], ◌∷◌, length, sym, refl, ap, ◌∙◌, ⊎_elim, arith}
use Rattle.std.specs.List.{AllByRecursion}
use Rattle.std.proofs.ByRecursion.{All-weaker}
use Rattle.std.proofs.lemmas.Bool.{false≢true, true≢false, cases_Bool, cond_both, and_parts, leb-true, leb-false, ltb-true, ltb-false}
use Rattle.lines.specs.Kind.{Kind, Taking}
use Rattle.rules.proofs.Lists.{only_add, only_true, only_false}

pub same_units : {L : Type 0} {K : Kind L} (T : Taking K) (q : ℕ) (x : L) → units K (K.taken q x) ≡ units K x
same_units T q x = ap (λ p. p.units) (T.same_price q x)

-- the shares of the fills with the number n
abbrev pub filled : ℕ → List Fill → ℕ
filled n fs = sum_of (λ f. only (eqb n f.number) f.shares) fs

module _ {L : Type 0} (K : Kind L) (e : ℕ → Bool) where
  -- the ways of a sweep
  pub data Swept : ℕ → List L → Sweep L → Type 0 where
    ends : {q : ℕ} → Swept q [] (untouched K q [])
    stops : {q : ℕ} {x : L} {xs : List L} → (e (units K x) ≡ true → q ≡ 0) → Swept q (x ∷ xs) (untouched K q (x ∷ xs))
    parts : {q : ℕ} {x : L} {xs : List L} → e (units K x) ≡ true → 0 < q → q < K.left x → Swept q (x ∷ xs) (parted K q x xs)
    uses : {q : ℕ} {x : L} {xs : List L} {s : Sweep L} → e (units K x) ≡ true → 0 < q → K.left x ≤ q → Swept (q - K.left x) xs s → Swept q (x ∷ xs) (used K x s)

  stop_why : (b : Bool) (q : ℕ) → (b && ltb 0 q) ≡ false → b ≡ true → q ≡ 0
  stop_why true q f t = omega (arith, ltb-false 0 q f)
  stop_why false q f t = absurd (false≢true t)

  pub sweep : (q : ℕ) (xs : List L) → Swept q xs (swept K e q xs)
  sweep q [] = ends
  sweep q (x ∷ xs) =
      cond_both (e (units K x) && ltb 0 q) _ _ (λ s. Swept q (x ∷ xs) s)
      (λ t. let h = and_parts (e (units K x)) (ltb 0 q) t in
      cond_both (leb (K.left x) q) _ _ (λ s. Swept q (x ∷ xs) s)
      (λ u. uses h.0 (ltb-true 0 q h.1) (leb-true (K.left x) q u) (sweep (q - K.left x) xs))
      (λ u. parts h.0 (ltb-true 0 q h.1) (leb-false (K.left x) q u)))
      (λ f. stops (stop_why (e (units K x)) q f))

module _ {L : Type 0} {K : Kind L} {e : ℕ → Bool} where
  -- what is traded and what is still wanted come to what was wanted
  pub spent : {q : ℕ} {xs : List L} {s : Sweep L} → Swept K e q xs s → total s.fills + s.wanting ≡ q
  spent ends = omega arith
  spent (stops h) = omega arith
  spent (parts h p l) = omega arith
  spent (uses h p l r) = omega (arith, spent r)

  -- no share of a number is lost
  pub filled_and_left : (T : Taking K) (n : ℕ) {q : ℕ} {xs : List L} {s : Sweep L} → Swept K e q xs s → filled n s.fills + resting K n s.rest ≡ resting K n xs
  filled_and_left T n ends = refl
  filled_and_left T n (stops h) = omega arith
  filled_and_left T n (parts {q = q} {x = x} {xs = xs} h p l) =
      rw (T.same_number q x) (
      let m : K.left (K.taken q x) + q ≡ K.left x = T.lowers q x (omega arith) in
      omega (arith, only_add (eqb n (K.number x)) (K.left (K.taken q x)) q, ap (only (eqb n (K.number x))) m))
  filled_and_left T n (uses h p l r) = omega (arith, filled_and_left T n r)

  pub traded_and_left : (T : Taking K) {q : ℕ} {xs : List L} {s : Sweep L} → Swept K e q xs s → total s.fills + all_left K s.rest ≡ all_left K xs
  traded_and_left T ends = refl
  traded_and_left T (stops h) = omega arith
  traded_and_left T (parts {q = q} {x = x} h p l) = omega (arith, T.lowers q x (omega arith))
  traded_and_left T (uses h p l r) = omega (arith, traded_and_left T r)

  -- what holds of each line, and is kept when some of its shares are taken, holds of each that is left
  pub kept_all : (P : L → Type 0) → ((q : ℕ) (x : L) → q < K.left x → P x → P (K.taken q x)) → {q : ℕ} {xs : List L} {s : Sweep L} → Swept K e q xs s → AllByRecursion P xs → AllByRecursion P s.rest
  kept_all P f ends a = tt
  kept_all P f (stops h) a = a
  kept_all P f (parts {q = q} {x = x} h p l) a = (f q x l a.0, a.1)
  kept_all P f (uses h p l r) a = kept_all P f r a.1

  pub kept_pairwise : (R : L → L → Type 0) → ((q : ℕ) (x y : L) → R x y → R (K.taken q x) y) → {q : ℕ} {xs : List L} {s : Sweep L} → Swept K e q xs s → Pairwise R xs → Pairwise R s.rest
  kept_pairwise R f ends a = tt
  kept_pairwise R f (stops h) a = a
  kept_pairwise R f (parts {q = q} {x = x} {xs = xs} h p l) a = (All-weaker (R x) (R (K.taken q x)) (λ y. f q x y) xs a.0, a.1)
  kept_pairwise R f (uses h p l r) a = kept_pairwise R f r a.1

  -- how many
  pub fills_length : {q : ℕ} {xs : List L} {s : Sweep L} → Swept K e q xs s → length s.fills ≤ length xs
  fills_length ends = omega arith
  fills_length (stops h) = omega arith
  fills_length (parts h p l) = omega arith
  fills_length (uses h p l r) = omega (arith, fills_length r)

  pub rest_length : {q : ℕ} {xs : List L} {s : Sweep L} → Swept K e q xs s → length s.rest ≤ length xs
  rest_length ends = omega arith
  rest_length (stops h) = omega arith
  rest_length (parts h p l) = omega arith
  rest_length (uses h p l r) = omega (arith, rest_length r)

  pub fills_rest_length : {q : ℕ} {xs : List L} {s : Sweep L} → Swept K e q xs s → length s.fills + length s.rest ≤ length xs + 1
  fills_rest_length ends = omega arith
  fills_rest_length (stops h) = omega arith
  fills_rest_length (parts h p l) = omega arith
  fills_rest_length (uses h p l r) = omega (arith, fills_rest_length r)

  pub no_fills : {q : ℕ} {xs : List L} {s : Sweep L} → Swept K e q xs s → q ≡ 0 → s.fills ≡ []
  no_fills ends z = refl
  no_fills (stops h) z = refl
  no_fills (parts h p l) z = absurd (omega arith)
  no_fills (uses h p l r) z = absurd (omega arith)

  pub fills_some : {q : ℕ} {xs : List L} {s : Sweep L} → Swept K e q xs s → AllByRecursion (λ x. 0 < K.left x) xs → AllByRecursion (λ f. 0 < f.shares) s.fills
  fills_some ends a = tt
  fills_some (stops h) a = tt
  fills_some (parts h p l) a = (p, tt)
  fills_some (uses h p l r) a = (a.0, fills_some r a.1)

  -- each fill is of a line that passes
  pub fills_of : (P : Fill → Type 0) {q : ℕ} {xs : List L} {s : Sweep L} → Swept K e q xs s → AllByRecursion (λ x. (n : ℕ) → e (units K x) ≡ true → P (fill K x n)) xs → AllByRecursion P s.fills
  fills_of P ends a = tt
  fills_of P (stops h) a = tt
  fills_of P (parts {q = q} h p l) a = (a.0 q h, tt)
  fills_of P (uses {x = x} h p l r) a = (a.0 (K.left x) h, fills_of P r a.1)

module _ {L : Type 0} (K : Kind L) (d : ℕ → Bool) where
  -- if a later line's price passes, so does an earlier one's
  abbrev pub Falls : L → L → Type 0
  Falls x y = d (units K y) ≡ true → d (units K x) ≡ true

  pub none_pass : (x : L) → d (units K x) ≡ false → (xs : List L) → AllByRecursion (Falls x) xs → AllByRecursion (λ y. d (units K y) ≡ false) xs
  none_pass x f xs a = All-weaker (Falls x) (λ y. d (units K y) ≡ false) (λ y k. ⊎_elim (λ t. absurd (true≢false (sym (k t) ∙ f))) (λ g. g) (cases_Bool (d (units K y)))) xs a

  pub none_shares : (xs : List L) → AllByRecursion (λ y. d (units K y) ≡ false) xs → shares K d xs ≡ 0
  none_shares [] a = refl
  none_shares (x ∷ xs) a = omega (arith, only_false (d (units K x)) (K.left x) a.0, none_shares xs a.1)

module _ {L : Type 0} {K : Kind L} {e : ℕ → Bool} where
  -- a sweep trades all that it can
  pub trades_all : {q : ℕ} {xs : List L} {s : Sweep L} → Swept K e q xs s → Pairwise (Falls K e) xs → total s.fills ≡ min q (shares K e xs)
  trades_all ends a = omega arith
  trades_all (stops {x = x} {xs = xs} h) a =
      ⊎_elim
      (λ t. omega (arith, h t))
      (λ f. omega (arith, only_false (e (units K x)) (K.left x) f, none_shares K e xs (none_pass K e x f xs a.0)))
      (cases_Bool (e (units K x)))
  trades_all (parts {x = x} h p l) a = omega (arith, only_true (e (units K x)) (K.left x) h)
  trades_all (uses {x = x} h p l r) a = omega (arith, only_true (e (units K x)) (K.left x) h, trades_all r a.1)

  -- where it still wants, nothing that is left passes
  pub wants_more : {q : ℕ} {xs : List L} {s : Sweep L} → Swept K e q xs s → Pairwise (Falls K e) xs → 0 < s.wanting → AllByRecursion (λ y. e (units K y) ≡ false) s.rest
  wants_more ends a w = tt
  wants_more (stops {x = x} {xs = xs} h) a w =
      let f : e (units K x) ≡ false = ⊎_elim (λ t. absurd (let z = h t in omega arith)) (λ g. g) (cases_Bool (e (units K x))) in
      (f, none_pass K e x f xs a.0)
  wants_more (parts h p l) a w = absurd (omega arith)
  wants_more (uses h p l r) a w = wants_more r a.1 w

  -- if some line that is left passes another test, then all that was traded passed it too
  pub traded_passed : (T : Taking K) (d : ℕ → Bool) {q : ℕ} {xs : List L} {s : Sweep L} → Swept K e q xs s → Pairwise (Falls K d) xs → 0 < shares K d s.rest → total s.fills + shares K d s.rest ≡ shares K d xs
  traded_passed T d ends a w = omega arith
  traded_passed T d (stops h) a w = omega arith
  traded_passed T d (parts {q = q} {x = x} {xs = xs} h p l) a w =
      let v = rw (same_units T q x) at w in
      rw (same_units T q x) (
      ⊎_elim
      (λ t. omega (arith, only_true (d (units K x)) (K.left x) t, only_true (d (units K x)) (K.left (K.taken q x)) t, T.lowers q x (omega arith)))
      (λ f. absurd (omega (arith, only_false (d (units K x)) (K.left (K.taken q x)) f, none_shares K d xs (none_pass K d x f xs a.0))))
      (cases_Bool (d (units K x))))
  traded_passed T d (uses {x = x} {xs = xs} h p l r) a w =
      let ih = traded_passed T d r a.1 w in
      ⊎_elim
      (λ t. omega (arith, only_true (d (units K x)) (K.left x) t))
      (λ f. absurd (omega (arith, none_shares K d xs (none_pass K d x f xs a.0))))
      (cases_Bool (d (units K x)))
