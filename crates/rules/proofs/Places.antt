-- A line that joins its side, and one that leaves. Assumes nothing.
use Rattle.rules.specs.Lines.{only, placed, resting, sum_of, without}
use Rattle.rules.specs.Laws.{Before, Pairwise}
use Rattle.std.proofs.Common.{◌≡◌, ℕ, ◌+◌, ◌≤◌, not, eqb, List, [], ◌∷◌, length, sym, refl, ap, ◌∙◌, arith}
use Rattle.std.specs.List.{AllByRecursion}
use Rattle.std.proofs.lemmas.Bool.{cond_both, eqb-true}
use Rattle.lines.specs.Kind.{Kind}
use Rattle.ordered_run.specs.Ranking.{Ranking}
use Rattle.rules.proofs.Lists.{only_true, only_false, only_zero, only_add, all_two}

module _ {L : Type 0} (K : Kind L) where
  pub sum_placed : (f : L → ℕ) (x : L) (xs : List L) → sum_of f (placed K x xs) ≡ f x + sum_of f xs
  sum_placed f x [] = refl
  sum_placed f x (y ∷ ys) = cond_both (K.precedes x y) _ _ (λ zs. sum_of f zs ≡ f x + (f y + sum_of f ys)) (λ _. refl) (λ _. omega (arith, sum_placed f x ys))

  pub length_placed : (x : L) (xs : List L) → length (placed K x xs) ≡ length xs + 1
  length_placed x [] = omega arith
  length_placed x (y ∷ ys) = cond_both (K.precedes x y) _ _ (λ zs. length zs ≡ length (y ∷ ys) + 1) (λ _. omega arith) (λ _. omega (arith, length_placed x ys))

  pub length_without : (n : ℕ) (xs : List L) → length (without K n xs) ≤ length xs
  length_without n [] = omega arith
  length_without n (x ∷ xs) = cond_both (eqb n (K.number x)) _ _ (λ zs. length zs ≤ length (x ∷ xs)) (λ _. omega (arith, length_without n xs)) (λ _. omega (arith, length_without n xs))

  pub all_placed : (P : L → Type 0) (x : L) (xs : List L) → P x → AllByRecursion P xs → AllByRecursion P (placed K x xs)
  all_placed P x [] h a = (h, tt)
  all_placed P x (y ∷ ys) h a = cond_both (K.precedes x y) _ _ (AllByRecursion P) (λ _. (h, a)) (λ _. (a.0, all_placed P x ys h a.1))

  pub ranked_placed : Ranking K.number K.precedes → (x : L) (xs : List L) → AllByRecursion (λ y. K.number x ≡ K.number y → ⊥) xs → Pairwise (Before K) xs → Pairwise (Before K) (placed K x xs)
  ranked_placed R x [] n r = (tt, tt)
  ranked_placed R x (y ∷ ys) n r =
      cond_both (K.precedes x y) _ _ (Pairwise (Before K))
      (λ t. (((t, n.0), all_two (Before K y) (λ z. K.number x ≡ K.number z → ⊥) (Before K x) (λ z b m. (R.transitive x y z t b.0, m)) ys r.0 n.1), r))
      (λ f. (all_placed (Before K y) x ys (R.total x y n.0 ∙ ap not f, λ e. n.0 (sym e)) r.0, ranked_placed R x ys n.1 r.1))

  pub all_without : (P : L → Type 0) (n : ℕ) (xs : List L) → AllByRecursion P xs → AllByRecursion P (without K n xs)
  all_without P n [] a = tt
  all_without P n (x ∷ xs) a = cond_both (eqb n (K.number x)) _ _ (AllByRecursion P) (λ _. all_without P n xs a.1) (λ _. (a.0, all_without P n xs a.1))

  pub pairwise_without : (R : L → L → Type 0) (n : ℕ) (xs : List L) → Pairwise R xs → Pairwise R (without K n xs)
  pairwise_without R n [] a = tt
  pairwise_without R n (x ∷ xs) a = cond_both (eqb n (K.number x)) _ _ (Pairwise R) (λ _. pairwise_without R n xs a.1) (λ _. (all_without (R x) n xs a.0, pairwise_without R n xs a.1))

  -- what leaves and what stays
  pub resting_without : (n m : ℕ) (xs : List L) → resting K n (without K m xs) + only (eqb n m) (resting K m xs) ≡ resting K n xs
  resting_without n m [] = omega (arith, only_zero (eqb n m))
  resting_without n m (x ∷ xs) =
      let ih = resting_without n m xs in
      let split = only_add (eqb n m) (only (eqb m (K.number x)) (K.left x)) (resting K m xs) in
      cond_both (eqb m (K.number x)) _ _ (λ zs. resting K n zs + only (eqb n m) (resting K m (x ∷ xs)) ≡ resting K n (x ∷ xs))
      (λ t. omega (arith, ap (only (eqb n m)) (only_true (eqb m (K.number x)) (K.left x) t), ap (λ k. only (eqb n k) (K.left x)) (eqb-true m (K.number x) t)))
      (λ f. omega (arith, ap (only (eqb n m)) (only_false (eqb m (K.number x)) (K.left x) f), only_zero (eqb n m)))
