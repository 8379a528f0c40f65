-- Lemmas on lists: what holds of each, of each with each later one, sums. Assumes nothing.
use Rattle.rules.specs.Lines.{only, sum_of}
use Rattle.rules.specs.Laws.{Across, Pairwise}
use Rattle.rules.specs.Fair.{SomeOf}
use Rattle.std.proofs.Common.{◌≡◌, ℕ, ◌+◌, ◌≤◌, Bool, true, false, List, [], ◌∷◌, ◌++◌, map, refl, ap, inl, inr, ⊎_elim, arith}
use Rattle.std.specs.List.{AllByRecursion}
use Rattle.std.proofs.ByRecursion.{All-weaker, All-append}

pub only_add : (b : Bool) (m n : ℕ) → only b (m + n) ≡ only b m + only b n
only_add true m n = refl
only_add false m n = refl

pub only_le : (b : Bool) (n : ℕ) → only b n ≤ n
only_le true n = omega arith
only_le false n = omega arith

pub sum_append : {X : Type 0} (f : X → ℕ) (xs ys : List X) → sum_of f (xs ++ ys) ≡ sum_of f xs + sum_of f ys
sum_append f [] ys = omega arith
sum_append f (x ∷ xs) ys = omega (arith, sum_append f xs ys)

pub sum_map : {X Y : Type 0} (f : Y → ℕ) (g : X → Y) (xs : List X) → sum_of f (map g xs) ≡ sum_of (λ x. f (g x)) xs
sum_map f g [] = refl
sum_map f g (x ∷ xs) = omega (arith, sum_map f g xs)

pub all_both : {X : Type 0} (P Q : X → Type 0) (xs : List X) → AllByRecursion P xs → AllByRecursion Q xs → AllByRecursion (λ x. P x × Q x) xs
all_both P Q [] h k = tt
all_both P Q (x ∷ xs) h k = ((h.0, k.0), all_both P Q xs h.1 k.1)

pub pairwise_weaker : {X : Type 0} (P : X → Type 0) (R S : X → X → Type 0) → ((x y : X) → P x → P y → R x y → S x y) → (xs : List X) → AllByRecursion P xs → Pairwise R xs → Pairwise S xs
pairwise_weaker P R S f [] h r = tt
pairwise_weaker {X} P R S f (x ∷ xs) h r = (go xs h.1 r.0, pairwise_weaker P R S f xs h.1 r.1)
  where
    go : (ys : List X) → AllByRecursion P ys → AllByRecursion (R x) ys → AllByRecursion (S x) ys
    go [] k s = tt
    go (y ∷ ys) k s = (f x y h.0 k.0 s.0, go ys k.1 s.1)

pub only_true : (b : Bool) (n : ℕ) → b ≡ true → only b n ≡ n
only_true b n e = ap (λ t. only t n) e

pub only_false : (b : Bool) (n : ℕ) → b ≡ false → only b n ≡ 0
only_false b n e = ap (λ t. only t n) e

-- by cases on a test, with what it says
pub by_test : (b : Bool) (P : Bool → Type 0) → (b ≡ true → P true) → (b ≡ false → P false) → P b
by_test true P f g = f refl
by_test false P f g = g refl

pub all_two : {X : Type 0} (P Q S : X → Type 0) → ((x : X) → P x → Q x → S x) → (xs : List X) → AllByRecursion P xs → AllByRecursion Q xs → AllByRecursion S xs
all_two P Q S f [] h k = tt
all_two P Q S f (x ∷ xs) h k = (f x h.0 k.0, all_two P Q S f xs h.1 k.1)

pub only_zero : (b : Bool) → only b 0 ≡ 0
only_zero true = refl
only_zero false = refl

pub pairwise_any : {X : Type 0} (R : X → X → Type 0) → ((x y : X) → R x y) → (xs : List X) → Pairwise R xs
pairwise_any R f [] = tt
pairwise_any {X} R f (x ∷ xs) = (go xs, pairwise_any R f xs)
  where
    go : (ys : List X) → AllByRecursion (R x) ys
    go [] = tt
    go (y ∷ ys) = (f x y, go ys)

pub all_any : {X : Type 0} (P : X → Type 0) → ((x : X) → P x) → (xs : List X) → AllByRecursion P xs
all_any P f [] = tt
all_any P f (x ∷ xs) = (f x, all_any P f xs)

pub all_front : {X : Type 0} (P : X → Type 0) (xs ys : List X) → AllByRecursion P (xs ++ ys) → AllByRecursion P xs
all_front P [] ys a = tt
all_front P (x ∷ xs) ys a = (a.0, all_front P xs ys a.1)

pub all_back : {X : Type 0} (P : X → Type 0) (xs ys : List X) → AllByRecursion P (xs ++ ys) → AllByRecursion P ys
all_back P [] ys a = a
all_back P (x ∷ xs) ys a = all_back P xs ys a.1

pub pairwise_back : {X : Type 0} (R : X → X → Type 0) (xs ys : List X) → Pairwise R (xs ++ ys) → Pairwise R ys
pairwise_back R [] ys r = r
pairwise_back R (x ∷ xs) ys r = pairwise_back R xs ys r.1

-- from each with each later one, both ways, and each with itself: each with each
pub all_pairs : {X : Type 0} (R : X → X → Type 0) → ((x : X) → R x x) → (xs : List X) → Pairwise (λ x y. R x y × R y x) xs → AllByRecursion (λ x. AllByRecursion (R x) xs) xs
all_pairs R f [] r = tt
all_pairs R f (x ∷ xs) r = (
  (f x, All-weaker (λ y. R x y × R y x) (R x) (λ y k. k.0) xs r.0),
  all_two (λ y. R x y × R y x) (λ y. AllByRecursion (R y) xs) (λ y. AllByRecursion (R y) (x ∷ xs)) (λ y k a. (k.1, a)) xs r.0 (all_pairs R f xs r.1),
)

pub all_at : {X : Type 0} (P : X → Type 0) (xs : List X) (x : X) (ys : List X) → AllByRecursion P (xs ++ x ∷ ys) → P x
all_at P [] x ys a = a.0
all_at P (y ∷ xs) x ys a = all_at P xs x ys a.1

pub pairwise_front : {X : Type 0} (R : X → X → Type 0) (xs ys : List X) → Pairwise R (xs ++ ys) → Pairwise R xs
pairwise_front R [] ys r = tt
pairwise_front R (x ∷ xs) ys r = (all_front (R x) xs ys r.0, pairwise_front R xs ys r.1)

pub pairwise_across : {X : Type 0} (R : X → X → Type 0) (xs ys : List X) → Pairwise R (xs ++ ys) → Across R xs ys
pairwise_across R [] ys r = tt
pairwise_across R (x ∷ xs) ys r = (all_back (R x) xs ys r.0, pairwise_across R xs ys r.1)

pub pairwise_append : {X : Type 0} (R : X → X → Type 0) (xs ys : List X) → Pairwise R xs → Pairwise R ys → Across R xs ys → Pairwise R (xs ++ ys)
pairwise_append R [] ys r s a = s
pairwise_append R (x ∷ xs) ys r s a = (All-append (R x) xs ys r.0 a.0, pairwise_append R xs ys r.1 s a.1)

pub across_weaker : {X : Type 0} (P Q : X → Type 0) (R S : X → X → Type 0) → ((x y : X) → P x → Q y → R x y → S x y) → (xs ys : List X) → AllByRecursion P xs → AllByRecursion Q ys → Across R xs ys → Across S xs ys
across_weaker P Q R S f xs ys a b r =
    all_two P (λ x. AllByRecursion (R x) ys) (λ x. AllByRecursion (S x) ys) (λ x p k. all_two Q (R x) (S x) (λ y q h. f x y p q h) ys b k) xs a r

pub some_weaker : {X : Type 0} (P Q : X → Type 0) → ((x : X) → P x → Q x) → (xs : List X) → SomeOf P xs → SomeOf Q xs
some_weaker P Q f [] h = h
some_weaker P Q f (x ∷ xs) h = ⊎_elim (λ k. inl (f x k)) (λ k. inr (some_weaker P Q f xs k)) h

-- of what holds of each, and of what holds of some
pub all_some : {X : Type 0} (P Q : X → Type 0) (R : Type 0) → ((x : X) → P x → Q x → R) → (xs : List X) → AllByRecursion P xs → SomeOf Q xs → R
all_some P Q R f [] a h = absurd h
all_some P Q R f (x ∷ xs) a h = ⊎_elim (λ k. f x a.0 k) (λ k. all_some P Q R f xs a.1 k) h

pub each_some : {X : Type 0} (R : X → X → Type 0) → ((x : X) → R x x) → (xs : List X) → AllByRecursion (λ x. SomeOf (R x) xs) xs
each_some R f [] = tt
each_some R f (x ∷ xs) = (inl (f x), All-weaker (λ y. SomeOf (R y) xs) (λ y. SomeOf (R y) (x ∷ xs)) (λ y k. inr k) xs (each_some R f xs))

pub some_with : {X : Type 0} (A B C : X → Type 0) → ((x : X) → A x → B x → C x) → (xs : List X) → AllByRecursion A xs → SomeOf B xs → SomeOf C xs
some_with A B C f [] a h = h
some_with A B C f (x ∷ xs) a h = ⊎_elim (λ k. inl (f x a.0 k)) (λ k. inr (some_with A B C f xs a.1 k)) h

pub some_map : {X Y : Type 0} (P : Y → Type 0) (f : X → Y) (xs : List X) → SomeOf (λ x. P (f x)) xs → SomeOf P (map f xs)
some_map P f [] h = h
some_map P f (x ∷ xs) h = ⊎_elim (λ k. inl k) (λ k. inr (some_map P f xs k)) h
