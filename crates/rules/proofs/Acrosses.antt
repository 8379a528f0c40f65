-- What holds between the two sides, after an entry, an opening or a withdrawal. Assumes nothing.
use Rattle.rules.specs.Lines.{Sweep, placed, without}
use Rattle.rules.specs.Book.{joins}
use Rattle.rules.specs.Laws.{Across}
use Rattle.prices.specs.declared.price.Price.{Price}
use Rattle.orders.specs.declared.order.Order.{Order}
use Rattle.std.proofs.Common.{ℕ, ◌<◌, Bool, true, false, cond, ltb, List}
use Rattle.std.specs.List.{AllByRecursion}
use Rattle.std.proofs.ByRecursion.{All-weaker}
use Rattle.std.proofs.lemmas.Bool.{cond_both, ltb-true}
use Rattle.lines.specs.Kind.{Kind}
use Rattle.rules.proofs.Lists.{all_two}
use Rattle.rules.proofs.Places.{all_placed, all_without}
use Rattle.rules.proofs.Sweeps.{Swept, kept_all}

-- a newcomer keeps to R with the other side
abbrev pub News : {L : Type 0} → (L → L → Type 0) → Bool → L → List L → Type 0
News R true x ys = AllByRecursion (R x) ys
News R false x ys = AllByRecursion (λ y. R y x) ys

module _ {L : Type 0} (K : Kind L) (R : L → L → Type 0) where
  pub across_without : (n : ℕ) (bs os : List L) → Across R bs os → Across R (without K n bs) (without K n os)
  across_without n bs os h = all_without K (λ b. AllByRecursion (R b) (without K n os)) n bs (All-weaker (λ b. AllByRecursion (R b) os) (λ b. AllByRecursion (R b) (without K n os)) (λ b a. all_without K (R b) n os a) bs h)

module _ {L : Type 0} {K : Kind L} (R : L → L → Type 0) (left_kept : (q : ℕ) (x y : L) → R x y → R (K.taken q x) y) (right_kept : (q : ℕ) (x y : L) → R x y → R x (K.taken q y)) where
  across_left : {e : ℕ → Bool} {k : ℕ} {bs : List L} {w : Sweep L} (os : List L) → Swept K e k bs w → Across R bs os → Across R w.rest os
  across_left os r h = kept_all (λ b. AllByRecursion (R b) os) (λ k b _ a. All-weaker (R b) (R (K.taken k b)) (λ y. left_kept k b y) os a) r h

  across_right : {e : ℕ → Bool} {k : ℕ} {os : List L} {w : Sweep L} (bs : List L) → Swept K e k os w → Across R bs os → Across R bs w.rest
  across_right {os = os} {w = w} bs r h = All-weaker (λ b. AllByRecursion (R b) os) (λ b. AllByRecursion (R b) w.rest) (λ b a. kept_all (R b) (λ k y _ l. right_kept k b y l) r a) bs h

  pub across_swept : {d e : ℕ → Bool} {j k : ℕ} {bs os : List L} {v w : Sweep L} → Swept K d j bs v → Swept K e k os w → Across R bs os → Across R v.rest w.rest
  across_swept {os = os} {v = v} r t h = across_right v.rest t (across_left os r h)

  pub across_entry : (b : Bool) (bs os : List L) (o : Order) (n : ℕ) (p : Price) (q : ℕ) {e : ℕ → Bool} {k : ℕ} {w : Sweep L} → Swept K e k (cond b os bs) w → (0 < q → News R b (K.made o n p q) w.rest) → Across R bs os → Across R (cond b (joins K o n p q bs) w.rest) (cond b w.rest (joins K o n p q os))
  across_entry true bs os o n p q {w} r new h =
      let kept = across_right bs r h in
      cond_both (ltb 0 q) _ _ (λ xs. Across R xs w.rest)
      (λ t. all_placed K (λ b. AllByRecursion (R b) w.rest) (K.made o n p q) bs (new (ltb-true 0 q t)) kept)
      (λ _. kept)
  across_entry false bs os o n p q {w} r new h =
      let kept = across_left os r h in
      cond_both (ltb 0 q) _ _ (λ ys. Across R w.rest ys)
      (λ t. all_two (λ b. AllByRecursion (R b) os) (λ b. R b (K.made o n p q)) (λ b. AllByRecursion (R b) (placed K (K.made o n p q) os)) (λ b a l. all_placed K (R b) (K.made o n p q) os l a) w.rest kept (new (ltb-true 0 q t)))
      (λ _. kept)
