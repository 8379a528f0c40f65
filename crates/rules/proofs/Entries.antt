-- An entry leaves the book uncrossed. Assumes nothing.
use Rattle.prices.specs.declared.price.Price.{Price}
use Rattle.orders.specs.declared.order.Order.{Order}
use Rattle.rules.specs.declared.terms.Status.{Status}
use Rattle.rules.specs.declared.terms.Status.TheVariants.{PreOpen, Calling, Running, Halted, Closed}
use Rattle.records.specs.declared.letters.Qualifier.{Qualifier}
use Rattle.records.specs.declared.letters.Qualifier.TheVariants.{Unqualified, FillOrKill, ImmediateOrCancel}
use Rattle.rules.specs.Lines.{Fill, Sweep, only, swept, total, units, without}
use Rattle.orders.specs.Orders.{is_unqualified}
use Rattle.rules.specs.Book.{Book, Call, accepts, accepts_at, buys, call, close, effect, eligible, enter, entered_with, halt, is_fill_or_kill, is_halted, is_preopen, is_running, join, open', opens_at, others, rests, rests_at, resume, show, sought, step, takes, withdraw}
use Rattle.rules.specs.Laws.{Below, Pairwise, Uncrossed, Lawful}
use Rattle.std.proofs.Common.{◌≡◌, ℕ, ◌-◌, ◌<◌, Bool, true, false, cond, not, ◌&&◌, ltb, List, Some, None, Option, refl, ap, arith}
use Rattle.std.specs.List.{AllByRecursion}
use Rattle.std.proofs.ByRecursion.{All-weaker}
use Rattle.std.proofs.lemmas.Bool.{true≢false, false≢true, leb-false}
use Rattle.lines.specs.Kind.{Kind, Taking}
use Rattle.rules.proofs.Lists.{only_le, pairwise_any}
use Rattle.rules.proofs.Acrosses.{News, across_entry, across_without}
use Rattle.rules.proofs.Sweeps.{Falls, same_units, spent, sweep, wants_more}
use Rattle.rules.proofs.Faults.{in_turn}
use Rattle.rules.proofs.Sound.{OneSide, Held, after_step, other_side, side_by}
use Rattle.rules.proofs.Prices.{demand_falls, supply_falls}
use Rattle.rules.proofs.Openings.{price_best, opening_below}

module _ {L : Type 0} (K : Kind L) where
  abbrev Cheaper : L → L → Type 0
  Cheaper x y = units K x < units K y

  -- where an order's rest rests it is not to be filled or killed
  plain_rests : (q : Qualifier) (n : ℕ) → 0 < only (is_unqualified q) n → is_fill_or_kill q ≡ false
  plain_rests Unqualified n w = refl
  plain_rests FillOrKill n w = absurd (omega arith)
  plain_rests ImmediateOrCancel n w = refl

  while_running : (t : Status) (s : Book L) → is_running t ≡ true → Uncrossed K t s → Below K s.buyers s.sellers
  while_running PreOpen s e h = absurd (false≢true e)
  while_running Calling s e h = absurd (false≢true e)
  while_running Running s e h = h
  while_running Halted s e h = absurd (false≢true e)
  while_running Closed s e h = absurd (false≢true e)

  while_halted : (t : Status) (s : Book L) → is_halted t ≡ true → Uncrossed K t s → Below K s.buyers s.sellers
  while_halted PreOpen s e h = absurd (false≢true e)
  while_halted Calling s e h = absurd (false≢true e)
  while_halted Running s e h = absurd (false≢true e)
  while_halted Halted s e h = h
  while_halted Closed s e h = absurd (false≢true e)

  uncrossed_without : (t : Status) (n : ℕ) (s s' : Book L) → s'.buyers ≡ without K n s.buyers → s'.sellers ≡ without K n s.sellers → Uncrossed K t s → Uncrossed K t s'
  uncrossed_without PreOpen n s s' d e h = tt
  uncrossed_without Calling n s s' d e h = tt
  uncrossed_without Running n s s' d e h = rw (d, e) (across_without K Cheaper n s.buyers s.sellers h)
  uncrossed_without Halted n s s' d e h = rw (d, e) (across_without K Cheaper n s.buyers s.sellers h)
  uncrossed_without Closed n s s' d e h = tt

  -- before the opening nothing is asked
  not_open : (t : Status) (s : Book L) → is_preopen t ≡ true → Uncrossed K t s
  not_open PreOpen s e = tt
  not_open Calling s e = tt
  not_open Running s e = absurd (false≢true e)
  not_open Halted s e = absurd (false≢true e)
  not_open Closed s e = tt

  as_running : (t : Status) (s : Book L) → is_running t ≡ true → Below K s.buyers s.sellers → Uncrossed K t s
  as_running PreOpen s e h = tt
  as_running Calling s e h = tt
  as_running Running s e h = h
  as_running Halted s e h = h
  as_running Closed s e h = tt

module _ {L : Type 0} {K : Kind L} (W : Lawful K) where
  T : Taking K
  T = W.taking

  pub falls_accepts : (b : Bool) (m : Option Price) (n : ℕ) (xs : List L) → OneSide K (side_by (not b)) n xs → Pairwise (Falls K (accepts_at b m)) xs
  falls_accepts true None n xs h = pairwise_any (Falls K (accepts_at true None)) (λ x y e. e) xs
  falls_accepts true (Some l) n xs h = supply_falls W l.units n xs h
  falls_accepts false None n xs h = pairwise_any (Falls K (accepts_at false None)) (λ x y e. e) xs
  falls_accepts false (Some l) n xs h = demand_falls W l.units n xs h

  cheaper_kept : (q : ℕ) (x y : L) → Cheaper K x y → Cheaper K (K.taken q x) y
  cheaper_kept q x y l = rw (same_units T q x) l

  cheaper_kept' : (q : ℕ) (x y : L) → Cheaper K x y → Cheaper K x (K.taken q y)
  cheaper_kept' q x y l = rw (same_units T q y) l

  made_units : (o : Order) (n : ℕ) (p : Price) (q : ℕ) → units K (K.made o n p q) ≡ p.units
  made_units o n p q = ap (λ r. r.units) (W.making.its_price o n p q)

  -- what an order does not accept is off its price
  newcomer : (o : Order) (n : ℕ) (p d : Price) (q : ℕ) (b : Bool) (m : Option Price) (fs : List Fill) (ys : List L) → p ≡ rests_at d m fs → AllByRecursion (λ y. accepts_at b m (units K y) ≡ false) ys → News (Cheaper K) b (K.made o n p q) ys
  newcomer o n p d q true None fs ys e a = All-weaker (λ y. accepts_at true None (units K y) ≡ false) (Cheaper K (K.made o n p q)) (λ y f. absurd (true≢false f)) ys a
  newcomer o n p d q true (Some l) fs ys e a = All-weaker (λ y. accepts_at true (Some l) (units K y) ≡ false) (Cheaper K (K.made o n p q)) (λ y f. omega (arith, leb-false (units K y) l.units f, made_units o n p q, ap (λ r. r.units) e)) ys a
  newcomer o n p d q false None fs ys e a = All-weaker (λ y. accepts_at false None (units K y) ≡ false) (λ y. Cheaper K y (K.made o n p q)) (λ y f. absurd (true≢false f)) ys a
  newcomer o n p d q false (Some l) fs ys e a = All-weaker (λ y. accepts_at false (Some l) (units K y) ≡ false) (λ y. Cheaper K y (K.made o n p q)) (λ y f. omega (arith, leb-false l.units (units K y) f, made_units o n p q, ap (λ r. r.units) e)) ys a

  uncrossed_entry : (s : Book L) (o : Order) → Held K s → Below K s.buyers s.sellers → let s' = entered_with K s o (swept K (accepts o) (sought K s o) (others K s o)) in Below K s'.buyers s'.sellers
  uncrossed_entry s o h u =
      let w : Sweep L = swept K (accepts o) (sought K s o) (others K s o) in
      let r = sweep K (accepts o) (sought K s o) (others K s o) in
      let q : ℕ = rests K o (total w.fills) in
      across_entry (Cheaper K) cheaper_kept cheaper_kept' (buys o) s.buyers s.sellers o s.next (rests_at s.reference o.limit w.fills) q r
      (λ some'.
      let k = plain_rests K o.qualifier (o.quantity - total w.fills) some' in
      let z : sought K s o ≡ o.quantity = ap (λ b. cond (b && ltb (eligible K s o) o.quantity) 0 o.quantity) k in
      let more : 0 < w.wanting = omega (arith, spent r, only_le (is_unqualified o.qualifier) (o.quantity - total w.fills)) in
      newcomer o s.next (rests_at s.reference o.limit w.fills) s.reference q (buys o) o.limit w.fills w.rest refl (wants_more r (falls_accepts (buys o) o.limit s.next (others K s o) (other_side W (buys o) s h)) more))
      u

  uncrossed_effect : (s : Book L) (c : Call) → takes K s.status c ≡ true → Held K s → Uncrossed K s.status s → Uncrossed K (effect K s c).after.status (effect K s c).after
  uncrossed_effect s (join o plain) e h u = not_open K s.status _ e
  uncrossed_effect s (enter o room) e h u = as_running K s.status _ e (uncrossed_entry s o h (while_running K s.status s e u))
  uncrossed_effect s (withdraw n) e h u = uncrossed_without K s.status n s (effect K s (withdraw n)).after refl refl u
  uncrossed_effect s (show n) e h u = u
  uncrossed_effect s call e h u = tt
  uncrossed_effect s (open' room) e h u = opening_below W s (opens_at K s).units h (price_best K s)
  uncrossed_effect s halt e h u = while_running K s.status s e u
  uncrossed_effect s resume e h u = while_halted K s.status s e u
  uncrossed_effect s close e h u = tt

  pub uncrossed_step : (s : Book L) (c : Call) → Held K s → Uncrossed K s.status s → Uncrossed K (step K s c).after.status (step K s c).after
  uncrossed_step s c h u = after_step W (λ t. Uncrossed K t.status t) s c u (λ e. uncrossed_effect s c (in_turn K s c e) h u)
