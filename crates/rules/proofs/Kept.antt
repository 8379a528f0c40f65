-- No share is lost or made. Assumes nothing.
use Rattle.prices.specs.declared.price.Price.{Price}
use Rattle.orders.specs.declared.order.Order.{Order}
use Rattle.rules.specs.declared.terms.Trade.{Trade}
use Rattle.rules.specs.declared.terms.BookFault.{BookFault}
use Rattle.rules.specs.History.{Asked, Tape, call_of, calling, closing, entered_as, entering, halting, joining, lapsed_as, opening, quantity_of, rests_in, resuming, showing, traded, withdrawing, withdrawn_as}
use Rattle.rules.specs.Lines.{Fill, Sweep, only, resting, sum_of, swept, total}
use Rattle.orders.specs.Orders.{is_unqualified}
use Rattle.rules.specs.Book.{Book, Outcome, accepts, any_price, buys, dealt, effect, eligible, entered_with, fault, fills_kind, is_fill_or_kill, joins, opening_at, opens_at, others, paired, refused, rests, rests_at, sought, step, struck, unless_fault, volume_of}
use Rattle.std.proofs.Common.{◌≡◌, ℕ, ◌+◌, ◌-◌, ◌≤◌, Bool, true, false, cond, ◌&&◌, eqb, ltb, leb, List, [], ◌∷◌, map, Some, None, Option, sym, refl, ap, ◌∙◌, arith}
use Rattle.std.proofs.lemmas.Bool.{cond_both, ltb-false}
use Rattle.lines.specs.Kind.{Kind, Taking}
use Rattle.rules.specs.Laws.{Lawful}
use Rattle.rules.proofs.Lists.{only_add, only_zero, only_le, sum_append, sum_map, pairwise_any}
use Rattle.rules.proofs.Sweeps.{sweep, filled, filled_and_left, traded_and_left, trades_all, spent, Falls}
use Rattle.rules.proofs.Places.{sum_placed, resting_without}
use Rattle.rules.proofs.Sound.{Held}
use Rattle.rules.proofs.Prices.{demand_traded, supply_traded}

fills_taking : Taking fills_kind
fills_taking = record {
  lowers = λ q f l. omega arith;
  same_number = λ q f. refl;
  same_side = λ q f. refl;
  same_price = λ q f. refl;
  same_before = λ q f g. refl;
  same_behind = λ q f g. refl;
}

-- what was bought and sold under a number
abbrev pub bought : ℕ → List Trade → ℕ
bought n ts = sum_of (λ t. only (eqb n t.buyer) t.quantity) ts

abbrev pub sold : ℕ → List Trade → ℕ
sold n ts = sum_of (λ t. only (eqb n t.seller) t.quantity) ts

traded_split : (n : ℕ) (ts : List Trade) → traded n ts ≡ bought n ts + sold n ts
traded_split n [] = refl
traded_split n (t ∷ ts) = omega (arith, traded_split n ts)

pub filled_le : (n : ℕ) (fs : List Fill) → filled n fs ≤ total fs
filled_le n [] = omega arith
filled_le n (f ∷ fs) = omega (arith, only_le (eqb n f.number) f.shares, filled_le n fs)

sum_only : (b : Bool) (fs : List Fill) → sum_of (λ f. only b f.shares) fs ≡ only b (total fs)
sum_only b [] = sym (only_zero b)
sum_only b (f ∷ fs) = omega (arith, sum_only b fs, only_add b f.shares (total fs))

-- the sellers' fills have enough for the first buyer, and for the others
pub dealt_total : (b : Fill) (bs ss : List Fill) → total (b ∷ bs) ≤ total ss → (total (swept fills_kind any_price b.shares ss).fills ≡ b.shares) × (total bs ≤ total (swept fills_kind any_price b.shares ss).rest)
dealt_total b bs ss l =
    let r = sweep fills_kind any_price b.shares ss in
    let t = trades_all r (pairwise_any (Falls fills_kind any_price) (λ x y e. e) ss) in
    let u = traded_and_left fills_taking r in
    omega arith

-- first with first: each number has in the trades what it has in the fills
pub paired_bought : (n : ℕ) (p : Price) (bs ss : List Fill) → total bs ≤ total ss → bought n (paired p bs ss) ≡ filled n bs
paired_bought n p [] ss l = refl
paired_bought n p (b ∷ bs) ss l =
    let w : Sweep Fill = swept fills_kind any_price b.shares ss in
    let r = sweep fills_kind any_price b.shares ss in
    let t = trades_all r (pairwise_any (Falls fills_kind any_price) (λ x y e. e) ss) in
    let u = traded_and_left fills_taking r in
    let ih = paired_bought n p bs w.rest (omega arith) in
    let c = sum_append (λ t. only (eqb n t.buyer) t.quantity) (map (dealt p b) w.fills) (paired p bs w.rest) in
    let m = sum_map (λ t. only (eqb n t.buyer) t.quantity) (dealt p b) w.fills in
    let o = sum_only (eqb n b.number) w.fills in
    let z : total w.fills ≡ b.shares = omega arith in
    omega (arith, ap (only (eqb n b.number)) z)

pub paired_sold : (n : ℕ) (p : Price) (bs ss : List Fill) → total bs ≡ total ss → sold n (paired p bs ss) ≡ filled n ss
paired_sold n p [] ss l = omega (arith, filled_le n ss)
paired_sold n p (b ∷ bs) ss l =
    let w : Sweep Fill = swept fills_kind any_price b.shares ss in
    let r = sweep fills_kind any_price b.shares ss in
    let t = trades_all r (pairwise_any (Falls fills_kind any_price) (λ x y e. e) ss) in
    let u = traded_and_left fills_taking r in
    let ih = paired_sold n p bs w.rest (omega arith) in
    let c = sum_append (λ t. only (eqb n t.seller) t.quantity) (map (dealt p b) w.fills) (paired p bs w.rest) in
    let m = sum_map (λ t. only (eqb n t.seller) t.quantity) (dealt p b) w.fills in
    let o = filled_and_left fills_taking n r in
    omega arith

-- an entry's trades: its own shares, and those of the lines
pub struck_sums : (b : Bool) (n m : ℕ) (fs : List Fill) → bought n (map (struck b m) fs) + sold n (map (struck b m) fs) ≡ only (eqb n m) (total fs) + filled n fs
struck_sums true n m fs = omega (arith, sum_map (λ t. only (eqb n t.buyer) t.quantity) (struck true m) fs, sum_map (λ t. only (eqb n t.seller) t.quantity) (struck true m) fs, sum_only (eqb n m) fs)
struck_sums false n m fs = omega (arith, sum_map (λ t. only (eqb n t.buyer) t.quantity) (struck false m) fs, sum_map (λ t. only (eqb n t.seller) t.quantity) (struck false m) fs, sum_only (eqb n m) fs)

module _ {L : Type 0} {K : Kind L} (W : Lawful K) where
  T : Taking K
  T = W.taking

  resting_joins : (n : ℕ) (o : Order) (m : ℕ) (p : Price) (q : ℕ) (xs : List L) → resting K n (joins K o m p q xs) ≡ only (eqb n m) q + resting K n xs
  resting_joins n o m p q xs =
      cond_both (ltb 0 q) _ _ (λ zs. resting K n zs ≡ only (eqb n m) q + resting K n xs)
      (λ t. sum_placed K (λ x. only (eqb n (K.number x)) (K.left x)) (K.made o m p q) xs ∙ rw (W.making.its_number o m p q, W.making.its_left o m p q))
      (λ f. let z : q ≡ 0 = omega (arith, ltb-false 0 q f) in omega (arith, ap (only (eqb n m)) z, only_zero (eqb n m)))

  pub sought_le : (s : Book L) (o : Order) → sought K s o ≤ o.quantity
  sought_le s o = cond_both (is_fill_or_kill o.qualifier && ltb (eligible K s o) o.quantity) 0 o.quantity (λ q. q ≤ o.quantity) (λ _. omega arith) (λ _. omega arith)

  -- the two sides after an entry
  two_sides : (n : ℕ) (b : Bool) (j f : ℕ) (us bs xs ys rest : List L) → resting K n xs ≡ j + resting K n us → resting K n ys ≡ j + resting K n bs → f + resting K n rest ≡ resting K n (cond b bs us) → f + (resting K n (cond b xs rest) + resting K n (cond b rest ys)) ≡ j + (resting K n us + resting K n bs)
  two_sides n true j f us bs xs ys rest h k l = omega arith
  two_sides n false j f us bs xs ys rest h k l = omega arith

  abbrev Balance : ℕ → Book L → Asked → Outcome L → Type 0
  Balance n s a r = entered_as n r.answer (quantity_of a) + rests_in K n s ≡ traded n r.trades + withdrawn_as n a r.answer + lapsed_as n r.answer (rests_in K n s) + rests_in K n r.after

  -- an entry that seeks z shares
  entry_balance : (n : ℕ) (s : Book L) (o : Order) (z : ℕ) → z ≤ o.quantity →
      let w = swept K (accepts o) z (others K s o) in
      only (eqb n s.next) o.quantity + rests_in K n s
      ≡ traded n (map (struck (buys o) s.next) w.fills) + only (eqb n s.next) (o.quantity - total w.fills - rests K o (total w.fills)) + rests_in K n (entered_with K s o w)
  entry_balance n s o z le =
      let w : Sweep L = swept K (accepts o) z (others K s o) in
      let r = sweep K (accepts o) z (others K s o) in
      let p : Price = rests_at s.reference o.limit w.fills in
      let t : ℕ = total w.fills in
      let q : ℕ = rests K o t in
      let l : ℕ = o.quantity - t - q in
      let m : ℕ = s.next in
      let a : (t + q) + l ≡ o.quantity = omega (arith, spent r, only_le (is_unqualified o.qualifier) (o.quantity - t)) in
      let sides = two_sides n (buys o) (only (eqb n m) q) (filled n w.fills) s.buyers s.sellers _ _ w.rest (resting_joins n o m p q s.buyers) (resting_joins n o m p q s.sellers) (filled_and_left T n r) in
      omega (arith, traded_split n (map (struck (buys o) m) w.fills), struck_sums (buys o) n m w.fills, ap (only (eqb n m)) a, only_add (eqb n m) (t + q) l, only_add (eqb n m) t q)

  opening_balance : (n : ℕ) (s : Book L) (p : Price) → Held K s → let r = opening_at K s p (volume_of K s p.units) in rests_in K n s ≡ traded n r.trades + rests_in K n r.after
  opening_balance n s p h =
      let v : ℕ = volume_of K s p.units in
      let b = sweep K (leb p.units) v s.buyers in
      let o = sweep K (λ r. leb r p.units) v s.sellers in
      let e : total (swept K (leb p.units) v s.buyers).fills ≡ total (swept K (λ r. leb r p.units) v s.sellers).fills = demand_traded W s p.units h ∙ sym (supply_traded W s p.units h) in
      omega (arith, traded_split n (opening_at K s p v).trades, paired_bought n p (swept K (leb p.units) v s.buyers).fills (swept K (λ r. leb r p.units) v s.sellers).fills (omega arith), paired_sold n p (swept K (leb p.units) v s.buyers).fills (swept K (λ r. leb r p.units) v s.sellers).fills e, filled_and_left T n b, filled_and_left T n o)

  effect_balance : (n : ℕ) (s : Book L) (a : Asked) (ts : List Tape) → Held K s → Balance n s a (effect K s (call_of a ts))
  effect_balance n s (joining o plain) ts h = omega (arith, entry_balance n s o 0 (omega arith))
  effect_balance n s (entering o i) ts h = omega (arith, entry_balance n s o (sought K s o) (sought_le s o))
  effect_balance n s (withdrawing m) ts h = omega (arith, resting_without K n m s.buyers, resting_without K n m s.sellers, only_add (eqb n m) (resting K m s.buyers) (resting K m s.sellers))
  effect_balance n s (showing m) ts h = omega arith
  effect_balance n s calling ts h = omega arith
  effect_balance n s (opening i) ts h = omega (arith, opening_balance n s (opens_at K s) h)
  effect_balance n s halting ts h = omega arith
  effect_balance n s resuming ts h = omega arith
  effect_balance n s closing ts h = omega arith

  refused_balance : (n : ℕ) (s : Book L) (a : Asked) (f : BookFault) → Balance n s a (refused K s f)
  refused_balance n s (joining o plain) f = omega arith
  refused_balance n s (entering o i) f = omega arith
  refused_balance n s (withdrawing m) f = omega arith
  refused_balance n s (showing m) f = omega arith
  refused_balance n s calling f = omega arith
  refused_balance n s (opening i) f = omega arith
  refused_balance n s halting f = omega arith
  refused_balance n s resuming f = omega arith
  refused_balance n s closing f = omega arith

  pub balance : (n : ℕ) (s : Book L) (a : Asked) (ts : List Tape) → Held K s → Balance n s a (step K s (call_of a ts))
  unfolding step
  balance n s a ts h = go (fault K s (call_of a ts))
    where
      go : (o : Option BookFault) → Balance n s a (unless_fault K o s (effect K s (call_of a ts)))
      go None = effect_balance n s a ts h
      go (Some f) = refused_balance n s a f
