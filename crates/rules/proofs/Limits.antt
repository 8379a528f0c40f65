-- No trade is beyond the limit of an order, when it is entered or later. Assumes nothing.
use Rattle.prices.specs.declared.price.Price.{Price}
use Rattle.orders.specs.declared.order.Order.{Order}
use Rattle.records.specs.declared.letters.Side.{Side}
use Rattle.records.specs.declared.letters.Side.TheVariants.{Buy, Sell}
use Rattle.std.proofs.Common.{◌≡◌, ℕ, ◌+◌, ◌<◌, ◌≤◌, Bool, true, false, cond, eqb, ltb, leb, List, [], ◌∷◌, ◌++◌, map, IfSome, Some, None, Option, sym, refl, ap, ◌∙◌, subst, arith, MatchOption}
use Rattle.rules.specs.declared.terms.Trade.{Trade}
use Rattle.rules.specs.declared.terms.BookFault.{BookFault}
use Rattle.rules.specs.Lines.{Sweep, only, swept, total, units}
use Rattle.rules.specs.Book.{Book, Call, Outcome, accepts, accepts_at, buys, call, close, effect, enter, entered_with, fault, halt, join, joins, open', opens_at, others, refused, rests, rests_at, resume, show, sought, step, struck, volume_of, withdraw}
use Rattle.rules.specs.Laws.{Good, Lawful}
use Rattle.rules.specs.Fair.{InTurn, LimitsAreKept, LimitsKept, RestAccepts, RestsAt, SomeOf, TradesAt, last_traded, order_of, number_of}
use Rattle.rules.specs.History.{Asked, Command, Desk, Event, Tape, asking, call_of, calling, closing, commanded, entering, event, free_on, halting, happened, history, joining, opening, resuming, showing, starting, touched, withdrawing}
use Rattle.std.specs.List.{AllByRecursion}
use Rattle.std.proofs.ByRecursion.{All-weaker, All-append}
use Rattle.std.proofs.lemmas.Bool.{cond_both, cond-true, eqb-true, le-leb, ltb-true}
use Rattle.lines.specs.Kind.{Kind, Taking}
use Rattle.rules.proofs.Lists.{all_two, all_some, some_weaker}
use Rattle.rules.proofs.Places.{all_placed, all_without}
use Rattle.rules.proofs.Sweeps.{Swept, sweep, kept_all}
use Rattle.rules.proofs.Sound.{Held, after_step, by_step, sound_effect, sound_fresh, sound_step}
use Rattle.rules.proofs.Faults.{faultless}
use Rattle.rules.proofs.Markets.{Alive, alive_touched}
use Rattle.rules.proofs.Fair.{entry_rests, fair_entry, fair_opening}
use Rattle.rules.proofs.Events.{fair_joining, joining_rests}

-- a price as good as another, for a buyer or for a seller
abbrev AsGood : Bool → ℕ → ℕ → Type 0
AsGood true r p = r ≤ p
AsGood false r p = p ≤ r

as_good_same : (b : Bool) (r p : Price) → p ≡ r → AsGood b r.units p.units
as_good_same true r p e = omega (arith, ap (λ z. z.units) e)
as_good_same false r p e = omega (arith, ap (λ z. z.units) e)

good_accepts : (b : Bool) (l p : Price) (r : ℕ) → p ≡ l → AsGood b r p.units → accepts_at b (Some l) r ≡ true
good_accepts true l p r e g = le-leb r l.units (omega (arith, ap (λ z. z.units) e))
good_accepts false l p r e g = le-leb l.units r (omega (arith, ap (λ z. z.units) e))

-- what is as good as the price of the rest is within it
safe_rest : (b : Bool) (m : Option Price) (ts : List Trade) (p : Price) → RestsAt m ts p → (r : ℕ) → AsGood b r p.units → RestAccepts b m ts r
safe_rest b None [] p k r g = absurd k
safe_rest b None (t ∷ ts) p k r g = good_accepts b (last_traded ts t.price) p r k g
safe_rest b (Some l) ts p k r g = good_accepts b l p r k g

-- an older order is in a new order's trade as a resting line
as_line : (b c : Bool) (t : Trade) (n next : ℕ) → n < next → cond c t.buyer t.seller ≡ next → cond b t.buyer t.seller ≡ n → cond c t.seller t.buyer ≡ n
as_line true true t n next l e f = absurd (omega arith)
as_line true false t n next l e f = f
as_line false true t n next l e f = f
as_line false false t n next l e f = absurd (omega arith)

-- each trade that takes in turn takes from a line
in_turn_named : {L : Type 0} (K : Kind L) (party : Trade → ℕ) (P : Trade → L → Type 0) (xs : List L) (gone : ℕ → ℕ) (ts : List Trade) → InTurn K party P xs gone ts → AllByRecursion (λ t. SomeOf (λ x. (K.number x ≡ party t) × P t x) xs) ts
in_turn_named K party P xs gone [] a = tt
in_turn_named K party P xs gone (t ∷ ts) a =
    (some_weaker _ (λ x. (K.number x ≡ party t) × P t x) (λ x k. (k.0, k.1)) xs a.0, in_turn_named K party P xs (λ n. gone n + only (eqb n (party t)) t.quantity) ts a.1)

module _ {L : Type 0} {K : Kind L} (W : Lawful K) where
  T : Taking K
  T = W.taking

  module _ (Q : L → Type 0) (closed' : (q : ℕ) (x : L) → q < K.left x → Q x → Q (K.taken q x)) where
    joins_all : (o : Order) (n : ℕ) (p : Price) (q : ℕ) (xs : List L) → (0 < q → Q (K.made o n p q)) → AllByRecursion Q xs → AllByRecursion Q (joins K o n p q xs)
    joins_all o n p q xs k a = cond_both (ltb 0 q) _ _ (AllByRecursion Q) (λ t. all_placed K Q (K.made o n p q) xs (k (ltb-true 0 q t)) a) (λ _. a)

    entry_lines : (b : Bool) (bs os : List L) (o : Order) (n : ℕ) (p : Price) (q : ℕ) {e : ℕ → Bool} {k : ℕ} {w : Sweep L} → Swept K e k (cond b os bs) w → (0 < q → Q (K.made o n p q)) → AllByRecursion Q bs → AllByRecursion Q os → AllByRecursion Q (cond b (joins K o n p q bs) w.rest) × AllByRecursion Q (cond b w.rest (joins K o n p q os))
    entry_lines true bs os o n p q r k g h = (joins_all o n p q bs k g, kept_all Q closed' r h)
    entry_lines false bs os o n p q r k g h = (kept_all Q closed' r g, joins_all o n p q os k h)

    abbrev Both : Book L → Type 0
    Both s = AllByRecursion Q s.buyers × AllByRecursion Q s.sellers

    entered_lines : (s : Book L) (o : Order) (z : ℕ) → let w = swept K (accepts o) z (others K s o) in (0 < rests K o (total w.fills) → Q (K.made o s.next (rests_at s.reference o.limit w.fills) (rests K o (total w.fills)))) → Both s → Both (entered_with K s o w)
    entered_lines s o z k h =
        let w : Sweep L = swept K (accepts o) z (others K s o) in
        entry_lines (buys o) s.buyers s.sellers o s.next (rests_at s.reference o.limit w.fills) (rests K o (total w.fills)) (sweep K (accepts o) z (others K s o)) k h.0 h.1

    effect_lines : (s : Book L) (c : Call) → ((o : Order) (p : Price) (q : ℕ) → Q (K.made o s.next p q)) → Both s → Both (effect K s c).after
    effect_lines s (join o plain) k h = entered_lines s o 0 (λ _. k o _ _) h
    effect_lines s (enter o room) k h = entered_lines s o (sought K s o) (λ _. k o _ _) h
    effect_lines s (withdraw n) k h = (all_without K Q n s.buyers h.0, all_without K Q n s.sellers h.1)
    effect_lines s (show n) k h = h
    effect_lines s call k h = h
    effect_lines s (open' room) k h =
        let p : Price = opens_at K s in
        let v : ℕ = volume_of K s p.units in
        (kept_all Q closed' (sweep K (leb p.units) v s.buyers) h.0, kept_all Q closed' (sweep K (λ r. leb r p.units) v s.sellers) h.1)
    effect_lines s halt k h = h
    effect_lines s resume k h = h
    effect_lines s close k h = (tt, tt)

  next_later : (s : Book L) (c : Call) → s.next ≤ (step K s c).after.next
  next_later s c = after_step W (λ t. s.next ≤ t.next) s c (omega arith) (λ _. by_call c)
    where
      by_call : (c : Call) → s.next ≤ (effect K s c).after.next
      by_call (join o plain) = omega arith
      by_call (enter o room) = omega arith
      by_call (withdraw n) = omega arith
      by_call (show n) = omega arith
      by_call call = omega arith
      by_call (open' room) = omega arith
      by_call halt = omega arith
      by_call resume = omega arith
      by_call close = omega arith

  -- what the order n may trade at once it is entered, by its limit and its first trades
  module _ (b : Bool) (m : Option Price) (us : List Trade) (n : ℕ) where
    -- the order's line rests at a price that keeps it within
    abbrev RestsSafe : L → Type 0
    RestsSafe x = K.number x ≡ n → (r : ℕ) → AsGood b r (units K x) → RestAccepts b m us r

    safe_kept : (q : ℕ) (x : L) → q < K.left x → RestsSafe x → RestsSafe (K.taken q x)
    safe_kept q x l k e r g = k (sym (T.same_number q x) ∙ e) r (subst (λ (p : Price). AsGood b r p.units) (T.same_price q x) g)

    abbrev Fine : Trade → Type 0
    Fine t = cond b t.buyer t.seller ≡ n → RestAccepts b m us t.price.units

    opening_fine : (c : Bool) (bs os : List L) (t : Trade) → b ≡ c → AllByRecursion RestsSafe bs → AllByRecursion RestsSafe os → SomeOf (λ x. (K.number x ≡ t.buyer) × (t.price.units ≤ units K x)) bs → SomeOf (λ x. (K.number x ≡ t.seller) × (units K x ≤ t.price.units)) os → cond c t.buyer t.seller ≡ n → RestAccepts b m us t.price.units
    opening_fine true bs os t d g h u v f =
        all_some RestsSafe (λ x. (K.number x ≡ t.buyer) × (t.price.units ≤ units K x)) (RestAccepts b m us t.price.units) (λ x k j. k (j.0 ∙ f) t.price.units (subst (λ (z : Bool). AsGood z t.price.units (units K x)) (sym d) j.1)) bs g u
    opening_fine false bs os t d g h u v f =
        all_some RestsSafe (λ x. (K.number x ≡ t.seller) × (units K x ≤ t.price.units)) (RestAccepts b m us t.price.units) (λ x k j. k (j.0 ∙ f) t.price.units (subst (λ (z : Bool). AsGood z t.price.units (units K x)) (sym d) j.1)) os h v

    pick_all : (c : Bool) (bs os : List L) → AllByRecursion RestsSafe bs → AllByRecursion RestsSafe os → AllByRecursion RestsSafe (cond c os bs)
    pick_all true bs os g h = h
    pick_all false bs os g h = g

    effect_fine : (s : Book L) (c : Call) → fault K s c ≡ None → Held K s → n < s.next → AllByRecursion RestsSafe s.buyers → AllByRecursion RestsSafe s.sellers → AllByRecursion Fine (effect K s c).trades
    effect_fine s (join o plain) z h l g k = subst (AllByRecursion Fine) (sym (fair_joining W s o plain).no_trades) tt
    effect_fine s (enter o room) z h l g k =
        let f = fair_entry W s o room (faultless K s (enter o room) z) h in
        let line : Trade → Type 0 = λ t. SomeOf (λ x. (K.number x ≡ cond (buys o) t.seller t.buyer) × (K.price x ≡ t.price)) (others K s o) in
        let ts : List Trade = (effect K s (enter o room)).trades in
        all_two line (λ t. cond (buys o) t.buyer t.seller ≡ s.next) Fine
        (λ t u v e. all_some RestsSafe (λ x. (K.number x ≡ cond (buys o) t.seller t.buyer) × (K.price x ≡ t.price)) (RestAccepts b m us t.price.units)
        (λ x w j. w (j.0 ∙ as_line b (buys o) t n s.next l v e) t.price.units (as_good_same b t.price (K.price x) j.1))
        (others K s o) (pick_all (buys o) s.buyers s.sellers g k) u)
        ts (in_turn_named K (λ t. cond (buys o) t.seller t.buyer) (λ t x. K.price x ≡ t.price) (others K s o) (λ _. 0) ts f.in_turn) f.own
    effect_fine s (withdraw i) z h l g k = tt
    effect_fine s (show i) z h l g k = tt
    effect_fine s call z h l g k = tt
    effect_fine s (open' room) z h l g k =
        let f = fair_opening W s h in
        let ts : List Trade = (effect K s (open' room)).trades in
        all_two (λ t. SomeOf (λ x. (K.number x ≡ t.buyer) × (t.price.units ≤ units K x)) s.buyers) (λ t. SomeOf (λ x. (K.number x ≡ t.seller) × (units K x ≤ t.price.units)) s.sellers) Fine
        (λ t u v e. opening_fine b s.buyers s.sellers t refl g k u v e) ts
        (in_turn_named K (λ t. t.buyer) (λ t x. t.price.units ≤ units K x) s.buyers (λ _. 0) ts f.buyers_in_turn)
        (in_turn_named K (λ t. t.seller) (λ t x. units K x ≤ t.price.units) s.sellers (λ _. 0) ts f.sellers_in_turn)
    effect_fine s halt z h l g k = tt
    effect_fine s resume z h l g k = tt
    effect_fine s close z h l g k = tt

    -- what a desk keeps of the order
    pub record SafeBook (s : Book L) : Type 0 where
      pub held : Held K s
      pub older : n < s.next
      pub of_buyers : AllByRecursion RestsSafe s.buyers
      pub of_sellers : AllByRecursion RestsSafe s.sellers

    abbrev SafeDesk : Option (Desk L) → Type 0
    SafeDesk None = ⊥
    SafeDesk (Some s) = SafeBook s.book

    safe_step : (s : Book L) (c : Call) → SafeBook s → SafeBook (step K s c).after
    safe_step s c h =
        let a = after_step W (λ t. AllByRecursion RestsSafe t.buyers × AllByRecursion RestsSafe t.sellers) s c (h.of_buyers, h.of_sellers)
        (λ _. effect_lines RestsSafe safe_kept s c (λ o p q e. absurd (omega (arith, W.making.its_number o s.next p q, h.older))) (h.of_buyers, h.of_sellers)) in
        record { held = sound_step W s c h.held; older = omega (arith, next_later s c, h.older); of_buyers = a.0; of_sellers = a.1 }

    safe_commanded : (o : Option (Desk L)) (c : Command) → SafeDesk o → SafeDesk (commanded K o c)
    safe_commanded None c h = absurd h
    safe_commanded (Some s) (starting reference run sizes) h = h
    safe_commanded (Some s) (asking a) h = safe_step s.book (call_of a s.tapes) h

    fine_happened : (o : Option (Desk L)) (c : Command) → SafeDesk o → AllByRecursion (λ e. AllByRecursion Fine e.trades) (happened K o c)
    fine_happened None c h = tt
    fine_happened (Some s) (starting reference run sizes) h = tt
    fine_happened (Some s) (asking a) h =
        let c = call_of a s.tapes in
        (by_step W (λ r. AllByRecursion Fine r.trades) s.book c (λ _. tt) (λ z. effect_fine s.book c z h.held h.older h.of_buyers h.of_sellers), tt)

    later_fine : (f : ℕ → Option (Desk L)) (cs : List (ℕ × Command)) (i : ℕ) → SafeDesk (f i) → AllByRecursion (λ e. AllByRecursion Fine e.trades) (history K f cs i)
    later_fine f [] i h = tt
    later_fine f (c ∷ cs) i h =
        let f' : ℕ → Option (Desk L) = touched K f c.0 c.1 in
        All-append (λ e. AllByRecursion Fine e.trades) (cond (eqb i c.0) (happened K (f i) c.1) []) (history K f' cs i)
        (cond_both (eqb i c.0) (happened K (f i) c.1) [] (AllByRecursion (λ e. AllByRecursion Fine e.trades)) (λ _. fine_happened (f i) c.1 h) (λ _. tt))
        (later_fine f' cs i
        (cond_both (eqb i c.0) (commanded K (f c.0) c.1) (f i) SafeDesk
        (λ t. subst (λ j. SafeDesk (commanded K (f j) c.1)) (eqb-true i c.0 t) (safe_commanded (f i) c.1 h)) (λ _. h)))

  -- the order's own entry: what it leaves in the book
  entered_safe : (s : Book L) (o : Order) (z : ℕ) → Held K s →
      let w = swept K (accepts o) z (others K s o) in
      let ts = map (struck (buys o) s.next) w.fills in
      (0 < rests K o (total w.fills) → RestsAt o.limit ts (rests_at s.reference o.limit w.fills)) →
      Held K (entered_with K s o w) → SafeBook (buys o) o.limit ts s.next (entered_with K s o w)
  entered_safe s o z h k h' =
      let w : Sweep L = swept K (accepts o) z (others K s o) in
      let n : ℕ = s.next in
      let p : Price = rests_at s.reference o.limit w.fills in
      let ts : List Trade = map (struck (buys o) n) w.fills in
      let Q : L → Type 0 = RestsSafe (buys o) o.limit ts n in
      let old : (c : Side) (xs : List L) → AllByRecursion (Good K c n) xs → AllByRecursion Q xs = λ c xs a. All-weaker (Good K c n) Q (λ x g e. absurd (omega (arith, g.numbered))) xs a in
      let a = entered_lines Q (safe_kept (buys o) o.limit ts n) s o z
      (λ l _ r g. safe_rest (buys o) o.limit ts p (k l) r (subst (λ (y : Price). AsGood (buys o) r y.units) (W.making.its_price o n p (rests K o (total w.fills))) g))
      (old Buy s.buyers h.buyers.good, old Sell s.sellers h.sellers.good) in
      record { held = h'; older = omega arith; of_buyers = a.0; of_sellers = a.1 }

  -- of one event: its own trades, and what it leaves
  abbrev OwnLimit : Asked → Outcome L → Type 0
  OwnLimit a r =
      MatchOption (order_of a) (Unit {0}) (λ o. MatchOption (number_of r.answer) (Unit {0}) (λ n.
      TradesAt (buys o) n (λ p. accepts o p ≡ true) r.trades × SafeBook (buys o) o.limit r.trades n r.after))

  own_effect : (s : Book L) (a : Asked) (ts : List Tape) → Held K s → fault K s (call_of a ts) ≡ None → OwnLimit a (effect K s (call_of a ts))
  own_effect s (joining o plain) ts h e = (
    subst (TradesAt (buys o) s.next (λ p. accepts o p ≡ true)) (sym (fair_joining W s o plain).no_trades) tt,
    entered_safe s o 0 h (λ _. joining_rests W s o plain (swept K (accepts o) 0 (others K s o)).fills) (sound_effect W s (join o plain) h),
  )
  own_effect s (entering o i) ts h e =
      let c : Call = call_of (entering o i) ts in
      let taken = faultless K s c e in (
        All-weaker (λ t. accepts o t.price.units ≡ true) (λ t. cond (buys o) t.buyer t.seller ≡ s.next → accepts o t.price.units ≡ true) (λ t k _. k) (effect K s c).trades (fair_entry W s o (free_on i ts) taken h).within,
        entered_safe s o (sought K s o) h (entry_rests W s o (free_on i ts) taken.empty h) (sound_effect W s c h),
      )
  own_effect s (withdrawing n) ts h e = tt
  own_effect s (showing n) ts h e = tt
  own_effect s calling ts h e = tt
  own_effect s (opening i) ts h e = tt
  own_effect s halting ts h e = tt
  own_effect s resuming ts h e = tt
  own_effect s closing ts h e = tt

  own_refused : (s : Book L) (a : Asked) (f : BookFault) → OwnLimit a (refused K s f)
  own_refused s (joining o plain) f = tt
  own_refused s (entering o i) f = tt
  own_refused s (withdrawing n) f = tt
  own_refused s (showing n) f = tt
  own_refused s calling f = tt
  own_refused s (opening i) f = tt
  own_refused s halting f = tt
  own_refused s resuming f = tt
  own_refused s closing f = tt

  own_step : (s : Book L) (a : Asked) (ts : List Tape) → Held K s → OwnLimit a (step K s (call_of a ts))
  own_step s a ts h = by_step W (OwnLimit a) s (call_of a ts) (own_refused s a) (own_effect s a ts h)

  -- what follows keeps to what the event left
  abbrev Follows : List (Event L) → Option (Desk L) → Type 0
  Follows es d = (b : Bool) (m : Option Price) (us : List Trade) (n : ℕ) → SafeDesk b m us n d → AllByRecursion (λ e. AllByRecursion (Fine b m us n) e.trades) es

  limit_event : (a : Asked) (r : Outcome L) (d : Desk L) (es : List (Event L)) → d.book ≡ r.after → Follows es (Some d) → OwnLimit a r →
      MatchOption (order_of a) (Unit {0}) (λ o. MatchOption (number_of r.answer) (Unit {0}) (λ n.
      TradesAt (buys o) n (λ p. accepts o p ≡ true) r.trades × AllByRecursion (λ later. TradesAt (buys o) n (RestAccepts (buys o) o.limit r.trades) later.trades) es))
  limit_event a r d es e f k = go (order_of a) (number_of r.answer) k
    where
      go : (x : Option Order) (y : Option ℕ) →
          IfSome x (λ o. IfSome y (λ n. TradesAt (buys o) n (λ p. accepts o p ≡ true) r.trades × SafeBook (buys o) o.limit r.trades n r.after)) →
          IfSome x (λ o. IfSome y (λ n. TradesAt (buys o) n (λ p. accepts o p ≡ true) r.trades × AllByRecursion (λ later. TradesAt (buys o) n (RestAccepts (buys o) o.limit r.trades) later.trades) es))
      go None y k = tt
      go (Some o) None k = tt
      go (Some o) (Some n) k = (k.0, f (buys o) o.limit r.trades n (subst (SafeBook (buys o) o.limit r.trades n) (sym e) k.1))

  limit_command : (o : Option (Desk L)) (c : Command) (es : List (Event L)) → Alive K (Held K) o → Follows es (commanded K o c) → LimitsKept es → LimitsKept (happened K o c ++ es)
  limit_command None c es a f k = k
  limit_command (Some s) (starting reference run sizes) es a f k = k
  limit_command (Some s) (asking x) es a f k =
      (limit_event x (step K s.book (call_of x s.tapes)) (event K s x).after es refl f (own_step s.book x s.tapes a), k)

  limits_from : (f : ℕ → Option (Desk L)) (cs : List (ℕ × Command)) (i : ℕ) → ((j : ℕ) → Alive K (Held K) (f j)) → LimitsKept (history K f cs i)
  limits_from f [] i h = tt
  limits_from f (c ∷ cs) i h =
      let f' : ℕ → Option (Desk L) = touched K f c.0 c.1 in
      let es : List (Event L) = history K f' cs i in
      let alive : (j : ℕ) → Alive K (Held K) (f' j) = alive_touched K (Held K) (sound_fresh W) (sound_step W) f c.0 c.1 h in
      let ih : LimitsKept es = limits_from f' cs i alive in
      cond_both (eqb i c.0) (happened K (f i) c.1) [] (λ new. LimitsKept (new ++ es))
      (λ t. limit_command (f i) c.1 es (h i)
      (subst (Follows es) (cond-true (eqb i c.0) (commanded K (f c.0) c.1) (f i) t ∙ ap (λ j. commanded K (f j) c.1) (sym (eqb-true i c.0 t))) (λ b m us n k. later_fine b m us n f' cs i k)) ih)
      (λ _. ih)

  pub limits_kept : LimitsAreKept K
  limits_kept cs i = limits_from (λ _. None) cs i (λ _. tt)
