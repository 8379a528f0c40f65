-- What a call may do, event by event. Assumes nothing.
use Rattle.std.specs.Prelude.{◌≡◌, ℕ, ◌+◌, ◌<◌, ◌≤◌, min, Bool, true, false, cond, ◌⊎◌, List, [], ◌∷◌, ◌++◌, length, IfSome, Some, None, Ok, Err, Option, Result, MatchOption, ◌==◌, nat_lt}
use Rattle.std.specs.List.{AllByRecursion}
use Rattle.prices.specs.declared.price.Price.{Price}
use Rattle.records.specs.declared.letters.Qualifier.{Qualifier}
use Rattle.records.specs.declared.letters.Qualifier.TheVariants.{Unqualified, FillOrKill, ImmediateOrCancel}
use Rattle.orders.specs.declared.order.Order.{Order}
use Rattle.lines.specs.Kind.{Kind}
use Rattle.rules.specs.declared.terms.Status.TheVariants.{Calling, Running, Halted}
use Rattle.rules.specs.declared.terms.Trade.{Trade}
use Rattle.rules.specs.declared.terms.BookFault.{BookFault}
use Rattle.rules.specs.Lines.{all_left, only, sum_of, units}
use Rattle.rules.specs.Sheet.{Level, demand, opening_price, supply}
use Rattle.orders.specs.Orders.{is_unqualified}
use Rattle.rules.specs.Book.{Answer, Book, accepts, accepts_at, buys, done, eligible, ended, entered, moved, opened, others, removed, shown, volume_of, withdrawn, ended_book}
use Rattle.rules.specs.Reasons.{FirstTold, Reason, in_order, told_by}
use Rattle.rules.specs.Laws.{Pairwise, Sound, Uncrossed}
use Rattle.rules.specs.History.{Asked, Command, Event, call_of, calling, closing, entering, free_on, halting, history, joining, market, opening, resuming, showing, tape_of, withdrawing}

-- P holds of some element
abbrev pub SomeOf : {X : Type 0} → (X → Type 0) → List X → Type 0
SomeOf P [] = ⊥
SomeOf P (x ∷ xs) = P x ⊎ SomeOf P xs

abbrev pub total_of : List Trade → ℕ
total_of ts = sum_of (λ t. t.quantity) ts

-- what an order is to trade: what it and those that it accepts have; all or nothing if it is fill-or-kill
abbrev pub due_to : Qualifier → ℕ → ℕ → ℕ
due_to Unqualified q e = min q e
due_to FillOrKill q e = cond (nat_lt e q) 0 q
due_to ImmediateOrCancel q e = min q e

-- the price of the last trade
abbrev pub last_traded : List Trade → Price → Price
last_traded [] p = p
last_traded (t ∷ ts) p = last_traded ts t.price

-- the price of the last trade, or what was remembered before
abbrev pub last_of : List Trade → Option Price → Option Price
last_of [] o = o
last_of (t ∷ ts) o = last_of ts (Some t.price)

-- where the rest of an order rests: at its limit, or a market order's at its last trade's price
abbrev pub RestsAt : Option Price → List Trade → Price → Type 0
RestsAt None [] p = ⊥
RestsAt None (t ∷ ts) p = p ≡ last_traded ts t.price
RestsAt (Some l) ts p = p ≡ l

-- what an order may trade at once its entry is answered: within the price at which its rest came to rest; if none rested, at no price
abbrev pub RestAccepts : Bool → Option Price → List Trade → ℕ → Type 0
RestAccepts b None [] p = ⊥
RestAccepts b None (t ∷ ts) p = accepts_at b (Some (last_traded ts t.price)) p ≡ true
RestAccepts b (Some l) ts p = accepts_at b (Some l) p ≡ true

-- the order that is asked to be entered, and the number that an answer gives it
abbrev pub order_of : Asked → Option Order
order_of (joining o plain) = Some o
order_of (entering o i) = Some o
order_of (withdrawing m) = None
order_of (showing m) = None
order_of calling = None
order_of (opening i) = None
order_of halting = None
order_of resuming = None
order_of closing = None

abbrev pub number_of : Result Answer BookFault → Option ℕ
number_of (Err f) = None
number_of (Ok (entered n t r l)) = Some n
number_of (Ok (withdrawn r)) = None
number_of (Ok (shown r)) = None
number_of (Ok (opened p v)) = None
number_of (Ok done) = None
number_of (Ok (ended p l)) = None

-- every trade in which n is the buyer, or the seller, has a price of P
abbrev pub TradesAt : Bool → ℕ → (ℕ → Type 0) → List Trade → Type 0
TradesAt b n P ts = AllByRecursion (λ t. cond b t.buyer t.seller ≡ n → P t.price.units) ts

-- LAW: no trade of an order is beyond its limit when it is entered, nor later beyond the price at which its rest came to rest
abbrev pub LimitsKept : {L : Type 0} → List (Event L) → Type 0
LimitsKept [] = Unit {0}
LimitsKept (e ∷ es) =
    MatchOption (order_of e.asked) (Unit {0}) (λ o. MatchOption (number_of e.answer) (Unit {0}) (λ n.
    TradesAt (buys o) n (λ p. accepts o p ≡ true) e.trades
    × AllByRecursion (λ later. TradesAt (buys o) n (RestAccepts (buys o) o.limit e.trades) later.trades) es))
    × LimitsKept es

-- what a call names: the lines in its trades, that which it withdraws, all lines if it closes
abbrev pub InTrade : ℕ → List Trade → Type 0
InTrade n ts = SomeOf (λ t. (t.buyer ≡ n) ⊎ (t.seller ≡ n)) ts

abbrev pub Named : Asked → List Trade → ℕ → Type 0
Named (joining o plain) ts n = InTrade n ts
Named (entering o i) ts n = InTrade n ts
Named (withdrawing m) ts n = m ≡ n
Named (showing m) ts n = InTrade n ts
Named calling ts n = InTrade n ts
Named (opening i) ts n = InTrade n ts
Named halting ts n = InTrade n ts
Named resuming ts n = InTrade n ts
Named closing ts n = Unit {0}

-- at the last trade's price, or at the reference where there was no trade
abbrev pub ClosesAt : Option Price → Price → Price → Type 0
ClosesAt None reference p = p ≡ reference
ClosesAt (Some last) reference p = p ≡ last

module _ {L : Type 0} (K : Kind L) where
  -- y is what is left of x once some of its shares are taken
  pub record Part (x y : L) : Type 0 where
    pub shares : ℕ
    pub fewer : shares < K.left x
    pub rest : y ≡ K.taken shares x

  -- a line of xs has the number n and keeps to P, and every line that precedes it has no shares left; gone says what each number has traded
  abbrev pub TurnOf : List L → (ℕ → ℕ) → ℕ → (L → Type 0) → Type 0
  TurnOf xs gone n P = SomeOf (λ x. (K.number x ≡ n) × P x × AllByRecursion (λ y. K.precedes y x ≡ true → K.left y ≤ gone (K.number y)) xs) xs

  -- trade by trade: each takes from a line that keeps to P, and from none while another of its side that precedes it has shares left
  abbrev pub InTurn : (Trade → ℕ) → (Trade → L → Type 0) → List L → (ℕ → ℕ) → List Trade → Type 0
  InTurn party P xs gone [] = Unit {0}
  InTurn party P xs gone (t ∷ ts) = TurnOf xs gone (party t) (P t) × InTurn party P xs (λ n. gone n + only (n == party t) t.quantity) ts

  pub record FairEntry (s : Book L) (o : Order) (n traded resting' lapsed : ℕ) (ts : List Trade) (s' : Book L) : Type 0 where
    -- the next number is the order's, and no other's
    pub numbered : n ≡ s.next
    pub counted : s'.next ≡ n + 1
    pub same_status : s'.status ≡ s.status
    -- the answer tells what was done, and all of the order is accounted for
    pub told : total_of ts ≡ traded
    pub whole : traded + resting' + lapsed ≡ o.quantity
    pub due : traded ≡ due_to o.qualifier o.quantity (eligible K s o)
    pub at_least : o.minimum ≤ traded
    -- each trade is the order's own, and takes in turn from a line of the other side at the line's price, which the order accepts
    pub own : AllByRecursion (λ t. cond (buys o) t.buyer t.seller ≡ n) ts
    pub in_turn : InTurn (λ t. cond (buys o) t.seller t.buyer) (λ t x. K.price x ≡ t.price) (others K s o) (λ n. 0) ts
    pub within : AllByRecursion (λ t. accepts o t.price.units ≡ true) ts
    -- what is left lapses if the order has a qualifier, else rests, at its limit or at its last trade's price
    pub qualified : is_unqualified o.qualifier ≡ false → resting' ≡ 0
    pub unqualified : is_unqualified o.qualifier ≡ true → lapsed ≡ 0
    pub rests : 0 < resting' → SomeOf (λ x. (K.number x ≡ n) × (K.left x ≡ resting') × RestsAt o.limit ts (K.price x)) (cond (buys o) s'.buyers s'.sellers)

  pub record FairOpening (s : Book L) (p : Price) (v : ℕ) (ts : List Trade) (s' : Book L) : Type 0 where
    -- the price that the five tests settle
    pub settled : p.units ≡ opening_price K s.reference.units s.buyers s.sellers
    pub told : total_of ts ≡ v
    pub its_volume : volume_of K s p.units ≡ v
    -- no number, taken as a price, would have moved more
    pub greatest : (q : ℕ) → volume_of K s q ≤ v
    pub priced : AllByRecursion (λ t. t.price ≡ p) ts
    pub buyers_in_turn : InTurn (λ t. t.buyer) (λ t x. t.price.units ≤ units K x) s.buyers (λ n. 0) ts
    pub sellers_in_turn : InTurn (λ t. t.seller) (λ t x. units K x ≤ t.price.units) s.sellers (λ n. 0) ts
    pub runs : s'.status ≡ Running
    pub same_count : s'.next ≡ s.next

  pub record FairJoining (s : Book L) (o : Order) (n traded resting' lapsed : ℕ) (ts : List Trade) (s' : Book L) : Type 0 where
    pub numbered : n ≡ s.next
    pub counted : s'.next ≡ n + 1
    pub same_status : s'.status ≡ s.status
    pub no_trades : ts ≡ []
    pub whole : (traded ≡ 0) × (resting' ≡ o.quantity) × (lapsed ≡ 0)
    pub rests : SomeOf (λ x. (K.number x ≡ n) × (K.left x ≡ resting') × RestsAt o.limit ts (K.price x)) (cond (buys o) s'.buyers s'.sellers)

  -- an answer fits what was asked
  abbrev pub FairEntered : Book L → Asked → ℕ → ℕ → ℕ → ℕ → List Trade → Book L → Type 0
  FairEntered s (joining o plain) n t r l ts s' = FairJoining s o n t r l ts s'
  FairEntered s (entering o i) n t r l ts s' = FairEntry s o n t r l ts s'
  FairEntered s (withdrawing m) n t r l ts s' = ⊥
  FairEntered s (showing m) n t r l ts s' = ⊥
  FairEntered s calling n t r l ts s' = ⊥
  FairEntered s (opening i) n t r l ts s' = ⊥
  FairEntered s halting n t r l ts s' = ⊥
  FairEntered s resuming n t r l ts s' = ⊥
  FairEntered s closing n t r l ts s' = ⊥

  abbrev pub FairWithdrawn : Book L → Asked → ℕ → List Trade → Book L → Type 0
  FairWithdrawn s (joining o plain) r ts s' = ⊥
  FairWithdrawn s (entering o i) r ts s' = ⊥
  FairWithdrawn s (withdrawing m) r ts s' = (ts ≡ []) × SomeOf (λ x. (K.number x ≡ m) × (K.left x ≡ r)) (s.buyers ++ s.sellers) × (s' ≡ removed K s m)
  FairWithdrawn s (showing m) r ts s' = ⊥
  FairWithdrawn s calling r ts s' = ⊥
  FairWithdrawn s (opening i) r ts s' = ⊥
  FairWithdrawn s halting r ts s' = ⊥
  FairWithdrawn s resuming r ts s' = ⊥
  FairWithdrawn s closing r ts s' = ⊥

  -- a level for each price of the book and for no other, the highest first, with the sums of its price
  pub record FairSheet (s : Book L) (ls : List Level) : Type 0 where
    pub highest_first : Pairwise (λ a b. b.price.units < a.price.units) ls
    pub each_price : AllByRecursion (λ x. SomeOf (λ l. l.price.units ≡ units K x) ls) (s.buyers ++ s.sellers)
    pub no_other : AllByRecursion (λ l. SomeOf (λ x. K.price x ≡ l.price) (s.buyers ++ s.sellers)) ls
    pub summed : AllByRecursion (λ l. (l.demanded ≡ demand K s.buyers l.price.units) × (l.supplied ≡ supply K s.sellers l.price.units)) ls

  abbrev pub FairShown : Book L → Asked → List Level → List Trade → Book L → Type 0
  FairShown s (joining o plain) r ts s' = ⊥
  FairShown s (entering o i) r ts s' = ⊥
  FairShown s (withdrawing m) r ts s' = ⊥
  FairShown s (showing m) r ts s' = (ts ≡ []) × (length r ≤ m) × FairSheet s r × (s' ≡ s)
  FairShown s calling r ts s' = ⊥
  FairShown s (opening i) r ts s' = ⊥
  FairShown s halting r ts s' = ⊥
  FairShown s resuming r ts s' = ⊥
  FairShown s closing r ts s' = ⊥

  abbrev pub FairOpened : Book L → Asked → Price → ℕ → List Trade → Book L → Type 0
  FairOpened s (joining o plain) p v ts s' = ⊥
  FairOpened s (entering o i) p v ts s' = ⊥
  FairOpened s (withdrawing m) p v ts s' = ⊥
  FairOpened s (showing m) p v ts s' = ⊥
  FairOpened s calling p v ts s' = ⊥
  FairOpened s (opening i) p v ts s' = FairOpening s p v ts s'
  FairOpened s halting p v ts s' = ⊥
  FairOpened s resuming p v ts s' = ⊥
  FairOpened s closing p v ts s' = ⊥

  abbrev pub FairDone : Book L → Asked → List Trade → Book L → Type 0
  FairDone s (joining o plain) ts s' = ⊥
  FairDone s (entering o i) ts s' = ⊥
  FairDone s (withdrawing m) ts s' = ⊥
  FairDone s (showing m) ts s' = ⊥
  FairDone s calling ts s' = (ts ≡ []) × (s' ≡ moved K s Calling)
  FairDone s (opening i) ts s' = ⊥
  FairDone s halting ts s' = (ts ≡ []) × (s' ≡ moved K s Halted)
  FairDone s resuming ts s' = (ts ≡ []) × (s' ≡ moved K s Running)
  FairDone s closing ts s' = ⊥

  abbrev pub FairEnded : Book L → Asked → Price → ℕ → List Trade → Book L → Type 0
  FairEnded s (joining o plain) p l ts s' = ⊥
  FairEnded s (entering o i) p l ts s' = ⊥
  FairEnded s (withdrawing m) p l ts s' = ⊥
  FairEnded s (showing m) p l ts s' = ⊥
  FairEnded s calling p l ts s' = ⊥
  FairEnded s (opening i) p l ts s' = ⊥
  FairEnded s halting p l ts s' = ⊥
  FairEnded s resuming p l ts s' = ⊥
  FairEnded s closing p l ts s' = (ts ≡ []) × ClosesAt s.last s.reference p × (l ≡ all_left K s.buyers + all_left K s.sellers) × (s' ≡ ended_book K s)

  abbrev pub Fair : Book L → Asked → Result Answer BookFault → List Trade → Book L → Type 0
  Fair s a (Err f) ts s' = (ts ≡ []) × (s' ≡ s)
  Fair s a (Ok (entered n t r l)) ts s' = FairEntered s a n t r l ts s'
  Fair s a (Ok (withdrawn r)) ts s' = FairWithdrawn s a r ts s'
  Fair s a (Ok (shown r)) ts s' = FairShown s a r ts s'
  Fair s a (Ok (opened p v)) ts s' = FairOpened s a p v ts s'
  Fair s a (Ok done) ts s' = FairDone s a ts s'
  Fair s a (Ok (ended p l)) ts s' = FairEnded s a p l ts s'

  -- a closing hands back all lines, buyers first, in rank order
  abbrev pub handed_back_by : Result Answer BookFault → Book L → List L
  handed_back_by (Err f) s = []
  handed_back_by (Ok (entered n t r l)) s = []
  handed_back_by (Ok (withdrawn r)) s = []
  handed_back_by (Ok (shown r)) s = []
  handed_back_by (Ok (opened p v)) s = []
  handed_back_by (Ok done) s = []
  handed_back_by (Ok (ended p l)) s = s.buyers ++ s.sellers

  -- lines that are not named stay as they were; what stands in the book afterwards is new, or stood there, or is left of a line that traded
  pub record LinesStay (xs : List L) (a : Asked) (r : Result Answer BookFault) (ts : List Trade) (ys : List L) : Type 0 where
    pub stay : AllByRecursion (λ x. Named a ts (K.number x) ⊎ SomeOf (λ y. y ≡ x) ys) xs
    pub come : AllByRecursion (λ y. (number_of r ≡ Some (K.number y)) ⊎ SomeOf (λ x. (y ≡ x) ⊎ (InTrade (K.number x) ts × Part x y)) xs) ys

  pub record LawfulEvent (e : Event L) : Type 0 where
    pub sound : Sound K e.after.book
    -- the reference and the places stay
    pub same_terms : (e.after.book.reference ≡ e.before.book.reference) × (e.after.book.places ≡ e.before.book.places)
    pub uncrossed : Uncrossed K e.after.book.status e.after.book
    -- refused with the first reason there is, else accepted
    pub judged : FirstTold (Reason K e.before.book (call_of e.asked e.before.tapes)) in_order (told_by e.answer)
    pub room : length e.trades ≤ free_on (tape_of e.asked) e.before.tapes
    pub some_shares : AllByRecursion (λ t. 0 < t.quantity) e.trades
    pub remembered : e.after.book.last ≡ last_of e.trades e.before.book.last
    pub handed_back : e.lapsing ≡ handed_back_by e.answer e.before.book
    pub lines_stay : LinesStay (e.before.book.buyers ++ e.before.book.sellers) e.asked e.answer e.trades (e.after.book.buyers ++ e.after.book.sellers)
    pub fair : Fair e.before.book e.asked e.answer e.trades e.after.book

  -- the lines that an order accepts stand in front of those that it does not
  abbrev pub EligibleFirst : Book L → Type 0
  EligibleFirst s = (o : Order) → Pairwise (λ x y. accepts o (units K y) ≡ true → accepts o (units K x) ≡ true) (others K s o)

  -- every book that is reached
  abbrev pub BooksStaySound : Type 0
  BooksStaySound =
      (cs : List (ℕ × Command)) (i : ℕ) →
      IfSome (market K (λ _. None) cs i) (λ d. (Sound K d.book × Uncrossed K d.book.status d.book) × EligibleFirst d.book)

  abbrev pub EveryEventIsLawful : Type 0
  EveryEventIsLawful = (cs : List (ℕ × Command)) (i : ℕ) → AllByRecursion LawfulEvent (history K (λ _. None) cs i)

  abbrev pub LimitsAreKept : Type 0
  LimitsAreKept = (cs : List (ℕ × Command)) (i : ℕ) → LimitsKept (history K (λ _. None) cs i)
