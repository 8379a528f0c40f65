-- A book, its calls, and what each call does. Assumes nothing.
--     paired p bs ss    the trades of buyers' fills with sellers' fills, first with first
--     step K s c        the answer, the trades and the book after the call c
use Rattle.std.specs.Prelude.{◌≡◌, ℕ, ◌+◌, ◌-◌, ◌*◌, Bool, true, false, cond, not, ◌&&◌, ◌||◌, leb, List, [], ◌∷◌, ◌++◌, map, length, Some, None, Ok, Err, Option, Result, ◌==◌, nat_le, nat_lt}
use Rattle.prices.specs.declared.price.Price.{Price}
use Rattle.records.specs.declared.letters.Side.{Side}
use Rattle.records.specs.declared.letters.Side.TheVariants.{Buy, Sell}
use Rattle.records.specs.declared.letters.Qualifier.{Qualifier}
use Rattle.records.specs.declared.letters.Qualifier.TheVariants.{Unqualified, FillOrKill, ImmediateOrCancel}
use Rattle.records.specs.Refusals.{first_of}
use Rattle.orders.specs.declared.order.Order.{Order}
use Rattle.orders.specs.Orders.{fields_of, is_plain, is_unqualified}
use Rattle.lines.specs.Kind.{Kind}
use Rattle.rules.specs.declared.terms.Status.{Status}
use Rattle.rules.specs.declared.terms.Status.TheVariants.{PreOpen, Calling, Running, Halted, Closed}
use Rattle.rules.specs.declared.terms.Trade.{Trade}
use Rattle.rules.specs.declared.terms.BookFault.{BookFault}
use Rattle.rules.specs.declared.terms.BookFault.TheVariants.{Turn, Spent, Band, Empty, Tape, Shortfall, Full, Sheet, Unknown}
use Rattle.rules.specs.Lines.{Fill, Sweep, all_left, any_passes, has_number, is_empty, only, placed, resting, shares, swept, total, units, without}
use Rattle.rules.specs.Opening.{apart}
use Rattle.rules.specs.Sheet.{Level, levels, opening_price, volume}

-- an entry and an opening come with the free places of a tape, a sheet with its places
pub data Call : Type 0 where
  -- before the opening
  join : (o : Order) → is_plain (fields_of o) ≡ true → Call
  enter : Order → ℕ → Call
  withdraw : ℕ → Call
  show : ℕ → Call
  call : Call
  open' : ℕ → Call
  halt : Call
  resume : Call
  close : Call

pub data Answer : Type 0 where
  -- number, traded, resting, lapsed
  entered : ℕ → ℕ → ℕ → ℕ → Answer
  withdrawn : ℕ → Answer
  -- the sheet
  shown : List Level → Answer
  -- price, volume
  opened : Price → ℕ → Answer
  done : Answer
  -- price, lapsed
  ended : Price → ℕ → Answer

pub record Book (L : Type 0) : Type 0 where
  pub status : Status
  pub reference : Price
  -- the next number
  pub next : ℕ
  -- the last trade price
  pub last : Option Price
  pub buyers : List L
  pub sellers : List L
  -- for how many lines there is a place
  pub places : ℕ

pub record Outcome (L : Type 0) : Type 0 where
  pub answer : Result Answer BookFault
  pub trades : List Trade
  -- the lines that lapse, as a closing hands them back
  pub lapsing : List L
  pub after : Book L

abbrev pub last_price : List Fill → Price → Price
last_price [] p = p
last_price (f ∷ fs) p = last_price fs f.price

abbrev pub is_buy : Side → Bool
is_buy Buy = true
is_buy Sell = false

abbrev pub is_fill_or_kill : Qualifier → Bool
is_fill_or_kill Unqualified = false
is_fill_or_kill FillOrKill = true
is_fill_or_kill ImmediateOrCancel = false

abbrev pub buys : Order → Bool
buys o = is_buy o.side

-- whether an order trades at a price: a market order at any, a limit order within its limit
abbrev pub accepts_at : Bool → Option Price → ℕ → Bool
accepts_at b None p = true
accepts_at true (Some l) p = nat_le p l.units
accepts_at false (Some l) p = nat_le l.units p

abbrev pub accepts : Order → ℕ → Bool
accepts o p = accepts_at (buys o) o.limit p

-- where the rest of an order rests: at its limit, or at its last trade's price; d where there is neither
abbrev pub rests_at : Price → Option Price → List Fill → Price
rests_at d None fs = last_price fs d
rests_at d (Some l) fs = l

-- the order with the number n trades with a resting line, at the line's price
abbrev pub struck : Bool → ℕ → Fill → Trade
struck true n f = record { buyer = n; seller = f.number; price = f.price; quantity = f.shares }
struck false n f = record { buyer = f.number; seller = n; price = f.price; quantity = f.shares }

abbrev pub is_some : {X : Type 0} → Option X → Bool
is_some None = false
is_some (Some x) = true

-- a buyer's fill meets the sellers' fills, first with first
abbrev pub fills_kind : Kind Fill
fills_kind = record {
  number = λ f. f.number;
  side = λ f. Sell;
  price = λ f. f.price;
  left = λ f. f.shares;
  precedes = λ f g. false;
  made = λ o n p q. record { number = n; price = p; shares = q };
  taken = λ q f. record { number = f.number; price = f.price; shares = f.shares - q };
}

abbrev pub any_price : ℕ → Bool
any_price p = true

abbrev pub dealt : Price → Fill → Fill → Trade
dealt p b f = record { buyer = b.number; seller = f.number; price = p; quantity = f.shares }

abbrev pub paired : Price → List Fill → List Fill → List Trade
paired p [] ss = []
paired p (b ∷ bs) ss =
    map (dealt p b) (swept fills_kind any_price b.shares ss).fills ++ paired p bs (swept fills_kind any_price b.shares ss).rest

-- the price with so many units among those of the lines; d where there is none
abbrev pub priced_at : {L : Type 0} → Kind L → Price → ℕ → List L → Price
priced_at K d n [] = d
priced_at K d n (x ∷ xs) = cond (n == units K x) (K.price x) (priced_at K d n xs)

abbrev pub is_preopen : Status → Bool
is_preopen PreOpen = true
is_preopen Calling = false
is_preopen Running = false
is_preopen Halted = false
is_preopen Closed = false

abbrev pub is_calling : Status → Bool
is_calling PreOpen = false
is_calling Calling = true
is_calling Running = false
is_calling Halted = false
is_calling Closed = false

abbrev pub is_running : Status → Bool
is_running PreOpen = false
is_running Calling = false
is_running Running = true
is_running Halted = false
is_running Closed = false

abbrev pub is_halted : Status → Bool
is_halted PreOpen = false
is_halted Calling = false
is_halted Running = false
is_halted Halted = true
is_halted Closed = false

module _ {L : Type 0} (K : Kind L) where
  abbrev pub lines_in : Book L → ℕ
  lines_in s = length s.buyers + length s.sellers

  -- the lines that an order trades with
  abbrev pub others : Book L → Order → List L
  others s o = cond (buys o) s.sellers s.buyers

  -- the shares that an order could trade with
  abbrev pub eligible : Book L → Order → ℕ
  eligible s o = shares K (accepts o) (others s o)

  -- how many shares an order tries to trade: none if it is to be filled whole and cannot be
  abbrev pub sought : Book L → Order → ℕ
  sought s o = cond (is_fill_or_kill o.qualifier && nat_lt (eligible s o) o.quantity) 0 o.quantity

  -- what is left of an order rests if it has no qualifier
  abbrev pub rests : Order → ℕ → ℕ
  rests o traded = only (is_unqualified o.qualifier) (o.quantity - traded)

  abbrev pub joins : Order → ℕ → Price → ℕ → List L → List L
  joins o n p q xs = cond (nat_lt 0 q) (placed K (K.made o n p q) xs) xs

  -- what an entry does, by what was swept for it from the other side
  abbrev pub entered_with : Book L → Order → Sweep L → Book L
  entered_with s o w =
      let own : List L → List L = joins o s.next (rests_at s.reference o.limit w.fills) (rests o (total w.fills)) in
      record {
        status = s.status;
        reference = s.reference;
        next = s.next + 1;
        last = cond (is_empty w.fills) s.last (Some (last_price w.fills s.reference));
        buyers = cond (buys o) (own s.buyers) w.rest;
        sellers = cond (buys o) w.rest (own s.sellers);
        places = s.places;
      }

  abbrev pub entry : Book L → Order → Sweep L → Outcome L
  entry s o w = record {
    answer = Ok (entered s.next (total w.fills) (rests o (total w.fills)) (o.quantity - total w.fills - rests o (total w.fills)));
    trades = map (struck (buys o) s.next) w.fills;
    lapsing = [];
    after = entered_with s o w;
  }

  abbrev pub opening_at : Book L → Price → ℕ → Outcome L
  opening_at s p v =
      let b = swept K (leb p.units) v s.buyers in
      let o = swept K (λ r. leb r p.units) v s.sellers in
      record {
        answer = Ok (opened p v);
        trades = paired p b.fills o.fills;
        lapsing = [];
        after = record {
          status = Running;
          reference = s.reference;
          next = s.next;
          last = cond (nat_lt 0 v) (Some p) s.last;
          buyers = b.rest;
          sellers = o.rest;
          places = s.places;
        };
      }

  -- the opening price is one of the book's prices, or the reference
  abbrev pub opens_at : Book L → Price
  opens_at s = priced_at K s.reference (opening_price K s.reference.units s.buyers s.sellers) (s.buyers ++ s.sellers)

  abbrev pub volume_of : Book L → ℕ → ℕ
  volume_of s = volume K s.reference.units s.buyers s.sellers

  abbrev pub moved : Book L → Status → Book L
  moved s t = record { status = t; reference = s.reference; next = s.next; last = s.last; buyers = s.buyers; sellers = s.sellers; places = s.places }

  abbrev pub removed : Book L → ℕ → Book L
  removed s n = record { status = s.status; reference = s.reference; next = s.next; last = s.last; buyers = without K n s.buyers; sellers = without K n s.sellers; places = s.places }

  abbrev pub ended_book : Book L → Book L
  ended_book s = record { status = Closed; reference = s.reference; next = s.next; last = s.last; buyers = []; sellers = []; places = s.places }

  abbrev pub closing_price : Option Price → Price → Price
  closing_price None reference = reference
  closing_price (Some p) reference = p

  abbrev pub plainly : Book L → Answer → Book L → Outcome L
  plainly s a t = record { answer = Ok a; trades = []; lapsing = []; after = t }

  -- which call a status takes
  abbrev pub takes : Status → Call → Bool
  takes t (join o plain) = is_preopen t
  takes t (enter o room) = is_running t
  takes t (withdraw n) = is_preopen t || (is_running t || is_halted t)
  takes t (show n) = is_preopen t || is_calling t
  takes t call = is_preopen t
  takes t (open' room) = is_calling t
  takes t halt = is_running t
  takes t resume = is_halted t
  takes t close = is_calling t || (is_running t || is_halted t)

  -- the conditions of the refusals
  abbrev pub turn_holds : Book L → Call → Bool
  turn_holds s c = not (takes s.status c)

  abbrev pub spent_holds : Book L → Call → Bool
  spent_holds s (join o plain) = nat_lt 100000 s.next
  spent_holds s (enter o room) = nat_lt 100000 s.next
  spent_holds s (withdraw n) = false
  spent_holds s (show n) = false
  spent_holds s call = false
  spent_holds s (open' room) = false
  spent_holds s halt = false
  spent_holds s resume = false
  spent_holds s close = false

  abbrev pub out_of_band : Price → Option Price → Bool
  out_of_band reference None = false
  out_of_band reference (Some limit) = nat_lt reference.units (apart limit.units reference.units * 10)

  abbrev pub band_holds : Book L → Call → Bool
  band_holds s (join o plain) = out_of_band s.reference o.limit
  band_holds s (enter o room) = out_of_band s.reference o.limit
  band_holds s (withdraw n) = false
  band_holds s (show n) = false
  band_holds s call = false
  band_holds s (open' room) = false
  band_holds s halt = false
  band_holds s resume = false
  band_holds s close = false

  abbrev pub empty_holds : Book L → Call → Bool
  empty_holds s (join o plain) = false
  empty_holds s (enter o room) = not (is_some o.limit) && is_empty (others s o)
  empty_holds s (withdraw n) = false
  empty_holds s (show n) = false
  empty_holds s call = false
  empty_holds s (open' room) = false
  empty_holds s halt = false
  empty_holds s resume = false
  empty_holds s close = false

  abbrev pub tape_holds : Book L → Call → Bool
  tape_holds s (join o plain) = false
  tape_holds s (enter o room) = nat_lt room (length (others s o))
  tape_holds s (withdraw n) = false
  tape_holds s (show n) = false
  tape_holds s call = false
  tape_holds s (open' room) = nat_lt room (lines_in s)
  tape_holds s halt = false
  tape_holds s resume = false
  tape_holds s close = false

  abbrev pub shortfall_holds : Book L → Call → Bool
  shortfall_holds s (join o plain) = false
  shortfall_holds s (enter o room) = nat_lt (eligible s o) o.minimum
  shortfall_holds s (withdraw n) = false
  shortfall_holds s (show n) = false
  shortfall_holds s call = false
  shortfall_holds s (open' room) = false
  shortfall_holds s halt = false
  shortfall_holds s resume = false
  shortfall_holds s close = false

  abbrev pub full_holds : Book L → Call → Bool
  full_holds s (join o plain) = nat_le s.places (lines_in s)
  full_holds s (enter o room) = nat_le s.places (lines_in s) && (is_unqualified o.qualifier && not (any_passes K (accepts o) (others s o)))
  full_holds s (withdraw n) = false
  full_holds s (show n) = false
  full_holds s call = false
  full_holds s (open' room) = false
  full_holds s halt = false
  full_holds s resume = false
  full_holds s close = false

  abbrev pub sheet_holds : Book L → Call → Bool
  sheet_holds s (join o plain) = false
  sheet_holds s (enter o room) = false
  sheet_holds s (withdraw n) = false
  sheet_holds s (show n) = nat_lt n (lines_in s)
  sheet_holds s call = false
  sheet_holds s (open' room) = false
  sheet_holds s halt = false
  sheet_holds s resume = false
  sheet_holds s close = false

  abbrev pub unknown_holds : Book L → Call → Bool
  unknown_holds s (join o plain) = false
  unknown_holds s (enter o room) = false
  unknown_holds s (withdraw n) = not (has_number K n s.buyers || has_number K n s.sellers)
  unknown_holds s (show n) = false
  unknown_holds s call = false
  unknown_holds s (open' room) = false
  unknown_holds s halt = false
  unknown_holds s resume = false
  unknown_holds s close = false

  -- the table of refusals, in the order in which they are tried
  abbrev pub refusals : Book L → Call → List (Bool × BookFault)
  refusals s c =
      (turn_holds s c, Turn) ∷ (spent_holds s c, Spent) ∷ (band_holds s c, Band) ∷ (empty_holds s c, Empty) ∷ (tape_holds s c, Tape)
      ∷ (shortfall_holds s c, Shortfall) ∷ (full_holds s c, Full) ∷ (sheet_holds s c, Sheet) ∷ (unknown_holds s c, Unknown) ∷ []

  -- the first of the table whose condition holds
  unfoldable pub fault : Book L → Call → Option BookFault
  fault s c = first_of (refusals s c)

  abbrev pub effect : Book L → Call → Outcome L
  effect s (join o plain) = entry s o (swept K (accepts o) 0 (others s o))
  effect s (enter o room) = entry s o (swept K (accepts o) (sought s o) (others s o))
  effect s (withdraw n) = plainly s (withdrawn (resting K n s.buyers + resting K n s.sellers)) (removed s n)
  effect s (show n) = plainly s (shown (levels K s.buyers s.sellers)) s
  effect s call = plainly s done (moved s Calling)
  effect s (open' room) = opening_at s (opens_at s) (volume_of s (opens_at s).units)
  effect s halt = plainly s done (moved s Halted)
  effect s resume = plainly s done (moved s Running)
  effect s close = record {
    answer = Ok (ended (closing_price s.last s.reference) (all_left K s.buyers + all_left K s.sellers));
    trades = [];
    lapsing = s.buyers ++ s.sellers;
    after = ended_book s;
  }

  abbrev pub refused : Book L → BookFault → Outcome L
  refused s f = record { answer = Err f; trades = []; lapsing = []; after = s }

  abbrev pub unless_fault : Option BookFault → Book L → Outcome L → Outcome L
  unless_fault None s r = r
  unless_fault (Some f) s r = refused s f

  unfoldable pub step : Book L → Call → Outcome L
  step s c = unless_fault (fault s c) s (effect s c)
