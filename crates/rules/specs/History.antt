-- What happens over every list of commands to several books, and the account of every share. Assumes nothing.
use Rattle.std.specs.Prelude.{◌≡◌, ℕ, zero, suc, ◌+◌, ◌-◌, true, cond, List, [], ◌∷◌, ◌++◌, length, Some, None, Ok, Err, Option, Result, ◌==◌}
use Rattle.prices.specs.declared.price.Price.{Price}
use Rattle.orders.specs.declared.order.Order.{Order}
use Rattle.orders.specs.Orders.{fields_of, is_plain}
use Rattle.lines.specs.Kind.{Kind}
use Rattle.rules.specs.declared.terms.Trade.{Trade}
use Rattle.rules.specs.declared.terms.BookFault.{BookFault}
use Rattle.rules.specs.Lines.{only, resting, sum_of}
use Rattle.rules.specs.Book.{Answer, Book, Call, Outcome, call, close, done, ended, enter, entered, halt, join, open', opened, resume, show, shown, step, withdraw, withdrawn}
use Rattle.rules.specs.Laws.{fresh}

-- one book's memory for trades, started empty
pub record Tape : Type 0 where
  pub places : ℕ
  pub written : List Trade

-- a book and its tapes
pub record Desk (L : Type 0) : Type 0 where
  pub book : Book L
  pub tapes : List Tape

-- what is asked of a book; an entry and an opening name the tape that they write
pub data Asked : Type 0 where
  joining : (o : Order) → is_plain (fields_of o) ≡ true → Asked
  entering : Order → ℕ → Asked
  withdrawing : ℕ → Asked
  showing : ℕ → Asked
  calling : Asked
  opening : ℕ → Asked
  halting : Asked
  resuming : Asked
  closing : Asked

-- starting on a reference, a run of lines and tapes of so many places each; or something that is asked
pub data Command : Type 0 where
  starting : Price → ℕ → List ℕ → Command
  asking : Asked → Command

abbrev pub empty_tapes : List ℕ → List Tape
empty_tapes [] = []
empty_tapes (n ∷ ns) = record { places = n; written = [] } ∷ empty_tapes ns

-- the free places of the tape with an index, and the tapes once trades are written on it
abbrev pub free_on : ℕ → List Tape → ℕ
free_on i [] = 0
free_on zero (t ∷ ts) = t.places - length t.written
free_on (suc i) (t ∷ ts) = free_on i ts

abbrev pub written_on : ℕ → List Trade → List Tape → List Tape
written_on i us [] = []
written_on zero us (t ∷ ts) = record { places = t.places; written = t.written ++ us } ∷ ts
written_on (suc i) us (t ∷ ts) = t ∷ written_on i us ts

abbrev pub call_of : Asked → List Tape → Call
call_of (joining o plain) ts = join o plain
call_of (entering o i) ts = enter o (free_on i ts)
call_of (withdrawing n) ts = withdraw n
call_of (showing n) ts = show n
call_of calling ts = call
call_of (opening i) ts = open' (free_on i ts)
call_of halting ts = halt
call_of resuming ts = resume
call_of closing ts = close

abbrev pub tape_of : Asked → ℕ
tape_of (joining o plain) = 0
tape_of (entering o i) = i
tape_of (withdrawing n) = 0
tape_of (showing n) = 0
tape_of calling = 0
tape_of (opening i) = i
tape_of halting = 0
tape_of resuming = 0
tape_of closing = 0

pub record Event (L : Type 0) : Type 0 where
  pub before : Desk L
  pub asked : Asked
  pub answer : Result Answer BookFault
  pub trades : List Trade
  pub lapsing : List L
  pub after : Desk L

-- the shares of the trades with the number n
abbrev pub with_number : ℕ → Trade → ℕ
with_number n t = only (n == t.buyer) t.quantity + only (n == t.seller) t.quantity

abbrev pub traded : ℕ → List Trade → ℕ
traded n ts = sum_of (with_number n) ts

-- on all tapes
abbrev pub on_tapes : ℕ → List Tape → ℕ
on_tapes n ts = sum_of (λ t. traded n t.written) ts

-- what an answer says of the order with the number n
abbrev pub quantity_of : Asked → ℕ
quantity_of (joining o plain) = o.quantity
quantity_of (entering o i) = o.quantity
quantity_of (withdrawing n) = 0
quantity_of (showing n) = 0
quantity_of calling = 0
quantity_of (opening i) = 0
quantity_of halting = 0
quantity_of resuming = 0
quantity_of closing = 0

abbrev pub entered_as : ℕ → Result Answer BookFault → ℕ → ℕ
entered_as n (Err f) q = 0
entered_as n (Ok (entered m t r l)) q = only (n == m) q
entered_as n (Ok (withdrawn r)) q = 0
entered_as n (Ok (shown r)) q = 0
entered_as n (Ok (opened p v)) q = 0
entered_as n (Ok done) q = 0
entered_as n (Ok (ended p l)) q = 0

-- an entry's answer, and at the closing all that its line has left
abbrev pub lapsed_as : ℕ → Result Answer BookFault → ℕ → ℕ
lapsed_as n (Err f) w = 0
lapsed_as n (Ok (entered m t r l)) w = only (n == m) l
lapsed_as n (Ok (withdrawn r)) w = 0
lapsed_as n (Ok (shown r)) w = 0
lapsed_as n (Ok (opened p v)) w = 0
lapsed_as n (Ok done) w = 0
lapsed_as n (Ok (ended p l)) w = w

-- what a withdrawal of m answered
abbrev pub withdrawn_as : ℕ → Asked → Result Answer BookFault → ℕ
withdrawn_as n (joining o plain) a = 0
withdrawn_as n (entering o i) a = 0
withdrawn_as n (withdrawing m) (Err f) = 0
withdrawn_as n (withdrawing m) (Ok (entered k t r l)) = 0
withdrawn_as n (withdrawing m) (Ok (withdrawn r)) = only (n == m) r
withdrawn_as n (withdrawing m) (Ok (shown r)) = 0
withdrawn_as n (withdrawing m) (Ok (opened p v)) = 0
withdrawn_as n (withdrawing m) (Ok done) = 0
withdrawn_as n (withdrawing m) (Ok (ended p l)) = 0
withdrawn_as n (showing m) a = 0
withdrawn_as n calling a = 0
withdrawn_as n (opening i) a = 0
withdrawn_as n halting a = 0
withdrawn_as n resuming a = 0
withdrawn_as n closing a = 0

module _ {L : Type 0} (K : Kind L) where
  abbrev pub fresh_desk : Price → ℕ → List ℕ → Desk L
  fresh_desk reference run sizes = record { book = fresh K reference run; tapes = empty_tapes sizes }

  abbrev pub event_of : Desk L → Asked → Outcome L → Event L
  event_of s a r = record {
    before = s;
    asked = a;
    answer = r.answer;
    trades = r.trades;
    lapsing = r.lapsing;
    after = record { book = r.after; tapes = written_on (tape_of a) r.trades s.tapes };
  }

  abbrev pub event : Desk L → Asked → Event L
  event s a = event_of s a (step K s.book (call_of a s.tapes))

  -- several books: a book is started once, and takes what is asked from then on; no command touches two
  abbrev pub happened : Option (Desk L) → Command → List (Event L)
  happened None c = []
  happened (Some s) (starting reference run sizes) = []
  happened (Some s) (asking a) = event s a ∷ []

  abbrev pub commanded : Option (Desk L) → Command → Option (Desk L)
  commanded None (starting reference run sizes) = Some (fresh_desk reference run sizes)
  commanded None (asking a) = None
  commanded (Some s) (starting reference run sizes) = Some s
  commanded (Some s) (asking a) = Some (event s a).after

  abbrev pub touched : (ℕ → Option (Desk L)) → ℕ → Command → ℕ → Option (Desk L)
  touched m i c j = cond (j == i) (commanded (m i) c) (m j)

  abbrev pub market : (ℕ → Option (Desk L)) → List (ℕ × Command) → ℕ → Option (Desk L)
  market m [] = m
  market m (c ∷ cs) = market (touched m c.0 c.1) cs

  -- what happened of the book i
  abbrev pub history : (ℕ → Option (Desk L)) → List (ℕ × Command) → ℕ → List (Event L)
  history m [] i = []
  history m (c ∷ cs) i = cond (i == c.0) (happened (m i) c.1) [] ++ history (touched m c.0 c.1) cs i

  -- the shares left of the order n
  abbrev pub rests_in : ℕ → Book L → ℕ
  rests_in n s = resting K n s.buyers + resting K n s.sellers

  abbrev pub entered_in : ℕ → List (Event L) → ℕ
  entered_in n h = sum_of (λ e. entered_as n e.answer (quantity_of e.asked)) h

  abbrev pub withdrawn_in : ℕ → List (Event L) → ℕ
  withdrawn_in n h = sum_of (λ e. withdrawn_as n e.asked e.answer) h

  abbrev pub lapsed_in : ℕ → List (Event L) → ℕ
  lapsed_in n h = sum_of (λ e. lapsed_as n e.answer (rests_in n e.before.book)) h

  -- LAW: for each order number, what was entered is what is traded on the tapes, withdrawn, lapsed and still resting
  abbrev pub Accounted : List (Event L) → Option (Desk L) → Type 0
  Accounted h None = (n : ℕ) → entered_in n h ≡ 0
  Accounted h (Some s) = (n : ℕ) → entered_in n h ≡ on_tapes n s.tapes + withdrawn_in n h + lapsed_in n h + rests_in n s.book

  abbrev pub EveryShareIsAccountedFor : Type 0
  EveryShareIsAccountedFor = (cs : List (ℕ × Command)) (i : ℕ) → Accounted (history (λ _. None) cs i) (market (λ _. None) cs i)
