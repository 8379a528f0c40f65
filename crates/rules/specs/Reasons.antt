-- The reasons to refuse a call, in words of the book, and which is told. Assumes nothing.
use Rattle.std.specs.Prelude.{◌≡◌, ◌+◌, ◌*◌, ◌<◌, ◌≤◌, false, ◌⊎◌, List, [], ◌∷◌, ◌++◌, length, Some, None, Ok, Err, Option, Result, MatchOption, ◌≢◌}
use Rattle.std.specs.List.{AllByRecursion}
use Rattle.records.specs.declared.letters.Qualifier.TheVariants.{Unqualified}
use Rattle.orders.specs.declared.order.Order.{Order}
use Rattle.lines.specs.Kind.{Kind}
use Rattle.rules.specs.declared.terms.Status.{Status}
use Rattle.rules.specs.declared.terms.Status.TheVariants.{PreOpen, Calling, Running, Halted}
use Rattle.rules.specs.declared.terms.BookFault.{BookFault}
use Rattle.rules.specs.declared.terms.BookFault.TheVariants.{Turn, Spent, Band, Empty, Tape, Shortfall, Full, Sheet, Unknown}
use Rattle.rules.specs.Lines.{units}
use Rattle.rules.specs.Opening.{apart}
use Rattle.rules.specs.Book.{Answer, Book, Call, accepts, call, close, eligible, enter, halt, join, open', others, resume, show, withdraw}

-- the statuses in which a call has its turn
abbrev pub turns_of : Call → List Status
turns_of (join o plain) = PreOpen ∷ []
turns_of (enter o room) = Running ∷ []
turns_of (withdraw n) = PreOpen ∷ Running ∷ Halted ∷ []
turns_of (show n) = PreOpen ∷ Calling ∷ []
turns_of call = PreOpen ∷ []
turns_of (open' room) = Calling ∷ []
turns_of halt = Running ∷ []
turns_of resume = Halted ∷ []
turns_of close = Calling ∷ Running ∷ Halted ∷ []

module _ {L : Type 0} (K : Kind L) where
  -- further from the reference than a tenth of it
  abbrev pub TooFar : Book L → Order → Type 0
  TooFar s o = MatchOption o.limit ⊥ (λ l. s.reference.units < apart l.units s.reference.units * 10)

  abbrev pub NoPlace : Book L → Type 0
  NoPlace s = s.places ≤ length s.buyers + length s.sellers

  abbrev pub NoNumberLeft : Book L → Call → Type 0
  NoNumberLeft s (join o plain) = 100000 < s.next
  NoNumberLeft s (enter o room) = 100000 < s.next
  NoNumberLeft s (withdraw n) = ⊥
  NoNumberLeft s (show n) = ⊥
  NoNumberLeft s call = ⊥
  NoNumberLeft s (open' room) = ⊥
  NoNumberLeft s halt = ⊥
  NoNumberLeft s resume = ⊥
  NoNumberLeft s close = ⊥

  abbrev pub OutOfBand : Book L → Call → Type 0
  OutOfBand s (join o plain) = TooFar s o
  OutOfBand s (enter o room) = TooFar s o
  OutOfBand s (withdraw n) = ⊥
  OutOfBand s (show n) = ⊥
  OutOfBand s call = ⊥
  OutOfBand s (open' room) = ⊥
  OutOfBand s halt = ⊥
  OutOfBand s resume = ⊥
  OutOfBand s close = ⊥

  -- a market order facing no line
  abbrev pub NobodyThere : Book L → Call → Type 0
  NobodyThere s (join o plain) = ⊥
  NobodyThere s (enter o room) = (o.limit ≡ None) × (others K s o ≡ [])
  NobodyThere s (withdraw n) = ⊥
  NobodyThere s (show n) = ⊥
  NobodyThere s call = ⊥
  NobodyThere s (open' room) = ⊥
  NobodyThere s halt = ⊥
  NobodyThere s resume = ⊥
  NobodyThere s close = ⊥

  -- a place for each line that might trade is asked of a tape
  abbrev pub ShortTape : Book L → Call → Type 0
  ShortTape s (join o plain) = ⊥
  ShortTape s (enter o room) = room < length (others K s o)
  ShortTape s (withdraw n) = ⊥
  ShortTape s (show n) = ⊥
  ShortTape s call = ⊥
  ShortTape s (open' room) = room < length s.buyers + length s.sellers
  ShortTape s halt = ⊥
  ShortTape s resume = ⊥
  ShortTape s close = ⊥

  -- of all lines whose price the order accepts
  abbrev pub TooFew : Book L → Call → Type 0
  TooFew s (join o plain) = ⊥
  TooFew s (enter o room) = eligible K s o < o.minimum
  TooFew s (withdraw n) = ⊥
  TooFew s (show n) = ⊥
  TooFew s call = ⊥
  TooFew s (open' room) = ⊥
  TooFew s halt = ⊥
  TooFew s resume = ⊥
  TooFew s close = ⊥

  -- no place is free, and the order would rest without a trade
  abbrev pub NoRoom : Book L → Call → Type 0
  NoRoom s (join o plain) = NoPlace s
  NoRoom s (enter o room) = NoPlace s × ((o.qualifier ≡ Unqualified) × AllByRecursion (λ x. accepts o (units K x) ≡ false) (others K s o))
  NoRoom s (withdraw n) = ⊥
  NoRoom s (show n) = ⊥
  NoRoom s call = ⊥
  NoRoom s (open' room) = ⊥
  NoRoom s halt = ⊥
  NoRoom s resume = ⊥
  NoRoom s close = ⊥

  abbrev pub ShortSheet : Book L → Call → Type 0
  ShortSheet s (join o plain) = ⊥
  ShortSheet s (enter o room) = ⊥
  ShortSheet s (withdraw n) = ⊥
  ShortSheet s (show n) = n < length s.buyers + length s.sellers
  ShortSheet s call = ⊥
  ShortSheet s (open' room) = ⊥
  ShortSheet s halt = ⊥
  ShortSheet s resume = ⊥
  ShortSheet s close = ⊥

  abbrev pub NoSuchLine : Book L → Call → Type 0
  NoSuchLine s (join o plain) = ⊥
  NoSuchLine s (enter o room) = ⊥
  NoSuchLine s (withdraw n) = AllByRecursion (λ x. K.number x ≢ n) (s.buyers ++ s.sellers)
  NoSuchLine s (show n) = ⊥
  NoSuchLine s call = ⊥
  NoSuchLine s (open' room) = ⊥
  NoSuchLine s halt = ⊥
  NoSuchLine s resume = ⊥
  NoSuchLine s close = ⊥

  abbrev pub Reason : Book L → Call → BookFault → Type 0
  Reason s c Turn = AllByRecursion (λ t. s.status ≢ t) (turns_of c)
  Reason s c Spent = NoNumberLeft s c
  Reason s c Band = OutOfBand s c
  Reason s c Empty = NobodyThere s c
  Reason s c Tape = ShortTape s c
  Reason s c Shortfall = TooFew s c
  Reason s c Full = NoRoom s c
  Reason s c Sheet = ShortSheet s c
  Reason s c Unknown = NoSuchLine s c

-- the order in which they are told
abbrev pub in_order : List BookFault
in_order = Turn ∷ Spent ∷ Band ∷ Empty ∷ Tape ∷ Shortfall ∷ Full ∷ Sheet ∷ Unknown ∷ []

-- what is told is the first for which there is reason, and nothing where there is reason for none
abbrev pub FirstTold : (BookFault → Type 0) → List BookFault → Option BookFault → Type 0
FirstTold P [] told = told ≡ None
FirstTold P (f ∷ fs) told = (P f × (told ≡ Some f)) ⊎ ((P f → ⊥) × FirstTold P fs told)

abbrev pub told_by : Result Answer BookFault → Option BookFault
told_by (Ok a) = None
told_by (Err f) = Some f
