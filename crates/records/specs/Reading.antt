-- Records read. Assumes nothing.
use Rattle.std.specs.Prelude.{◌≡◌, ℕ, ◌+◌, cond, List, [], ◌∷◌, length, take, drop, Some, None, Ok, Err, Option, Result, ◌==◌, nat_lt, slice_index}
use Rattle.std.specs.Option.{option_map}
use Rattle.records.specs.declared.fault.RecordFault.{RecordFault}
use Rattle.records.specs.declared.fault.RecordFault.TheVariants.{Tail, Kind, Byte}
use Rattle.records.specs.declared.layout.ByteRule.{ByteRule}
use Rattle.records.specs.declared.record.Account.{Account}
use Rattle.records.specs.declared.record.EntryFields.{EntryFields}
use Rattle.records.specs.declared.record.Message.{Message}
use Rattle.std.specs.declared.convert.Infallible.{Infallible}
use Rattle.records.specs.declared.record.Message.TheVariants.{Start, Entry, Withdrawal, Opening, Halt, Resumption, Closing}
use Rattle.records.specs.Letters.{side_of, type_of, qualifier_of, capacity_of}
use Rattle.records.specs.Refusals.{unless, on_ok}
use Rattle.records.specs.Layout.{misfit, account_layout, entry_layout, one_number_layout, letter_alone_layout}
use Rattle.records.specs.Bytes.{number_at, entry_bytes, start_bytes, withdrawal_bytes, opening_bytes, halt_bytes, resumption_bytes, closing_bytes}

-- what a record says, the account by its bytes and its place in the input
pub data Reading : Type 0 where
  start : ℕ → Reading
  entry : EntryFields → List ℕ → ℕ → Reading
  withdrawal : ℕ → Reading
  opening : Reading
  halt : Reading
  resumption : Reading
  closing : Reading

abbrev pub reading_of : Message ℕ EntryFields Account → Reading
reading_of (Start reference) = start reference
reading_of (Entry f account) = entry f account.bytes.now account.place
reading_of (Withdrawal number) = withdrawal number
reading_of Opening = opening
reading_of Halt = halt
reading_of Resumption = resumption
reading_of Closing = closing

-- what a short record says
abbrev pub short_reading : Message ℕ Infallible (Unit {0}) → Reading
short_reading (Start reference) = start reference
short_reading (Entry none account) = elim none [ ]
short_reading (Withdrawal number) = withdrawal number
short_reading Opening = opening
short_reading Halt = halt
short_reading Resumption = resumption
short_reading Closing = closing

-- the bytes that say it
abbrev pub bytes_of : Reading → List ℕ
bytes_of (start reference) = start_bytes reference
bytes_of (entry f account place) = entry_bytes f account
bytes_of (withdrawal number) = withdrawal_bytes number
bytes_of opening = opening_bytes
bytes_of halt = halt_bytes
bytes_of resumption = resumption_bytes
bytes_of closing = closing_bytes

-- the entry with these letters, whose other bytes follow them; its record begins at a place of the input
abbrev pub entry_after : ℕ → ℕ → ℕ → List ℕ → ℕ → Reading
entry_after side type qualifier body at =
    entry
    (record {
      side = side_of side;
      order_type = type_of type;
      qualifier = qualifier_of qualifier;
      price = number_at body 0;
      quantity = number_at body 4;
      minimum = number_at body 12;
      capacity = capacity_of (slice_index body 16);
    })
    (drop 20 body)
    (at + 24)

-- a kind of record: its letter, what each byte may be, and what the bytes say, which begin at a place of the input
pub record KindRow : Type 0 where
  pub letter : ℕ
  pub layout : List ByteRule
  pub says : List ℕ → ℕ → Reading

-- D, E, W, O, H, R, C
abbrev pub kinds : List KindRow
kinds =
    record { letter = 68; layout = one_number_layout; says = λ b at. start (number_at b 4) }
    ∷ record { letter = 69; layout = entry_layout; says = λ b at. entry_after (slice_index b 1) (slice_index b 2) (slice_index b 3) (drop 4 b) at }
    ∷ record { letter = 87; layout = one_number_layout; says = λ b at. withdrawal (number_at b 4) }
    ∷ record { letter = 79; layout = letter_alone_layout; says = λ b at. opening }
    ∷ record { letter = 72; layout = letter_alone_layout; says = λ b at. halt }
    ∷ record { letter = 82; layout = letter_alone_layout; says = λ b at. resumption }
    ∷ record { letter = 67; layout = letter_alone_layout; says = λ b at. closing } ∷ []

-- by the row with the letter: KIND where there is none, BYTE where a byte breaks its rule
abbrev pub read_by : ℕ → List KindRow → List ℕ → ℕ → Result Reading RecordFault
read_by letter [] b at = Err Kind
read_by letter (kind ∷ kinds) b at =
    cond (letter == kind.letter) (unless (option_map Byte (misfit kind.layout b)) (kind.says b at)) (read_by letter kinds b at)

-- the 32 bytes b, which begin at a place of the input
unfoldable pub read_32 : List ℕ → ℕ → Result Reading RecordFault
read_32 b at = read_by (slice_index b 0) kinds b at

-- the record at a place of the input, of any length: nothing at the end, TAIL where 1 to 31 bytes remain
unfoldable pub read_at : List ℕ → ℕ → Result (Option Reading) RecordFault
read_at input at =
    cond (length (drop at input) == 0) (Ok None) (cond (nat_lt (length (drop at input)) 32) (Err Tail) (on_ok Some (read_32 (take 32 (drop at input)) at)))

-- BYTE at the first byte of an account that is out of range, by its place in the record
abbrev pub account_fault : List ℕ → Result (Unit {0}) RecordFault
account_fault account = unless (option_map (λ place. Byte (24 + place)) (misfit account_layout account)) tt

-- what holds of a record that is read
abbrev pub Accepted : {F : Type 0} → Result (Option Reading) F → (Reading → Type 0) → Type 0
Accepted (Ok None) P = Unit {0}
Accepted (Ok (Some says)) P = P says
Accepted (Err fault) P = Unit {0}

-- the account is what lies at its place in the input, and its bytes are in range
abbrev pub AccountIn : List ℕ → Reading → Type 0
AccountIn input (start reference) = Unit {0}
AccountIn input (entry f account place) = (account ≡ take 8 (drop place input)) × (account_fault account ≡ Ok tt)
AccountIn input (withdrawal number) = Unit {0}
AccountIn input opening = Unit {0}
AccountIn input halt = Unit {0}
AccountIn input resumption = Unit {0}
AccountIn input closing = Unit {0}
