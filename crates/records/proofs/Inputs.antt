-- The record at a place of an input: by how much of the input is left there.
use Rattle.std.proofs.Common.{◌≡◌, ℕ, ◌+◌, ◌^◌, ◌<◌, ◌≤◌, List, length, take, drop, Some, None, Ok, Err, refl, ap, ◌∙◌, ⊎_elim, arith}
use Rattle.std.proofs.lemmas.List.{length-drop, length-take, get_or-take, get_or-drop, get_or_past, take_all}
use Rattle.std.proofs.lemmas.Bool.{cases_lt, cond-true, cond-false, eq-eqb, ne_eqb, lt-ltb, le-ltb}
use Rattle.records.specs.declared.fault.RecordFault.TheVariants.{Tail}
use Rattle.records.specs.declared.record.EntryFields.{EntryFields}
use Rattle.records.specs.declared.record.Message.{Message}
use Rattle.records.specs.declared.record.Message.TheVariants.{Start, Entry, Withdrawal, Opening, Halt, Resumption, Closing}
use Rattle.std.specs.declared.convert.Infallible.{Infallible}
use Rattle.records.specs.Bytes.{closing_bytes, entry_bytes, halt_bytes, letter_alone_bytes, opening_bytes, resumption_bytes, start_bytes, withdrawal_bytes}
use Rattle.records.specs.Layout.{misfit, account_layout}
use Rattle.records.specs.Reading.{Reading, bytes_of, closing, entry, halt, opening, read_32, read_at, resumption, short_reading}
use Rattle.records.proofs.KindRows.{by_letter}
use Rattle.records.specs.Refusals.{on_ok}
use Rattle.records.proofs.RoundTrips.{IsBytes, entry_read_again, start_read_again, withdrawal_read_again}

pub read_at_end : (input : List ℕ) (at : ℕ) → length input ≤ at → read_at input at ≡ Ok None
unfolding read_at
read_at_end input at h = cond-true _ _ _ (eq-eqb (length (drop at input)) 0 (omega (arith, length-drop at input)))

pub read_at_tail : (input : List ℕ) (at : ℕ) → at < length input → length (drop at input) < 32 → read_at input at ≡ Err Tail
unfolding read_at
read_at_tail input at h short =
    cond-false _ _ _ (ne_eqb (length (drop at input)) 0 (λ e. omega (arith, length-drop at input))) ∙ cond-true _ _ _ (lt-ltb _ _ short)

pub read_at_whole : (input : List ℕ) (at : ℕ) → 32 ≤ length (drop at input) → read_at input at ≡ on_ok Some (read_32 (take 32 (drop at input)) at)
unfolding read_at
read_at_whole input at h =
    cond-false _ _ _ (ne_eqb (length (drop at input)) 0 (λ e. omega arith)) ∙ cond-false _ _ _ (le-ltb _ _ h)

-- 32 bytes alone
pub read_at_all : (b : List ℕ) → length b ≡ 32 → read_at b 0 ≡ on_ok Some (read_32 b 0)
read_at_all b h = read_at_whole b 0 (omega arith) ∙ ap (λ x. on_ok Some (read_32 x 0)) (take_all 32 b (omega arith))

pub length_record : (input : List ℕ) (at : ℕ) → 32 ≤ length (drop at input) → length (take 32 (drop at input)) ≡ 32
length_record input at h = omega (arith, length-take 32 (drop at input))

-- a part of bytes is bytes
pub bytes_part : (input : List ℕ) (at n : ℕ) → IsBytes input → IsBytes (take n (drop at input))
bytes_part input at n bytes i =
    ⊎_elim
    (λ lt. omega (arith, get_or-take n (drop at input) i 0 lt, get_or-drop at input i 0, bytes (at + i)))
    (λ ge. omega (arith, get_or_past (take n (drop at input)) i 0 (omega (arith, length-take n (drop at input)))))
    (cases_lt i n)

-- the number in a short record fits its four bytes
abbrev pub NumbersFit : Message ℕ Infallible (Unit {0}) → Type 0
NumbersFit (Start n) = n < 2 ^ 32
NumbersFit (Entry none account) = Unit {0}
NumbersFit (Withdrawal n) = n < 2 ^ 32
NumbersFit Opening = Unit {0}
NumbersFit Halt = Unit {0}
NumbersFit Resumption = Unit {0}
NumbersFit Closing = Unit {0}

-- what is written is read as itself
pub entry_written : (f : EntryFields) (account b : List ℕ) → b ≡ entry_bytes f account → length account ≡ 8 → f.price < 2 ^ 32 → f.quantity < 2 ^ 32 → f.minimum < 2 ^ 32 →
    misfit account_layout account ≡ None → read_at b 0 ≡ Ok (Some (entry f account 24))
entry_written f account b e len price quantity minimum good =
    ap (λ x. read_at x 0) e ∙ (read_at_all (entry_bytes f account) (omega arith) ∙ ap (on_ok Some) (entry_read_again f account 0 price quantity minimum good))

-- a record that is no entry
alone_written : (letter : ℕ) (says : Reading) (b : List ℕ) → b ≡ letter_alone_bytes letter → read_32 (letter_alone_bytes letter) 0 ≡ Ok says → read_at b 0 ≡ Ok (Some says)
alone_written letter says b e h = ap (λ x. read_at x 0) e ∙ (read_at_all (letter_alone_bytes letter) refl ∙ ap (on_ok Some) h)

pub short_written : (m : Message ℕ Infallible (Unit {0})) (b : List ℕ) → b ≡ bytes_of (short_reading m) → NumbersFit m → read_at b 0 ≡ Ok (Some (short_reading m))
short_written (Start n) b e h = ap (λ x. read_at x 0) e ∙ (read_at_all (start_bytes n) refl ∙ ap (on_ok Some) (start_read_again n 0 h))
short_written (Entry none account) b e h = elim none [ ]
short_written (Withdrawal n) b e h = ap (λ x. read_at x 0) e ∙ (read_at_all (withdrawal_bytes n) refl ∙ ap (on_ok Some) (withdrawal_read_again n 0 h))
short_written Opening b e h = alone_written 79 opening b e (by_letter 79 opening_bytes 0 refl)
short_written Halt b e h = alone_written 72 halt b e (by_letter 72 halt_bytes 0 refl)
short_written Resumption b e h = alone_written 82 resumption b e (by_letter 82 resumption_bytes 0 refl)
short_written Closing b e h = alone_written 67 closing b e (by_letter 67 closing_bytes 0 refl)
