-- Records written. Assumes nothing.
use Rattle.std.specs.Prelude.{ℕ, ◌+◌, ◌*◌, ◌/◌, ◌%◌, List, [], ◌∷◌, ◌++◌, replicate, slice_index}
use Rattle.records.specs.declared.record.EntryFields.{EntryFields}
use Rattle.records.specs.Letters.{side_letter, type_letter, qualifier_letter, capacity_letter}

-- a number in four bytes, high byte first, and the number that four bytes from a place make
abbrev pub number_bytes : ℕ → List ℕ
number_bytes n = (n / 16777216 % 256) ∷ (n / 65536 % 256) ∷ (n / 256 % 256) ∷ (n % 256) ∷ []

abbrev pub number_at : List ℕ → ℕ → ℕ
number_at b i = slice_index b i * 16777216 + slice_index b (i + 1) * 65536 + slice_index b (i + 2) * 256 + slice_index b (i + 3)

-- E
abbrev pub entry_bytes : EntryFields → List ℕ → List ℕ
entry_bytes f account =
    69 ∷ side_letter f.side ∷ type_letter f.order_type ∷ qualifier_letter f.qualifier
    ∷ (number_bytes f.price ++ (number_bytes f.quantity ++ (replicate 4 0 ++ (number_bytes f.minimum ++ (capacity_letter f.capacity ∷ (replicate 3 0 ++ account))))))

-- a letter and a number
abbrev pub one_number_bytes : ℕ → ℕ → List ℕ
one_number_bytes letter n = letter ∷ (replicate 3 0 ++ (number_bytes n ++ replicate 24 0))

-- a letter alone
abbrev pub letter_alone_bytes : ℕ → List ℕ
letter_alone_bytes letter = letter ∷ replicate 31 0

-- D, W, O, H, R, C
abbrev pub start_bytes : ℕ → List ℕ
start_bytes reference = one_number_bytes 68 reference

abbrev pub withdrawal_bytes : ℕ → List ℕ
withdrawal_bytes number = one_number_bytes 87 number

abbrev pub opening_bytes : List ℕ
opening_bytes = letter_alone_bytes 79

abbrev pub halt_bytes : List ℕ
halt_bytes = letter_alone_bytes 72

abbrev pub resumption_bytes : List ℕ
resumption_bytes = letter_alone_bytes 82

abbrev pub closing_bytes : List ℕ
closing_bytes = letter_alone_bytes 67
