-- What is told of a refusal, and the faults of the record layer by it. Assumes nothing.
use Rattle.std.specs.Prelude.{ℕ, Bool, cond, List, [], ◌∷◌, Some, None, Ok, Err, codes, Option, Result}
use Rattle.records.specs.declared.fault.RecordFault.{RecordFault}
use Rattle.records.specs.declared.fault.RecordFault.TheVariants.{Tail, Kind, Byte}
use Rattle.records.specs.declared.refusal.Refusal.{Refusal}

-- a row of the table of refusals
pub record Row : Type 0 where
  pub number : ℕ
  pub word : List ℕ
  pub layer : ℕ
  pub byte : ℕ

abbrev pub row_of : Refusal → Row
row_of r = record { number = r.number; word = r.word.now; layer = r.layer; byte = r.byte }

abbrev pub record_row : RecordFault → Row
record_row Tail = record { number = 1; word = codes "TAIL"; layer = 1; byte = 0 }
record_row Kind = record { number = 2; word = codes "KIND"; layer = 1; byte = 0 }
record_row (Byte place) = record { number = 3; word = codes "BYTE"; layer = 1; byte = place }

-- the first of the faults whose condition holds
abbrev pub first_of : {F : Type 0} → List (Bool × F) → Option F
first_of [] = None
first_of (row ∷ rows) = cond row.0 (Some row.1) (first_of rows)

-- x, unless there is a fault
abbrev pub unless : {F X : Type 0} → Option F → X → Result X F
unless None x = Ok x
unless (Some fault) x = Err fault

-- what is made of an accepted value; a fault stays
abbrev pub on_ok : {F X Y : Type 0} → (X → Y) → Result X F → Result Y F
on_ok f (Ok x) = Ok (f x)
on_ok f (Err fault) = Err fault
