-- The row of the table of kinds that a record's letter picks.
use Rattle.std.proofs.Common.{◌≡◌, ℕ, List, [], ◌∷◌, drop, get_or, Err, None, Ok, Option, Result, Some, refl, ap, ◌∙◌, arith}
use Rattle.std.proofs.lemmas.Bool.{cond-false, ne_eqb}
use Rattle.std.specs.Option.{option_map}
use Rattle.records.specs.declared.fault.RecordFault.{RecordFault}
use Rattle.records.specs.declared.fault.RecordFault.TheVariants.{Byte}
use Rattle.records.specs.declared.fault.RecordFault.TheVariants as fault
use Rattle.records.specs.declared.letters.Kind.{Kind}
use Rattle.records.specs.declared.letters.Kind.TheVariants.{Start, Entry, Withdrawal, Opening, Halt, Resumption, Closing}
use Rattle.records.specs.Bytes.{number_at}
use Rattle.records.specs.Kinds.{HasNoKind, kind_layout, kind_letter}
use Rattle.records.specs.Layout.{misfit}
use Rattle.records.specs.Reading.{KindRow, Reading, closing, entry_after, halt, kinds, opening, read_32, read_by, resumption, start, withdrawal}
use Rattle.records.specs.Refusals.{unless}

pub by_letter : (letter : ℕ) (b : List ℕ) (at : ℕ) → get_or b 0 0 ≡ letter → read_32 b at ≡ read_by letter kinds b at
unfolding read_32
by_letter letter b at e = ap (λ x. read_by x kinds b at) e

-- what the bytes of a record of the kind say
abbrev pub said : Kind → List ℕ → ℕ → Reading
said Start b at = start (number_at b 4)
said Entry b at = entry_after (get_or b 1 0) (get_or b 2 0) (get_or b 3 0) (drop 4 b) at
said Withdrawal b at = withdrawal (number_at b 4)
said Opening b at = opening
said Halt b at = halt
said Resumption b at = resumption
said Closing b at = closing

row_of_kind : (kind : Kind) (b : List ℕ) (at : ℕ) → read_by (kind_letter kind) kinds b at ≡ unless (option_map Byte (misfit (kind_layout kind) b)) (said kind b at)
row_of_kind Start b at = refl
row_of_kind Entry b at = refl
row_of_kind Withdrawal b at = refl
row_of_kind Opening b at = refl
row_of_kind Halt b at = refl
row_of_kind Resumption b at = refl
row_of_kind Closing b at = refl

pub by_kind : (kind : Kind) (b : List ℕ) (at : ℕ) → get_or b 0 0 ≡ kind_letter kind → read_32 b at ≡ unless (option_map Byte (misfit (kind_layout kind) b)) (said kind b at)
by_kind kind b at e = by_letter (kind_letter kind) b at e ∙ row_of_kind kind b at

-- a letter that differs from that of every row
abbrev pub Unlisted : ℕ → List KindRow → Type 0
Unlisted letter [] = Unit {0}
Unlisted letter (kind ∷ kinds) = (letter ≡ kind.letter → ⊥) × Unlisted letter kinds

unlisted_by : (letter : ℕ) (rows : List KindRow) (b : List ℕ) (at : ℕ) → Unlisted letter rows → read_by letter rows b at ≡ Err fault.Kind
unlisted_by letter [] b at h = refl
unlisted_by letter (kind ∷ rows) b at h = cond-false _ _ _ (ne_eqb letter kind.letter h.0) ∙ unlisted_by letter rows b at h.1

pub unlisted : (b : List ℕ) (at : ℕ) → HasNoKind (get_or b 0 0) → read_32 b at ≡ Err fault.Kind
unfolding read_32
unlisted b at h = unlisted_by (get_or b 0 0) kinds b at (h Start, (h Entry, (h Withdrawal, (h Opening, (h Halt, (h Resumption, (h Closing, tt)))))))

-- where a record is refused or kept by its layout, so is what it says
pub refused_by : {X : Type 0} (o : Option ℕ) (r : Result (Unit {0}) RecordFault) (f : RecordFault) (x : X) → r ≡ unless (option_map Byte o) tt → r ≡ Err f → unless (option_map Byte o) x ≡ Err f
refused_by None r f x e h = absurd (let z : ◌≡◌ {A = ℕ} 0 1 = cc in omega arith)
refused_by (Some place) r f x e h = cc

pub kept_by : {X : Type 0} (o : Option ℕ) (r : Result (Unit {0}) RecordFault) (u : Unit {0}) (x : X) → r ≡ unless (option_map Byte o) tt → r ≡ Ok u → unless (option_map Byte o) x ≡ Ok x
kept_by None r u x e h = refl
kept_by (Some place) r u x e h = absurd (let z : ◌≡◌ {A = ℕ} 0 1 = cc in omega arith)
