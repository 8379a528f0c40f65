-- The kinds of record, by their letters. Assumes nothing.
use Rattle.std.specs.Prelude.{ℕ, List, ◌≢◌}
use Rattle.records.specs.Layout.{entry_layout, letter_alone_layout, one_number_layout}
use Rattle.records.specs.declared.layout.ByteRule.{ByteRule}
use Rattle.records.specs.declared.letters.Kind.{Kind}
use Rattle.records.specs.declared.letters.Kind.TheVariants.{Start, Entry, Withdrawal, Opening, Halt, Resumption, Closing}

-- D, E, W, O, H, R, C
abbrev pub kind_letter : Kind → ℕ
kind_letter Start = 68
kind_letter Entry = 69
kind_letter Withdrawal = 87
kind_letter Opening = 79
kind_letter Halt = 72
kind_letter Resumption = 82
kind_letter Closing = 67

-- no kind has the letter
abbrev pub HasNoKind : ℕ → Type 0
HasNoKind letter = (kind : Kind) → letter ≢ kind_letter kind

-- what each byte may be
abbrev pub kind_layout : Kind → List ByteRule
kind_layout Start = one_number_layout
kind_layout Entry = entry_layout
kind_layout Withdrawal = one_number_layout
kind_layout Opening = letter_alone_layout
kind_layout Halt = letter_alone_layout
kind_layout Resumption = letter_alone_layout
kind_layout Closing = letter_alone_layout
