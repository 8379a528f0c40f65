-- What each byte of a record may be. Assumes nothing.
use Rattle.std.specs.Prelude.{ℕ, suc, Bool, true, cond, ◌&&◌, ◌||◌, List, [], ◌∷◌, ◌++◌, replicate, Some, None, Option, ◌==◌, nat_le}
use Rattle.std.specs.Option.{option_map}
use Rattle.records.specs.declared.layout.ByteRule.{ByteRule}
use Rattle.records.specs.declared.layout.ByteRule.TheVariants.{Any, Zero, SideLetter, TypeLetter, QualifierLetter, CapacityLetter, Printable}

-- the letters B S, L M, N F I and I D; printable from 0x21 to 0x7E
abbrev pub fits : ByteRule → ℕ → Bool
fits Any b = true
fits Zero b = b == 0
fits SideLetter b = b == 66 || b == 83
fits TypeLetter b = b == 76 || b == 77
fits QualifierLetter b = b == 78 || (b == 70 || b == 73)
fits CapacityLetter b = b == 73 || b == 68
fits Printable b = nat_le 33 b && nat_le b 126

-- the place of the first byte that breaks its rule
abbrev pub misfit : List ByteRule → List ℕ → Option ℕ
misfit [] bs = None
misfit (rule ∷ rules) [] = None
misfit (rule ∷ rules) (b ∷ bs) = cond (fits rule b) (option_map suc (misfit rules bs)) (Some 0)

abbrev pub entry_layout : List ByteRule
entry_layout =
    Any ∷ SideLetter ∷ TypeLetter ∷ QualifierLetter ∷ (replicate 8 Any ++ (replicate 4 Zero ++ (replicate 4 Any ++ (CapacityLetter ∷ (replicate 3 Zero ++ replicate 8 Printable)))))

abbrev pub one_number_layout : List ByteRule
one_number_layout = Any ∷ (replicate 3 Zero ++ (replicate 4 Any ++ replicate 24 Zero))

abbrev pub letter_alone_layout : List ByteRule
letter_alone_layout = Any ∷ replicate 31 Zero

abbrev pub account_layout : List ByteRule
account_layout = replicate 8 Printable
