-- A refusal as text. Assumes nothing.
use Rattle.std.specs.Prelude.{ℕ, List, ◌++◌, codes, decimal}

-- number, word, layer and byte, as 4 PRICE, layer 2, byte 4
abbrev pub refusal_text : ℕ → List ℕ → ℕ → ℕ → List ℕ
refusal_text number word layer byte =
    decimal number ++ (codes " " ++ (word ++ (codes ", layer " ++ (decimal layer ++ (codes ", byte " ++ decimal byte)))))
