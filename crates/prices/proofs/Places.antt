-- A number below 10,000 that is printed with four places is its four digits.
use Rattle.std.proofs.Common.{◌≡◌, ℕ, ◌+◌, ◌/◌, ◌%◌, ◌<◌, ◌≤◌, false, List, [], ◌∷◌, ◌++◌, sym, refl, ap, ◌∙◌, ⊎_elim, arith}
use Rattle.std.proofs.lemmas.Bool.{cases_lt}
use Rattle.std.proofs.lemmas.Fmt.{decimal_digit, decimal_step}
use Rattle.std.specs.Fmt.{char_count, decimal, format_spec, padded_integral, styled_decimal}
use Rattle.prices.specs.Text.{price_text}

-- the digits from the thousands on
abbrev digits_of_four : ℕ → List ℕ
digits_of_four n = (48 + n / 1000 % 10) ∷ (48 + n / 100 % 10) ∷ (48 + n / 10 % 10) ∷ (48 + n % 10) ∷ []

digits_one_by_one : (n : ℕ) → decimal (n / 1000 % 10) ++ (decimal (n / 100 % 10) ++ (decimal (n / 10 % 10) ++ decimal (n % 10))) ≡ digits_of_four n
digits_one_by_one n =
    rw (decimal_digit (n / 1000 % 10) (omega arith), decimal_digit (n / 100 % 10) (omega arith), decimal_digit (n / 10 % 10) (omega arith), decimal_digit (n % 10) (omega arith)) refl

abbrev in_four : List ℕ → List ℕ
in_four ds = padded_integral (format_spec 32 0 4 4 18446744073709551615) false [] ds

one_digit : (n : ℕ) → n < 10 → decimal n ≡ (48 + n % 10) ∷ []
one_digit n l = decimal_digit n l ∙ ap (λ d. (48 + d) ∷ []) (omega arith)

two_digits : (n : ℕ) → 10 ≤ n → n < 100 → decimal n ≡ (48 + n / 10 % 10) ∷ (48 + n % 10) ∷ []
two_digits n m l = decimal_step n m (omega arith) ∙ ap (λ ds. ds ++ (48 + n % 10) ∷ []) (one_digit (n / 10) (omega arith))

three_digits : (n : ℕ) → 100 ≤ n → n < 1000 → decimal n ≡ (48 + n / 100 % 10) ∷ (48 + n / 10 % 10) ∷ (48 + n % 10) ∷ []
three_digits n m l =
    decimal_step n (omega arith) (omega arith) ∙ ap (λ ds. ds ++ (48 + n % 10) ∷ []) (two_digits (n / 10) (omega arith) (omega arith))
    ∙ ap (λ d. (48 + d % 10) ∷ (48 + n / 10 % 10) ∷ (48 + n % 10) ∷ []) (omega arith)

four_digits : (n : ℕ) → 1000 ≤ n → n < 10000 → decimal n ≡ digits_of_four n
four_digits n m l =
    let hundreds : n / 10 / 100 ≡ n / 1000 = omega arith in
    let tens : n / 10 / 10 ≡ n / 100 = omega arith in
    decimal_step n (omega arith) (omega arith) ∙ ap (λ ds. ds ++ (48 + n % 10) ∷ []) (three_digits (n / 10) (omega arith) (omega arith))
    ∙ rw (hundreds, tens) refl

-- what stands before fewer digits
padded_one : (a : ℕ) → in_four (a ∷ []) ≡ 48 ∷ 48 ∷ 48 ∷ a ∷ []
unfolding padded_integral char_count
padded_one a = refl

padded_two : (a b : ℕ) → in_four (a ∷ b ∷ []) ≡ 48 ∷ 48 ∷ a ∷ b ∷ []
unfolding padded_integral char_count
padded_two a b = refl

padded_three : (a b c : ℕ) → in_four (a ∷ b ∷ c ∷ []) ≡ 48 ∷ a ∷ b ∷ c ∷ []
unfolding padded_integral char_count
padded_three a b c = refl

padded_four : (a b c d : ℕ) → in_four (a ∷ b ∷ c ∷ d ∷ []) ≡ a ∷ b ∷ c ∷ d ∷ []
unfolding padded_integral char_count
padded_four a b c d = refl

in_four_is : (n : ℕ) → n < 10000 → in_four (decimal n) ≡ digits_of_four n
in_four_is n l =
    ⊎_elim
    (λ one. ap in_four (one_digit n one) ∙ padded_one _ ∙ rw (zeros (n / 1000) (omega arith), zeros (n / 100) (omega arith), zeros (n / 10) (omega arith)) refl)
    (λ more. ⊎_elim
    (λ two. ap in_four (two_digits n more two) ∙ padded_two _ _ ∙ rw (zeros (n / 1000) (omega arith), zeros (n / 100) (omega arith)) refl)
    (λ many. ⊎_elim
    (λ three. ap in_four (three_digits n many three) ∙ padded_three _ _ _ ∙ rw (zeros (n / 1000) (omega arith)) refl)
    (λ four. ap in_four (four_digits n four l) ∙ padded_four _ _ _ _)
    (cases_lt n 1000))
    (cases_lt n 100))
    (cases_lt n 10)
  where
    zeros : (d : ℕ) → d ≡ 0 → d % 10 ≡ 0
    zeros d e = omega arith

-- what is printed is the price's text
pub price_printed : (n : ℕ) → decimal (n / 10000) ++ 46 ∷ styled_decimal (format_spec 32 0 4 4 18446744073709551615) (n % 10000) ≡ price_text n
price_printed n =
    let places = n % 10000 in
    let thousands : places / 1000 % 10 ≡ n / 1000 % 10 = omega arith in
    let hundreds : places / 100 % 10 ≡ n / 100 % 10 = omega arith in
    let tens : places / 10 % 10 ≡ n / 10 % 10 = omega arith in
    let ones : places % 10 ≡ n % 10 = omega arith in
    ap (λ ds. decimal (n / 10000) ++ 46 ∷ ds) (in_four_is places (omega arith) ∙ sym (digits_one_by_one places) ∙ rw (thousands, hundreds, tens, ones) refl)
