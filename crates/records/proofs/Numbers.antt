-- Four bytes and their number.
use Rattle.std.proofs.Common.{◌≡◌, ℕ, ◌+◌, ◌*◌, ◌/◌, ◌%◌, ◌^◌, ◌<◌, arith}

pub record Four (n a b c d : ℕ) : Type 0 where
  pub first : n / 16777216 % 256 ≡ a
  pub second : n / 65536 % 256 ≡ b
  pub third : n / 256 % 256 ≡ c
  pub fourth : n % 256 ≡ d

pub bytes_again : (a b c d : ℕ) → a < 256 → b < 256 → c < 256 → d < 256 → Four (a * 16777216 + b * 65536 + c * 256 + d) a b c d
bytes_again a b c d ha hb hc hd = record { first = omega arith; second = omega arith; third = omega arith; fourth = omega arith }

pub number_again : (n : ℕ) → n < 2 ^ 32 → n / 16777216 % 256 * 16777216 + n / 65536 % 256 * 65536 + n / 256 % 256 * 256 + n % 256 ≡ n
number_again n h =
    let e2 : n / 65536 ≡ n / 256 / 256 = omega arith in
    let e3 : n / 16777216 ≡ n / 256 / 256 / 256 = omega arith in
    let f1 : n ≡ n / 256 * 256 + n % 256 = omega arith in
    let f2 : n / 256 ≡ n / 65536 * 256 + n / 256 % 256 = omega arith in
    let f3 : n / 65536 ≡ n / 16777216 * 256 + n / 65536 % 256 = omega arith in
    let f4 : n / 16777216 % 256 ≡ n / 16777216 = omega arith in
    omega arith
