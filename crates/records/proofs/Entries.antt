-- An entry's fields and its account, by the bytes that they stand in.
use Rattle.std.proofs.Common.{◌≡◌, ℕ, ◌+◌, Bool, true, false, if◌then◌else◌, List, get_or, drop, Some, None, Ok, Err, Result, sym, refl, ap, ◌∙◌, arith}
use Rattle.std.proofs.lemmas.List.{get_or-drop}
use Rattle.std.specs.Result.{result_ok}
use Rattle.records.specs.declared.letters.Side.{Side}
use Rattle.records.specs.declared.letters.OrderType.{OrderType}
use Rattle.records.specs.declared.letters.Qualifier.{Qualifier}
use Rattle.records.specs.declared.letters.Capacity.{Capacity}
use Rattle.records.specs.Bytes.{number_at}
use Rattle.records.specs.Letters.{capacity_of, qualifier_of, side_of, type_of}
use Rattle.records.specs.Reading.{entry, entry_after}

-- what a letter was turned into is what it spells
pub spelled : {X F : Type 0} (listed : Bool) (r : Result X F) (x y : X) → result_ok r ≡ (if listed then Some y else None) → r ≡ Ok x → x ≡ y
spelled true (Ok z) x y e h = cc
spelled true (Err f) x y e h = absurd (let z : ◌≡◌ {A = ℕ} 0 1 = cc in omega arith)
spelled false (Ok z) x y e h = absurd (let z : ◌≡◌ {A = ℕ} 0 1 = cc in omega arith)
spelled false (Err f) x y e h = absurd (let z : ◌≡◌ {A = ℕ} 0 1 = cc in omega arith)

number_behind : (b : List ℕ) (n i : ℕ) → number_at b (n + i) ≡ number_at (drop n b) i
number_behind b n i =
    let second : n + i + 1 ≡ n + (i + 1) = omega arith in
    let third : n + i + 2 ≡ n + (i + 2) = omega arith in
    let fourth : n + i + 3 ≡ n + (i + 3) = omega arith in
    rw (get_or-drop n b i 0, get_or-drop n b (i + 1) 0, get_or-drop n b (i + 2) 0, get_or-drop n b (i + 3) 0, second, third, fourth) refl

pub entry_is :
    (b : List ℕ) (at : ℕ) (s : Side) (t : OrderType) (q : Qualifier) (p u m : ℕ) (c : Capacity) (account : List ℕ) (place : ℕ)
    → s ≡ side_of (get_or b 1 0) → t ≡ type_of (get_or b 2 0) → q ≡ qualifier_of (get_or b 3 0)
    → p ≡ number_at b 4 → u ≡ number_at b 8 → m ≡ number_at b 16
    → c ≡ capacity_of (get_or b 20 0) → account ≡ drop 20 (drop 4 b) → place ≡ at + 24
    → entry (record { side = s; order_type = t; qualifier = q; price = p; quantity = u; minimum = m; capacity = c }) account place
    ≡ entry_after (get_or b 1 0) (get_or b 2 0) (get_or b 3 0) (drop 4 b) at
entry_is b at s t q p u m c account place es et eq ep eu em ec ea ei =
    let price = ep ∙ number_behind b 4 0 in
    let quantity = eu ∙ number_behind b 4 4 in
    let minimum = em ∙ number_behind b 4 12 in
    let capacity : c ≡ capacity_of (get_or (drop 4 b) 16 0) = ec ∙ ap capacity_of (sym (get_or-drop 4 b 16 0)) in
    cc
