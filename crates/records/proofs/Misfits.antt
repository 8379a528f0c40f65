-- Where the first byte that breaks its rule stands, and what it says of each byte where there is none.
use Rattle.std.proofs.Common.{IsAscii, List, None, Option, Some, [], ap, arith, drop, false, get_or, length, lit<, refl, replicate, suc, sym, true, zero, ℕ, ⊎_elim, ◌<◌, ◌∙◌, ◌∷◌, ◌≡◌, ◌≤◌}
use Rattle.std.specs.Option.{option_map}
use Rattle.std.specs.Option.{MatchOption}
use Rattle.std.proofs.lemmas.Bool.{and_parts, cases_Bool, cond-true, cond-false, leb-true}
use Rattle.records.specs.declared.layout.ByteRule.{ByteRule}
use Rattle.records.specs.declared.layout.ByteRule.TheVariants.{Any, CapacityLetter, Printable}
use Rattle.records.specs.Layout.{account_layout, entry_layout, fits, misfit}

-- each byte keeps its rule
abbrev pub Fit : List ByteRule → List ℕ → Type 0
Fit [] bs = Unit {0}
Fit (rule ∷ rules) [] = Unit {0}
Fit (rule ∷ rules) (b ∷ bs) = (fits rule b ≡ true) × Fit rules bs

pub none_from_fit : (rules : List ByteRule) (bytes : List ℕ) → Fit rules bytes → misfit rules bytes ≡ None
none_from_fit [] bs h = refl
none_from_fit (rule ∷ rules) [] h = refl
none_from_fit (rule ∷ rules) (b ∷ bs) h = cond-true _ _ _ h.0 ∙ ap (option_map suc) (none_from_fit rules bs h.1)

mapped_none : (o : Option ℕ) → option_map suc o ≡ None → o ≡ None
mapped_none None e = refl
mapped_none (Some n) e = absurd (let z : ◌≡◌ {A = ℕ} 0 1 = cc in omega arith)

pub fit_from_none : (rules : List ByteRule) (bytes : List ℕ) → misfit rules bytes ≡ None → Fit rules bytes
fit_from_none [] bs e = tt
fit_from_none (rule ∷ rules) [] e = tt
fit_from_none (rule ∷ rules) (b ∷ bs) e =
    ⊎_elim
    (λ yes. (yes, fit_from_none rules bs (mapped_none (misfit rules bs) (sym (cond-true _ _ _ yes) ∙ e))))
    (λ fails. absurd (let z : ◌≡◌ {A = ℕ} 0 1 = let e2 = sym (cond-false (fits rule b) (option_map suc (misfit rules bs)) (Some 0) fails) ∙ e in cc in omega arith))
    (cases_Bool (fits rule b))

-- by index
fit_from_each : (rules : List ByteRule) (bytes : List ℕ) → ((i : ℕ) → i < length rules → i < length bytes → fits (get_or rules i Any) (get_or bytes i 0) ≡ true) → Fit rules bytes
fit_from_each [] bs h = tt
fit_from_each (rule ∷ rules) [] h = tt
fit_from_each (rule ∷ rules) (b ∷ bs) h = (h 0 (omega arith) (omega arith), fit_from_each rules bs (λ i hr hb. h (suc i) (omega arith) (omega arith)))

misfit_at : (rules : List ByteRule) (bytes : List ℕ) (i : ℕ) → i < length rules → i < length bytes → fits (get_or rules i Any) (get_or bytes i 0) ≡ false
    → ((j : ℕ) → j < i → fits (get_or rules j Any) (get_or bytes j 0) ≡ true) → misfit rules bytes ≡ Some i
misfit_at [] bs i hr hb e h = absurd (omega arith)
misfit_at (rule ∷ rules) [] i hr hb e h = absurd (omega arith)
misfit_at (rule ∷ rules) (b ∷ bs) zero hr hb e h = cond-false _ _ _ e
misfit_at (rule ∷ rules) (b ∷ bs) (suc i) hr hb e h =
    cond-true _ _ _ (h 0 (omega arith)) ∙ ap (option_map suc) (misfit_at rules bs i (omega arith) (omega arith) e (λ j l. h (suc j) (omega arith)))

-- what a look along both lists tells
abbrev pub Looked : List ByteRule → List ℕ → Option ℕ → Type 0
Looked rules bytes found =
    MatchOption found ((i : ℕ) → i < length rules → i < length bytes → fits (get_or rules i Any) (get_or bytes i 0) ≡ true)
    (λ i. (i < length rules) × (i < length bytes) × (fits (get_or rules i Any) (get_or bytes i 0) ≡ false)
    × ((j : ℕ) → j < i → fits (get_or rules j Any) (get_or bytes j 0) ≡ true))

pub misfit_found : (rules : List ByteRule) (bytes : List ℕ) (found : Option ℕ) → Looked rules bytes found → found ≡ misfit rules bytes
misfit_found rules bytes None h = sym (none_from_fit rules bytes (fit_from_each rules bytes h))
misfit_found rules bytes (Some i) h = sym (misfit_at rules bytes i h.0 h.1 h.2 h.3)

-- at an index
pub fit_at : (rules : List ByteRule) (bytes : List ℕ) → Fit rules bytes → (i : ℕ) (r : ByteRule) → i < length rules → i < length bytes → fits (get_or rules i r) (get_or bytes i 0) ≡ true
fit_at [] bs h i r hr hb = absurd (omega arith)
fit_at (rule ∷ rules) [] h i r hr hb = absurd (omega arith)
fit_at (rule ∷ rules) (b ∷ bs) h zero r hr hb = h.0
fit_at (rule ∷ rules) (b ∷ bs) h (suc i) r hr hb = fit_at rules bs h.1 i r (omega arith) (omega arith)

-- an entry's letter of capacity
pub capacity_fits : (b : List ℕ) → length b ≡ 32 → misfit entry_layout b ≡ None → fits CapacityLetter (get_or b 20 0) ≡ true
capacity_fits b len e = fit_at entry_layout b (fit_from_none entry_layout b e) 20 Any (lit< tt) (omega arith)

-- and its account
fit_nil : (rules : List ByteRule) → Fit rules []
fit_nil [] = tt
fit_nil (rule ∷ rules) = tt

pub fit_drop : (rules : List ByteRule) (b : List ℕ) (n : ℕ) → Fit rules b → Fit (drop n rules) (drop n b)
fit_drop rules b zero h = h
fit_drop [] b (suc n) h = tt
fit_drop (rule ∷ rules) [] (suc n) h = fit_nil (drop n rules)
fit_drop (rule ∷ rules) (x ∷ b) (suc n) h = fit_drop rules b n h.1

pub account_fits : (b : List ℕ) → misfit entry_layout b ≡ None → misfit account_layout (drop 20 (drop 4 b)) ≡ None
account_fits b e =
    none_from_fit account_layout (drop 20 (drop 4 b)) (fit_drop (drop 4 entry_layout) (drop 4 b) 20 (fit_drop entry_layout b 4 (fit_from_none entry_layout b e)))

-- printable bytes are text
all_ascii : (n : ℕ) (a : List ℕ) → Fit (replicate n Printable) a → length a ≤ n → IsAscii a
all_ascii n [] h le i = omega arith
all_ascii zero (b ∷ a) h le i = absurd (omega arith)
all_ascii (suc n) (b ∷ a) h le zero = omega (arith, leb-true b 126 (and_parts _ _ h.0).1)
all_ascii (suc n) (b ∷ a) h le (suc i) = all_ascii n a h.1 (omega arith) i

pub printable_ascii : (account : List ℕ) → length account ≤ 8 → misfit account_layout account ≡ None → IsAscii account
printable_ascii account short e = all_ascii 8 account (fit_from_none account_layout account e) short
