-- A record that is read and written again, and one that is written and read again.
use Rattle.std.proofs.Common.{◌≡◌, ℕ, zero, suc, ◌+◌, ◌^◌, ◌<◌, true, eqb, List, [], ◌∷◌, length, get_or, take, drop, replicate, Some, None, Ok, Option, sym, refl, ap, ◌∙◌, subst, ⊎_elim, arith, lit<}
use Rattle.std.proofs.lemmas.List.{drop-drop, drop-take}
use Rattle.std.proofs.lemmas.Bool.{cases_Bool, cond-true, cond-false, eqb-true, or_cases}
use Rattle.records.specs.declared.layout.ByteRule.TheVariants.{Any, Zero, SideLetter, TypeLetter, QualifierLetter, CapacityLetter}
use Rattle.records.specs.declared.letters.Side.{Side}
use Rattle.records.specs.declared.letters.Side.TheVariants.{Buy, Sell}
use Rattle.records.specs.declared.letters.OrderType.{OrderType}
use Rattle.records.specs.declared.letters.OrderType.TheVariants.{Limit, Market}
use Rattle.records.specs.declared.letters.Qualifier.{Qualifier}
use Rattle.records.specs.declared.letters.Qualifier.TheVariants.{Unqualified, FillOrKill, ImmediateOrCancel}
use Rattle.records.specs.declared.letters.Capacity.{Capacity}
use Rattle.records.specs.declared.letters.Capacity.TheVariants.{Investor, Dealer}
use Rattle.records.specs.declared.fault.RecordFault.TheVariants.{Byte}
use Rattle.records.specs.declared.record.EntryFields.{EntryFields}
use Rattle.records.specs.Letters.{side_letter, side_of, type_letter, type_of, qualifier_letter, qualifier_of, capacity_letter, capacity_of}
use Rattle.records.specs.Layout.{fits, misfit, entry_layout, one_number_layout, letter_alone_layout, account_layout}
use Rattle.records.specs.Bytes.{entry_bytes, one_number_bytes, number_at}
use Rattle.records.specs.Reading.{AccountIn, Reading, account_fault, start, entry, withdrawal, KindRow, kinds, bytes_of, entry_after, read_by, read_32}
use Rattle.records.proofs.Misfits.{Fit, fit_at, fit_drop, fit_from_none, none_from_fit}
use Rattle.records.proofs.KindRows.{by_letter}
use Rattle.records.specs.Refusals.{unless}
use Rattle.std.specs.Option.{option_map}
use Rattle.records.proofs.Numbers.{bytes_again, number_again}

-- the list of n items from i on
abbrev pub listed : ℕ → ℕ → (ℕ → ℕ) → List ℕ
listed zero i x = []
listed (suc n) i x = x i ∷ listed n (suc i) x

pub listed_is : (n i : ℕ) (x : ℕ → ℕ) (b : List ℕ) → length b ≡ n → ((k : ℕ) → get_or b k 0 ≡ x (i + k)) → b ≡ listed n i x
listed_is zero i x [] e h = refl
listed_is zero i x (y ∷ ys) e h = absurd (omega arith)
listed_is (suc n) i x [] e h = absurd (omega arith)
listed_is (suc n) i x (y ∷ ys) e h =
    let first : y ≡ x i = h 0 ∙ ap x (omega arith) in
    let rest : ys ≡ listed n (suc i) x = listed_is n (suc i) x ys (omega arith) (λ k. h (suc k) ∙ ap x (omega arith)) in
    cc

-- what holds of every 32 items holds of every list of 32
all_32 : (P : List ℕ → Type 0) → ((x : ℕ → ℕ) → P (listed 32 0 x)) → (b : List ℕ) → length b ≡ 32 → P b
all_32 P h b e = subst P (sym (listed_is 32 0 (λ i. get_or b i 0) b e (λ k. ap (λ j. get_or b j 0) (omega arith)))) (h (λ i. get_or b i 0))

-- letters
side_again : (b : ℕ) → fits SideLetter b ≡ true → side_letter (side_of b) ≡ b
side_again b h =
    ⊎_elim (λ e. let f = eqb-true b 66 e in ap side_letter (cond-true (eqb b 66) Buy Sell e) ∙ sym f)
    (λ e. let f = eqb-true b 83 e in ap (λ x. side_letter (side_of x)) f ∙ sym f)
    (or_cases _ _ h)

type_again : (b : ℕ) → fits TypeLetter b ≡ true → type_letter (type_of b) ≡ b
type_again b h =
    ⊎_elim (λ e. let f = eqb-true b 76 e in ap (λ x. type_letter (type_of x)) f ∙ sym f)
    (λ e. let f = eqb-true b 77 e in ap (λ x. type_letter (type_of x)) f ∙ sym f)
    (or_cases _ _ h)

qualifier_again : (b : ℕ) → fits QualifierLetter b ≡ true → qualifier_letter (qualifier_of b) ≡ b
qualifier_again b h =
    ⊎_elim (λ e. let f = eqb-true b 78 e in ap (λ x. qualifier_letter (qualifier_of x)) f ∙ sym f)
    (λ r. ⊎_elim (λ e. let f = eqb-true b 70 e in ap (λ x. qualifier_letter (qualifier_of x)) f ∙ sym f)
    (λ e. let f = eqb-true b 73 e in ap (λ x. qualifier_letter (qualifier_of x)) f ∙ sym f)
    (or_cases _ _ r))
    (or_cases _ _ h)

capacity_again : (b : ℕ) → fits CapacityLetter b ≡ true → capacity_letter (capacity_of b) ≡ b
capacity_again b h =
    ⊎_elim (λ e. let f = eqb-true b 73 e in ap (λ x. capacity_letter (capacity_of x)) f ∙ sym f)
    (λ e. let f = eqb-true b 68 e in ap (λ x. capacity_letter (capacity_of x)) f ∙ sym f)
    (or_cases _ _ h)

-- bytes of a slice
abbrev pub IsBytes : List ℕ → Type 0
IsBytes b = (i : ℕ) → get_or b i 0 < 256

zeros : (n : ℕ) (bs : List ℕ) → length bs ≡ n → Fit (replicate n Zero) bs → replicate n 0 ≡ bs
zeros zero [] e h = refl
zeros zero (b ∷ bs) e h = absurd (omega arith)
zeros (suc n) [] e h = absurd (omega arith)
zeros (suc n) (b ∷ bs) e h =
    let first = eqb-true b 0 h.0 in
    let rest = zeros n bs (omega arith) h.1 in
    cc

alone_again : (letter : ℕ) (x : ℕ → ℕ) → x 0 ≡ letter → Fit letter_alone_layout (listed 32 0 x) → (letter ∷ replicate 31 0) ≡ listed 32 0 x
alone_again letter x e h = let rest = zeros 31 (listed 31 1 x) refl h.1 in cc

number_from_again : (letter : ℕ) (x : ℕ → ℕ) → IsBytes (listed 32 0 x) → x 0 ≡ letter → Fit one_number_layout (listed 32 0 x) →
    one_number_bytes letter (number_at (listed 32 0 x) 4) ≡ listed 32 0 x
number_from_again letter x bytes e h =
    let front = zeros 3 (listed 3 1 x) refl (h.1.0, (h.1.1.0, (h.1.1.1.0, tt))) in
    let n = bytes_again (x 4) (x 5) (x 6) (x 7) (bytes 4) (bytes 5) (bytes 6) (bytes 7) in
    let rest = zeros 24 (listed 24 8 x) refl h.1.1.1.1.1.1.1.1 in
    cc

entry_again : (x : ℕ → ℕ) (at : ℕ) → IsBytes (listed 32 0 x) → x 0 ≡ 69 → Fit entry_layout (listed 32 0 x) →
    bytes_of (entry_after (x 1) (x 2) (x 3) (listed 28 4 x) at) ≡ listed 32 0 x
entry_again x at bytes e h =
    let fit = fit_at entry_layout (listed 32 0 x) h in
    let side = side_again (x 1) h.1.0 in
    let type = type_again (x 2) h.1.1.0 in
    let qualifier = qualifier_again (x 3) h.1.1.1.0 in
    let price = bytes_again (x 4) (x 5) (x 6) (x 7) (bytes 4) (bytes 5) (bytes 6) (bytes 7) in
    let quantity = bytes_again (x 8) (x 9) (x 10) (x 11) (bytes 8) (bytes 9) (bytes 10) (bytes 11) in
    let z12 = eqb-true (x 12) 0 (fit 12 Any (lit< tt) (lit< tt)) in
    let z13 = eqb-true (x 13) 0 (fit 13 Any (lit< tt) (lit< tt)) in
    let z14 = eqb-true (x 14) 0 (fit 14 Any (lit< tt) (lit< tt)) in
    let z15 = eqb-true (x 15) 0 (fit 15 Any (lit< tt) (lit< tt)) in
    let minimum = bytes_again (x 16) (x 17) (x 18) (x 19) (bytes 16) (bytes 17) (bytes 18) (bytes 19) in
    let capacity = capacity_again (x 20) (fit 20 Any (lit< tt) (lit< tt)) in
    let z21 = eqb-true (x 21) 0 (fit 21 Any (lit< tt) (lit< tt)) in
    let z22 = eqb-true (x 22) 0 (fit 22 Any (lit< tt) (lit< tt)) in
    let z23 = eqb-true (x 23) 0 (fit 23 Any (lit< tt) (lit< tt)) in
    cc

-- what each kind of the table says of the bytes
abbrev EachSays : (Reading → Type 0) → List KindRow → List ℕ → ℕ → Type 0
EachSays P [] b at = Unit {0}
EachSays P (kind ∷ rows) b at = (get_or b 0 0 ≡ kind.letter → Fit kind.layout b → P (kind.says b at)) × EachSays P rows b at

kinds_again : (at : ℕ) (x : ℕ → ℕ) → IsBytes (listed 32 0 x) → EachSays (λ m. bytes_of m ≡ listed 32 0 x) kinds (listed 32 0 x) at
kinds_again at x bytes = (
  number_from_again 68 x bytes,
  (
    entry_again x at bytes,
    (
      number_from_again 87 x bytes,
      (
        alone_again 79 x,
        (
          alone_again 72 x,
          (
            alone_again 82 x,
            (
              alone_again 67 x,
              tt,
            ),
          ),
        ),
      ),
    ),
  ),
)

says_from : (o : Option ℕ) (says m : Reading) → unless (option_map Byte o) says ≡ Ok m → (o ≡ None) × (says ≡ m)
says_from None says m e = (refl, cc)
says_from (Some i) says m e = absurd (let z : ◌≡◌ {A = ℕ} 0 1 = cc in omega arith)

read_by_says : (P : Reading → Type 0) (rows : List KindRow) (b : List ℕ) (at : ℕ) (m : Reading) → EachSays P rows b at → read_by (get_or b 0 0) rows b at ≡ Ok m → P m
read_by_says P [] b at m h e = absurd (let z : ◌≡◌ {A = ℕ} 0 1 = cc in omega arith)
read_by_says P (kind ∷ rows) b at m h e =
    ⊎_elim
    (λ yes.
    let s = says_from (misfit kind.layout b) (kind.says b at) m (sym (cond-true _ _ _ yes) ∙ e) in
    subst P s.1 (h.0 (eqb-true _ _ yes) (fit_from_none kind.layout b s.0)))
    (λ fails. read_by_says P rows b at m h.1 (sym (cond-false _ _ _ fails) ∙ e))
    (cases_Bool (eqb (get_or b 0 0) kind.letter))

-- what is read of 32 bytes, written again, is these bytes
pub written_again : (b : List ℕ) (at : ℕ) (m : Reading) → length b ≡ 32 → IsBytes b → read_32 b at ≡ Ok m → bytes_of m ≡ b
unfolding read_32
written_again b at m len bytes e =
    read_by_says (λ n. bytes_of n ≡ b) kinds b at m
    (all_32 (λ c. IsBytes c → EachSays (λ n. bytes_of n ≡ c) kinds c at) (kinds_again at) b len bytes) e

part_24 : (input : List ℕ) (at : ℕ) → drop 20 (drop 4 (take 32 (drop at input))) ≡ take 8 (drop (at + 24) input)
part_24 input at =
    drop-drop 20 4 (take 32 (drop at input)) ∙ (drop-take 24 8 (drop at input) ∙ ap (take 8) (drop-drop 24 at input))

account_good : (account : List ℕ) → Fit account_layout account → account_fault account ≡ Ok tt
account_good account h = ap (λ o. unless (option_map (λ place. Byte (24 + place)) o) tt) (none_from_fit account_layout account h)

-- the account lies in the input, and its bytes are in range
pub account_lies : (input : List ℕ) (at : ℕ) (m : Reading) → read_32 (take 32 (drop at input)) at ≡ Ok m → AccountIn input m
unfolding read_32
account_lies input at m e =
    read_by_says (AccountIn input) kinds (take 32 (drop at input)) at m (
      (λ _ _. tt),
      (
        (λ _ h. (part_24 input at, account_good (drop 20 (drop 4 (take 32 (drop at input)))) (fit_drop (drop 4 entry_layout) (drop 4 (take 32 (drop at input))) 20 (fit_drop entry_layout (take 32 (drop at input)) 4 h)))),
        ((λ _ _. tt), ((λ _ _. tt), ((λ _ _. tt), ((λ _ _. tt), ((λ _ _. tt), tt))))),
      ),
    ) e

-- letters written and read
side_fits : (s : Side) → (fits SideLetter (side_letter s) ≡ true) × (side_of (side_letter s) ≡ s)
side_fits Buy = (refl, refl)
side_fits Sell = (refl, refl)

type_fits : (t : OrderType) → (fits TypeLetter (type_letter t) ≡ true) × (type_of (type_letter t) ≡ t)
type_fits Limit = (refl, refl)
type_fits Market = (refl, refl)

qualifier_fits : (q : Qualifier) → (fits QualifierLetter (qualifier_letter q) ≡ true) × (qualifier_of (qualifier_letter q) ≡ q)
qualifier_fits Unqualified = (refl, refl)
qualifier_fits FillOrKill = (refl, refl)
qualifier_fits ImmediateOrCancel = (refl, refl)

capacity_fits : (c : Capacity) → (fits CapacityLetter (capacity_letter c) ≡ true) × (capacity_of (capacity_letter c) ≡ c)
capacity_fits Investor = (refl, refl)
capacity_fits Dealer = (refl, refl)

same_fields : (s s' : Side) (t t' : OrderType) (q q' : Qualifier) (a a' b b' m m' : ℕ) (c c' : Capacity) →
    s ≡ s' → t ≡ t' → q ≡ q' → a ≡ a' → b ≡ b' → m ≡ m' → c ≡ c' →
    ◌≡◌ {A = EntryFields} (record { side = s; order_type = t; qualifier = q; price = a; quantity = b; minimum = m; capacity = c })
    (record { side = s'; order_type = t'; qualifier = q'; price = a'; quantity = b'; minimum = m'; capacity = c' })
same_fields s s' t t' q q' a a' b b' m m' c c' e1 e2 e3 e4 e5 e6 e7 = cc

-- an entry written is read as itself
pub entry_read_again : (f : EntryFields) (account : List ℕ) (at : ℕ) → f.price < 2 ^ 32 → f.quantity < 2 ^ 32 → f.minimum < 2 ^ 32 →
    misfit account_layout account ≡ None → read_32 (entry_bytes f account) at ≡ Ok (entry f account (at + 24))
entry_read_again f account at price quantity minimum good =
    let side = side_fits f.side in
    let type = type_fits f.order_type in
    let qualifier = qualifier_fits f.qualifier in
    let capacity = capacity_fits f.capacity in
    let fit : Fit entry_layout (entry_bytes f account) = (
      refl,
      (
        side.0,
        (
          type.0,
          (
            qualifier.0,
            (
              refl,
              (
                refl,
                (
                  refl,
                  (
                    refl,
                    (
                      refl,
                      (
                        refl,
                        (
                          refl,
                          (
                            refl,
                            (
                              refl,
                              (
                                refl,
                                (
                                  refl,
                                  (
                                    refl,
                                    (refl, (refl, (refl, (refl, (capacity.0, (refl, (refl, (refl, fit_from_none account_layout account good)))))))),
                                  ),
                                ),
                              ),
                            ),
                          ),
                        ),
                      ),
                    ),
                  ),
                ),
              ),
            ),
          ),
        ),
      ),
    ) in
    let p = number_again f.price price in
    let q = number_again f.quantity quantity in
    let m = number_again f.minimum minimum in
    by_letter 69 (entry_bytes f account) at refl
    ∙ (ap (λ o. unless (option_map Byte o) (entry_after (side_letter f.side) (type_letter f.order_type) (qualifier_letter f.qualifier) (drop 4 (entry_bytes f account)) at)) (none_from_fit entry_layout (entry_bytes f account) fit)
    ∙ ap (λ g. Ok (entry g account (at + 24))) (same_fields _ _ _ _ _ _ _ _ _ _ _ _ _ _ side.1 type.1 qualifier.1 p q m capacity.1))

-- and so is a start
pub start_read_again : (reference at : ℕ) → reference < 2 ^ 32 → read_32 (one_number_bytes 68 reference) at ≡ Ok (start reference)
start_read_again n at h = by_letter 68 (one_number_bytes 68 n) at refl ∙ ap (λ m. Ok (start m)) (number_again n h)

-- and a withdrawal
pub withdrawal_read_again : (number at : ℕ) → number < 2 ^ 32 → read_32 (one_number_bytes 87 number) at ≡ Ok (withdrawal number)
withdrawal_read_again n at h = by_letter 87 (one_number_bytes 87 n) at refl ∙ ap (λ m. Ok (withdrawal m)) (number_again n h)
