-- The lines fit their places. Assumes nothing.
use Rattle.prices.specs.declared.price.Price.{Price}
use Rattle.records.specs.declared.letters.Qualifier.{Qualifier}
use Rattle.records.specs.declared.letters.Qualifier.TheVariants.{Unqualified, FillOrKill, ImmediateOrCancel}
use Rattle.orders.specs.declared.order.Order.{Order}
use Rattle.rules.specs.Lines.{Sweep, any_passes, swept, total, units}
use Rattle.orders.specs.Orders.{is_unqualified}
use Rattle.rules.specs.Book.{Book, Call, full_holds, accepts, buys, call, close, effect, enter, halt, is_fill_or_kill, join, joins, lines_in, open', opens_at, others, volume_of, rests, rests_at, resume, show, sought, step, withdraw, eligible, entered_with}
use Rattle.rules.specs.Laws.{Lawful, Pairwise}
use Rattle.std.proofs.Common.{◌≡◌, ℕ, ◌+◌, ◌-◌, ◌<◌, ◌≤◌, Bool, true, false, cond, not, ◌&&◌, ltb, leb, List, [], ◌∷◌, length, refl, ⊎_elim, arith}
use Rattle.std.specs.List.{AllByRecursion}
use Rattle.std.proofs.lemmas.Bool.{and_cases, cases_Bool, cases_lt, cond_both, false≢true, leb-false, ltb-true, not-false, or_cases}
use Rattle.lines.specs.Kind.{Kind}
use Rattle.rules.proofs.Lists.{only_le, only_false}
use Rattle.rules.proofs.Places.{length_placed, length_without}
use Rattle.rules.proofs.Sweeps.{Falls, Swept, ends, parts, rest_length, spent, stops, sweep, uses}
use Rattle.rules.proofs.Sound.{Held, after_step, other_side}
use Rattle.rules.proofs.Entries.{falls_accepts}
use Rattle.rules.proofs.Faults.{faultless}

module _ {L : Type 0} (K : Kind L) where
  -- where a line passes, the first does
  front_passes : (e : ℕ → Bool) (x : L) (xs : List L) → Pairwise (Falls K e) (x ∷ xs) → any_passes K e (x ∷ xs) ≡ true → e (units K x) ≡ true
  front_passes e x xs a h = ⊎_elim (λ t. t) (λ t. later xs a.0 t) (or_cases (e (units K x)) (any_passes K e xs) h)
    where
      later : (ys : List L) → AllByRecursion (Falls K e x) ys → any_passes K e ys ≡ true → e (units K x) ≡ true
      later [] f t = absurd (false≢true t)
      later (y ∷ ys) f t = ⊎_elim (λ u. f.0 u) (λ u. later ys f.1 u) (or_cases (e (units K y)) (any_passes K e ys) t)

module _ {L : Type 0} {K : Kind L} where
  -- a sweep that wants more, and had a line to take from, used one up
  one_less : {e : ℕ → Bool} {q : ℕ} {xs : List L} {s : Sweep L} → Swept K e q xs s → Pairwise (Falls K e) xs → any_passes K e xs ≡ true → 0 < s.wanting → length s.rest + 1 ≤ length xs
  one_less ends a h w = absurd (false≢true h)
  one_less {e = e} (stops {x = x} {xs = xs} k) a h w = absurd (omega (arith, k (front_passes K e x xs a h)))
  one_less (parts h p l) a k w = absurd (omega arith)
  one_less (uses h p l r) a k w = omega (arith, rest_length r)

module _ {L : Type 0} {K : Kind L} (W : Lawful K) where
  abbrev pub Fits : Book L → Type 0
  Fits s = lines_in K s ≤ s.places

  length_joins : (o : Order) (n : ℕ) (p : Price) (q : ℕ) (xs : List L) → (length (joins K o n p q xs) ≤ length xs + 1) × (q ≡ 0 → length (joins K o n p q xs) ≡ length xs)
  length_joins o n p q xs =
      cond_both (ltb 0 q) _ _ (λ zs. (length zs ≤ length xs + 1) × (q ≡ 0 → length zs ≡ length xs))
      (λ t. (omega (arith, length_placed K (K.made o n p q) xs), (λ z. absurd (omega (arith, ltb-true 0 q t)))))
      (λ _. (omega arith, (λ _. refl)))

  entry_length : (b : Bool) (bs os xs ys rest : List L) (more less : ℕ) → length xs ≤ length bs + more → length ys ≤ length os + more → length rest + less ≤ length (cond b os bs) → length (cond b xs rest) + length (cond b rest ys) + less ≤ length bs + length os + more
  entry_length true bs os xs ys rest more less h k l = omega arith
  entry_length false bs os xs ys rest more less h k l = omega arith

  unqualified_all : (q : Qualifier) (n e : ℕ) → is_unqualified q ≡ true → cond (is_fill_or_kill q && ltb e n) 0 n ≡ n
  unqualified_all Unqualified n e h = refl
  unqualified_all FillOrKill n e h = absurd (false≢true h)
  unqualified_all ImmediateOrCancel n e h = absurd (false≢true h)

  entry_fits : (s : Book L) (o : Order) (room : ℕ) → full_holds K s (enter o room) ≡ false → Held K s → Fits s → Fits (entered_with K s o (swept K (accepts o) (sought K s o) (others K s o)))
  entry_fits s o room free h f =
      let w : Sweep L = swept K (accepts o) (sought K s o) (others K s o) in
      let r = sweep K (accepts o) (sought K s o) (others K s o) in
      let p : Price = rests_at s.reference o.limit w.fills in
      let q : ℕ = rests K o (total w.fills) in
      let jb = length_joins o s.next p q s.buyers in
      let js = length_joins o s.next p q s.sellers in
      let same : q ≡ 0 → lines_in K (entered_with K s o w) ≤ lines_in K s = λ z.
      omega (arith, entry_length (buys o) s.buyers s.sellers (joins K o s.next p q s.buyers) (joins K o s.next p q s.sellers) w.rest 0 0 (omega (arith, jb.1 z)) (omega (arith, js.1 z)) (omega (arith, rest_length r))) in
      let more : lines_in K (entered_with K s o w) ≤ lines_in K s + 1 =
      omega (arith, entry_length (buys o) s.buyers s.sellers (joins K o s.next p q s.buyers) (joins K o s.next p q s.sellers) w.rest 1 0 jb.0 js.0 (omega (arith, rest_length r))) in
      ⊎_elim
      (λ (l : leb s.places (lines_in K s) ≡ false). omega (arith, leb-false s.places (lines_in K s) l))
      (λ (l : (is_unqualified o.qualifier && not (any_passes K (accepts o) (others K s o))) ≡ false).
      ⊎_elim
      (λ (u : is_unqualified o.qualifier ≡ false). omega (arith, same (only_false (is_unqualified o.qualifier) (o.quantity - total w.fills) u)))
      (λ (u : not (any_passes K (accepts o) (others K s o)) ≡ false).
      ⊎_elim
      (λ (z : 0 < q).
      ⊎_elim
      (λ (t : is_unqualified o.qualifier ≡ true).
      let all' : sought K s o ≡ o.quantity = unqualified_all o.qualifier o.quantity (eligible K s o) t in
      let wants : 0 < w.wanting = omega (arith, spent r, only_le (is_unqualified o.qualifier) (o.quantity - total w.fills)) in
      let less = one_less r (falls_accepts W (buys o) o.limit s.next (others K s o) (other_side W (buys o) s h)) (not-false _ u) wants in
      omega (arith, entry_length (buys o) s.buyers s.sellers (joins K o s.next p q s.buyers) (joins K o s.next p q s.sellers) w.rest 1 1 jb.0 js.0 less))
      (λ (t : is_unqualified o.qualifier ≡ false). absurd (omega (arith, only_false (is_unqualified o.qualifier) (o.quantity - total w.fills) t)))
      (cases_Bool (is_unqualified o.qualifier)))
      (λ (z : q ≤ 0). omega (arith, same (omega arith)))
      (cases_lt 0 q))
      (and_cases (is_unqualified o.qualifier) (not (any_passes K (accepts o) (others K s o))) l))
      (and_cases (leb s.places (lines_in K s)) (is_unqualified o.qualifier && not (any_passes K (accepts o) (others K s o))) free)

  join_fits : (s : Book L) (o : Order) → leb s.places (lines_in K s) ≡ false → Fits (entered_with K s o (swept K (accepts o) 0 (others K s o)))
  join_fits s o free =
      let w : Sweep L = swept K (accepts o) 0 (others K s o) in
      let p : Price = rests_at s.reference o.limit w.fills in
      let q : ℕ = rests K o (total w.fills) in
      omega (
        arith,
        leb-false s.places (lines_in K s) free,
        entry_length (buys o) s.buyers s.sellers (joins K o s.next p q s.buyers) (joins K o s.next p q s.sellers) w.rest 1 0 (length_joins o s.next p q s.buyers).0 (length_joins o s.next p q s.sellers).0 (omega (arith, rest_length (sweep K (accepts o) 0 (others K s o)))),
      )

  fits_effect : (s : Book L) (c : Call) → full_holds K s c ≡ false → Held K s → Fits s → Fits (effect K s c).after
  fits_effect s (join o plain) e h f = join_fits s o e
  fits_effect s (enter o room) e h f = entry_fits s o room e h f
  fits_effect s (withdraw n) e h f = omega (arith, length_without K n s.buyers, length_without K n s.sellers)
  fits_effect s (show n) e h f = f
  fits_effect s call e h f = f
  fits_effect s (open' room) e h f =
      let p : ℕ = (opens_at K s).units in
      let v : ℕ = volume_of K s p in
      omega (arith, rest_length (sweep K (leb p) v s.buyers), rest_length (sweep K (λ r. leb r p) v s.sellers))
  fits_effect s halt e h f = f
  fits_effect s resume e h f = f
  fits_effect s close e h f = omega arith

  pub fits_step : (s : Book L) (c : Call) → Held K s → Fits s → Fits (step K s c).after
  fits_step s c h f = after_step W Fits s c f (λ e. fits_effect s c (faultless K s c e).full h f)
