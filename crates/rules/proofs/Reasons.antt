-- What is told is the first reason. Assumes nothing.
use Rattle.std.proofs.Common.{◌≡◌, ℕ, ◌*◌, ◌<◌, ◌≤◌, Bool, true, false, not, ◌&&◌, ◌||◌, eqb, ltb, leb, List, [], ◌∷◌, ◌++◌, map, length, Some, None, Option, sym, refl, ap, ◌∙◌, subst, inl, inr, ⊎_elim, arith, MatchOption}
use Rattle.std.specs.List.{AllByRecursion}
use Rattle.std.proofs.lemmas.Bool.{and_cases, and_parts, cases_Bool, cond-false, cond-true, eqb-false, eqb-true, false≢true, leb-false, leb-true, ltb-false, ltb-true, not-true, or_parts, true≢false}
use Rattle.prices.specs.declared.price.Price.{Price}
use Rattle.records.specs.declared.letters.Qualifier.{Qualifier}
use Rattle.records.specs.declared.letters.Qualifier.TheVariants.{Unqualified, FillOrKill, ImmediateOrCancel}
use Rattle.records.specs.Refusals.{first_of}
use Rattle.orders.specs.Orders.{is_unqualified}
use Rattle.lines.specs.Kind.{Kind}
use Rattle.rules.specs.declared.terms.Status.{Status}
use Rattle.rules.specs.declared.terms.Status.TheVariants.{PreOpen, Calling, Running, Halted, Closed}
use Rattle.rules.specs.declared.terms.BookFault.{BookFault}
use Rattle.rules.specs.Lines.{any_passes, has_number, is_empty, units}
use Rattle.rules.specs.Opening.{apart}
use Rattle.rules.specs.Book.{band_holds, Book, Call, empty_holds, full_holds, sheet_holds, shortfall_holds, spent_holds, tape_holds, unknown_holds, accepts, call, close, eligible, enter, fault, halt, is_some, join, lines_in, open', others, out_of_band, refusals, resume, show, takes, withdraw}
use Rattle.rules.specs.Reasons.{FirstTold, NoNumberLeft, NoRoom, NoSuchLine, NobodyThere, OutOfBand, Reason, ShortSheet, ShortTape, TooFew, in_order, turns_of}

-- statuses are told apart by a number
abbrev place : Status → ℕ
place PreOpen = 0
place Calling = 1
place Running = 2
place Halted = 3
place Closed = 4

apart_by : (s t : Status) → (place s ≡ place t → ⊥) → s ≡ t → ⊥
apart_by s t h e = h (ap place e)

-- a test that decides a proposition
pub record Decides (b : Bool) (P : Type 0) : Type 0 where
  pub yes : b ≡ true → P
  pub no : b ≡ false → P → ⊥

never : Decides false ⊥
never = record { yes = λ e. absurd (false≢true e); no = λ _ k. k }

by_ltb : (m n : ℕ) → Decides (ltb m n) (m < n)
by_ltb m n = record { yes = ltb-true m n; no = λ e l. omega (arith, ltb-false m n e) }

by_leb : (m n : ℕ) → Decides (leb m n) (m ≤ n)
by_leb m n = record { yes = leb-true m n; no = λ e l. omega (arith, leb-false m n e) }

by_both : {a b : Bool} {P Q : Type 0} → Decides a P → Decides b Q → Decides (a && b) (P × Q)
by_both {a} {b} p q = record {
  yes = λ e. let h = and_parts a b e in (p.yes h.0, q.yes h.1);
  no = λ e k. ⊎_elim (λ f. p.no f k.0) (λ f. q.no f k.1) (and_cases a b e);
}

by_none : (m : Option Price) → Decides (not (is_some m)) (m ≡ None)
by_none None = record { yes = λ _. refl; no = λ e _. true≢false e }
by_none (Some l) = record { yes = λ e. absurd (false≢true e); no = λ _ k. some_none k }
  where
    some_none : Some l ≡ None → ⊥
    some_none z = let o : ◌≡◌ {A = ℕ} 0 1 = cc in omega arith

by_empty : {X : Type 0} (xs : List X) → Decides (is_empty xs) (xs ≡ [])
by_empty [] = record { yes = λ _. refl; no = λ e _. true≢false e }
by_empty (x ∷ xs) = record { yes = λ e. absurd (false≢true e); no = λ _ k. false≢true (ap is_empty k) }

by_unqualified : (k : Qualifier) → Decides (is_unqualified k) (k ≡ Unqualified)
by_unqualified Unqualified = record { yes = λ _. refl; no = λ e _. true≢false e }
by_unqualified FillOrKill = record { yes = λ e. absurd (false≢true e); no = λ _ k. false≢true (ap is_unqualified k) }
by_unqualified ImmediateOrCancel = record { yes = λ e. absurd (false≢true e); no = λ _ k. false≢true (ap is_unqualified k) }

module _ {L : Type 0} (K : Kind L) where
  by_band : (reference : Price) (m : Option Price) → Decides (out_of_band K reference m) (MatchOption m ⊥ (λ l. reference.units < apart l.units reference.units * 10))
  by_band reference None = never
  by_band reference (Some l) = by_ltb reference.units (apart l.units reference.units * 10)

  by_none_passes : (e : ℕ → Bool) (xs : List L) → Decides (not (any_passes K e xs)) (AllByRecursion (λ x. e (units K x) ≡ false) xs)
  by_none_passes e [] = record { yes = λ _. tt; no = λ f _. true≢false f }
  by_none_passes e (x ∷ xs) =
      let h = by_none_passes e xs in
      record {
        yes = λ t. let k = or_parts (e (units K x)) (any_passes K e xs) (not-true _ t) in (k.0, h.yes (ap not k.1));
        no = λ f a. h.no (ap (λ b. not (b || any_passes K e xs)) (sym a.0) ∙ f) a.1;
      }

  by_not_there : (n : ℕ) (xs : List L) → Decides (not (has_number K n xs)) (AllByRecursion (λ x. K.number x ≡ n → ⊥) xs)
  by_not_there n [] = record { yes = λ _. tt; no = λ f _. true≢false f }
  by_not_there n (x ∷ xs) =
      let h = by_not_there n xs in
      record {
        yes = λ t. let k = or_parts (eqb n (K.number x)) (has_number K n xs) (not-true _ t) in (λ e. eqb-false n (K.number x) k.0 (sym e), h.yes (ap not k.1));
        no = λ f a. ⊎_elim
            (λ (t : eqb n (K.number x) ≡ true). a.0 (sym (eqb-true n (K.number x) t)))
            (λ (u : eqb n (K.number x) ≡ false). h.no (ap (λ b. not (b || has_number K n xs)) (sym u) ∙ f) a.1)
            (cases_Bool (eqb n (K.number x)));
      }

  by_unknown : (n : ℕ) (bs ss : List L) → Decides (not (has_number K n bs || has_number K n ss)) (AllByRecursion (λ x. K.number x ≡ n → ⊥) (bs ++ ss))
  by_unknown n [] ss = by_not_there n ss
  by_unknown n (x ∷ xs) ss =
      let h = by_unknown n xs ss in
      record {
        yes = λ t.
            let k = or_parts (eqb n (K.number x) || has_number K n xs) (has_number K n ss) (not-true _ t) in
            let j = or_parts (eqb n (K.number x)) (has_number K n xs) k.0 in
            (λ e. eqb-false n (K.number x) j.0 (sym e), h.yes (ap not (ap (λ b. b || has_number K n ss) j.1 ∙ k.1)));
        no = λ f a. ⊎_elim
            (λ (t : eqb n (K.number x) ≡ true). a.0 (sym (eqb-true n (K.number x) t)))
            (λ (u : eqb n (K.number x) ≡ false). h.no (ap (λ b. not ((b || has_number K n xs) || has_number K n ss)) (sym u) ∙ f) a.1)
            (cases_Bool (eqb n (K.number x)));
      }

  in_turn_row : (t : Status) (c : Call) → Decides (not (takes K t c)) (AllByRecursion (λ u. t ≡ u → ⊥) (turns_of c))
  in_turn_row PreOpen (join o plain) = record { yes = λ e. absurd (false≢true e); no = λ _ a. a.0 refl }
  in_turn_row Calling (join o plain) = record { yes = λ _. (apart_by Calling PreOpen (λ e. omega (arith, e)), tt); no = λ e _. true≢false e }
  in_turn_row Running (join o plain) = record { yes = λ _. (apart_by Running PreOpen (λ e. omega (arith, e)), tt); no = λ e _. true≢false e }
  in_turn_row Halted (join o plain) = record { yes = λ _. (apart_by Halted PreOpen (λ e. omega (arith, e)), tt); no = λ e _. true≢false e }
  in_turn_row Closed (join o plain) = record { yes = λ _. (apart_by Closed PreOpen (λ e. omega (arith, e)), tt); no = λ e _. true≢false e }
  in_turn_row PreOpen (enter o room) = record { yes = λ _. (apart_by PreOpen Running (λ e. omega (arith, e)), tt); no = λ e _. true≢false e }
  in_turn_row Calling (enter o room) = record { yes = λ _. (apart_by Calling Running (λ e. omega (arith, e)), tt); no = λ e _. true≢false e }
  in_turn_row Running (enter o room) = record { yes = λ e. absurd (false≢true e); no = λ _ a. a.0 refl }
  in_turn_row Halted (enter o room) = record { yes = λ _. (apart_by Halted Running (λ e. omega (arith, e)), tt); no = λ e _. true≢false e }
  in_turn_row Closed (enter o room) = record { yes = λ _. (apart_by Closed Running (λ e. omega (arith, e)), tt); no = λ e _. true≢false e }
  in_turn_row PreOpen (withdraw n) = record { yes = λ e. absurd (false≢true e); no = λ _ a. a.0 refl }
  in_turn_row Calling (withdraw n) = record { yes = λ _. (apart_by Calling PreOpen (λ e. omega (arith, e)), (apart_by Calling Running (λ e. omega (arith, e)), (apart_by Calling Halted (λ e. omega (arith, e)), tt))); no = λ e _. true≢false e }
  in_turn_row Running (withdraw n) = record { yes = λ e. absurd (false≢true e); no = λ _ a. a.1.0 refl }
  in_turn_row Halted (withdraw n) = record { yes = λ e. absurd (false≢true e); no = λ _ a. a.1.1.0 refl }
  in_turn_row Closed (withdraw n) = record { yes = λ _. (apart_by Closed PreOpen (λ e. omega (arith, e)), (apart_by Closed Running (λ e. omega (arith, e)), (apart_by Closed Halted (λ e. omega (arith, e)), tt))); no = λ e _. true≢false e }
  in_turn_row PreOpen (show n) = record { yes = λ e. absurd (false≢true e); no = λ _ a. a.0 refl }
  in_turn_row Calling (show n) = record { yes = λ e. absurd (false≢true e); no = λ _ a. a.1.0 refl }
  in_turn_row Running (show n) = record { yes = λ _. (apart_by Running PreOpen (λ e. omega (arith, e)), (apart_by Running Calling (λ e. omega (arith, e)), tt)); no = λ e _. true≢false e }
  in_turn_row Halted (show n) = record { yes = λ _. (apart_by Halted PreOpen (λ e. omega (arith, e)), (apart_by Halted Calling (λ e. omega (arith, e)), tt)); no = λ e _. true≢false e }
  in_turn_row Closed (show n) = record { yes = λ _. (apart_by Closed PreOpen (λ e. omega (arith, e)), (apart_by Closed Calling (λ e. omega (arith, e)), tt)); no = λ e _. true≢false e }
  in_turn_row PreOpen call = record { yes = λ e. absurd (false≢true e); no = λ _ a. a.0 refl }
  in_turn_row Calling call = record { yes = λ _. (apart_by Calling PreOpen (λ e. omega (arith, e)), tt); no = λ e _. true≢false e }
  in_turn_row Running call = record { yes = λ _. (apart_by Running PreOpen (λ e. omega (arith, e)), tt); no = λ e _. true≢false e }
  in_turn_row Halted call = record { yes = λ _. (apart_by Halted PreOpen (λ e. omega (arith, e)), tt); no = λ e _. true≢false e }
  in_turn_row Closed call = record { yes = λ _. (apart_by Closed PreOpen (λ e. omega (arith, e)), tt); no = λ e _. true≢false e }
  in_turn_row PreOpen (open' room) = record { yes = λ _. (apart_by PreOpen Calling (λ e. omega (arith, e)), tt); no = λ e _. true≢false e }
  in_turn_row Calling (open' room) = record { yes = λ e. absurd (false≢true e); no = λ _ a. a.0 refl }
  in_turn_row Running (open' room) = record { yes = λ _. (apart_by Running Calling (λ e. omega (arith, e)), tt); no = λ e _. true≢false e }
  in_turn_row Halted (open' room) = record { yes = λ _. (apart_by Halted Calling (λ e. omega (arith, e)), tt); no = λ e _. true≢false e }
  in_turn_row Closed (open' room) = record { yes = λ _. (apart_by Closed Calling (λ e. omega (arith, e)), tt); no = λ e _. true≢false e }
  in_turn_row PreOpen halt = record { yes = λ _. (apart_by PreOpen Running (λ e. omega (arith, e)), tt); no = λ e _. true≢false e }
  in_turn_row Calling halt = record { yes = λ _. (apart_by Calling Running (λ e. omega (arith, e)), tt); no = λ e _. true≢false e }
  in_turn_row Running halt = record { yes = λ e. absurd (false≢true e); no = λ _ a. a.0 refl }
  in_turn_row Halted halt = record { yes = λ _. (apart_by Halted Running (λ e. omega (arith, e)), tt); no = λ e _. true≢false e }
  in_turn_row Closed halt = record { yes = λ _. (apart_by Closed Running (λ e. omega (arith, e)), tt); no = λ e _. true≢false e }
  in_turn_row PreOpen resume = record { yes = λ _. (apart_by PreOpen Halted (λ e. omega (arith, e)), tt); no = λ e _. true≢false e }
  in_turn_row Calling resume = record { yes = λ _. (apart_by Calling Halted (λ e. omega (arith, e)), tt); no = λ e _. true≢false e }
  in_turn_row Running resume = record { yes = λ _. (apart_by Running Halted (λ e. omega (arith, e)), tt); no = λ e _. true≢false e }
  in_turn_row Halted resume = record { yes = λ e. absurd (false≢true e); no = λ _ a. a.0 refl }
  in_turn_row Closed resume = record { yes = λ _. (apart_by Closed Halted (λ e. omega (arith, e)), tt); no = λ e _. true≢false e }
  in_turn_row PreOpen close = record { yes = λ _. (apart_by PreOpen Calling (λ e. omega (arith, e)), (apart_by PreOpen Running (λ e. omega (arith, e)), (apart_by PreOpen Halted (λ e. omega (arith, e)), tt))); no = λ e _. true≢false e }
  in_turn_row Calling close = record { yes = λ e. absurd (false≢true e); no = λ _ a. a.0 refl }
  in_turn_row Running close = record { yes = λ e. absurd (false≢true e); no = λ _ a. a.1.0 refl }
  in_turn_row Halted close = record { yes = λ e. absurd (false≢true e); no = λ _ a. a.1.1.0 refl }
  in_turn_row Closed close = record { yes = λ _. (apart_by Closed Calling (λ e. omega (arith, e)), (apart_by Closed Running (λ e. omega (arith, e)), (apart_by Closed Halted (λ e. omega (arith, e)), tt))); no = λ e _. true≢false e }

  by_spent_row : (s : Book L) (c : Call) → Decides (spent_holds K s c) (NoNumberLeft K s c)
  by_spent_row s (join o plain) = by_ltb 100000 s.next
  by_spent_row s (enter o room) = by_ltb 100000 s.next
  by_spent_row s (withdraw n) = never
  by_spent_row s (show n) = never
  by_spent_row s call = never
  by_spent_row s (open' room) = never
  by_spent_row s halt = never
  by_spent_row s resume = never
  by_spent_row s close = never

  by_band_row : (s : Book L) (c : Call) → Decides (band_holds K s c) (OutOfBand K s c)
  by_band_row s (join o plain) = by_band s.reference o.limit
  by_band_row s (enter o room) = by_band s.reference o.limit
  by_band_row s (withdraw n) = never
  by_band_row s (show n) = never
  by_band_row s call = never
  by_band_row s (open' room) = never
  by_band_row s halt = never
  by_band_row s resume = never
  by_band_row s close = never

  by_empty_row : (s : Book L) (c : Call) → Decides (empty_holds K s c) (NobodyThere K s c)
  by_empty_row s (join o plain) = never
  by_empty_row s (enter o room) = by_both (by_none o.limit) (by_empty (others K s o))
  by_empty_row s (withdraw n) = never
  by_empty_row s (show n) = never
  by_empty_row s call = never
  by_empty_row s (open' room) = never
  by_empty_row s halt = never
  by_empty_row s resume = never
  by_empty_row s close = never

  by_tape_row : (s : Book L) (c : Call) → Decides (tape_holds K s c) (ShortTape K s c)
  by_tape_row s (join o plain) = never
  by_tape_row s (enter o room) = by_ltb room (length (others K s o))
  by_tape_row s (withdraw n) = never
  by_tape_row s (show n) = never
  by_tape_row s call = never
  by_tape_row s (open' room) = by_ltb room (lines_in K s)
  by_tape_row s halt = never
  by_tape_row s resume = never
  by_tape_row s close = never

  by_shortfall_row : (s : Book L) (c : Call) → Decides (shortfall_holds K s c) (TooFew K s c)
  by_shortfall_row s (join o plain) = never
  by_shortfall_row s (enter o room) = by_ltb (eligible K s o) o.minimum
  by_shortfall_row s (withdraw n) = never
  by_shortfall_row s (show n) = never
  by_shortfall_row s call = never
  by_shortfall_row s (open' room) = never
  by_shortfall_row s halt = never
  by_shortfall_row s resume = never
  by_shortfall_row s close = never

  by_full_row : (s : Book L) (c : Call) → Decides (full_holds K s c) (NoRoom K s c)
  by_full_row s (join o plain) = by_leb s.places (lines_in K s)
  by_full_row s (enter o room) = by_both (by_leb s.places (lines_in K s)) (by_both (by_unqualified o.qualifier) (by_none_passes (accepts o) (others K s o)))
  by_full_row s (withdraw n) = never
  by_full_row s (show n) = never
  by_full_row s call = never
  by_full_row s (open' room) = never
  by_full_row s halt = never
  by_full_row s resume = never
  by_full_row s close = never

  by_sheet_row : (s : Book L) (c : Call) → Decides (sheet_holds K s c) (ShortSheet K s c)
  by_sheet_row s (join o plain) = never
  by_sheet_row s (enter o room) = never
  by_sheet_row s (withdraw n) = never
  by_sheet_row s (show n) = by_ltb n (lines_in K s)
  by_sheet_row s call = never
  by_sheet_row s (open' room) = never
  by_sheet_row s halt = never
  by_sheet_row s resume = never
  by_sheet_row s close = never

  by_unknown_row : (s : Book L) (c : Call) → Decides (unknown_holds K s c) (NoSuchLine K s c)
  by_unknown_row s (join o plain) = never
  by_unknown_row s (enter o room) = never
  by_unknown_row s (withdraw n) = by_unknown n s.buyers s.sellers
  by_unknown_row s (show n) = never
  by_unknown_row s call = never
  by_unknown_row s (open' room) = never
  by_unknown_row s halt = never
  by_unknown_row s resume = never
  by_unknown_row s close = never

  rows_decide : (s : Book L) (c : Call) → AllByRecursion (λ row. Decides row.0 (Reason K s c row.1)) (refusals K s c)
  rows_decide s c = (in_turn_row s.status c, (by_spent_row s c, (by_band_row s c, (by_empty_row s c, (by_tape_row s c, (by_shortfall_row s c, (by_full_row s c, (by_sheet_row s c, (by_unknown_row s c, tt)))))))))

  first_told : (P : BookFault → Type 0) (rows : List (Bool × BookFault)) → AllByRecursion (λ row. Decides row.0 (P row.1)) rows → FirstTold P (map (λ row. row.1) rows) (first_of rows)
  first_told P [] a = refl
  first_told P (row ∷ rows) a =
      ⊎_elim
      (λ (t : row.0 ≡ true). inl (a.0.yes t, cond-true row.0 (Some row.1) (first_of rows) t))
      (λ (f : row.0 ≡ false). inr (a.0.no f, subst (FirstTold P (map (λ r. r.1) rows)) (sym (cond-false row.0 (Some row.1) (first_of rows) f)) (first_told P rows a.1)))
      (cases_Bool row.0)

  pub first_reason : (s : Book L) (c : Call) → FirstTold (Reason K s c) in_order (fault K s c)
  unfolding fault
  first_reason s c = first_told (Reason K s c) (refusals K s c) (rows_decide s c)
