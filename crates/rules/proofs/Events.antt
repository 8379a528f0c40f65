-- Every event is lawful, over every list of commands to several books. Assumes nothing.
use Rattle.prices.specs.declared.price.Price.{Price}
use Rattle.orders.specs.declared.order.Order.{Order}
use Rattle.orders.specs.Orders.{fields_of, is_limit, is_plain, is_unqualified}
use Rattle.orders.specs.Rules.{type_by}
use Rattle.records.specs.declared.letters.Side.TheVariants.{Sell}
use Rattle.std.proofs.Common.{◌≡◌, ℕ, ◌+◌, ◌-◌, ◌%◌, ◌<◌, Bool, true, false, cond, not, ◌&&◌, ◌||◌, eqb, ltb, leb, List, [], ◌∷◌, ◌++◌, map, IfSome, Some, None, Option, sym, refl, ap, ◌∙◌, subst, inl, inr, ⊎_elim, arith}
use Rattle.rules.specs.declared.terms.Trade.{Trade}
use Rattle.rules.specs.declared.terms.BookFault.{BookFault}
use Rattle.rules.specs.Lines.{Fill, Sweep, has_number, is_empty, only, resting, swept, total}
use Rattle.rules.specs.Book.{accepts, any_price, Book, buys, Call, closing_price, dealt, effect, entered_with, entry, fault, fills_kind, last_price, lines_in, opens_at, others, paired, rests, rests_at, sought, step, struck, unknown_holds, unless_fault, volume_of, withdraw}
use Rattle.rules.specs.Laws.{Before, Lawful, Pairwise, Sound, Uncrossed, fresh}
use Rattle.rules.specs.Fair.{BooksStaySound, ClosesAt, EligibleFirst, EveryEventIsLawful, Fair, FairJoining, LawfulEvent, RestsAt, SomeOf, handed_back_by, last_of, total_of}
use Rattle.rules.specs.History.{Asked, Desk, Tape, call_of, calling, closing, entering, event, free_on, halting, joining, market, opening, resuming, showing, withdrawing}
use Rattle.std.specs.List.{AllByRecursion}
use Rattle.std.proofs.ByRecursion.{All-weaker, All-append, All-map}
use Rattle.std.proofs.lemmas.Bool.{and_parts, cases_Bool, leb-true, ltb-false, eqb-true, le-ltb, lt-ltb, ne_eqb, not-false, false≢true}
use Rattle.lines.specs.Kind.{Kind}
use Rattle.rules.proofs.Lists.{only_false, only_true, some_weaker, sum_append}
use Rattle.rules.proofs.Sweeps.{fills_some, kept_all, no_fills, sweep}
use Rattle.rules.proofs.Sound.{Held, by_step, other_side, side_by, sound_fresh, sound_of, sound_step}
use Rattle.rules.proofs.Entries.{falls_accepts, uncrossed_step}
use Rattle.rules.proofs.Fits.{Fits, fits_step}
use Rattle.rules.proofs.Faults.{faultless}
use Rattle.rules.proofs.Fair.{fair_entry, fair_opening, rest_joins}
use Rattle.rules.proofs.Accounts.{trades_room}
use Rattle.rules.specs.Reasons.{FirstTold, Reason, in_order, told_by}
use Rattle.rules.proofs.Reasons.{first_reason}
use Rattle.rules.proofs.Stays.{all_left_some, lines_stay}
use Rattle.rules.proofs.Sheets.{fair_sheet, levels_fit}
use Rattle.rules.proofs.Markets.{Alive, each_book, each_event}

-- no trade is empty
paired_some : (p : Price) (bs ss : List Fill) → AllByRecursion (λ f. 0 < f.shares) ss → AllByRecursion (λ t. 0 < t.quantity) (paired p bs ss)
paired_some p [] ss a = tt
paired_some p (b ∷ bs) ss a =
    let w : Sweep Fill = swept fills_kind any_price b.shares ss in
    let r = sweep fills_kind any_price b.shares ss in
    All-append (λ t. 0 < t.quantity) (map (dealt p b) w.fills) (paired p bs w.rest) (All-map (λ t. 0 < t.quantity) (dealt p b) w.fills (fills_some r a)) (paired_some p bs w.rest (kept_all (λ f. 0 < f.shares) (λ q f l _. omega arith) r a))

struck_some : (b : Bool) (n : ℕ) (fs : List Fill) → AllByRecursion (λ f. 0 < f.shares) fs → AllByRecursion (λ t. 0 < t.quantity) (map (struck b n) fs)
struck_some true n fs a = All-map (λ t. 0 < t.quantity) (struck true n) fs a
struck_some false n fs a = All-map (λ t. 0 < t.quantity) (struck false n) fs a

-- the last price is that of the last trade
struck_last_of : (b : Bool) (n : ℕ) (fs : List Fill) (p : Price) → Some (last_price fs p) ≡ last_of (map (struck b n) fs) (Some p)
struck_last_of b n [] p = refl
struck_last_of true n (f ∷ fs) p = struck_last_of true n fs f.price
struck_last_of false n (f ∷ fs) p = struck_last_of false n fs f.price

struck_remembered : (d : Price) (b : Bool) (n : ℕ) (fs : List Fill) (o : Option Price) → cond (is_empty fs) o (Some (last_price fs d)) ≡ last_of (map (struck b n) fs) o
struck_remembered d b n [] o = refl
struck_remembered d true n (f ∷ fs) o = struck_last_of true n fs f.price
struck_remembered d false n (f ∷ fs) o = struck_last_of false n fs f.price

one_price : (p : Price) (ts : List Trade) → AllByRecursion (λ t. t.price ≡ p) ts → last_of ts (Some p) ≡ Some p
one_price p [] a = refl
one_price p (t ∷ ts) a = ap (λ q. last_of ts (Some q)) a.0 ∙ one_price p ts a.1

opening_remembered : (p : Price) (v : ℕ) (ts : List Trade) (o : Option Price) → total_of ts ≡ v → AllByRecursion (λ t. t.price ≡ p) ts → AllByRecursion (λ t. 0 < t.quantity) ts → cond (ltb 0 v) (Some p) o ≡ last_of ts o
opening_remembered p v [] o e a k = ap (λ b. cond b (Some p) o) (le-ltb 0 v (omega arith))
opening_remembered p v (t ∷ ts) o e a k = ap (λ b. cond b (Some p) o) (lt-ltb 0 v (omega arith)) ∙ sym (ap (λ q. last_of ts (Some q)) a.0 ∙ one_price p ts a.1)

module _ {L : Type 0} (K : Kind L) where
  -- a number that is not among the lines has nothing left
  none_rest : (n : ℕ) (xs : List L) → AllByRecursion (λ x. n ≡ K.number x → ⊥) xs → resting K n xs ≡ 0
  none_rest n [] a = refl
  none_rest n (x ∷ xs) a = omega (arith, only_false (eqb n (K.number x)) (K.left x) (ne_eqb n (K.number x) a.0), none_rest n xs a.1)

  -- of lines with numbers of their own, one has all the shares left of a number that is among them
  one_rests : (n : ℕ) (xs : List L) → Pairwise (Before K) xs → has_number K n xs ≡ true → SomeOf (λ x. (K.number x ≡ n) × (K.left x ≡ resting K n xs)) xs
  one_rests n [] p h = absurd (false≢true h)
  one_rests n (x ∷ xs) p h =
      ⊎_elim
      (λ (t : eqb n (K.number x) ≡ true).
      let e = eqb-true n (K.number x) t in
      inl (sym e, omega (arith, only_true (eqb n (K.number x)) (K.left x) t, none_rest n xs (All-weaker (Before K x) (λ y. n ≡ K.number y → ⊥) (λ y b f. b.1 (sym e ∙ f)) xs p.0))))
      (λ (f : eqb n (K.number x) ≡ false).
      inr (some_weaker (λ y. (K.number y ≡ n) × (K.left y ≡ resting K n xs)) (λ y. (K.number y ≡ n) × (K.left y ≡ resting K n (x ∷ xs))) (λ y k. (k.0, omega (arith, k.1, only_false (eqb n (K.number x)) (K.left x) f))) xs
      (one_rests n xs p.1 (subst (λ (b : Bool). (b || has_number K n xs) ≡ true) f h))))
      (cases_Bool (eqb n (K.number x)))

  numbers_append : (n : ℕ) (xs ys : List L) → has_number K n (xs ++ ys) ≡ (has_number K n xs || has_number K n ys)
  numbers_append n [] ys = refl
  numbers_append n (x ∷ xs) ys = ap (λ b. eqb n (K.number x) || b) (numbers_append n xs ys) ∙ assoc (eqb n (K.number x)) (has_number K n xs) (has_number K n ys)
    where
      assoc : (a b c : Bool) → (a || (b || c)) ≡ ((a || b) || c)
      assoc true b c = refl
      assoc false b c = refl

module _ {L : Type 0} {K : Kind L} (W : Lawful K) where
  some_quantity : (o : Order) → 0 < o.quantity
  some_quantity o = let h = and_parts (leb 100 o.quantity) (leb o.quantity 1000000 && eqb (o.quantity % 100) 0) o.lot in omega (arith, leb-true 100 o.quantity h.0)

  plain_unqualified : (o : Order) → is_plain (fields_of o) ≡ true → is_unqualified o.qualifier ≡ true
  plain_unqualified o plain =
      (and_parts (is_unqualified o.qualifier) (eqb o.minimum 0)
      (and_parts (is_limit (type_by o.limit)) (is_unqualified o.qualifier && eqb o.minimum 0) plain).1).0

  plain_limited : (m : Option Price) → is_limit (type_by m) ≡ true → (fs : List Fill) (b : Bool) (n : ℕ) (d : Price) → RestsAt m (map (struck b n) fs) (rests_at d m fs)
  plain_limited None e fs b n d = absurd (false≢true e)
  plain_limited (Some l) e fs b n d = refl

  -- a plain order rests at its limit
  pub joining_rests : (s : Book L) (o : Order) → is_plain (fields_of o) ≡ true → (fs : List Fill) → RestsAt o.limit (map (struck (buys o) s.next) fs) (rests_at s.reference o.limit fs)
  joining_rests s o plain fs = plain_limited o.limit (and_parts (is_limit (type_by o.limit)) (is_unqualified o.qualifier && eqb o.minimum 0) plain).0 fs (buys o) s.next s.reference

  pub fair_joining : (s : Book L) (o : Order) → is_plain (fields_of o) ≡ true →
      let w = swept K (accepts o) 0 (others K s o) in
      let t = total w.fills in
      FairJoining K s o s.next t (rests K o t) (o.quantity - t - rests K o t) (map (struck (buys o) s.next) w.fills) (entered_with K s o w)
  fair_joining s o plain =
      let w : Sweep L = swept K (accepts o) 0 (others K s o) in
      let t : ℕ = total w.fills in
      let z : w.fills ≡ [] = no_fills (sweep K (accepts o) 0 (others K s o)) refl in
      let none : t ≡ 0 = ap total z in
      let all' : rests K o t ≡ o.quantity = omega (arith, only_true (is_unqualified o.qualifier) (o.quantity - t) (plain_unqualified o plain)) in
      record {
        numbered = refl;
        counted = refl;
        same_status = refl;
        no_trades = ap (map (struck (buys o) s.next)) z;
        whole = (none, all', omega arith);
        rests = rest_joins W (RestsAt o.limit (map (struck (buys o) s.next) w.fills)) (buys o) o s.next (rests_at s.reference o.limit w.fills) (rests K o t) s.buyers s.sellers w.rest
            (joining_rests s o plain w.fills)
            (omega (arith, some_quantity o));
      }

  withdrawn_line : (s : Book L) (n : ℕ) → Held K s → Fits W s → unknown_holds K s (withdraw n) ≡ false → SomeOf (λ x. (K.number x ≡ n) × (K.left x ≡ resting K n s.buyers + resting K n s.sellers)) (s.buyers ++ s.sellers)
  withdrawn_line s n h f u =
      some_weaker (λ x. (K.number x ≡ n) × (K.left x ≡ resting K n (s.buyers ++ s.sellers))) (λ x. (K.number x ≡ n) × (K.left x ≡ resting K n s.buyers + resting K n s.sellers))
      (λ x k. (k.0, k.1 ∙ sum_append (λ y. only (eqb n (K.number y)) (K.left y)) s.buyers s.sellers))
      (s.buyers ++ s.sellers)
      (one_rests K n (s.buyers ++ s.sellers) (sound_of W s h f).ranked (numbers_append K n s.buyers s.sellers ∙ not-false _ u))

  closes_at : (last : Option Price) (reference : Price) → ClosesAt last reference (closing_price K last reference)
  closes_at None reference = refl
  closes_at (Some p) reference = refl

  fair_effect : (s : Book L) (a : Asked) (ts : List Tape) → Held K s → Fits W s → fault K s (call_of a ts) ≡ None → let r = effect K s (call_of a ts) in Fair K s a r.answer r.trades r.after
  fair_effect s (joining o plain) ts h f e = fair_joining s o plain
  fair_effect s (entering o i) ts h f e = fair_entry W s o (free_on i ts) (faultless K s (call_of (entering o i) ts) e) h
  fair_effect s (withdrawing n) ts h f e = (refl, withdrawn_line s n h f (faultless K s (call_of (withdrawing n) ts) e).unknown, refl)
  fair_effect s (showing n) ts h f e = (refl, omega (arith, levels_fit K s, ltb-false n (lines_in K s) (faultless K s (call_of (showing n) ts) e).sheet), fair_sheet K s, refl)
  fair_effect s calling ts h f e = (refl, refl)
  fair_effect s (opening i) ts h f e = fair_opening W s h
  fair_effect s halting ts h f e = (refl, refl)
  fair_effect s resuming ts h f e = (refl, refl)
  fair_effect s closing ts h f e = (refl, closes_at s.last s.reference, refl, refl)

  entry_some : (s : Book L) (o : Order) (z : ℕ) → Held K s → AllByRecursion (λ t. 0 < t.quantity) (entry K s o (swept K (accepts o) z (others K s o))).trades
  entry_some s o z h = struck_some (buys o) s.next (swept K (accepts o) z (others K s o)).fills (fills_some (sweep K (accepts o) z (others K s o)) (all_left_some W (side_by (not (buys o))) s.next (others K s o) (other_side W (buys o) s h).good))

  effect_some : (s : Book L) (a : Asked) (ts : List Tape) → Held K s → AllByRecursion (λ t. 0 < t.quantity) (effect K s (call_of a ts)).trades
  effect_some s (joining o plain) ts h = entry_some s o 0 h
  effect_some s (entering o i) ts h = entry_some s o (sought K s o) h
  effect_some s (withdrawing n) ts h = tt
  effect_some s (showing n) ts h = tt
  effect_some s calling ts h = tt
  effect_some s (opening i) ts h =
      let p : Price = opens_at K s in
      let v : ℕ = volume_of K s p.units in
      paired_some p (swept K (leb p.units) v s.buyers).fills (swept K (λ r. leb r p.units) v s.sellers).fills (fills_some (sweep K (λ r. leb r p.units) v s.sellers) (all_left_some W Sell s.next s.sellers h.sellers.good))
  effect_some s halting ts h = tt
  effect_some s resuming ts h = tt
  effect_some s closing ts h = tt

  effect_remembered : (s : Book L) (a : Asked) (ts : List Tape) → Held K s → (effect K s (call_of a ts)).after.last ≡ last_of (effect K s (call_of a ts)).trades s.last
  effect_remembered s (joining o plain) ts h = struck_remembered s.reference (buys o) s.next (swept K (accepts o) 0 (others K s o)).fills s.last
  effect_remembered s (entering o i) ts h = struck_remembered s.reference (buys o) s.next (swept K (accepts o) (sought K s o) (others K s o)).fills s.last
  effect_remembered s (withdrawing n) ts h = refl
  effect_remembered s (showing n) ts h = refl
  effect_remembered s calling ts h = refl
  effect_remembered s (opening i) ts h =
      let p : Price = opens_at K s in
      let f = fair_opening W s h in
      opening_remembered p (volume_of K s p.units) (effect K s (call_of (opening i) ts)).trades s.last f.told f.priced (effect_some s (opening i) ts h)
  effect_remembered s halting ts h = refl
  effect_remembered s resuming ts h = refl
  effect_remembered s closing ts h = refl

  told_step : (s : Book L) (a : Asked) (ts : List Tape) → told_by (step K s (call_of a ts)).answer ≡ fault K s (call_of a ts)
  unfolding step
  told_step s a ts = go (fault K s (call_of a ts)) a
    where
      go : (o : Option BookFault) (a : Asked) → told_by (unless_fault K o s (effect K s (call_of a ts))).answer ≡ o
      go (Some x) a = refl
      go None (joining o plain) = refl
      go None (entering o i) = refl
      go None (withdrawing n) = refl
      go None (showing n) = refl
      go None calling = refl
      go None (opening i) = refl
      go None halting = refl
      go None resuming = refl
      go None closing = refl

  handed_step : (s : Book L) (a : Asked) (ts : List Tape) → (step K s (call_of a ts)).lapsing ≡ handed_back_by K (step K s (call_of a ts)).answer s
  handed_step s a ts = by_step W (λ r. r.lapsing ≡ handed_back_by K r.answer s) s (call_of a ts) (λ _. refl) (λ _. by_asked a)
    where
      by_asked : (a : Asked) → (effect K s (call_of a ts)).lapsing ≡ handed_back_by K (effect K s (call_of a ts)).answer s
      by_asked (joining o plain) = refl
      by_asked (entering o i) = refl
      by_asked (withdrawing n) = refl
      by_asked (showing n) = refl
      by_asked calling = refl
      by_asked (opening i) = refl
      by_asked halting = refl
      by_asked resuming = refl
      by_asked closing = refl

  same_terms_step : (s : Book L) (a : Asked) (ts : List Tape) → let t = (step K s (call_of a ts)).after in (t.reference ≡ s.reference) × (t.places ≡ s.places)
  same_terms_step s a ts = by_step W (λ r. (r.after.reference ≡ s.reference) × (r.after.places ≡ s.places)) s (call_of a ts) (λ _. (refl, refl)) (λ _. by_asked a)
    where
      by_asked : (a : Asked) → let t = (effect K s (call_of a ts)).after in (t.reference ≡ s.reference) × (t.places ≡ s.places)
      by_asked (joining o plain) = (refl, refl)
      by_asked (entering o i) = (refl, refl)
      by_asked (withdrawing n) = (refl, refl)
      by_asked (showing n) = (refl, refl)
      by_asked calling = (refl, refl)
      by_asked (opening i) = (refl, refl)
      by_asked halting = (refl, refl)
      by_asked resuming = (refl, refl)
      by_asked closing = (refl, refl)

  -- what a desk keeps
  abbrev KeptLawful : Book L → Type 0
  KeptLawful s = Held K s × Fits W s × Uncrossed K s.status s

  kept_fresh : (reference : Price) (run : ℕ) → KeptLawful (fresh K reference run)
  kept_fresh reference run = (sound_fresh W reference run, omega arith, tt)

  kept_step : (s : Book L) (c : Call) → KeptLawful s → KeptLawful (step K s c).after
  kept_step s c h = (sound_step W s c h.0, fits_step W s c h.0 h.1, uncrossed_step W s c h.0 h.2)

  lawful_event : (s : Desk L) (a : Asked) → KeptLawful s.book → LawfulEvent K (event K s a)
  lawful_event s a h =
      let b : Book L = s.book in
      let ts : List Tape = s.tapes in
      let k = kept_step b (call_of a ts) h in
      record {
        sound = sound_of W (step K b (call_of a ts)).after k.0 k.1;
        uncrossed = k.2;
        same_terms = same_terms_step b a ts;
        lines_stay = lines_stay W b a ts h.0;
        judged = subst (FirstTold (Reason K b (call_of a ts)) in_order) (sym (told_step b a ts)) (first_reason K b (call_of a ts));
        room = trades_room W b a ts;
        some_shares = by_step W (λ r. AllByRecursion (λ t. 0 < t.quantity) r.trades) b (call_of a ts) (λ _. tt) (λ _. effect_some b a ts h.0);
        remembered = by_step W (λ r. r.after.last ≡ last_of r.trades b.last) b (call_of a ts) (λ _. refl) (λ _. effect_remembered b a ts h.0);
        handed_back = handed_step b a ts;
        fair = by_step W (λ r. Fair K b a r.answer r.trades r.after) b (call_of a ts) (λ _. (refl, refl)) (fair_effect b a ts h.0 h.1);
      }

  pub every_event_lawful : EveryEventIsLawful K
  every_event_lawful = each_event K KeptLawful kept_fresh kept_step (LawfulEvent K) lawful_event

  -- in the words of the law
  told : (o : Option (Desk L)) → Alive K KeptLawful o → IfSome o (λ d. (Sound K d.book × Uncrossed K d.book.status d.book) × EligibleFirst K d.book)
  told None h = tt
  told (Some s) h = ((sound_of W s.book h.0 h.1, h.2), λ o. falls_accepts W (buys o) o.limit s.book.next (others K s.book o) (other_side W (buys o) s.book h.0))

  pub books_stay_sound : BooksStaySound K
  books_stay_sound cs i = told (market K (λ _. None) cs i) (each_book K KeptLawful kept_fresh kept_step cs i)
