-- Lines that a call does not name stay as they were. Assumes nothing.
use Rattle.std.proofs.Common.{◌≡◌, ℕ, ◌<◌, Bool, true, false, cond, eqb, ltb, leb, ◌⊎◌, List, [], ◌∷◌, ◌++◌, map, Some, None, Result, sym, refl, ap, ◌∙◌, inl, inr, ⊎_elim, arith}
use Rattle.std.specs.List.{AllByRecursion}
use Rattle.std.proofs.ByRecursion.{All-weaker, All-append}
use Rattle.std.proofs.lemmas.Bool.{cases_Bool, cond_both, eqb-true, eq-eqb}
use Rattle.prices.specs.declared.price.Price.{Price}
use Rattle.records.specs.declared.letters.Side.{Side}
use Rattle.records.specs.declared.letters.Side.TheVariants.{Buy, Sell}
use Rattle.orders.specs.declared.order.Order.{Order}
use Rattle.lines.specs.Kind.{Kind}
use Rattle.rules.specs.declared.terms.Trade.{Trade}
use Rattle.rules.specs.declared.terms.BookFault.{BookFault}
use Rattle.rules.specs.Lines.{Fill, Sweep, fill, only, placed, sum_of, swept, total, without}
use Rattle.rules.specs.Book.{Answer, Book, Outcome, accepts, buys, effect, entered_with, joins, opens_at, others, paired, rests, rests_at, sought, step, struck, volume_of}
use Rattle.rules.specs.Laws.{Good, Lawful}
use Rattle.rules.specs.Fair.{InTrade, LinesStay, Named, Part, SomeOf, number_of}
use Rattle.rules.specs.History.{Asked, Tape, call_of, calling, closing, entering, halting, joining, opening, resuming, showing, withdrawing}
use Rattle.rules.proofs.Lists.{all_any, each_some, only_false, only_true, some_weaker, some_map}
use Rattle.rules.proofs.Sweeps.{Swept, ends, filled, fills_some, parts, stops, sweep, uses}
use Rattle.rules.proofs.Kept.{paired_bought, paired_sold}
use Rattle.rules.proofs.Prices.{demand_traded, supply_traded}
use Rattle.rules.proofs.Places.{all_placed, all_without}
use Rattle.rules.proofs.Sound.{Held, by_step}

-- some of a list, in a longer one
some_left : {X : Type 0} (P : X → Type 0) (xs ys : List X) → SomeOf P xs → SomeOf P (xs ++ ys)
some_left P [] ys h = absurd h
some_left P (x ∷ xs) ys h = ⊎_elim (λ k. inl k) (λ k. inr (some_left P xs ys k)) h

some_right : {X : Type 0} (P : X → Type 0) (xs ys : List X) → SomeOf P ys → SomeOf P (xs ++ ys)
some_right P [] ys h = h
some_right P (x ∷ xs) ys h = inr (some_right P xs ys h)

-- a number with a fill is in the trades
abbrev Filled : ℕ → List Fill → Type 0
Filled n fs = SomeOf (λ f. f.number ≡ n) fs

struck_named : (b : Bool) (k n : ℕ) (fs : List Fill) → Filled n fs → InTrade n (map (struck b k) fs)
struck_named true k n fs h = some_map (λ t. (t.buyer ≡ n) ⊎ (t.seller ≡ n)) (struck true k) fs (some_weaker (λ f. f.number ≡ n) (λ f. (k ≡ n) ⊎ (f.number ≡ n)) (λ f e. inr e) fs h)
struck_named false k n fs h = some_map (λ t. (t.buyer ≡ n) ⊎ (t.seller ≡ n)) (struck false k) fs (some_weaker (λ f. f.number ≡ n) (λ f. (f.number ≡ n) ⊎ (k ≡ n)) (λ f e. inl e) fs h)

filled_some : (n : ℕ) (fs : List Fill) → AllByRecursion (λ f. 0 < f.shares) fs → Filled n fs → 0 < filled n fs
filled_some n [] a h = absurd h
filled_some n (f ∷ fs) a h =
    ⊎_elim
    (λ (e : f.number ≡ n). omega (arith, a.0, only_true (eqb n f.number) f.shares (eq-eqb n f.number (sym e))))
    (λ k. omega (arith, filled_some n fs a.1 k)) h

summed_some : (party : Trade → ℕ) (n : ℕ) (ts : List Trade) → 0 < sum_of (λ t. only (eqb n (party t)) t.quantity) ts → SomeOf (λ t. party t ≡ n) ts
summed_some party n [] l = absurd (omega arith)
summed_some party n (t ∷ ts) l =
    ⊎_elim
    (λ (e : eqb n (party t) ≡ true). inl (sym (eqb-true n (party t) e)))
    (λ (e : eqb n (party t) ≡ false). inr (summed_some party n ts (omega (arith, only_false (eqb n (party t)) t.quantity e))))
    (cases_Bool (eqb n (party t)))

module _ {L : Type 0} (K : Kind L) where
  -- what comes of the lines of a list
  abbrev Stood : (ℕ → Type 0) → List L → L → Type 0
  Stood N xs y = SomeOf (λ x. (y ≡ x) ⊎ (N (K.number x) × Part K x y)) xs

  abbrev Stays : (ℕ → Type 0) → List L → List L → Type 0
  Stays N xs ys = AllByRecursion (λ x. N (K.number x) ⊎ SomeOf (λ y. y ≡ x) ys) xs

  all_stand : (N : ℕ → Type 0) (xs : List L) → AllByRecursion (Stood N xs) xs
  all_stand N xs = each_some (λ y x. (y ≡ x) ⊎ (N (K.number x) × Part K x y)) (λ x. inl refl) xs

  all_stay : (N : ℕ → Type 0) (xs : List L) → Stays N xs xs
  all_stay N xs = All-weaker (λ x. SomeOf (λ y. y ≡ x) xs) (λ x. N (K.number x) ⊎ SomeOf (λ y. y ≡ x) xs) (λ x k. inr k) xs (each_some (λ x y. y ≡ x) (λ x. refl) xs)

  stays_more : (N : ℕ → Type 0) (z : L) (xs ys : List L) → Stays N xs ys → Stays N xs (z ∷ ys)
  stays_more N z xs ys h = All-weaker (λ x. N (K.number x) ⊎ SomeOf (λ y. y ≡ x) ys) (λ x. N (K.number x) ⊎ SomeOf (λ y. y ≡ x) (z ∷ ys)) (λ x k. ⊎_elim (λ a. inl a) (λ b. inr (inr b)) k) xs h

  stood_more : (N : ℕ → Type 0) (z : L) (xs ys : List L) → AllByRecursion (Stood N xs) ys → AllByRecursion (Stood N (z ∷ xs)) ys
  stood_more N z xs ys h = All-weaker (Stood N xs) (Stood N (z ∷ xs)) (λ y k. inr k) ys h

  stays_weaker : (M N : ℕ → Type 0) → ((n : ℕ) → M n → N n) → (xs ys : List L) → Stays M xs ys → Stays N xs ys
  stays_weaker M N f xs ys h = All-weaker (λ x. M (K.number x) ⊎ SomeOf (λ y. y ≡ x) ys) (λ x. N (K.number x) ⊎ SomeOf (λ y. y ≡ x) ys) (λ x k. ⊎_elim (λ a. inl (f (K.number x) a)) (λ b. inr b) k) xs h

  stood_weaker : (M N : ℕ → Type 0) → ((n : ℕ) → M n → N n) → (xs ys : List L) → AllByRecursion (Stood M xs) ys → AllByRecursion (Stood N xs) ys
  stood_weaker M N f xs ys h =
      All-weaker (Stood M xs) (Stood N xs)
      (λ y k. some_weaker (λ x. (y ≡ x) ⊎ (M (K.number x) × Part K x y)) (λ x. (y ≡ x) ⊎ (N (K.number x) × Part K x y)) (λ x j. ⊎_elim (λ a. inl a) (λ b. inr (f (K.number x) b.0, b.1)) j) xs k) ys h

  swept_stays : {e : ℕ → Bool} {q : ℕ} {xs : List L} {w : Sweep L} → Swept K e q xs w → Stays (λ n. Filled n w.fills) xs w.rest
  swept_stays ends = tt
  swept_stays (stops {x = x} {xs = xs} h) = all_stay (λ n. Filled n []) (x ∷ xs)
  swept_stays (parts {q = q} {x = x} {xs = xs} h p l) = (inl (inl refl), stays_more (λ n. Filled n (fill K x q ∷ [])) (K.taken q x) xs xs (all_stay (λ n. Filled n (fill K x q ∷ [])) xs))
  swept_stays (uses {x = x} {xs = xs} {s = w} h p l r) = (inl (inl refl), stays_weaker (λ n. Filled n w.fills) (λ n. Filled n (fill K x (K.left x) ∷ w.fills)) (λ n k. inr k) xs w.rest (swept_stays r))

  swept_stood : {e : ℕ → Bool} {q : ℕ} {xs : List L} {w : Sweep L} → Swept K e q xs w → AllByRecursion (Stood (λ n. Filled n w.fills) xs) w.rest
  swept_stood ends = tt
  swept_stood (stops {x = x} {xs = xs} h) = all_stand (λ n. Filled n []) (x ∷ xs)
  swept_stood (parts {q = q} {x = x} {xs = xs} h p l) =
      (inl (inr (inl refl, record { shares = q; fewer = l; rest = refl })), stood_more (λ n. Filled n (fill K x q ∷ [])) x xs xs (all_stand (λ n. Filled n (fill K x q ∷ [])) xs))
  swept_stood (uses {x = x} {xs = xs} {s = w} h p l r) =
      stood_more (λ n. Filled n (fill K x (K.left x) ∷ w.fills)) x xs w.rest (stood_weaker (λ n. Filled n w.fills) (λ n. Filled n (fill K x (K.left x) ∷ w.fills)) (λ n k. inr k) xs w.rest (swept_stood r))

  -- two sides at a time
  both_stay : (N : ℕ → Type 0) (bs ss bs' ss' : List L) → Stays N bs bs' → Stays N ss ss' → Stays N (bs ++ ss) (bs' ++ ss')
  both_stay N bs ss bs' ss' h k =
      All-append (λ x. N (K.number x) ⊎ SomeOf (λ y. y ≡ x) (bs' ++ ss')) bs ss
      (All-weaker (λ x. N (K.number x) ⊎ SomeOf (λ y. y ≡ x) bs') (λ x. N (K.number x) ⊎ SomeOf (λ y. y ≡ x) (bs' ++ ss')) (λ x j. ⊎_elim (λ a. inl a) (λ b. inr (some_left (λ y. y ≡ x) bs' ss' b)) j) bs h)
      (All-weaker (λ x. N (K.number x) ⊎ SomeOf (λ y. y ≡ x) ss') (λ x. N (K.number x) ⊎ SomeOf (λ y. y ≡ x) (bs' ++ ss')) (λ x j. ⊎_elim (λ a. inl a) (λ b. inr (some_right (λ y. y ≡ x) bs' ss' b)) j) ss k)

  -- new, or stood there
  abbrev Came : (ℕ → Type 0) → (ℕ → Type 0) → List L → List L → Type 0
  Came E N xs ys = AllByRecursion (λ y. E (K.number y) ⊎ Stood N xs y) ys

  both_come : (E N : ℕ → Type 0) (bs ss bs' ss' : List L) → Came E N bs bs' → Came E N ss ss' → Came E N (bs ++ ss) (bs' ++ ss')
  both_come E N bs ss bs' ss' h k =
      All-append (λ y. E (K.number y) ⊎ Stood N (bs ++ ss) y) bs' ss'
      (All-weaker (λ y. E (K.number y) ⊎ Stood N bs y) (λ y. E (K.number y) ⊎ Stood N (bs ++ ss) y) (λ y j. ⊎_elim (λ a. inl a) (λ b. inr (some_left (λ x. (y ≡ x) ⊎ (N (K.number x) × Part K x y)) bs ss b)) j) bs' h)
      (All-weaker (λ y. E (K.number y) ⊎ Stood N ss y) (λ y. E (K.number y) ⊎ Stood N (bs ++ ss) y) (λ y j. ⊎_elim (λ a. inl a) (λ b. inr (some_right (λ x. (y ≡ x) ⊎ (N (K.number x) × Part K x y)) bs ss b)) j) ss' k)

  came : (E N : ℕ → Type 0) (xs ys : List L) → AllByRecursion (Stood N xs) ys → Came E N xs ys
  came E N xs ys h = All-weaker (Stood N xs) (λ y. E (K.number y) ⊎ Stood N xs y) (λ y k. inr k) ys h

  -- a line that joins its side
  placed_stays : (N : ℕ → Type 0) (z : L) (xs : List L) → Stays N xs (placed K z xs)
  placed_stays N z xs = All-weaker (λ x. SomeOf (λ y. y ≡ x) xs) (λ x. N (K.number x) ⊎ SomeOf (λ y. y ≡ x) (placed K z xs)) (λ x k. inr (some_placed (λ y. y ≡ x) xs k)) xs (each_some (λ x y. y ≡ x) (λ x. refl) xs)
    where
      some_placed : (P : L → Type 0) (xs : List L) → SomeOf P xs → SomeOf P (placed K z xs)
      some_placed P [] h = absurd h
      some_placed P (y ∷ ys) h = cond_both (K.precedes z y) _ _ (SomeOf P) (λ _. inr h) (λ _. ⊎_elim (λ k. inl k) (λ k. inr (some_placed P ys k)) h)

  joins_stays : (N : ℕ → Type 0) (o : Order) (n : ℕ) (p : Price) (q : ℕ) (xs : List L) → Stays N xs (joins K o n p q xs)
  joins_stays N o n p q xs = cond_both (ltb 0 q) _ _ (Stays N xs) (λ _. placed_stays N (K.made o n p q) xs) (λ _. all_stay N xs)

  joins_come : (E N : ℕ → Type 0) (o : Order) (n : ℕ) (p : Price) (q : ℕ) (xs : List L) → E (K.number (K.made o n p q)) → Came E N xs (joins K o n p q xs)
  joins_come E N o n p q xs e =
      cond_both (ltb 0 q) _ _ (Came E N xs) (λ _. all_placed K (λ y. E (K.number y) ⊎ Stood N xs y) (K.made o n p q) xs (inl e) (came E N xs xs (all_stand N xs))) (λ _. came E N xs xs (all_stand N xs))

  without_stays : (m : ℕ) (xs : List L) → Stays (λ n. m ≡ n) xs (without K m xs)
  without_stays m [] = tt
  without_stays m (x ∷ xs) =
      cond_both (eqb m (K.number x)) _ _ (Stays (λ n. m ≡ n) (x ∷ xs))
      (λ t. (inl (eqb-true m (K.number x) t), without_stays m xs))
      (λ _. (inr (inl refl), stays_more (λ n. m ≡ n) x xs (without K m xs) (without_stays m xs)))

  without_stood : (N : ℕ → Type 0) (m : ℕ) (xs : List L) → AllByRecursion (Stood N xs) (without K m xs)
  without_stood N m xs = all_without K (Stood N xs) m xs (all_stand N xs)

module _ {L : Type 0} {K : Kind L} (W : Lawful K) where
  abbrev BookStays : Book L → Asked → Outcome L → Type 0
  BookStays s a r = LinesStay K (s.buyers ++ s.sellers) a r.answer r.trades (r.after.buyers ++ r.after.sellers)

  entry_stays : (b : Bool) (N E : ℕ → Type 0) (bs ss own-b own-s rest : List L) → Stays K N bs own-b → Stays K N ss own-s → Came K E N bs own-b → Came K E N ss own-s → Stays K N (cond b ss bs) rest → AllByRecursion (Stood K N (cond b ss bs)) rest →
      Stays K N (bs ++ ss) (cond b own-b rest ++ cond b rest own-s) × Came K E N (bs ++ ss) (cond b own-b rest ++ cond b rest own-s)
  entry_stays true N E bs ss own-b own-s rest h k u v x y = (both_stay K N bs ss own-b rest h x, both_come K E N bs ss own-b rest u (came K E N ss rest y))
  entry_stays false N E bs ss own-b own-s rest h k u v x y = (both_stay K N bs ss rest own-s x k, both_come K E N bs ss rest own-s (came K E N bs rest y) v)

  entered_stays : (s : Book L) (o : Order) (z : ℕ) →
      let w = swept K (accepts o) z (others K s o) in
      let ts = map (struck (buys o) s.next) w.fills in
      let t = entered_with K s o w in
      Stays K (λ n. InTrade n ts) (s.buyers ++ s.sellers) (t.buyers ++ t.sellers) × Came K (λ n. Some s.next ≡ Some n) (λ n. InTrade n ts) (s.buyers ++ s.sellers) (t.buyers ++ t.sellers)
  entered_stays s o z =
      let w : Sweep L = swept K (accepts o) z (others K s o) in
      let r = sweep K (accepts o) z (others K s o) in
      let n : ℕ = s.next in
      let ts : List Trade = map (struck (buys o) n) w.fills in
      let N : ℕ → Type 0 = λ k. InTrade k ts in
      let E : ℕ → Type 0 = λ k. Some n ≡ Some k in
      let p : Price = rests_at s.reference o.limit w.fills in
      let q : ℕ = rests K o (total w.fills) in
      let e : E (K.number (K.made o n p q)) = ap (λ k. Some k) (sym (W.making.its_number o n p q)) in
      let f : (k : ℕ) → Filled k w.fills → N k = λ k a. struck_named (buys o) n k w.fills a in
      entry_stays (buys o) N E s.buyers s.sellers (joins K o n p q s.buyers) (joins K o n p q s.sellers) w.rest
      (joins_stays K N o n p q s.buyers) (joins_stays K N o n p q s.sellers) (joins_come K E N o n p q s.buyers e) (joins_come K E N o n p q s.sellers e)
      (stays_weaker K (λ k. Filled k w.fills) N f (others K s o) w.rest (swept_stays K r))
      (stood_weaker K (λ k. Filled k w.fills) N f (others K s o) w.rest (swept_stood K r))

  same_stay : (s : Book L) (a : Asked) (r : Result Answer BookFault) (ts : List Trade) → LinesStay K (s.buyers ++ s.sellers) a r ts (s.buyers ++ s.sellers)
  same_stay s a r ts = record {
    stay = all_stay K (Named a ts) (s.buyers ++ s.sellers);
    come = came K (λ n. number_of r ≡ Some n) (λ n. InTrade n ts) (s.buyers ++ s.sellers) (s.buyers ++ s.sellers) (all_stand K (λ n. InTrade n ts) (s.buyers ++ s.sellers));
  }

  pub all_left_some : (b : Side) (n : ℕ) (xs : List L) → AllByRecursion (Good K b n) xs → AllByRecursion (λ x. 0 < K.left x) xs
  all_left_some b n xs a = All-weaker (Good K b n) (λ x. 0 < K.left x) (λ x g. g.some_left) xs a

  opening_stays : (s : Book L) (i : ℕ) (ts : List Tape) → Held K s → BookStays s (opening i) (effect K s (call_of (opening i) ts))
  opening_stays s i ts h =
      let p : Price = opens_at K s in
      let v : ℕ = volume_of K s p.units in
      let b : Sweep L = swept K (leb p.units) v s.buyers in
      let o : Sweep L = swept K (λ r. leb r p.units) v s.sellers in
      let rb = sweep K (leb p.units) v s.buyers in
      let ro = sweep K (λ r. leb r p.units) v s.sellers in
      let us : List Trade = paired p b.fills o.fills in
      let N : ℕ → Type 0 = λ n. InTrade n us in
      let e : total b.fills ≡ total o.fills = demand_traded W s p.units h ∙ sym (supply_traded W s p.units h) in
      let f : (n : ℕ) → Filled n b.fills → N n = λ n a. some_weaker (λ t. t.buyer ≡ n) (λ t. (t.buyer ≡ n) ⊎ (t.seller ≡ n)) (λ t k. inl k) us
      (summed_some (λ t. t.buyer) n us (omega (arith, paired_bought n p b.fills o.fills (omega arith), filled_some n b.fills (fills_some rb (all_left_some Buy s.next s.buyers h.buyers.good)) a))) in
      let g : (n : ℕ) → Filled n o.fills → N n = λ n a. some_weaker (λ t. t.seller ≡ n) (λ t. (t.buyer ≡ n) ⊎ (t.seller ≡ n)) (λ t k. inr k) us
      (summed_some (λ t. t.seller) n us (omega (arith, paired_sold n p b.fills o.fills e, filled_some n o.fills (fills_some ro (all_left_some Sell s.next s.sellers h.sellers.good)) a))) in
      record {
        stay = both_stay K N s.buyers s.sellers b.rest o.rest (stays_weaker K (λ k. Filled k b.fills) N f s.buyers b.rest (swept_stays K rb)) (stays_weaker K (λ k. Filled k o.fills) N g s.sellers o.rest (swept_stays K ro));
        come = came K (λ n. None ≡ Some n) N (s.buyers ++ s.sellers) (b.rest ++ o.rest)
            (stood_both N s.buyers s.sellers b.rest o.rest (stood_weaker K (λ k. Filled k b.fills) N f s.buyers b.rest (swept_stood K rb)) (stood_weaker K (λ k. Filled k o.fills) N g s.sellers o.rest (swept_stood K ro)));
      }
    where
      stood_both : (N : ℕ → Type 0) (bs ss bs' ss' : List L) → AllByRecursion (Stood K N bs) bs' → AllByRecursion (Stood K N ss) ss' → AllByRecursion (Stood K N (bs ++ ss)) (bs' ++ ss')
      stood_both N bs ss bs' ss' h k =
          All-append (Stood K N (bs ++ ss)) bs' ss'
          (All-weaker (Stood K N bs) (Stood K N (bs ++ ss)) (λ y j. some_left (λ x. (y ≡ x) ⊎ (N (K.number x) × Part K x y)) bs ss j) bs' h)
          (All-weaker (Stood K N ss) (Stood K N (bs ++ ss)) (λ y j. some_right (λ x. (y ≡ x) ⊎ (N (K.number x) × Part K x y)) bs ss j) ss' k)

  effect_stays : (s : Book L) (a : Asked) (ts : List Tape) → Held K s → BookStays s a (effect K s (call_of a ts))
  effect_stays s (joining o plain) ts h = let e = entered_stays s o 0 in record { stay = e.0; come = e.1 }
  effect_stays s (entering o i) ts h = let e = entered_stays s o (sought K s o) in record { stay = e.0; come = e.1 }
  effect_stays s (withdrawing m) ts h = record {
    stay = both_stay K (λ n. m ≡ n) s.buyers s.sellers (without K m s.buyers) (without K m s.sellers) (without_stays K m s.buyers) (without_stays K m s.sellers);
    come = both_come K (λ n. None ≡ Some n) (λ n. InTrade n []) s.buyers s.sellers (without K m s.buyers) (without K m s.sellers)
        (came K (λ n. None ≡ Some n) (λ n. InTrade n []) s.buyers (without K m s.buyers) (without_stood K (λ n. InTrade n []) m s.buyers))
        (came K (λ n. None ≡ Some n) (λ n. InTrade n []) s.sellers (without K m s.sellers) (without_stood K (λ n. InTrade n []) m s.sellers));
  }
  effect_stays s (showing m) ts h = same_stay s (showing m) _ []
  effect_stays s calling ts h = same_stay s calling _ []
  effect_stays s (opening i) ts h = opening_stays s i ts h
  effect_stays s halting ts h = same_stay s halting _ []
  effect_stays s resuming ts h = same_stay s resuming _ []
  effect_stays s closing ts h = record { stay = all_any (λ x. Unit {0} ⊎ SomeOf (λ y. y ≡ x) []) (λ x. inl tt) (s.buyers ++ s.sellers); come = tt }

  pub lines_stay : (s : Book L) (a : Asked) (ts : List Tape) → Held K s → BookStays s a (step K s (call_of a ts))
  lines_stay s a ts h = by_step W (BookStays s a) s (call_of a ts) (λ f. same_stay s a _ []) (λ _. effect_stays s a ts h)
