-- What every call keeps. Assumes nothing.
use Rattle.prices.specs.declared.price.Price.{Price}
use Rattle.orders.specs.declared.order.Order.{Order}
use Rattle.records.specs.declared.letters.Side.{Side}
use Rattle.records.specs.declared.letters.Side.TheVariants.{Buy, Sell}
use Rattle.rules.specs.Lines.{Sweep, swept, total, without}
use Rattle.rules.specs.Book.{Book, Call, Outcome, accepts, buys, call, close, effect, enter, entered_with, fault, halt, is_buy, join, joins, open', opening_at, others, refused, rests, rests_at, resume, show, sought, step, unless_fault, withdraw}
use Rattle.rules.specs.Laws.{Across, Before, Good, Pairwise, Sound, fresh, Lawful}
use Rattle.rules.specs.declared.terms.BookFault.{BookFault}
use Rattle.std.proofs.Common.{◌≡◌, ℕ, ◌+◌, ◌≤◌, Bool, true, false, cond, not, ltb, leb, List, [], length, Some, None, Option, sym, refl, ap, ◌∙◌, subst, arith}
use Rattle.std.specs.List.{AllByRecursion}
use Rattle.std.proofs.ByRecursion.{All-weaker}
use Rattle.std.proofs.lemmas.Bool.{cond_both, ltb-true}
use Rattle.lines.specs.Kind.{Kind, Taking}
use Rattle.rules.proofs.Lists.{across_weaker, pairwise_append}
use Rattle.rules.proofs.Sweeps.{Swept, sweep, kept_all, kept_pairwise}
use Rattle.rules.proofs.Acrosses.{News, across_entry, across_swept, across_without}
use Rattle.rules.proofs.Places.{all_placed, ranked_placed, all_without, pairwise_without}

module _ {L : Type 0} (K : Kind L) where
  abbrev pub OtherNumber : L → L → Type 0
  OtherNumber x y = K.number x ≡ K.number y → ⊥

  pub record OneSide (side : Side) (next : ℕ) (xs : List L) : Type 0 where
    pub ranked : Pairwise (Before K) xs
    pub good : AllByRecursion (Good K side next) xs

  pub record Held (s : Book L) : Type 0 where
    pub buyers : OneSide Buy s.next s.buyers
    pub sellers : OneSide Sell s.next s.sellers
    pub others_numbers : Across OtherNumber s.buyers s.sellers

-- a side by whether it buys
abbrev pub side_by : Bool → Side
side_by true = Buy
side_by false = Sell

pub by_buy : (s : Side) → side_by (is_buy s) ≡ s
by_buy Buy = refl
by_buy Sell = refl

module _ {L : Type 0} {K : Kind L} (W : Lawful K) where
  T : Taking K
  T = W.taking

  side_nil : (b : Side) (n : ℕ) → OneSide K b n []
  side_nil b n = record { ranked = tt; good = tt }

  side_later : (b : Side) (n : ℕ) (xs : List L) → OneSide K b n xs → OneSide K b (n + 1) xs
  side_later b n xs h = record {
    ranked = h.ranked;
    good = All-weaker (Good K b n) (Good K b (n + 1)) (λ x g. record { on_side = g.on_side; some_left = g.some_left; numbered = omega (arith, g.numbered) }) xs h.good;
  }

  pub side_swept : (b : Side) (n : ℕ) {e : ℕ → Bool} {q : ℕ} {xs : List L} {s : Sweep L} → Swept K e q xs s → OneSide K b n xs → OneSide K b n s.rest
  side_swept b n r h = record {
    ranked = kept_pairwise (Before K) (λ q x y k. (T.same_before q x y ∙ k.0, λ e. k.1 (sym (T.same_number q x) ∙ e))) r h.ranked;
    good = kept_all (Good K b n) (λ q x l g. record { on_side = T.same_side q x ∙ g.on_side; some_left = omega (arith, T.lowers q x (omega arith)); numbered = rw (T.same_number q x) g.numbered }) r h.good;
  }

  side_without : (b : Side) (n m : ℕ) (xs : List L) → OneSide K b n xs → OneSide K b n (without K m xs)
  side_without b n m xs h = record { ranked = pairwise_without K (Before K) m xs h.ranked; good = all_without K (Good K b n) m xs h.good }

  -- a new line has a new number
  side_joins : (o : Order) (n : ℕ) (p : Price) (q : ℕ) (b : Side) (xs : List L) → o.side ≡ b → OneSide K b n xs → OneSide K b (n + 1) (joins K o n p q xs)
  side_joins o n p q b xs e h =
      let later = side_later b n xs h in
      let x : L = K.made o n p q in
      cond_both (ltb 0 q) _ _ (OneSide K b (n + 1))
      (λ t. record {
        ranked = ranked_placed K W.ranking x xs (All-weaker (Good K b n) (λ y. K.number x ≡ K.number y → ⊥) (λ y g f. omega (arith, W.making.its_number o n p q, g.numbered)) xs h.good) h.ranked;
        good = all_placed K (Good K b (n + 1)) x xs (record { on_side = W.making.its_side o n p q ∙ e; some_left = omega (arith, W.making.its_left o n p q, ltb-true 0 q t); numbered = omega (arith, W.making.its_number o n p q) }) later.good;
      })
      (λ _. later)

  other_kept : (q : ℕ) (x y : L) → OtherNumber K x y → OtherNumber K (K.taken q x) y
  other_kept q x y k e = k (sym (T.same_number q x) ∙ e)

  other_kept' : (q : ℕ) (x y : L) → OtherNumber K x y → OtherNumber K x (K.taken q y)
  other_kept' q x y k e = k (e ∙ T.same_number q y)

  pub other_side : (b : Bool) (s : Book L) → Held K s → OneSide K (side_by (not b)) s.next (cond b s.sellers s.buyers)
  other_side true s h = h.sellers
  other_side false s h = h.buyers

  new_number : (b : Bool) (n : ℕ) (o : Order) (p : Price) (q : ℕ) (ys : List L) → AllByRecursion (Good K (side_by (not b)) n) ys → News (OtherNumber K) b (K.made o n p q) ys
  new_number true n o p q ys a = All-weaker (Good K Sell n) (OtherNumber K (K.made o n p q)) (λ y g e. omega (arith, g.numbered, W.making.its_number o n p q)) ys a
  new_number false n o p q ys a = All-weaker (Good K Buy n) (λ y. OtherNumber K y (K.made o n p q)) (λ y g e. omega (arith, g.numbered, W.making.its_number o n p q)) ys a

  own_side : (b : Bool) (o : Order) → buys o ≡ b → o.side ≡ side_by b
  own_side b o e = sym (by_buy o.side) ∙ ap side_by e

  -- an entry of any size
  pub sound_entered : (s : Book L) (o : Order) (sought' : ℕ) → Held K s → Held K (entered_with K s o (swept K (accepts o) sought' (others K s o)))
  sound_entered s o z h =
      let w : Sweep L = swept K (accepts o) z (others K s o) in
      let p : Price = rests_at s.reference o.limit w.fills in
      let q : ℕ = rests K o (total w.fills) in
      let r = sweep K (accepts o) z (others K s o) in
      record {
        buyers = cond_both (buys o) _ _ (OneSide K Buy (s.next + 1))
            (λ t. side_joins o s.next p q Buy s.buyers (own_side true o t) h.buyers)
            (λ f. side_later Buy s.next w.rest (side_swept Buy s.next r (subst (λ (b : Bool). OneSide K Buy s.next (cond b s.sellers s.buyers)) (sym f) h.buyers)));
        sellers = cond_both (buys o) _ _ (OneSide K Sell (s.next + 1))
            (λ t. side_later Sell s.next w.rest (side_swept Sell s.next r (subst (λ (b : Bool). OneSide K Sell s.next (cond b s.sellers s.buyers)) (sym t) h.sellers)))
            (λ f. side_joins o s.next p q Sell s.sellers (own_side false o f) h.sellers);
        others_numbers = across_entry (OtherNumber K) other_kept other_kept' (buys o) s.buyers s.sellers o s.next p q r (λ _. new_number (buys o) s.next o p q w.rest (side_swept (side_by (not (buys o))) s.next r (other_side (buys o) s h)).good) h.others_numbers;
      }

  pub sound_opening : (s : Book L) (p : Price) (v : ℕ) → Held K s → Held K (opening_at K s p v).after
  sound_opening s p v h = record {
    buyers = side_swept Buy s.next (sweep K (leb p.units) v s.buyers) h.buyers;
    sellers = side_swept Sell s.next (sweep K (λ r. leb r p.units) v s.sellers) h.sellers;
    others_numbers = across_swept (OtherNumber K) other_kept other_kept' (sweep K (leb p.units) v s.buyers) (sweep K (λ r. leb r p.units) v s.sellers) h.others_numbers;
  }

  pub sound_effect : (s : Book L) (c : Call) → Held K s → Held K (effect K s c).after
  sound_effect s (join o plain) h = sound_entered s o 0 h
  sound_effect s (enter o room) h = sound_entered s o (sought K s o) h
  sound_effect s (withdraw n) h = record { buyers = side_without Buy s.next n s.buyers h.buyers; sellers = side_without Sell s.next n s.sellers h.sellers; others_numbers = across_without K (OtherNumber K) n s.buyers s.sellers h.others_numbers }
  sound_effect s (show n) h = h
  sound_effect s call h = record { buyers = h.buyers; sellers = h.sellers; others_numbers = h.others_numbers }
  sound_effect s (open' room) h = sound_opening s _ _ h
  sound_effect s halt h = record { buyers = h.buyers; sellers = h.sellers; others_numbers = h.others_numbers }
  sound_effect s resume h = record { buyers = h.buyers; sellers = h.sellers; others_numbers = h.others_numbers }
  sound_effect s close h = record { buyers = side_nil Buy s.next; sellers = side_nil Sell s.next; others_numbers = tt }

  -- what holds of the book and of what is done where nothing is refused holds after a call
  pub after_step : (P : Book L → Type 0) (s : Book L) (c : Call) → P s → (fault K s c ≡ None → P (effect K s c).after) → P (step K s c).after
  unfolding step
  after_step P s c h f = go (fault K s c) f
    where
      go : (o : Option BookFault) → (o ≡ None → P (effect K s c).after) → P (unless_fault K o s (effect K s c)).after
      go None f = f refl
      go (Some x) f = h

  -- what an effect has, of an answered call, has the outcome of a step
  pub by_step : (P : Outcome L → Type 0) (s : Book L) (c : Call) → ((f : BookFault) → P (refused K s f)) → (fault K s c ≡ None → P (effect K s c)) → P (step K s c)
  unfolding step
  by_step P s c g f = go (fault K s c) f
    where
      go : (o : Option BookFault) → (o ≡ None → P (effect K s c)) → P (unless_fault K o s (effect K s c))
      go None f = f refl
      go (Some x) f = g x

  pub sound_step : (s : Book L) (c : Call) → Held K s → Held K (step K s c).after
  sound_step s c h = after_step (Held K) s c h (λ _. sound_effect s c h)

  pub sound_fresh : (reference : Price) (run : ℕ) → Held K (fresh K reference run)
  sound_fresh reference run = record { buyers = side_nil Buy 1; sellers = side_nil Sell 1; others_numbers = tt }

  -- in the words of the law
  pub sound_of : (s : Book L) → Held K s → length s.buyers + length s.sellers ≤ s.places → Sound K s
  sound_of s h f = record {
    fits = f;
    ranked = pairwise_append (Before K) s.buyers s.sellers h.buyers.ranked h.sellers.ranked
        (across_weaker (Good K Buy s.next) (Good K Sell s.next) (OtherNumber K) (Before K) (λ x y g k n. (W.sides.buyers_first x y g.on_side k.on_side, n)) s.buyers s.sellers h.buyers.good h.sellers.good h.others_numbers);
    of_buyers = h.buyers.good;
    of_sellers = h.sellers.good;
  }
