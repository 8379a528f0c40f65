-- What a call does is fair. Assumes nothing.
use Rattle.prices.specs.declared.price.Price.{Price}
use Rattle.orders.specs.declared.order.Order.{Order}
use Rattle.rules.specs.declared.terms.Trade.{Trade}
use Rattle.records.specs.declared.letters.Qualifier.{Qualifier}
use Rattle.records.specs.declared.letters.Qualifier.TheVariants.{Unqualified, FillOrKill, ImmediateOrCancel}
use Rattle.rules.specs.Fair.{FairEntry, FairOpening, RestsAt, SomeOf, due_to, last_traded, total_of}
use Rattle.rules.specs.Lines.{is_empty, Fill, Sweep, only, placed, shares, swept, total, units}
use Rattle.orders.specs.Orders.{is_unqualified}
use Rattle.orders.specs.Rules.{mix_rule, type_by}
use Rattle.rules.specs.Book.{accepts_at, enter, Book, empty_holds, accepts, any_price, buys, dealt, eligible, entered_with, fills_kind, is_fill_or_kill, is_some, joins, last_price, opening_at, opens_at, others, paired, rests, rests_at, sought, struck, volume_of}
use Rattle.rules.specs.Laws.{Good, Lawful}
use Rattle.std.proofs.Common.{◌≡◌, ℕ, ◌+◌, ◌-◌, ◌%◌, ◌<◌, ◌≤◌, min, Bool, true, false, cond, not, ◌&&◌, eqb, ltb, leb, List, [], ◌∷◌, map, Some, None, Option, sym, refl, ap, ◌∙◌, subst, inl, inr, ⊎_elim, arith}
use Rattle.std.specs.List.{AllByRecursion}
use Rattle.std.proofs.ByRecursion.{All-weaker, All-append, All-map}
use Rattle.std.proofs.lemmas.Bool.{and_cases, and_parts, cond_both, eqb-true, leb-true, lt-ltb, ltb-false, true≢false}
use Rattle.std.proofs.lemmas.Bool.Decides.{nat_tests}
use Rattle.lines.specs.Kind.{Kind}
use Rattle.rules.proofs.Lists.{all_two, all_any, each_some, only_false, only_le, only_true, some_weaker, sum_append, sum_map}
use Rattle.rules.proofs.Sweeps.{Swept, fills_of, kept_all, spent, sweep, trades_all}
use Rattle.rules.proofs.Sound.{Held, other_side, side_by}
use Rattle.rules.proofs.Prices.{demand_traded, supply_traded}
use Rattle.rules.proofs.Kept.{dealt_total, sought_le}
use Rattle.rules.proofs.Openings.{opens_units, price_best}
use Rattle.rules.proofs.Entries.{falls_accepts}
use Rattle.rules.proofs.Faults.{Faultless}
use Rattle.rules.proofs.Turns.{Turned, Turns, paired_buyers_turn, paired_sellers_turn, sweep_turns, turned_named}

-- an entry's trades, by its fills
struck_volume : (b : Bool) (n : ℕ) (fs : List Fill) → total_of (map (struck b n) fs) ≡ total fs
struck_volume true n fs = sum_map (λ t. t.quantity) (struck true n) fs
struck_volume false n fs = sum_map (λ t. t.quantity) (struck false n) fs

due_running : (k : Qualifier) (q e f : ℕ) → f ≡ min (cond (is_fill_or_kill k && ltb e q) 0 q) e → f ≡ due_to k q e
due_running Unqualified q e f h = h
due_running FillOrKill q e f h = grind (arith, nat_tests)
due_running ImmediateOrCancel q e f h = h

-- where the rest of an entry rests, by its fills and by its trades
struck_last : (b : Bool) (n : ℕ) (p : Price) (fs : List Fill) → last_price fs p ≡ last_traded (map (struck b n) fs) p
struck_last b n p [] = refl
struck_last true n p (f ∷ fs) = struck_last true n f.price fs
struck_last false n p (f ∷ fs) = struck_last false n f.price fs

struck_rest : (m : Option Price) (b : Bool) (n : ℕ) (d : Price) (fs : List Fill) → (is_some m ≡ false → 0 < total fs) → RestsAt m (map (struck b n) fs) (rests_at d m fs)
struck_rest None b n d [] h = absurd (omega (arith, h refl))
struck_rest None true n d (f ∷ fs) h = struck_last true n f.price fs
struck_rest None false n d (f ∷ fs) h = struck_last false n f.price fs
struck_rest (Some l) b n d fs h = refl

struck_all : (b : Bool) (n : ℕ) (Q : ℕ → Price → Type 0) (fs : List Fill) → AllByRecursion (λ f. Q f.number f.price) fs → AllByRecursion (λ t. Q (cond b t.seller t.buyer) t.price) (map (struck b n) fs)
struck_all true n Q fs a = All-map (λ t. Q t.seller t.price) (struck true n) fs a
struck_all false n Q fs a = All-map (λ t. Q t.buyer t.price) (struck false n) fs a

struck_party : (b : Bool) (n : ℕ) (fs : List Fill) → AllByRecursion (λ t. cond b t.buyer t.seller ≡ n) (map (struck b n) fs)
struck_party true n fs = All-map (λ t. t.buyer ≡ n) (struck true n) fs (all_any (λ f. n ≡ n) (λ f. refl) fs)
struck_party false n fs = All-map (λ t. t.seller ≡ n) (struck false n) fs (all_any (λ f. n ≡ n) (λ f. refl) fs)

-- an opening's trades, by its fills
paired_volume : (p : Price) (bs ss : List Fill) → total bs ≤ total ss → total_of (paired p bs ss) ≡ total bs
paired_volume p [] ss l = refl
paired_volume p (b ∷ bs) ss l =
    let w : Sweep Fill = swept fills_kind any_price b.shares ss in
    let c = dealt_total b bs ss l in
    omega (arith, sum_append (λ t. t.quantity) (map (dealt p b) w.fills) (paired p bs w.rest), sum_map (λ t. t.quantity) (dealt p b) w.fills, paired_volume p bs w.rest c.1)

paired_priced : (p : Price) (bs ss : List Fill) → AllByRecursion (λ t. t.price ≡ p) (paired p bs ss)
paired_priced p [] ss = tt
paired_priced p (b ∷ bs) ss =
    let w : Sweep Fill = swept fills_kind any_price b.shares ss in
    All-append (λ t. t.price ≡ p) (map (dealt p b) w.fills) (paired p bs w.rest) (All-map (λ t. t.price ≡ p) (dealt p b) w.fills (all_any (λ f. p ≡ p) (λ f. refl) w.fills)) (paired_priced p bs w.rest)

paired_buyers : (P : ℕ → Type 0) (p : Price) (bs ss : List Fill) → AllByRecursion (λ f. P f.number) bs → AllByRecursion (λ t. P t.buyer) (paired p bs ss)
paired_buyers P p [] ss a = tt
paired_buyers P p (b ∷ bs) ss a =
    let w : Sweep Fill = swept fills_kind any_price b.shares ss in
    All-append (λ t. P t.buyer) (map (dealt p b) w.fills) (paired p bs w.rest) (All-map (λ t. P t.buyer) (dealt p b) w.fills (all_any (λ f. P b.number) (λ f. a.0) w.fills)) (paired_buyers P p bs w.rest a.1)

paired_sellers : (P : ℕ → Type 0) (p : Price) (bs ss : List Fill) → AllByRecursion (λ f. P f.number) ss → AllByRecursion (λ t. P t.seller) (paired p bs ss)
paired_sellers P p [] ss a = tt
paired_sellers P p (b ∷ bs) ss a =
    let w : Sweep Fill = swept fills_kind any_price b.shares ss in
    let r = sweep fills_kind any_price b.shares ss in
    All-append (λ t. P t.seller) (map (dealt p b) w.fills) (paired p bs w.rest)
    (All-map (λ t. P t.seller) (dealt p b) w.fills (fills_of (λ f. P f.number) r (All-weaker (λ f. P f.number) (λ f. (n : ℕ) → true ≡ true → P f.number) (λ f k n _. k) ss a)))
    (paired_sellers P p bs w.rest (kept_all (λ f. P f.number) (λ q f _ k. k) r a))

module _ {L : Type 0} (K : Kind L) where
  struck_turns : (b : Bool) (n : ℕ) (xs : List L) (gone : ℕ → ℕ) (fs : List Fill) → Turns K xs gone fs → Turned K (λ t. cond b t.seller t.buyer) xs gone (map (struck b n) fs)
  struck_turns b n xs gone [] t = tt
  struck_turns true n xs gone (f ∷ fs) t = (t.0, struck_turns true n xs (λ m. gone m + only (eqb m f.number) f.shares) fs t.1)
  struck_turns false n xs gone (f ∷ fs) t = (t.0, struck_turns false n xs (λ m. gone m + only (eqb m f.number) f.shares) fs t.1)

module _ {L : Type 0} {K : Kind L} (W : Lawful K) where
  -- each fill is of a line that passes
  fills_lines : {e : ℕ → Bool} (Q : L → Type 0) {q : ℕ} {xs : List L} {s : Sweep L} → Swept K e q xs s → ((x : L) → e (units K x) ≡ true → Q x) → AllByRecursion (λ f. SomeOf (λ y. (K.number y ≡ f.number) × Q y) xs) s.fills
  fills_lines {e} Q {xs} r h =
      fills_of (λ f. SomeOf (λ y. (K.number y ≡ f.number) × Q y) xs) r
      (All-weaker (λ x. SomeOf (λ y. x ≡ y) xs) (λ x. (n : ℕ) → e (units K x) ≡ true → SomeOf (λ y. (K.number y ≡ K.number x) × Q y) xs)
      (λ x a n t. some_weaker (λ y. x ≡ y) (λ y. (K.number y ≡ K.number x) × Q y) (λ y k. (ap K.number (sym k), subst Q k (h x t))) xs a)
      xs (each_some (λ x y. x ≡ y) (λ x. refl) xs))

  -- each fill has the price of its line
  fills_priced : {e : ℕ → Bool} {q : ℕ} {xs : List L} {s : Sweep L} → Swept K e q xs s → AllByRecursion (λ f. SomeOf (λ y. (K.number y ≡ f.number) × (K.price y ≡ f.price)) xs) s.fills
  fills_priced {e} {xs} r =
      fills_of (λ f. SomeOf (λ y. (K.number y ≡ f.number) × (K.price y ≡ f.price)) xs) r
      (All-weaker (λ x. SomeOf (λ y. x ≡ y) xs) (λ x. (n : ℕ) → e (units K x) ≡ true → SomeOf (λ y. (K.number y ≡ K.number x) × (K.price y ≡ K.price x)) xs)
      (λ x a n t. some_weaker (λ y. x ≡ y) (λ y. (K.number y ≡ K.number x) × (K.price y ≡ K.price x)) (λ y k. (ap K.number (sym k), ap K.price (sym k))) xs a)
      xs (each_some (λ x y. x ≡ y) (λ x. refl) xs))

  -- the line of what is left has its place
  some_placed : (P : L → Type 0) (x : L) (xs : List L) → P x → SomeOf P (placed K x xs)
  some_placed P x [] k = inl k
  some_placed P x (y ∷ ys) k = cond_both (K.precedes x y) _ _ (SomeOf P) (λ _. inl k) (λ _. inr (some_placed P x ys k))

  some_joins : (R : Price → Type 0) (o : Order) (n : ℕ) (p : Price) (q : ℕ) (xs : List L) → R p → 0 < q → SomeOf (λ x. (K.number x ≡ n) × (K.left x ≡ q) × R (K.price x)) (joins K o n p q xs)
  some_joins R o n p q xs e l =
      subst (λ (b : Bool). SomeOf (λ x. (K.number x ≡ n) × (K.left x ≡ q) × R (K.price x)) (cond b (placed K (K.made o n p q) xs) xs)) (sym (lt-ltb 0 q l))
      (some_placed (λ x. (K.number x ≡ n) × (K.left x ≡ q) × R (K.price x)) (K.made o n p q) xs (W.making.its_number o n p q, W.making.its_left o n p q, subst R (sym (W.making.its_price o n p q)) e))

  pub rest_joins : (R : Price → Type 0) (b : Bool) (o : Order) (n : ℕ) (p : Price) (q : ℕ) (bs os rest : List L) → R p → 0 < q → SomeOf (λ x. (K.number x ≡ n) × (K.left x ≡ q) × R (K.price x)) (cond b (cond b (joins K o n p q bs) rest) (cond b rest (joins K o n p q os)))
  rest_joins R true o n p q bs os rest e l = some_joins R o n p q bs e l
  rest_joins R false o n p q bs os rest e l = some_joins R o n p q os e l

  -- a market order that is not refused for EMPTY has a line to trade with
  market_trades : (s : Book L) (o : Order) (room : ℕ) (f q : ℕ) → Held K s → empty_holds K s (enter o room) ≡ false → is_some o.limit ≡ false → 0 < q → f ≡ min q (eligible K s o) → 0 < f
  market_trades s o room f q h e m l g =
      ⊎_elim
      (λ (z : not (is_some o.limit) ≡ false). absurd (true≢false (sym (ap not m) ∙ z)))
      (λ (z : is_empty (others K s o) ≡ false). omega (arith, some_eligible o.limit (buys o) (others K s o) m z (other_side W (buys o) s h).good))
      (and_cases (not (is_some o.limit)) (is_empty (others K s o)) e)
    where
      some_eligible : (m' : Option Price) (b : Bool) (xs : List L) → is_some m' ≡ false → is_empty xs ≡ false → AllByRecursion (Good K (side_by (not b)) s.next) xs → 0 < shares K (accepts_at b m') xs
      some_eligible (Some p) b xs e z a = absurd (true≢false e)
      some_eligible None b [] e z a = absurd (true≢false z)
      some_eligible None b (x ∷ xs) e z a = omega (arith, a.0.some_left)

  -- the rest of an entry, where there is one, rests at its limit or at its last trade's price
  pub entry_rests : (s : Book L) (o : Order) (room : ℕ) → empty_holds K s (enter o room) ≡ false → Held K s →
      let w = swept K (accepts o) (sought K s o) (others K s o) in
      0 < rests K o (total w.fills) → RestsAt o.limit (map (struck (buys o) s.next) w.fills) (rests_at s.reference o.limit w.fills)
  entry_rests s o room full h l =
      let xs : List L = others K s o in
      let w : Sweep L = swept K (accepts o) (sought K s o) xs in
      let t : ℕ = total w.fills in
      let all' = trades_all (sweep K (accepts o) (sought K s o) xs) (falls_accepts W (buys o) o.limit s.next xs (other_side W (buys o) s h)) in
      struck_rest o.limit (buys o) s.next s.reference w.fills
      (λ m. market_trades s o room t (sought K s o) h full m (wanted o.qualifier o.quantity (eligible K s o) t l) all')
    where
      wanted : (k : Qualifier) (q e t : ℕ) → 0 < only (is_unqualified k) (q - t) → 0 < cond (is_fill_or_kill k && ltb e q) 0 q
      wanted Unqualified q e t l = omega arith
      wanted FillOrKill q e t l = absurd (omega arith)
      wanted ImmediateOrCancel q e t l = absurd (omega arith)

  -- an order that is not refused for SHORTFALL trades its minimum
  minimum_traded : (m : Option Price) (k : Qualifier) (q least e t : ℕ) → mix_rule (type_by m) k least ≡ true → leb least q ≡ true → ltb e least ≡ false → t ≡ due_to k q e → least ≤ t
  minimum_traded None k q least e t x y z d = omega (arith, eqb-true least 0 x)
  minimum_traded (Some l) Unqualified q least e t x y z d = omega (arith, leb-true least q y, ltb-false e least z)
  minimum_traded (Some l) FillOrKill q least e t x y z d = omega (arith, eqb-true least 0 x)
  minimum_traded (Some l) ImmediateOrCancel q least e t x y z d = omega (arith, leb-true least q y, ltb-false e least z)

  pub fair_entry : (s : Book L) (o : Order) (room : ℕ) → Faultless K s (enter o room) → Held K s →
      let w = swept K (accepts o) (sought K s o) (others K s o) in
      let t = total w.fills in
      FairEntry K s o s.next t (rests K o t) (o.quantity - t - rests K o t) (map (struck (buys o) s.next) w.fills) (entered_with K s o w)
  fair_entry s o room taken h =
      let xs : List L = others K s o in
      let w : Sweep L = swept K (accepts o) (sought K s o) xs in
      let t : ℕ = total w.fills in
      let r = sweep K (accepts o) (sought K s o) xs in
      let k = (other_side W (buys o) s h).ranked in
      let all' = trades_all r (falls_accepts W (buys o) o.limit s.next xs (other_side W (buys o) s h)) in
      record {
        numbered = refl;
        counted = refl;
        same_status = refl;
        told = struck_volume (buys o) s.next w.fills;
        whole = omega (arith, spent r, sought_le W s o, only_le (is_unqualified o.qualifier) (o.quantity - t));
        due = due_running o.qualifier o.quantity (eligible K s o) t all';
        at_least = minimum_traded o.limit o.qualifier o.quantity o.minimum (eligible K s o) t o.mix (and_parts (leb o.minimum o.quantity) (eqb (o.minimum % 100) 0) o.least).0 taken.shortfall (due_running o.qualifier o.quantity (eligible K s o) t all');
        own = struck_party (buys o) s.next w.fills;
        in_turn = turned_named K (λ u. cond (buys o) u.seller u.buyer) (λ u x. K.price x ≡ u.price) xs (λ n. 0) (map (struck (buys o) s.next) w.fills)
            (struck_turns K (buys o) s.next xs (λ n. 0) w.fills (sweep_turns W (λ n. 0) xs [] r refl k tt))
            (struck_all (buys o) s.next (λ n p. SomeOf (λ x. (K.number x ≡ n) × (K.price x ≡ p)) xs) w.fills (fills_priced r));
        within = struck_all (buys o) s.next (λ n p. accepts o p.units ≡ true) w.fills (fills_of (λ f. accepts o f.price.units ≡ true) r (all_any (λ x. (n : ℕ) → accepts o (units K x) ≡ true → accepts o (units K x) ≡ true) (λ x n e. e) xs));
        qualified = λ e. only_false (is_unqualified o.qualifier) (o.quantity - t) e;
        unqualified = λ e. omega (arith, only_true (is_unqualified o.qualifier) (o.quantity - t) e);
        rests = λ l. rest_joins (RestsAt o.limit (map (struck (buys o) s.next) w.fills)) (buys o) o s.next (rests_at s.reference o.limit w.fills) (rests K o t) s.buyers s.sellers w.rest (entry_rests s o room taken.empty h l) l;
      }

  pub fair_opening : (s : Book L) → Held K s → let p = opens_at K s in let r = opening_at K s p (volume_of K s p.units) in FairOpening K s p (volume_of K s p.units) r.trades r.after
  fair_opening s h =
      let p : Price = opens_at K s in
      let v : ℕ = volume_of K s p.units in
      let b : Sweep L = swept K (leb p.units) v s.buyers in
      let o : Sweep L = swept K (λ r. leb r p.units) v s.sellers in
      let rb = sweep K (leb p.units) v s.buyers in
      let ro = sweep K (λ r. leb r p.units) v s.sellers in
      let e : total b.fills ≡ v = demand_traded W s p.units h in
      let f : total o.fills ≡ v = supply_traded W s p.units h in
      let at-price = paired_priced p b.fills o.fills in
      let named : (party : Trade → ℕ) (R : ℕ → L → Type 0) (xs : List L) → AllByRecursion (λ t. SomeOf (λ x. (K.number x ≡ party t) × R p.units x) xs) (paired p b.fills o.fills) → AllByRecursion (λ t. SomeOf (λ x. (K.number x ≡ party t) × R t.price.units x) xs) (paired p b.fills o.fills)
      = λ party R xs a. all_two (λ t. t.price ≡ p) (λ t. SomeOf (λ x. (K.number x ≡ party t) × R p.units x) xs) (λ t. SomeOf (λ x. (K.number x ≡ party t) × R t.price.units x) xs)
      (λ t c k. subst (λ (z : Price). SomeOf (λ x. (K.number x ≡ party t) × R z.units x) xs) (sym c) k) (paired p b.fills o.fills) at-price a in
      record {
        settled = opens_units K s;
        told = paired_volume p b.fills o.fills (omega arith) ∙ e;
        its_volume = refl;
        greatest = price_best K s;
        priced = at-price;
        buyers_in_turn = turned_named K (λ t. t.buyer) (λ t x. t.price.units ≤ units K x) s.buyers (λ n. 0) (paired p b.fills o.fills)
            (paired_buyers_turn K s.buyers p (λ n. 0) (λ n. 0) b.fills o.fills (omega arith) (λ k. omega arith) (sweep_turns W (λ n. 0) s.buyers [] rb refl h.buyers.ranked tt))
            (named (λ t. t.buyer) (λ u x. u ≤ units K x) s.buyers (paired_buyers (λ n. SomeOf (λ x. (K.number x ≡ n) × (p.units ≤ units K x)) s.buyers) p b.fills o.fills (fills_lines (λ x. p.units ≤ units K x) rb (λ x t. leb-true p.units (units K x) t))));
        sellers_in_turn = turned_named K (λ t. t.seller) (λ t x. units K x ≤ t.price.units) s.sellers (λ n. 0) (paired p b.fills o.fills)
            (paired_sellers_turn K s.sellers p (λ n. 0) b.fills o.fills (sweep_turns W (λ n. 0) s.sellers [] ro refl h.sellers.ranked tt))
            (named (λ t. t.seller) (λ u x. units K x ≤ u) s.sellers (paired_sellers (λ n. SomeOf (λ x. (K.number x ≡ n) × (units K x ≤ p.units)) s.sellers) p b.fills o.fills (fills_lines (λ x. units K x ≤ p.units) ro (λ x t. leb-true (units K x) p.units t))));
        runs = refl;
        same_count = refl;
      }
