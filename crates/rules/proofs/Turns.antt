-- Each trade in its turn. Assumes nothing.
use Rattle.prices.specs.declared.price.Price.{Price}
use Rattle.rules.specs.declared.terms.Trade.{Trade}
use Rattle.rules.specs.Fair.{InTurn, SomeOf}
use Rattle.rules.specs.Lines.{Fill, Sweep, only, swept, total}
use Rattle.rules.specs.Book.{any_price, dealt, fills_kind, paired}
use Rattle.rules.specs.Laws.{Before, Pairwise, Lawful}
use Rattle.std.proofs.Common.{◌≡◌, ℕ, ◌+◌, ◌-◌, ◌≤◌, Bool, true, eqb, List, [], ◌∷◌, ◌++◌, map, sym, refl, ap, ◌∙◌, subst, arith}
use lib.Seq.{append_snoc}
use Rattle.std.specs.List.{AllByRecursion}
use Rattle.std.proofs.ByRecursion.{All-weaker, All-append, All-push}
use Rattle.std.proofs.lemmas.Bool.{true≢false, eq-eqb}
use Rattle.lines.specs.Kind.{Kind}
use Rattle.rules.proofs.Lists.{some_with, all_at, pairwise_back, pairwise_weaker, all_pairs, all_any, only_true, only_add, only_zero}
use Rattle.rules.proofs.Prices.{one_way}
use Rattle.rules.proofs.Kept.{dealt_total}
use Rattle.rules.proofs.Sweeps.{Swept, ends, stops, parts, uses, sweep}

module _ {L : Type 0} (K : Kind L) where
  -- every line that precedes a line with the number n has no shares left
  abbrev pub Ahead : List L → (ℕ → ℕ) → ℕ → Type 0
  Ahead xs gone n = AllByRecursion (λ x. AllByRecursion (λ y. n ≡ K.number x → K.precedes y x ≡ true → K.left y ≤ gone (K.number y)) xs) xs

  abbrev pub Turned : (Trade → ℕ) → List L → (ℕ → ℕ) → List Trade → Type 0
  Turned party xs gone [] = Unit {0}
  Turned party xs gone (t ∷ ts) = Ahead xs gone (party t) × Turned party xs (λ n. gone n + only (eqb n (party t)) t.quantity) ts

  -- with the line that each trade takes from
  pub turned_named : (party : Trade → ℕ) (P : Trade → L → Type 0) (xs : List L) (gone : ℕ → ℕ) (ts : List Trade) → Turned party xs gone ts → AllByRecursion (λ t. SomeOf (λ x. (K.number x ≡ party t) × P t x) xs) ts → InTurn K party P xs gone ts
  turned_named party P xs gone [] h a = tt
  turned_named party P xs gone (t ∷ ts) h a = (
    some_with (λ x. AllByRecursion (λ y. party t ≡ K.number x → K.precedes y x ≡ true → K.left y ≤ gone (K.number y)) xs) (λ x. (K.number x ≡ party t) × P t x)
        (λ x. (K.number x ≡ party t) × P t x × AllByRecursion (λ y. K.precedes y x ≡ true → K.left y ≤ gone (K.number y)) xs)
        (λ x k j. (j.0, j.1, All-weaker (λ y. party t ≡ K.number x → K.precedes y x ≡ true → K.left y ≤ gone (K.number y)) (λ y. K.precedes y x ≡ true → K.left y ≤ gone (K.number y)) (λ y f. f (sym j.0)) xs k)) xs h.0 a.0,
    turned_named party P xs (λ n. gone n + only (eqb n (party t)) t.quantity) ts h.1 a.1,
  )

  -- the same of fills
  abbrev pub Turns : List L → (ℕ → ℕ) → List Fill → Type 0
  Turns xs gone [] = Unit {0}
  Turns xs gone (f ∷ fs) = Ahead xs gone f.number × Turns xs (λ n. gone n + only (eqb n f.number) f.shares) fs

  -- with more gone it is still so
  pub turn_later : (xs : List L) (d e : ℕ → ℕ) (n : ℕ) → ((k : ℕ) → d k ≤ e k) → Ahead xs d n → Ahead xs e n
  turn_later xs d e n le t =
      All-weaker (λ x. AllByRecursion (λ y. n ≡ K.number x → K.precedes y x ≡ true → K.left y ≤ d (K.number y)) xs) (λ x. AllByRecursion (λ y. n ≡ K.number x → K.precedes y x ≡ true → K.left y ≤ e (K.number y)) xs)
      (λ x a. All-weaker (λ y. n ≡ K.number x → K.precedes y x ≡ true → K.left y ≤ d (K.number y)) (λ y. n ≡ K.number x → K.precedes y x ≡ true → K.left y ≤ e (K.number y)) (λ y f u v. omega (arith, f u v, le (K.number y))) xs a)
      xs t

  pub turns_later : (xs : List L) (d e : ℕ → ℕ) (fs : List Fill) → ((k : ℕ) → d k ≤ e k) → Turns xs d fs → Turns xs e fs
  turns_later xs d e [] le t = tt
  turns_later xs d e (f ∷ fs) le t = (
    turn_later xs d e f.number le t.0,
    turns_later xs (λ n. d n + only (eqb n f.number) f.shares) (λ n. e n + only (eqb n f.number) f.shares) fs (λ k. omega (arith, le k)) t.1,
  )

  -- a fill cut in two is still in its turn
  turns_cut : (xs : List L) (d e : ℕ → ℕ) {q : ℕ} {fs : List Fill} {w : Sweep Fill} → Swept fills_kind any_price q fs w → ((k : ℕ) → d k ≤ e k) → Turns xs d fs → Turns xs e (w.fills ++ w.rest)
  turns_cut xs d e ends le t = tt
  turns_cut xs d e (stops {x = f} {xs = fs} h) le t = turns_later xs d e (f ∷ fs) le t
  turns_cut xs d e (parts {q = q} {x = f} {xs = fs} h p l) le t = (
    turn_later xs d e f.number le t.0,
    (
      turn_later xs d (λ n. e n + only (eqb n f.number) q) f.number (λ k. omega (arith, le k)) t.0,
      turns_later xs (λ n. d n + only (eqb n f.number) f.shares) (λ n. e n + only (eqb n f.number) q + only (eqb n f.number) (f.shares - q)) fs
          (λ k. let z : q + (f.shares - q) ≡ f.shares = omega arith in omega (arith, le k, only_add (eqb k f.number) q (f.shares - q), ap (only (eqb k f.number)) z)) t.1,
    ),
  )
  turns_cut xs d e (uses {x = f} h p l r) le t = (
    turn_later xs d e f.number le t.0,
    turns_cut xs (λ n. d n + only (eqb n f.number) f.shares) (λ n. e n + only (eqb n f.number) f.shares) r (λ k. omega (arith, le k)) t.1,
  )

  -- the sellers of the trades of fills
  deal_sellers : (xs : List L) (p : Price) (b : Fill) (d : ℕ → ℕ) (fs rest : List Fill) (us : List Trade) → Turns xs d (fs ++ rest) → ((e : ℕ → ℕ) → Turns xs e rest → Turned (λ t. t.seller) xs e us) → Turned (λ t. t.seller) xs d (map (dealt p b) fs ++ us)
  deal_sellers xs p b d [] rest us t k = k d t
  deal_sellers xs p b d (f ∷ fs) rest us t k = (t.0, deal_sellers xs p b (λ n. d n + only (eqb n f.number) f.shares) fs rest us t.1 k)

  pub paired_sellers_turn : (xs : List L) (p : Price) (d : ℕ → ℕ) (bs ss : List Fill) → Turns xs d ss → Turned (λ t. t.seller) xs d (paired p bs ss)
  paired_sellers_turn xs p d [] ss t = tt
  paired_sellers_turn xs p d (b ∷ bs) ss t =
      let w : Sweep Fill = swept fills_kind any_price b.shares ss in
      deal_sellers xs p b d w.fills w.rest (paired p bs w.rest)
      (turns_cut xs d d (sweep fills_kind any_price b.shares ss) (λ k. omega arith) t)
      (λ e u. paired_sellers_turn xs p e bs w.rest u)

  -- the buyers of the trades of fills
  deal_buyers : (xs : List L) (p : Price) (b : Fill) (d e : ℕ → ℕ) (fs : List Fill) (us : List Trade) → Ahead xs d b.number → ((k : ℕ) → d k ≤ e k) → ((g : ℕ → ℕ) → ((k : ℕ) → g k ≡ e k + only (eqb k b.number) (total fs)) → Turned (λ t. t.buyer) xs g us) → Turned (λ t. t.buyer) xs e (map (dealt p b) fs ++ us)
  deal_buyers xs p b d e [] us t le k = k e (λ n. omega (arith, only_zero (eqb n b.number)))
  deal_buyers xs p b d e (f ∷ fs) us t le k = (
    turn_later xs d e b.number le t,
    deal_buyers xs p b d (λ n. e n + only (eqb n b.number) f.shares) fs us t (λ n. omega (arith, le n)) (λ g h. k g (λ n. omega (arith, h n, only_add (eqb n b.number) f.shares (total fs)))),
  )

  pub paired_buyers_turn : (xs : List L) (p : Price) (d e : ℕ → ℕ) (bs ss : List Fill) → total bs ≤ total ss → ((k : ℕ) → d k ≤ e k) → Turns xs d bs → Turned (λ t. t.buyer) xs e (paired p bs ss)
  paired_buyers_turn xs p d e [] ss l le t = tt
  paired_buyers_turn xs p d e (b ∷ bs) ss l le t =
      let w : Sweep Fill = swept fills_kind any_price b.shares ss in
      let c = dealt_total b bs ss l in
      deal_buyers xs p b d e w.fills (paired p bs w.rest) t.0 le
      (λ g h. paired_buyers_turn xs p (λ n. d n + only (eqb n b.number) b.shares) g bs w.rest c.1 (λ k. omega (arith, h k, le k, ap (only (eqb k b.number)) c.0)) t.1)

module _ {L : Type 0} {K : Kind L} (W : Lawful K) where
  -- lines with one number are one
  pub same_line : (xs : List L) → Pairwise (Before K) xs → AllByRecursion (λ x. AllByRecursion (λ y. K.number x ≡ K.number y → x ≡ y) xs) xs
  same_line xs r = all_pairs (λ x y. K.number x ≡ K.number y → x ≡ y) (λ x _. refl) xs (pairwise_weaker (λ _. Unit {0}) (Before K) (λ x y. (K.number x ≡ K.number y → x ≡ y) × (K.number y ≡ K.number x → y ≡ x)) (λ x y _ _ b. (λ e. absurd (b.1 e), λ e. absurd (b.1 (sym e)))) xs (all_any (λ _. Unit {0}) (λ _. tt) xs) r)

  -- what precedes a line stands before it
  ahead : (gone : ℕ → ℕ) (pre : List L) (x : L) (xs : List L) → Pairwise (Before K) (pre ++ x ∷ xs) → AllByRecursion (λ y. K.left y ≤ gone (K.number y)) pre → AllByRecursion (λ y. K.precedes y x ≡ true → K.left y ≤ gone (K.number y)) (pre ++ x ∷ xs)
  ahead gone pre x xs r a =
      All-append (λ y. K.precedes y x ≡ true → K.left y ≤ gone (K.number y)) pre (x ∷ xs)
      (All-weaker (λ y. K.left y ≤ gone (K.number y)) (λ y. K.precedes y x ≡ true → K.left y ≤ gone (K.number y)) (λ y l _. l) pre a) (
        λ p. absurd (true≢false (sym p ∙ W.ranking.irreflexive x)),
        All-weaker (Before K x) (λ y. K.precedes y x ≡ true → K.left y ≤ gone (K.number y)) (λ y b p. absurd (one_way W x y b.0 p)) xs (pairwise_back (Before K) pre (x ∷ xs) r).0,
      )

  turn_at : (gone : ℕ → ℕ) (all pre : List L) (x : L) (xs : List L) → pre ++ x ∷ xs ≡ all → Pairwise (Before K) all → AllByRecursion (λ y. K.left y ≤ gone (K.number y)) pre → Ahead K all gone (K.number x)
  turn_at gone all pre x xs e r a =
      let u : AllByRecursion (λ y. K.number x ≡ K.number y → x ≡ y) all = all_at (λ z. AllByRecursion (λ y. K.number z ≡ K.number y → z ≡ y) all) pre x xs (subst (λ (zs : List L). AllByRecursion (λ z. AllByRecursion (λ y. K.number z ≡ K.number y → z ≡ y) all) zs) (sym e) (same_line all r)) in
      let b : AllByRecursion (λ y. K.precedes y x ≡ true → K.left y ≤ gone (K.number y)) all = subst (λ (zs : List L). AllByRecursion (λ y. K.precedes y x ≡ true → K.left y ≤ gone (K.number y)) zs) e (ahead gone pre x xs (subst (Pairwise (Before K)) (sym e) r) a) in
      All-weaker (λ z. K.number x ≡ K.number z → x ≡ z) (λ z. AllByRecursion (λ y. K.number x ≡ K.number z → K.precedes y z ≡ true → K.left y ≤ gone (K.number y)) all)
      (λ z k. All-weaker (λ y. K.precedes y x ≡ true → K.left y ≤ gone (K.number y)) (λ y. K.number x ≡ K.number z → K.precedes y z ≡ true → K.left y ≤ gone (K.number y)) (λ y f n p. f (subst (λ (v : L). K.precedes y v ≡ true) (sym (k n)) p)) all b)
      all u

  pub sweep_turns : {e : ℕ → Bool} (gone : ℕ → ℕ) (all pre : List L) {q : ℕ} {xs : List L} {s : Sweep L} → Swept K e q xs s → pre ++ xs ≡ all → Pairwise (Before K) all → AllByRecursion (λ y. K.left y ≤ gone (K.number y)) pre → Turns K all gone s.fills
  sweep_turns gone all pre ends e r a = tt
  sweep_turns gone all pre (stops h) e r a = tt
  sweep_turns gone all pre (parts {x = x} {xs = xs} h p l) e r a = (turn_at gone all pre x xs e r a, tt)
  sweep_turns gone all pre (uses {x = x} {xs = xs} h p l w) e r a =
      let then : ℕ → ℕ = λ n. gone n + only (eqb n (K.number x)) (K.left x) in (
        turn_at gone all pre x xs e r a,
        sweep_turns then all (pre ++ (x ∷ [])) w (append_snoc pre x xs ∙ e) r
            (All-push (λ y. K.left y ≤ then (K.number y)) pre x (All-weaker (λ y. K.left y ≤ gone (K.number y)) (λ y. K.left y ≤ then (K.number y)) (λ y k. omega arith) pre a)
            (omega (arith, only_true (eqb (K.number x) (K.number x)) (K.left x) (eq-eqb (K.number x) (K.number x) refl)))),
      )
