-- Every share is accounted for, over every list of commands to several books. Assumes nothing.
use Rattle.prices.specs.declared.price.Price.{Price}
use Rattle.rules.specs.declared.terms.Trade.{Trade}
use Rattle.rules.specs.declared.terms.BookFault.{BookFault}
use Rattle.rules.specs.Lines.{Fill, Sweep, swept}
use Rattle.rules.specs.Book.{Book, tape_holds, accepts, any_price, buys, dealt, effect, fault, fills_kind, lines_in, opens_at, others, paired, sought, step, struck, unless_fault, volume_of}
use Rattle.rules.specs.Laws.{Lawful}
use Rattle.rules.specs.History.{Accounted, Asked, Command, Desk, Event, EveryShareIsAccountedFor, Tape, asking, call_of, calling, closing, commanded, empty_tapes, entered_in, entering, event, free_on, halting, happened, history, joining, lapsed_in, market, on_tapes, opening, rests_in, resuming, showing, starting, tape_of, touched, traded, with_number, withdrawing, withdrawn_in, written_on}
use Rattle.std.proofs.Common.{◌≡◌, ℕ, zero, suc, ◌+◌, ◌≤◌, false, cond, eqb, leb, List, [], ◌∷◌, ◌++◌, map, length, Some, None, Option, sym, refl, ap, ◌∙◌, subst, arith, length-append}
use lib.ListN.{length-map}
use Rattle.std.proofs.lemmas.Bool.{cond-true, cond-false, eqb-true, ltb-false}
use Rattle.lines.specs.Kind.{Kind}
use Rattle.rules.proofs.Lists.{by_test, sum_append}
use Rattle.rules.proofs.Sweeps.{fills_length, fills_rest_length, no_fills, sweep}
use Rattle.rules.proofs.Sound.{Held, sound_fresh, sound_step}
use Rattle.rules.proofs.Faults.{faultless}
use Rattle.rules.proofs.Kept.{balance}
use Rattle.rules.proofs.Markets.{Alive, alive_touched}

paired_length : (p : Price) (bs ss : List Fill) → length (paired p bs ss) ≤ length bs + length ss
paired_length p [] ss = omega arith
paired_length p (b ∷ bs) ss =
    let w : Sweep Fill = swept fills_kind any_price b.shares ss in
    omega (arith, length-append (map (dealt p b) w.fills) (paired p bs w.rest), length-map w.fills (dealt p b), paired_length p bs w.rest, fills_rest_length (sweep fills_kind any_price b.shares ss))

-- what is written on a tape is on the tapes
written_adds : (n i : ℕ) (us : List Trade) (ts : List Tape) → length us ≤ free_on i ts → on_tapes n (written_on i us ts) ≡ on_tapes n ts + traded n us
written_adds n i [] [] l = refl
written_adds n i (u ∷ us) [] l = absurd (omega arith)
written_adds n zero us (t ∷ ts) l = omega (arith, sum_append (with_number n) t.written us)
written_adds n (suc i) us (t ∷ ts) l = omega (arith, written_adds n i us ts l)

no_tapes : (n : ℕ) (sizes : List ℕ) → on_tapes n (empty_tapes sizes) ≡ 0
no_tapes n [] = refl
no_tapes n (k ∷ ks) = omega (arith, no_tapes n ks)

module _ {L : Type 0} {K : Kind L} (W : Lawful K) where
  -- a call's trades fit the free places of the tape that it names
  effect_room : (s : Book L) (a : Asked) (ts : List Tape) → tape_holds K s (call_of a ts) ≡ false → length (effect K s (call_of a ts)).trades ≤ free_on (tape_of a) ts
  effect_room s (joining o plain) ts e =
      let w : Sweep L = swept K (accepts o) 0 (others K s o) in
      let z : w.fills ≡ [] = no_fills (sweep K (accepts o) 0 (others K s o)) refl in
      omega (arith, length-map w.fills (struck (buys o) s.next), ap length z)
  effect_room s (entering o i) ts e =
      let w : Sweep L = swept K (accepts o) (sought K s o) (others K s o) in
      omega (arith, length-map w.fills (struck (buys o) s.next), fills_length (sweep K (accepts o) (sought K s o) (others K s o)), ltb-false (free_on i ts) (length (others K s o)) e)
  effect_room s (withdrawing n) ts e = omega arith
  effect_room s (showing n) ts e = omega arith
  effect_room s calling ts e = omega arith
  effect_room s (opening i) ts e =
      let p : Price = opens_at K s in
      let v : ℕ = volume_of K s p.units in
      omega (arith, ltb-false (free_on i ts) (lines_in K s) e, paired_length p (swept K (leb p.units) v s.buyers).fills (swept K (λ r. leb r p.units) v s.sellers).fills, fills_length (sweep K (leb p.units) v s.buyers), fills_length (sweep K (λ r. leb r p.units) v s.sellers))
  effect_room s halting ts e = omega arith
  effect_room s resuming ts e = omega arith
  effect_room s closing ts e = omega arith

  pub trades_room : (s : Book L) (a : Asked) (ts : List Tape) → length (step K s (call_of a ts)).trades ≤ free_on (tape_of a) ts
  unfolding step
  trades_room s a ts = go (fault K s (call_of a ts)) (λ e. effect_room s a ts (faultless K s (call_of a ts) e).tape)
    where
      go : (o : Option BookFault) → (o ≡ None → length (effect K s (call_of a ts)).trades ≤ free_on (tape_of a) ts) → length (unless_fault K o s (effect K s (call_of a ts))).trades ≤ free_on (tape_of a) ts
      go None f = f refl
      go (Some x) f = omega arith

  -- from a desk on: what is entered and what rests and is on the tapes at the start comes to the rest
  abbrev Carried : ℕ → Desk L → List (Event L) → Desk L → Type 0
  Carried n s h t =
      entered_in K n h + rests_in K n s.book + on_tapes n s.tapes ≡ on_tapes n t.tapes + withdrawn_in K n h + lapsed_in K n h + rests_in K n t.book

  carried_event : (n : ℕ) (s : Desk L) (a : Asked) → Held K s.book → Carried n s (event K s a ∷ []) (event K s a).after
  carried_event n s a h =
      omega (arith, balance W n s.book a s.tapes h, written_adds n (tape_of a) (step K s.book (call_of a s.tapes)).trades s.tapes (trades_room s.book a s.tapes))

  -- what a desk and what comes after it come to
  abbrev AccountFrom : ℕ → Option (Desk L) → List (Event L) → Option (Desk L) → Type 0
  AccountFrom n None h None = entered_in K n h ≡ 0
  AccountFrom n None h (Some t) = entered_in K n h ≡ on_tapes n t.tapes + withdrawn_in K n h + lapsed_in K n h + rests_in K n t.book
  AccountFrom n (Some s) h None = ⊥
  AccountFrom n (Some s) h (Some t) = Carried n s h t

  account_command : (n : ℕ) (o : Option (Desk L)) (c : Command) (h : List (Event L)) (e : Option (Desk L)) → Alive K (Held K) o → AccountFrom n (commanded K o c) h e → AccountFrom n o (happened K o c ++ h) e
  account_command n None (starting reference run sizes) h None a k = absurd k
  account_command n None (starting reference run sizes) h (Some t) a k = omega (arith, k, no_tapes n sizes)
  account_command n None (asking x) h None a k = k
  account_command n None (asking x) h (Some t) a k = k
  account_command n (Some s) (starting reference run sizes) h e a k = k
  account_command n (Some s) (asking x) h None a k = absurd k
  account_command n (Some s) (asking x) h (Some t) a k = omega (arith, k, carried_event n s x a)

  account : (n : ℕ) (m : ℕ → Option (Desk L)) (cs : List (ℕ × Command)) (i : ℕ) → ((j : ℕ) → Alive K (Held K) (m j)) → AccountFrom n (m i) (history K m cs i) (market K m cs i)
  account n m [] i h = start_even (m i)
    where
      start_even : (o : Option (Desk L)) → AccountFrom n o [] o
      start_even None = refl
      start_even (Some s) = omega arith
  account n m (c ∷ cs) i h =
      let m' : ℕ → Option (Desk L) = touched K m c.0 c.1 in
      let alive : (j : ℕ) → Alive K (Held K) (m' j) = alive_touched K (Held K) (sound_fresh W) (sound_step W) m c.0 c.1 h in
      let ih : AccountFrom n (m' i) (history K m' cs i) (market K m' cs i) = account n m' cs i alive in
      by_test (eqb i c.0) (λ b. eqb i c.0 ≡ b → AccountFrom n (m i) (cond b (happened K (m i) c.1) [] ++ history K m' cs i) (market K m' cs i))
      (λ t _. account_command n (m i) c.1 (history K m' cs i) (market K m' cs i) (h i)
      (subst (λ o. AccountFrom n o (history K m' cs i) (market K m' cs i)) (cond-true (eqb i c.0) (commanded K (m c.0) c.1) (m i) t ∙ ap (λ j. commanded K (m j) c.1) (sym (eqb-true i c.0 t))) ih))
      (λ f _. subst (λ o. AccountFrom n o (history K m' cs i) (market K m' cs i)) (cond-false (eqb i c.0) (commanded K (m c.0) c.1) (m i) f) ih)
      refl

  told : (h : List (Event L)) (o : Option (Desk L)) → ((n : ℕ) → AccountFrom n None h o) → Accounted K h o
  told h None k = k
  told h (Some s) k = k

  pub accounted : EveryShareIsAccountedFor K
  accounted cs i = told (history K (λ _. None) cs i) (market K (λ _. None) cs i) (λ n. account n (λ _. None) cs i (λ _. tt))
