-- What every call keeps, every book of a market has, after every list of commands. Assumes nothing.
use Rattle.std.proofs.Common.{ℕ, cond, eqb, List, [], ◌∷◌, Some, None, Option}
use Rattle.std.specs.List.{AllByRecursion}
use Rattle.std.proofs.ByRecursion.{All-append}
use Rattle.std.proofs.lemmas.Bool.{cond_both}
use Rattle.prices.specs.declared.price.Price.{Price}
use Rattle.lines.specs.Kind.{Kind}
use Rattle.rules.specs.Book.{Book, Call, step}
use Rattle.rules.specs.Laws.{fresh}
use Rattle.rules.specs.History.{Asked, Command, Desk, Event, asking, call_of, commanded, event, happened, history, market, starting, touched}

module _ {L : Type 0} (K : Kind L) (P : Book L → Type 0) where
  abbrev pub Alive : Option (Desk L) → Type 0
  Alive None = Unit {0}
  Alive (Some s) = P s.book

module _ {L : Type 0} (K : Kind L) (P : Book L → Type 0) (fresh_has : (reference : Price) (run : ℕ) → P (fresh K reference run)) (step_keeps : (s : Book L) (c : Call) → P s → P (step K s c).after) where
  alive_commanded : (o : Option (Desk L)) (c : Command) → Alive K P o → Alive K P (commanded K o c)
  alive_commanded None (starting reference run sizes) h = fresh_has reference run
  alive_commanded None (asking a) h = tt
  alive_commanded (Some s) (starting reference run sizes) h = h
  alive_commanded (Some s) (asking a) h = step_keeps s.book (call_of a s.tapes) h

  pub alive_touched : (m : ℕ → Option (Desk L)) (i : ℕ) (c : Command) → ((j : ℕ) → Alive K P (m j)) → (j : ℕ) → Alive K P (touched K m i c j)
  alive_touched m i c h j = cond_both (eqb j i) (commanded K (m i) c) (m j) (Alive K P) (λ _. alive_commanded (m i) c (h i)) (λ _. h j)

  market_alive : (m : ℕ → Option (Desk L)) (cs : List (ℕ × Command)) → ((j : ℕ) → Alive K P (m j)) → (i : ℕ) → Alive K P (market K m cs i)
  market_alive m [] h i = h i
  market_alive m (c ∷ cs) h i = market_alive (touched K m c.0 c.1) cs (alive_touched m c.0 c.1 h) i

  pub each_book : (cs : List (ℕ × Command)) (i : ℕ) → Alive K P (market K (λ _. None) cs i)
  each_book cs i = market_alive (λ _. None) cs (λ _. tt) i

  module _ (Q : Event L → Type 0) (event_has : (s : Desk L) (a : Asked) → P s.book → Q (event K s a)) where
    happened_has : (o : Option (Desk L)) (c : Command) → Alive K P o → AllByRecursion Q (happened K o c)
    happened_has None c h = tt
    happened_has (Some s) (starting reference run sizes) h = tt
    happened_has (Some s) (asking a) h = (event_has s a h, tt)

    history_has : (m : ℕ → Option (Desk L)) (cs : List (ℕ × Command)) (i : ℕ) → ((j : ℕ) → Alive K P (m j)) → AllByRecursion Q (history K m cs i)
    history_has m [] i h = tt
    history_has m (c ∷ cs) i h =
        let m' : ℕ → Option (Desk L) = touched K m c.0 c.1 in
        All-append Q (cond (eqb i c.0) (happened K (m i) c.1) []) (history K m' cs i)
        (cond_both (eqb i c.0) (happened K (m i) c.1) [] (AllByRecursion Q) (λ _. happened_has (m i) c.1 (h i)) (λ _. tt))
        (history_has m' cs i (alive_touched m c.0 c.1 h))

    pub each_event : (cs : List (ℕ × Command)) (i : ℕ) → AllByRecursion Q (history K (λ _. None) cs i)
    each_event cs i = history_has (λ _. None) cs i (λ _. tt)
