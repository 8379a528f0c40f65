-- What holds where nothing is refused. Assumes nothing.
use Rattle.rules.specs.Book.{Book, Call, empty_holds, full_holds, sheet_holds, shortfall_holds, tape_holds, turn_holds, unknown_holds, fault, refusals, takes}
use Rattle.std.proofs.Common.{◌≡◌, ℕ, Bool, true, false, List, [], ◌∷◌, Some, None, sym, ◌∙◌, ⊎_elim, arith}
use Rattle.std.specs.List.{AllByRecursion}
use Rattle.std.proofs.lemmas.Bool.{cases_Bool, cond-true, cond-false, not-false}
use Rattle.records.specs.Refusals.{first_of}
use Rattle.lines.specs.Kind.{Kind}

-- where none is the first, no condition holds
none_first : {F : Type 0} (rows : List (Bool × F)) → first_of rows ≡ None → AllByRecursion (λ row. row.0 ≡ false) rows
none_first [] e = tt
none_first (row ∷ rows) e =
    ⊎_elim
    (λ (t : row.0 ≡ true). absurd (some_none (sym (cond-true row.0 (Some row.1) (first_of rows) t) ∙ e)))
    (λ (f : row.0 ≡ false). (f, none_first rows (sym (cond-false row.0 (Some row.1) (first_of rows) f) ∙ e)))
    (cases_Bool row.0)
  where
    some_none : Some row.1 ≡ None → ⊥
    some_none z = let o : ◌≡◌ {A = ℕ} 0 1 = cc in omega arith

module _ {L : Type 0} (K : Kind L) (s : Book L) (c : Call) where
  pub record Faultless : Type 0 where
    pub turn : turn_holds K s c ≡ false
    pub tape : tape_holds K s c ≡ false
    pub shortfall : shortfall_holds K s c ≡ false
    pub full : full_holds K s c ≡ false
    pub empty : empty_holds K s c ≡ false
    pub sheet : sheet_holds K s c ≡ false
    pub unknown : unknown_holds K s c ≡ false

  pub faultless : fault K s c ≡ None → Faultless
  unfolding fault
  faultless e =
      let h = none_first (refusals K s c) e in
      record { turn = h.0; empty = h.1.1.1.0; tape = h.1.1.1.1.0; shortfall = h.1.1.1.1.1.0; full = h.1.1.1.1.1.1.0; sheet = h.1.1.1.1.1.1.1.0; unknown = h.1.1.1.1.1.1.1.1.0 }

  pub in_turn : fault K s c ≡ None → takes K s.status c ≡ true
  in_turn e = not-false _ (faultless e).turn
