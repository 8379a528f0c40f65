-- The listing, one record on.
use Rattle.std.proofs.Common.{◌≡◌, ℕ, zero, suc, ◌+◌, ◌<◌, ◌≤◌, Bool, true, false, cond, nat_lt, List, ◌++◌, length, take, drop, Some, None, Ok, Err, is_ok, Option, Result, sym, refl, ap, subst, add-one, arith}
use Rattle.std.proofs.lemmas.List.{length-drop}
use Rattle.std.proofs.lemmas.Bool.{cond-false, ne_eqb, true≢false}
use Rattle.records.specs.declared.fault.RecordFault.{RecordFault}
use Rattle.records.specs.declared.fault.RecordFault.TheVariants.{Tail}
use Rattle.records.specs.Reading.{Reading, read_32, read_at}
use Rattle.records.specs.Refusals.{on_ok, unless}
use Rattle.orders.specs.declared.fault.OrderFault.{OrderFault}
use Rattle.orders.specs.Checks.{check_at, checked, fault_in}
use Rattle.listing.specs.Lines.{accepted, accepted_in, answer_at, line_of, lines, refused, refused_in}

pub lines_more : (input : List ℕ) (n : ℕ) → lines input (n + 1) ≡ lines input n ++ line_of n (answer_at input n)
lines_more input n = ap (lines input) (add-one n)

pub accepted_more : (input : List ℕ) (n : ℕ) → accepted_in input (n + 1) ≡ accepted_in input n + accepted (answer_at input n)
accepted_more input n = ap (accepted_in input) (add-one n)

pub refused_more : (input : List ℕ) (n : ℕ) → refused_in input (n + 1) ≡ refused_in input n + refused (answer_at input n)
refused_more input n = ap (refused_in input) (add-one n)

-- one record counts for one at most
pub one_at_most : (r : Result (Option Reading) OrderFault) → accepted r + refused r ≤ 1
one_at_most (Ok None) = omega arith
one_at_most (Ok (Some m)) = omega arith
one_at_most (Err fault) = omega arith

pub counts_at_most : (input : List ℕ) (n : ℕ) → accepted_in input n + refused_in input n ≤ n
counts_at_most input zero = omega arith
counts_at_most input (suc n) = omega (arith, counts_at_most input n, one_at_most (answer_at input n))

-- an answer with a record in it
abbrev pub Present : {F : Type 0} → Result (Option Reading) F → Type 0
Present (Ok None) = ⊥
Present (Ok (Some m)) = Unit {0}
Present (Err fault) = Unit {0}

read_present : (r : Result Reading RecordFault) → Present (on_ok Some r)
read_present (Ok m) = tt
read_present (Err fault) = tt

kept_present : (fault : Option OrderFault) (m : Reading) → Present (unless fault (Some m))
kept_present None m = tt
kept_present (Some fault) m = tt

checked_present : (r : Result (Option Reading) RecordFault) → Present r → Present (checked r)
checked_present (Ok None) p = p
checked_present (Ok (Some m)) p = kept_present (fault_in m) m
checked_present (Err fault) p = tt

-- each place before the end of the input has one
pub present : (input : List ℕ) (at : ℕ) → at < length input → Present (check_at input at)
unfolding check_at read_at
present input at l =
    checked_present (read_at input at)
    (subst Present (sym (cond-false _ _ _ (ne_eqb (length (drop at input)) 0 (λ e. omega (arith, length-drop at input)))))
    (elim (nat_lt (length (drop at input)) 32) as (λ b. Present (cond b (Err Tail) (on_ok Some (read_32 (take 32 (drop at input)) at)))) [ true ↦ tt | false ↦ read_present (read_32 (take 32 (drop at input)) at) ]))

-- and counts as accepted or as refused
abbrev pub Counted : Bool → Result (Option Reading) OrderFault → Type 0
Counted true r = (accepted r ≡ 1) × (refused r ≡ 0)
Counted false r = (accepted r ≡ 0) × (refused r ≡ 1)

pub counted : (b : Bool) (r : Result (Option Reading) OrderFault) → Present r → b ≡ is_ok r → Counted b r
counted b (Ok None) p e = absurd p
counted true (Ok (Some m)) p e = (refl, refl)
counted false (Ok (Some m)) p e = absurd (true≢false (sym e))
counted true (Err fault) p e = absurd (true≢false e)
counted false (Err fault) p e = (refl, refl)

pub is_ok_said : {X Y F : Type 0} (f : X → Y) (r : Result X F) → is_ok r ≡ is_ok (on_ok f r)
is_ok_said f (Ok x) = refl
is_ok_said f (Err fault) = refl
