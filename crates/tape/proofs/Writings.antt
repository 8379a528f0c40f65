-- What writing on a tape keeps. Assumes nothing.
use Rattle.std.proofs.Common.{◌≡◌, ℕ, ◌+◌, ◌<◌, ◌≤◌, Bool, cond, ltb, List, [], ◌∷◌, ◌++◌, length, sym, refl, ap, ◌∙◌, append-nil, arith}
use Rattle.std.proofs.lemmas.List.{append_assoc, length_push}
use Rattle.std.proofs.lemmas.Bool.{cond-true, lt-ltb}
use Rattle.ordered_run.specs.Run.{laid}
use Rattle.ordered_run.proofs.Slots.{laid_again, laid_same}
use Rattle.rules.specs.declared.terms.Trade.{Trade}
use Rattle.tape.specs.declared.Tape.{Tape}
use Rattle.tape.specs.Written.{free, lender, memory, written}

-- where a place is free, the trade is written
wrote : (t u : Tape) (x : Trade) (r : Bool) → 0 < free t → r ≡ ltb 0 (free t) → written u ≡ cond r (written t ++ x ∷ []) (written t) → written u ≡ written t ++ x ∷ []
wrote t u x r l e after = after ∙ cond-true r _ _ (e ∙ lt-ltb 0 (free t) l)

-- and one place fewer is free
free_less : (t u : Tape) (x : Trade) → 0 < free t → written u ≡ written t ++ x ∷ [] → length (memory u) ≡ length (memory t) → free u + 1 ≡ free t
free_less t u x l e room = omega (arith, ap length e ∙ length_push (written t) x)

-- from the tape t on, the trades up to those still to write were written; n places at least are free
pub record Writing (t u : Tape) (all left : List Trade) (n : ℕ) : Type 0 where
  pub goes : written u ++ left ≡ written t ++ all
  pub past : memory u ≡ laid (written u) (memory t)
  pub lent : lender u ≡ lender t
  pub room : n ≤ free u

pub begins : (t : Tape) (all : List Trade) (n : ℕ) → n ≤ free t → Writing t t all all n
begins t all n l = record { goes = refl; past = sym (laid_same t.used (memory t)); lent = refl; room = l }

pub writes :
    (t u v : Tape) (all left more : List Trade) (x : Trade) (r : Bool) (n m : ℕ)
    → Writing t u all left n
    → r ≡ ltb 0 (free u)
    → written v ≡ cond r (written u ++ x ∷ []) (written u)
    → memory v ≡ laid (written v) (memory u)
    → length (memory v) ≡ length (memory u)
    → lender v ≡ lender u
    → left ≡ x ∷ more
    → m < n
    → Writing t v all more m
writes t u v all left more x r n m w answer after past room lent e l =
    let some : 0 < free u = omega (arith, w.room) in
    let is = wrote u v x r some answer after in
    let longer : length (written u) ≤ length (written v) = omega (arith, ap length is ∙ length_push (written u) x) in
    let less = free_less u v x some is room in
    record {
      goes = ap (λ ts. ts ++ more) is ∙ append_assoc (written u) (x ∷ []) more ∙ ap (λ ts. written u ++ ts) (sym e) ∙ w.goes;
      past = past ∙ ap (laid (written v)) w.past ∙ laid_again (written u) (written v) (memory t) longer;
      lent = lent ∙ w.lent;
      room = omega (arith, w.room, less);
    }

pub all_written : (t u : Tape) (all left : List Trade) (n : ℕ) → Writing t u all left n → left ≡ [] → written u ≡ written t ++ all
all_written t u all left n w e = sym (append-nil (written u)) ∙ ap (λ ts. written u ++ ts) (sym e) ∙ w.goes
