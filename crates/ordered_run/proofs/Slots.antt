-- What the writes over the slots leave. Assumes nothing.
use Rattle.std.proofs.Common.{◌≡◌, ℕ, ◌+◌, ◌-◌, ◌<◌, ◌≤◌, min, List, ◌∷◌, ◌++◌, length, get_or, take, drop, set, refl, sym, ap, ◌∙◌, arith}
use Rattle.std.specs.List.{between, copy_within, insert, remove}
use Rattle.std.proofs.lemmas.List.{append_assoc, length-take-le, set_at, take_at, take-take, take_more}
use Rattle.std.proofs.lemmas.List.Edits.{take-paste}
use Rattle.std.proofs.lemmas.Grind.{common_steps}
use Rattle.std.proofs.lemmas.Slice.{between_is, drop-append-drop}
use Rattle.ordered_run.specs.Run.{laid}

module _ {X : Type 0} where
  -- t has the slots of s from n on
  lays : (n : ℕ) (s t : List X) → n ≤ length t → drop n t ≡ drop n s → t ≡ laid (take n t) s
  lays n s t l e = grind (arith, common_steps)

  -- the items laid over the memory that they lie in
  pub laid_same : (n : ℕ) (s : List X) → laid (take n s) s ≡ s
  laid_same n s = grind (arith, common_steps)

  -- x is written behind the items
  pub push_lays : (s : List X) (u : ℕ) (x : X) → u < length s → set s u x ≡ laid (take (u + 1) (set s u x)) s
  push_lays s u x l = lays (u + 1) s (set s u x) (grind (arith, common_steps)) (grind (arith, common_steps))

  -- what was laid over is laid over again
  pub laid_again : (xs ys m : List X) → length xs ≤ length ys → laid ys (laid xs m) ≡ laid ys m
  laid_again xs ys m l = ap (λ t. ys ++ t) (drop-append-drop (length xs) m xs (length ys) l refl)

  pub remove_leaves : (s : List X) (u at : ℕ) → at < u → u ≤ length s → take (u - 1) (copy_within s (at + 1) u at) ≡ remove (take u s) at
  remove_leaves s u at lt le = grind (arith, common_steps, take-paste, between_is)

  -- the slots from at on are moved up by one, and x is written there
  inserted : (s : List X) (u at : ℕ) (x : X) → at ≤ u → u < length s → set (copy_within s at u (at + 1)) at x ≡ insert (take u s) at x ++ drop (u + 1) s
  inserted s u at x le l =
      let y = get_or s at x in
      let rest = between at u s ++ drop (u + 1) s in
      let past : at + 1 + (u - at) ≡ u + 1 = omega arith in
      let within : at < length s = omega arith in
      let moved : copy_within s at u (at + 1) ≡ take at s ++ y ∷ rest = rw (past, take_more s at x within) (simp append_assoc) in
      let same : insert (take u s) at x ++ drop (u + 1) s ≡ take at s ++ x ∷ rest = rw (take-take at u s le, ← between_is s at u) (simp append_assoc) in
      ap (λ t. set t at x) moved ∙ set_at (take at s) y rest x at (length-take-le at s (omega arith)) ∙ sym same

  length_inserted : (s : List X) (u at : ℕ) (x : X) → at ≤ u → u < length s → length (insert (take u s) at x) ≡ u + 1
  length_inserted s u at x le l = grind (arith, common_steps)

  pub insert_leaves : (s : List X) (u at : ℕ) (x : X) → u < length s → take (u + 1) (set (copy_within s (min at u) u (min at u + 1)) (min at u) x) ≡ insert (take u s) at x
  insert_leaves s u at x l =
      let is = inserted s u (min at u) x (omega arith) l in
      let n = length_inserted s u (min at u) x (omega arith) l in
      let capped : insert (take u s) (min at u) x ≡ insert (take u s) at x = grind (arith, common_steps) in
      ap (take (u + 1)) is ∙ take_at (insert (take u s) (min at u) x) (drop (u + 1) s) (u + 1) n ∙ capped

  pub insert_lays : (s : List X) (u at : ℕ) (x : X) → at ≤ u → u < length s → set (copy_within s at u (at + 1)) at x ≡ laid (take (u + 1) (set (copy_within s at u (at + 1)) at x)) s
  insert_lays s u at x le l =
      let is = inserted s u at x le l in
      let n = length_inserted s u at x le l in
      lays (u + 1) s (set (copy_within s at u (at + 1)) at x) (grind (arith, common_steps)) (grind (arith, common_steps))
