-- No second choice is left: two slices that meet the promise of a function of this crate are the same. Two least counts: `least_unique` (Counts).
-- A slice keeps its length through a call, which no record of cells says again: these laws are handed it.
-- Assumes nothing.
use mathlib.Core.Path.{◌≡◌, sym, ◌∙◌}
use Prim.Native.Nat.{ℕ, ◌+◌, ◌-◌, ◌≤◌, ◌<◌}
use native.Mathlib.Omega.{arith}
use mathlib.Core.List.{List}
use lib.ListN.{length}
use lib.Seq.{ext_get_or}
use Rattle.meaning.specs.Lists.{at}
use Rattle.rows.specs.Rows.{GreatestRow, Stored, FirstAlone, NextRow}
use Rattle.rows.proofs.Stores.{by}
use Rattle.rows.proofs.Counts.{greatest_unique}

module _ (n : ℕ) (t t' : List ℕ) (long : length t ≡ n) (long' : length t' ≡ n) where
  -- slices of one length are settled by their places
  same_places : ((k : ℕ) → k < n → at t k ≡ at t' k) → t ≡ t'
  same_places same = ext_get_or 0 t t' (long ∙ sym long') (λ k h. same k (omega arith))

  -- those from `lo` to `hi` - 1 are settled, and the others are what s has there
  same_part : (s : List ℕ) (lo hi : ℕ) → ((k : ℕ) → lo ≤ k → k < hi → at t k ≡ at t' k)
      → ((k : ℕ) → k < lo → at t k ≡ at s k) → ((k : ℕ) → hi ≤ k → at t k ≡ at s k)
      → ((k : ℕ) → k < lo → at t' k ≡ at s k) → ((k : ℕ) → hi ≤ k → at t' k ≡ at s k) → t ≡ t'
  same_part s lo hi made before past before' past' =
      same_places (λ k h. by k lo
      (λ b. before k b ∙ sym (before' k b))
      (λ b. by k hi (made k b) (λ p. past k p ∙ sym (past' k p))))

  -- `set_all`, and whatever stores by a rule
  pub stored_unique : (s : List ℕ) (to lo hi : ℕ) (rule : ℕ → ℕ) → Stored s t to lo hi rule → Stored s t' to lo hi rule → t ≡ t'
  stored_unique s to lo hi rule d e =
      same_part s (to + lo) (to + hi)
      (λ k h l.
      let here : to + (k - to) ≡ k = omega arith in
      rw here at (d.cells (k - to) (omega arith) (omega arith) ∙ sym (e.cells (k - to) (omega arith) (omega arith))))
      d.before d.past e.before e.past

  -- `first_alone` and `mark_rest`
  pub first_alone_unique : (one none : ℕ) → FirstAlone one none n t → FirstAlone one none n t' → t ≡ t'
  first_alone_unique one none d e =
      same_places (λ k h. by 0 k
      (λ some. d.others k some h ∙ sym (e.others k some h))
      (λ first. let zero-th : k ≡ 0 = omega arith in rw zero-th (d.first ∙ sym e.first)))

  -- `next_row`
  pub next_row_unique : (s : List ℕ) (from width w v limit : ℕ) → NextRow s t from width w v limit → NextRow s t' from width w v limit → t ≡ t'
  unfolding GreatestRow
  next_row_unique s from width w v limit d e =
      let to = from + width in
      same_part s to (to + width)
      (λ k h l.
      let here : to + (k - to) ≡ k = omega arith in
      rw here at (greatest_unique (d.made (k - to) (omega arith)) (e.made (k - to) (omega arith))))
      d.before d.past e.before e.past

  -- `add_any_number`: every cell of the row is the greatest worth
  pub greatest_row_unique : (May : ℕ → Type 0) (f : ℕ → ℕ) (w v : ℕ) → GreatestRow May f w v n (at t) → GreatestRow May f w v n (at t') → t ≡ t'
  unfolding GreatestRow
  greatest_row_unique May f w v d e = same_places (λ k h. greatest_unique (d k h) (e k h))
