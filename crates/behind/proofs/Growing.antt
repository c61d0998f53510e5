-- The row as it is made label by label: each cell shows how many of the first labels reach its total.
-- Assumes nothing.
use mathlib.Core.Path.{◌≡◌}
use Prim.Native.Nat.{ℕ, suc, ◌-◌, ◌≤◌, ◌<◌}
use native.Mathlib.Omega.{arith}
use mathlib.Core.List.{List}
use borrow.Author.Tests.{eq-eqb, ne_eqb}
use Rattle.meaning.specs.Lists.{at, if}
use Rattle.meaning.specs.Cells.{LeastShown, no_way, shown, none_shown}
use Rattle.meaning.specs.Job.{Job, labels}
use Rattle.meaning.specs.Behind.{ReachedBy}
use Rattle.meaning.proofs.Behind.{first_none, first_no_labels, first_kept, first_new, first_still, too_heavy, rest_unreached, rest_reached}
use Rattle.rows.proofs.Stores.{by, alone_shows}
use Rattle.rows.proofs.Rounds.{each_round}
use Rattle.behind.specs.Firsts.{first_by, FirstsGrown}

-- ---- what the rule makes of a cell

-- a number that isn't the mark is kept
keeps : (i without rest : ℕ) → ¬ (without ≡ no_way) → first_by i without rest ≡ without
unfolding first_by if
keeps i without rest other = rw (ne_eqb without no_way other)

-- the mark gives way to the label where what it leaves isn't marked, and stays where it is
renews : (i without rest : ℕ) → without ≡ no_way → ¬ (rest ≡ no_way) → first_by i without rest ≡ i
unfolding first_by if
renews i without rest e other = rw (eq-eqb without no_way e, ne_eqb rest no_way other)

stays : (i without rest : ℕ) → without ≡ no_way → rest ≡ no_way → first_by i without rest ≡ no_way
unfolding first_by if
stays i without rest e e' = rw (eq-eqb without no_way e, eq-eqb rest no_way e') e

-- ---- with one label more, of fewer labels than the mark

module _ (j : Job) (i t : ℕ) (few : i < no_way) where
  abbrev w : ℕ
  w = at j.weights i

  -- no number of them is the mark
  unmarked : {u x : ℕ} → ReachedBy j i u x → ¬ (x ≡ no_way)
  unmarked d e = omega (arith, d.among)

  skip : (x : ℕ) → t < w → LeastShown (ReachedBy j i t) x → LeastShown (ReachedBy j (suc i) t) x
  skip x heavy (shown d least) = first_kept j i t x d least
  skip x heavy (none_shown none e) = rw e (first_still j i t none (too_heavy j i t none heavy))

  more : (x y : ℕ) → w ≤ t → LeastShown (ReachedBy j i t) x → LeastShown (ReachedBy j i (t - w)) y
      → LeastShown (ReachedBy j (suc i) t) (first_by (suc i) x y)
  more x y light (shown d least) rest = rw (keeps (suc i) x y (unmarked d)) (first_kept j i t x d least)
  more x y light (none_shown none e) (shown d least) =
      rw (renews (suc i) x y e (unmarked d)) (first_new j i t none (rest_reached j i t y light d))
  more x y light (none_shown none e) (none_shown none' e') =
      rw (stays (suc i) x y e e') (first_still j i t none (rest_unreached j i t none none'))

-- all of them: cell t shows how many of the first labels reach t
pub grown_firsts : (j : Job) (width : ℕ) → labels j < no_way → (row : List ℕ) → FirstsGrown j.weights width row
    → (t : ℕ) → t < width → LeastShown (ReachedBy j (labels j) t) (at row t)
unfolding labels
grown_firsts j width few row =
    each_round _ _ (λ i s. (t : ℕ) → t < width → LeastShown (ReachedBy j i t) (at s t)) (labels j)
    (alone_shows 0 no_way width (λ t x. LeastShown (ReachedBy j 0 t) x) (first_none j) (first_no_labels j))
    (λ i s next inside before up t h.
    let w = at j.weights i in
    by t w
    (λ heavy. rw (up.short t h heavy) (skip j i t (omega arith) (at s t) heavy (before t h)))
    (λ light.
    rw (up.long t h light) (more j i t (omega arith) (at s t) (at s (t - w)) light (before t h) (before (t - w) (omega arith)))))
    (labels j) row (omega arith)
