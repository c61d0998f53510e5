-- A job and its budgets: q is the second of them in kind 9, and other kinds ignore it.
-- Assumes nothing.
use mathlib.Core.Path.{◌≡◌, refl, ap}
use Prim.Native.Nat.{ℕ, ◌<◌}
use native.Mathlib.Decide.{ℕ_discrete}
use mathlib.Core.Bool.{Bool, true, false}
use mathlib.Core.List.{List, [], ◌∷◌}
use lib.Dec.{lit<}
use borrow.Author.Tests.{eqb-true, ne_eqb}
use Rattle.meaning.specs.Reports.{Written}
use Rattle.meaning.specs.Lists.{at, if}
use Rattle.meaning.specs.Job.{Job, has_q, budget_count, job_of}
use Rattle.meaning.specs.Bytes.{readable}
use Rattle.meaning.specs.Certificates.{certified_knapsack, verdict_for, verdict_on_job}
use Rattle.meaning.specs.Writer.{Writes, WritesFor}

-- the kind with a q is 9
pub nine : (kind : ℕ) → has_q kind ≡ true → kind ≡ 9
unfolding has_q
nine kind e = eqb-true kind 9 e

pub not_nine : (kind : ℕ) → ¬ (kind ≡ 9) → has_q kind ≡ false
unfolding has_q
not_nine kind h = ne_eqb kind 9 h

-- so many budgets a kind has
pub two_budgets : (kind : ℕ) → has_q kind ≡ true → budget_count kind ≡ 2
unfolding budget_count if
two_budgets kind e = rw e

pub some_budget : (kind : ℕ) → 0 < budget_count kind
unfolding budget_count if
some_budget kind = go (has_q kind)
  where
    go : (b : Bool) → 0 < if b 2 1
    go true = lit< tt
    go false = lit< tt

module _ (kind : ℕ) (weights values copies : List ℕ) where
  -- what a job takes of its budgets: the first, and where its kind has a q, the second
  pub same_budgets : (budgets : List ℕ) (c q : ℕ) → at budgets 0 ≡ c → (has_q kind ≡ true → at budgets 1 ≡ q)
      → job_of kind budgets weights values copies ≡ job_of kind (c ∷ q ∷ []) weights values copies
  unfolding job_of if
  same_budgets budgets c q e f = go (has_q kind) refl
    where
      go : (b : Bool) → has_q kind ≡ b → job_of kind budgets weights values copies ≡ job_of kind (c ∷ q ∷ []) weights values copies
      go true h = rw (h, e, f h)
      go false h = rw (h, e)

  -- a kind other than 9 ignores q
  pub q_ignored : ¬ (kind ≡ 9) → (c q : ℕ) → job_of kind (c ∷ []) weights values copies ≡ job_of kind (c ∷ q ∷ []) weights values copies
  q_ignored other c q = same_budgets (c ∷ []) c q refl (λ nine-here. absurd (other (nine kind nine-here)))

  module _ (c q : ℕ) where
    abbrev without : Job
    without = job_of kind (c ∷ []) weights values copies

    abbrev with_q : Job
    with_q = job_of kind (c ∷ q ∷ []) weights values copies

    -- either the two are one job, or they are of kind 9, which has no certificates
    data SameOrNone : Type 0 where
      same : without ≡ with_q → SameOrNone
      kind_9 : kind ≡ 9 → SameOrNone

    same_or_none : SameOrNone
    same_or_none = elim (ℕ_discrete kind 9) [ yes e ↦ kind_9 e | no other ↦ same (q_ignored other c q) ]

    -- the checker ignores q
    pub verdict_ignores : (b : List ℕ) → verdict_on_job (readable without) b ≡ verdict_on_job (readable with_q) b
    unfolding verdict_on_job verdict_for certified_knapsack job_of
    verdict_ignores b = elim same_or_none [ same e ↦ ap (λ (j : Job). verdict_on_job (readable j) b) e | kind_9 e ↦ rw e ]

    -- and so does the writer
    pub writer_ignores : (picks cells before after : List ℕ) (a : Written) → Writes without picks cells before a after
        → Writes with_q picks cells before a after
    unfolding Writes WritesFor certified_knapsack job_of
    writer_ignores picks cells before after a h = elim same_or_none [ same e ↦ rw e at h | kind_9 e ↦ rw e (rw e at h) ]
