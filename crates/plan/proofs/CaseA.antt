-- Case A by the program: whoever replies to its bytes puts document 01's four lines.
-- Assumes nothing.
use mathlib.Core.Path.{◌∙◌, ◌≡◌, ap, refl, subst}
use Prim.Native.Nat.{ℕ}
use native.Mathlib.Omega.{arith}
use mathlib.Core.List.{List, [], ◌∷◌}
use lib.ListN.{take}
use Rattle.meaning.specs.Says.{Answer}
use Rattle.meaning.specs.Says as Says
use Rattle.meaning.specs.Job.{once, packing}
use Rattle.meaning.specs.Bytes.{job_bytes, read_job}
use Rattle.meaning.specs.Told.{kind_read, labels_read}
use Rattle.meaning.proofs.Laws.{holds_first}
use Rattle.meaning.proofs.Cases.{case_a}
use Rattle.meaning.proofs.Held.{tried_says}
use Rattle.meaning.proofs.Opens.{opens}
use Rattle.print.specs.Lines.{ascii, lines_of}
use Rattle.print.proofs.Cases.{case_a_lem}
use Rattle.print.specs.Puts.{PutFirst}
use Rattle.plan.specs.Picks.{picks_written}
use Rattle.plan.specs.Replies.{JobReplied, Replied, a_job, longer, our_slices}
use Rattle.plan.proofs.Versions.{ready}

-- the lines of that answer
lines_a : (a : Answer) (picks : List ℕ) → a ≡ Says.Knapsack 9 7 → take 3 picks ≡ 1 ∷ 1 ∷ 0 ∷ []
    → lines_of (kind_read (read_job (job_bytes case_a))) a (take (picks_written a (labels_read (read_job (job_bytes case_a)))) picks)
    ≡ ascii "kind 1\nvalue 9\nweight 7\npicks 1 1 0\n"
unfolding kind_read labels_read picks_written opens
lines_a a picks says first =
    ap (λ (b : Answer). lines_of 1 b (take (picks_written b 3) picks)) says ∙ ap (lines_of 1 (Says.Knapsack 9 7)) first ∙ case_a_lem

job_replied_a : (before after : List ℕ) (size : ℕ) → JobReplied (job_bytes case_a) before after size
    → PutFirst (ascii "kind 1\nvalue 9\nweight 7\npicks 1 1 0\n") before after size
job_replied_a before after size x =
    let (says, written) = tried_says (packing once) our_slices x.left x.answer (ready (packing once)).unrefused x.solved in
    let first : take 3 x.left.picks ≡ 1 ∷ 1 ∷ 0 ∷ [] = holds_first (1 ∷ 1 ∷ 0 ∷ []) our_slices.picks x.left.picks 3 written refl in
    subst (λ (l : List ℕ). PutFirst l before after size) (lines_a x.answer x.left.picks says first) x.put

pub replied_a : (before after : List ℕ) (size : ℕ) → Replied (job_bytes case_a) before after size
    → PutFirst (ascii "kind 1\nvalue 9\nweight 7\npicks 1 1 0\n") before after size
replied_a before after size (longer long put) = absurd (omega (arith, (ready (packing once)).short))
replied_a before after size (a_job short x) = job_replied_a before after size x
