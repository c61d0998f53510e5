-- Jobs that several files try; and each kind's trial, with what computing shows of it: a new kind has a line in `tried` and in `trial_facts`.
-- Assumes nothing.
use mathlib.Core.Path.{◌≡◌, refl}
use mathlib.Core.Option.{some}
use Prim.Native.Nat.{ℕ, ◌≤◌, suc, zero}
use mathlib.Core.Bool.{true}
use mathlib.Core.List.{List, [], ◌∷◌}
use lib.Dec.{lit≤}
use lib.ListN.{replicate}
use Rattle.meaning.specs.Says.{Answer}
use Rattle.meaning.specs.Says.{Knapsack, Sums, Blocks, Ways, Shares, Weight}
use Rattle.meaning.specs.declared.Way.{Way}
use Rattle.meaning.specs.declared.Way.TheVariants.{Light, Full}
use Rattle.meaning.specs.Lists.{at}
use Rattle.meaning.specs.Job.{Job, Kind, block_ways, fewest_blocks, free, job_of, limited, once, packing, sharing, subset_sums}
use Rattle.meaning.specs.Job.{labels_behind, stated_share, kind_of}
use Rattle.meaning.specs.Lent.{Lent, lent_of, room_by}
use Rattle.meaning.specs.Refusals.{kind_refusal}
use Rattle.meaning.specs.Bytes.{job_bytes, read_job, readable}
use Rattle.meaning.specs.Answers.{answer_numbers}
use Rattle.meaning.specs.Solved.{Gives, UnrefusedBy, Weighed, a_sum}
use Rattle.meaning.specs.Host.{first_number}
use Rattle.meaning.specs.Trials.{AllGo, Goes, Trial, ◌and◌, done, just_enough, solve, trials}
use Rattle.meaning.proofs.EachKind.{refusals, table_of}
use Rattle.meaning.proofs.Small.{behind_out, behind_weighs, is_behind}
use Rattle.meaning.proofs.SmallStated.{is_stated, stated_out}
use Rattle.meaning.proofs.Opens.{opens}
use Rattle.meaning.proofs.Sixteen.{goes, sixteen}

-- a job with one budget
abbrev pub plain : ℕ → ℕ → List ℕ → List ℕ → List ℕ → Job
plain kind budget weights values copies = job_of kind (budget ∷ []) weights values copies

-- case A
abbrev pub case_a : Job
case_a = plain 1 7 (3 ∷ 4 ∷ 5 ∷ []) (4 ∷ 5 ∷ 6 ∷ []) []

-- case C
abbrev pub case_c : Job
case_c = plain 1 10 (6 ∷ 5 ∷ 5 ∷ []) (7 ∷ 5 ∷ 5 ∷ []) []

-- J's job
abbrev pub case_j : Job
case_j = plain 1 2 (2 ∷ []) (3 ∷ []) []

-- kind 1 with no labels and C 0, whose certificate has one cell
abbrev pub no_labels : Job
no_labels = plain 1 0 [] [] []

-- kind 9 with q 2: the divisor is 2, both cut values are 4, and the lighter label is worth less than the other
abbrev pub share_job : Job
share_job = job_of 9 (3 ∷ 2 ∷ []) (3 ∷ 2 ∷ []) (9 ∷ 8 ∷ []) []

-- a job, with its answer and its picks
pub record Tried : Type 0 where
  pub job : Job
  pub answer : Answer
  pub picks : List ℕ

-- document 01's first trial of each kind: A, D, E, F, G, H and I; F as kind 8; and one of kind 9
abbrev pub tried : Kind → Tried
tried (packing once) = record { job = case_a; answer = Knapsack 9 7; picks = 1 ∷ 1 ∷ 0 ∷ [] }
tried (packing limited) = record { job = plain 2 7 (2 ∷ 3 ∷ []) (3 ∷ 5 ∷ []) (2 ∷ 1 ∷ []); answer = Knapsack 11 7; picks = 2 ∷ 1 ∷ [] }
tried (packing free) = record { job = plain 3 10 (3 ∷ 4 ∷ []) (4 ∷ 6 ∷ []) []; answer = Knapsack 14 10; picks = 2 ∷ 1 ∷ [] }
tried subset_sums = record { job = plain 4 8 (3 ∷ 5 ∷ 9 ∷ []) [] []; answer = Sums true 4; picks = [] }
tried fewest_blocks = record { job = plain 5 6 (1 ∷ 3 ∷ 4 ∷ []) [] []; answer = Blocks 2; picks = 0 ∷ 2 ∷ 0 ∷ [] }
tried block_ways = record { job = plain 6 5 (1 ∷ 2 ∷ 5 ∷ []) [] []; answer = Ways 4; picks = [] }
tried sharing = record { job = plain 7 10 (1 ∷ 1 ∷ 1 ∷ []) [] []; answer = Shares 1; picks = 4 ∷ 3 ∷ 3 ∷ [] }
tried labels_behind = record { job = plain 8 8 (3 ∷ 5 ∷ 9 ∷ []) [] []; answer = Weight 8; picks = 1 ∷ 1 ∷ 0 ∷ [] }
tried stated_share = record { job = share_job; answer = Knapsack 8 2; picks = 0 ∷ 1 ∷ [] }

-- ---- what is shown of the trial of each kind

-- the trial at a place of a list of them all
unfoldable GoesAt : List Trial → ℕ → Type 0
GoesAt [] i = Unit
GoesAt (t ∷ ts) zero = Goes t
GoesAt (t ∷ ts) (suc i) = GoesAt ts i

goes_at : {ts : List Trial} (i : ℕ) → AllGo ts → GoesAt ts i
unfolding GoesAt
goes_at i done = tt
goes_at zero (g and gs) = g
goes_at (suc i) (g and gs) = goes_at i gs

-- slices with just the room that the trial of kind k needs, and x in every place
unfoldable pub filled : Way → ℕ → Kind → Lent
filled way x k =
    let room = room_by way k (tried k).job in
    lent_of (replicate room.cells x) (replicate room.words x) (replicate room.picks x)

-- it goes as the sixteen say (kind 8's as F, which is among them, says; kind 9's by itself), and is read back from its bytes; its answer is no
-- refusal, and its first number isn't 0; with `filled` slices it isn't refused, and its table, where the kind has one, begins with what they are filled with
pub record TrialFacts (k : Kind) : Type 0 where
  pub goes : Goes (solve (tried k).job (tried k).answer (tried k).picks)
  pub back : read_job (job_bytes (tried k).job) ≡ readable (tried k).job
  pub no_refusal : refusals (answer_numbers (tried k).answer).case ≡ 0
  pub not_0 : 1 ≤ first_number (answer_numbers (tried k).answer)
  pub unrefused : (way : Way) (x : ℕ) → UnrefusedBy way k (tried k).job (filled way x k)
  pub first_filled : ¬ (k ≡ sharing) → (way : Way) (x : ℕ) → at (table_of k (filled way x k)) 0 ≡ x

unrefused_by : {way : Way} {k : Kind} {j : Job} {lent : Lent} → kind_of j.kind_number ≡ some k → kind_refusal (room_by way k j) k j lent ≡ 0
    → UnrefusedBy way k j lent
unrefused_by e f = record { of_kind = e; no_refusal = f }

facts_by : {k : Kind} → Goes (solve (tried k).job (tried k).answer (tried k).picks) → read_job (job_bytes (tried k).job) ≡ readable (tried k).job
    → refusals (answer_numbers (tried k).answer).case ≡ 0 → 1 ≤ first_number (answer_numbers (tried k).answer)
    → ((way : Way) (x : ℕ) → UnrefusedBy way k (tried k).job (filled way x k))
    → (¬ (k ≡ sharing) → (way : Way) (x : ℕ) → at (table_of k (filled way x k)) 0 ≡ x) → TrialFacts k
facts_by g b r n u f = record { goes = g; back = b; no_refusal = r; not_0 = n; unrefused = u; first_filled = f }

-- F as kind 8
behind_case_f : Goes (solve (tried labels_behind).job (tried labels_behind).answer (tried labels_behind).picks)
unfolding opens Goes just_enough Gives Weighed is_behind
behind_case_f = goes labels_behind refl refl (a_sum (behind_weighs _ _ tt) (behind_out _ _ tt) refl)

-- the job of kind 9
stated_goes : Goes (solve (tried stated_share).job (tried stated_share).answer (tried stated_share).picks)
unfolding opens Goes just_enough Gives is_stated
stated_goes = goes stated_share refl refl (record { picked = stated_out _ _ tt; numbers = refl })

-- kind 1's, by either way
once_unrefused : (way : Way) (x : ℕ) → UnrefusedBy way (packing once) (tried (packing once)).job (filled way x (packing once))
unfolding opens filled
once_unrefused Light x = unrefused_by refl refl
once_unrefused Full x = unrefused_by refl refl

once_filled : (way : Way) (x : ℕ) → at (table_of (packing once) (filled way x (packing once))) 0 ≡ x
unfolding opens filled table_of
once_filled Light x = refl
once_filled Full x = refl

pub trial_facts : (k : Kind) → TrialFacts k
unfolding opens trials GoesAt refusals first_number filled table_of
trial_facts (packing once) = facts_by (goes_at 0 sixteen) refl refl (lit≤ tt) once_unrefused (λ has. once_filled)
trial_facts (packing limited) = facts_by (goes_at 3 sixteen) refl refl (lit≤ tt) (λ way x. unrefused_by refl refl) (λ has way x. refl)
trial_facts (packing free) = facts_by (goes_at 4 sixteen) refl refl (lit≤ tt) (λ way x. unrefused_by refl refl) (λ has way x. refl)
trial_facts subset_sums = facts_by (goes_at 6 sixteen) refl refl (lit≤ tt) (λ way x. unrefused_by refl refl) (λ has way x. refl)
trial_facts fewest_blocks = facts_by (goes_at 8 sixteen) refl refl (lit≤ tt) (λ way x. unrefused_by refl refl) (λ has way x. refl)
trial_facts block_ways = facts_by (goes_at 10 sixteen) refl refl (lit≤ tt) (λ way x. unrefused_by refl refl) (λ has way x. refl)
trial_facts sharing = facts_by (goes_at 12 sixteen) refl refl (lit≤ tt) (λ way x. unrefused_by refl refl) (λ has way x. absurd (has refl))
trial_facts labels_behind = facts_by behind_case_f refl refl (lit≤ tt) (λ way x. unrefused_by refl refl) (λ has way x. refl)
trial_facts stated_share = facts_by stated_goes refl refl (lit≤ tt) (λ way x. unrefused_by refl refl) (λ has way x. refl)
