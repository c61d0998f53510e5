-- What is told of job bytes, by how they were read.
-- Assumes nothing.
use mathlib.Core.Path.{◌≡◌}
use Prim.Native.Nat.{ℕ}
use mathlib.Core.List.{List}
use lib.ListN.{length}
use Rattle.meaning.specs.Says.{Answer}
use Rattle.meaning.specs.Says as Says
use Rattle.meaning.specs.declared.Way.{Way}
use Rattle.meaning.specs.Job.{job_of, labels}
use Rattle.meaning.specs.Lent.{Lent}
use Rattle.meaning.specs.Bytes.{read_job, readable, unreadable}
use Rattle.meaning.specs.Solved.{SolvedBy}
use Rattle.meaning.specs.Told.{ToldBy, kind_read, labels_read}
use Rattle.meaning.proofs.Laws.{solved_bytes, solved_unreadable}

-- bytes that can't be read tell nothing
pub told_unread : {way : Way} (b : List ℕ) (before : Lent) {place : ℕ} → read_job b ≡ unreadable place
    → ToldBy way b before 0 0 (Says.Refused 1) before
unfolding kind_read labels_read
told_unread b before {place} e = record { solved = solved_unreadable b place before e; kind_told = rw e; labels_told = rw e }

-- others tell of the job that they are read as
pub told_read : {way : Way} (b : List ℕ) (kind : ℕ) (budgets ws vs cs : List ℕ) (before after : Lent) (a : Answer) (n : ℕ)
    → read_job b ≡ readable (job_of kind budgets ws vs cs) → n ≡ length ws → SolvedBy way (job_of kind budgets ws vs cs) before a after
    → ToldBy way b before kind n a after
unfolding kind_read labels_read job_of labels
told_read b kind budgets ws vs cs before after a n reads counted solved = record {
  solved = solved_bytes b (job_of kind budgets ws vs cs) before after a reads solved;
  kind_told = rw reads;
  labels_told = rw (reads, counted);
}
