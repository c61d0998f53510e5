-- Job bytes, and where they break.
-- Assumes nothing.
use mathlib.Core.Path.{◌≡◌, refl}
use mathlib.Core.List.{[], ◌++◌, ◌∷◌}
use lib.ListN.{length, take}
use Rattle.meaning.specs.Bytes.{job_bytes, read_job, readable, section_bytes, unreadable}
use Rattle.meaning.proofs.Opens.{opens}
use Rattle.meaning.proofs.Cases.{case_a}
use Rattle.meaning.proofs.Computing.{Computes, ◌gives◌}

long_a : length (job_bytes case_a) ≡ 52
unfolding opens
long_a = refl

pub back_a : read_job (job_bytes case_a) ≡ readable case_a
unfolding opens
back_a = refl

broken : Computes read_job (
    (job_bytes case_a ++ (0 ∷ [])) gives unreadable 52  -- a byte left over
    ∷ (take 51 (job_bytes case_a)) gives unreadable 48  -- cut short in the last count
    ∷ (take 47 (job_bytes case_a)) gives unreadable 36  -- cut short in the values
    ∷ [] gives unreadable 0  -- no bytes
    ∷ (section_bytes [] ++ section_bytes (7 ∷ [])) gives unreadable 0  -- no kind
    ∷ (section_bytes (1 ∷ 1 ∷ []) ++ section_bytes (7 ∷ [])) gives unreadable 0  -- two kinds
    ∷ (section_bytes (1 ∷ []) ++ section_bytes (7 ∷ 2 ∷ [])) gives unreadable 8  -- two budgets
    ∷ (section_bytes (1 ∷ []) ++ section_bytes (7 ∷ []) ++ (255 ∷ 255 ∷ 255 ∷ 255 ∷ [])) gives unreadable 20  -- a count far past the end
    ∷ (section_bytes (1 ∷ []) ++ section_bytes (7 ∷ []) ++ section_bytes [] ++ section_bytes [] ++ (0 ∷ 0 ∷ 0 ∷ [])) gives unreadable 24  -- a count cut short
    ∷ []
    )
unfolding opens
broken = refl
