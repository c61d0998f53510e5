-- The sixteen trials of document 01 go as they say.
-- Assumes nothing.
use mathlib.Core.Path.{◌≡◌, refl}
use mathlib.Core.Option.{some}
use Prim.Native.Nat.{ℕ}
use mathlib.Core.Bool.{false, true}
use mathlib.Core.List.{List, [], ◌∷◌}
use lib.Dec.{lit≤}
use Rattle.meaning.specs.Says.{Answer}
use Rattle.meaning.specs.Job.{Job, Kind, block_ways, fewest_blocks, free, job_of, kind_of, packing, limited, once, sharing, subset_sums}
use Rattle.meaning.specs.Lent.{room_for}
use Rattle.meaning.specs.Refusals.{kind_refusal}
use Rattle.meaning.specs.Sums.{TotalCount, YesOrNo, is_not, is_so}
use Rattle.meaning.specs.Answers.{answer_numbers}
use Rattle.meaning.specs.Solved.{Built, Gives, a_sum}
use Rattle.meaning.specs.Certificates.{Checked}
use Rattle.meaning.specs.Trials.{AllGo, Goes, Means, ◌and◌, cert_j, done, job_j, just_enough, trials}
use Rattle.meaning.proofs.Small.{counted_out, is_counted, is_laid, is_selection, laid_out, misses, misses_out}
use Rattle.meaning.proofs.Small.{picked, picked_out, reached_by, totalled, totalled_out, laid_makes}
use Rattle.meaning.proofs.Opens.{opens}

abbrev F₁ : Job
unfolding job_of
F₁ = job_of 4 (8 ∷ []) (3 ∷ 5 ∷ 9 ∷ []) [] []

abbrev F₂ : Job
unfolding job_of
F₂ = job_of 4 (7 ∷ []) (3 ∷ 5 ∷ 9 ∷ []) [] []

-- a trial of kind k whose answer is given
pub goes : (k : Kind) {j : Job} {a : Answer} {p : List ℕ} → kind_of j.kind_number ≡ some k → kind_refusal (room_for k j) k j (just_enough k j) ≡ 0
    → Gives k j (answer_numbers a) p → (k' : Kind) × Means k' j a p
goes k e f g = (k, record { unrefused = record { of_kind = e; no_refusal = f }; answer = g })

pub sixteen : AllGo trials
unfolding trials Goes just_enough Gives YesOrNo TotalCount Built Checked job_j cert_j opens picked is_selection misses totalled is_laid is_counted
sixteen =
    goes (packing once) refl refl (record { picked = picked_out once _ _ tt; numbers = refl })
    and goes (packing once) refl refl (record { picked = picked_out once _ _ tt; numbers = refl })
    and goes (packing once) refl refl (record { picked = picked_out once _ _ tt; numbers = refl })
    and goes (packing limited) refl refl (record { picked = picked_out limited _ _ tt; numbers = refl })
    and goes (packing free) refl refl (record { picked = picked_out free _ _ tt; numbers = refl })
    and goes (packing free) refl refl (record { picked = picked_out free _ _ tt; numbers = refl })
    and goes subset_sums refl refl (record {
      yes = true;
      totals = 4;
      tells = is_so (reached_by F₁ (1 ∷ 1 ∷ 0 ∷ []) 8 tt refl) refl;
      how_many = totalled_out F₁ ((0 ∷ 0 ∷ 0 ∷ []) ∷ (1 ∷ 0 ∷ 0 ∷ []) ∷ (0 ∷ 1 ∷ 0 ∷ []) ∷ (1 ∷ 1 ∷ 0 ∷ []) ∷ []) tt;
      numbers = refl;
      none_written = refl;
    })
    and goes subset_sums refl refl (record {
      yes = false;
      totals = 3;
      tells = is_not (λ r. misses_out F₂ 3 7 (lit≤ tt) tt _ r.weighs) refl;
      how_many = totalled_out F₂ ((0 ∷ 0 ∷ 0 ∷ []) ∷ (1 ∷ 0 ∷ 0 ∷ []) ∷ (0 ∷ 1 ∷ 0 ∷ []) ∷ []) tt;
      numbers = refl;
      none_written = refl;
    })
    and goes fewest_blocks refl refl (a_sum (laid_makes _ _ tt) (laid_out _ _ tt) refl)
    and goes fewest_blocks refl refl (a_sum (laid_makes _ _ tt) (laid_out _ _ tt) refl)
    and goes block_ways refl refl (record {
      ways = 4;
      how_many = counted_out _ ((5 ∷ 0 ∷ 0 ∷ []) ∷ (3 ∷ 1 ∷ 0 ∷ []) ∷ (1 ∷ 2 ∷ 0 ∷ []) ∷ (0 ∷ 0 ∷ 1 ∷ []) ∷ []) tt;
      numbers = refl;
      none_written = refl;
    })
    and goes block_ways refl refl (record { ways = 0; how_many = counted_out _ [] tt; numbers = refl; none_written = refl })
    and goes sharing refl refl (record { given = refl; numbers = refl })
    and goes sharing refl refl (record { given = refl; numbers = refl })
    and refl
    and refl
    and done
