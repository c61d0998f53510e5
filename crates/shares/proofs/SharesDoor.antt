-- Kind 7: from a job that no refusal meets to what the functions ask, and from what they leave to the promise.
-- Assumes nothing.
use mathlib.Core.Path.{◌≡◌, refl, sym, ap, ◌∙◌}
use Prim.Native.Nat.{ℕ, ◌≤◌, ◌<◌}
use mathlib.Core.List.{List, [], ◌++◌}
use lib.ListN.{length, drop}
use mir.Facts.{ltb_yes}
use Rattle.meaning.specs.Says as Says
use Rattle.meaning.specs.Lists.{sum}
use Rattle.meaning.specs.Job.{Job, labels, sharing}
use Rattle.meaning.specs.Lent.{lent_of, room_by, room_of}
use Rattle.meaning.specs.Bounds.{most_claims}
use Rattle.meaning.specs.Refusals.{rules_of, weight_rules, claims_fit}
use Rattle.meaning.specs.Shares.{spare_of, share_of, shares_of}
use Rattle.meaning.specs.Answers.{answer_numbers}
use Rattle.meaning.specs.Solved.{Gives, TableBy, Unrefused}
use Rattle.meaning.specs.SolvedIn.{SolvedInPicks}
use Rattle.meaning.proofs.UpTo.{made_length}
use Rattle.meaning.proofs.SolvedIn.{kept, holds_front, solved_in_picks}

-- what a job of kind 7 that is not refused keeps
pub record Ready (j : Job) (picks : List ℕ) : Type 0 where
  pub few : labels j ≤ most_claims
  pub claims : 0 < sum j.weights
  pub room : labels j ≤ length picks

module _ (j : Job) (picks : List ℕ) (ok : Unrefused sharing j (lent_of [] [] picks)) where
  pub ready : Ready j picks
  unfolding rules_of weight_rules claims_fit room_by room_of lent_of
  ready = let k = kept sharing j (lent_of [] [] picks) ok in record { few = k.few; claims = ltb_yes k.claimed; room = k.picks_room }

  -- the shares over the first places, and the spare
  pub shared : (found : List ℕ) (n spare : ℕ) → n ≡ labels j → found ≡ shares_of j → spare ≡ spare_of j
      → SolvedInPicks j picks (Says.Shares spare) (found ++ drop n picks)
  unfolding room_by room_of Gives TableBy shares_of
  shared found n spare every given rest =
      solved_in_picks sharing j (Says.Shares spare) picks (found ++ drop n picks) found ok refl refl
      (record { given = given; numbers = ap (λ (s : ℕ). answer_numbers (Says.Shares s)) rest })
      tt
      (holds_front found picks n (ap length given ∙ made_length (share_of j) (labels j) ∙ sym every))
