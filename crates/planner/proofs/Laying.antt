-- Kinds 5 and 6, which one arm takes: what it knows of the kind that a number is.
-- Assumes nothing.
use mathlib.Core.Path.{◌≡◌, refl}
use mathlib.Core.Option.{some}
use Prim.Native.Nat.{ℕ, ◌≤◌}
use native.Mathlib.Omega.{arith}
use native.Mathlib.Decide.{dec_lt}
use mathlib.Core.Bool.{true, false}
use Rattle.meaning.specs.Job.{Job, Kind, fewest_blocks, block_ways, kind_of, all_kinds}
use Rattle.meaning.specs.Lent.{Lent}
use Rattle.meaning.specs.Refusals.{Rules, claims_fit, rules_of, weight_rules}
use Rattle.meaning.specs.Solved.{Unrefused}
use Rattle.rules.specs.declared.Room.{Room}
use Rattle.rules.specs.Places.{NeededBy}
use Rattle.blocks.specs.BlocksDoor as blocks

pub data Laying (kind : ℕ) : Kind → Type 0 where
  five_is : kind ≡ 5 → Laying kind fewest_blocks
  six_is : kind ≡ 6 → Laying kind block_ways

-- the kind of a number
pub record LaidKind (kind : ℕ) : Type 0 where
  pub which : Kind
  pub is : Laying kind which

pub five_or_six : (kind : ℕ) → 5 ≤ kind → kind ≤ 6 → LaidKind kind
five_or_six kind h l =
    elim (dec_lt 5 kind) [
      | yes above ↦ record { which = block_ways; is = six_is (omega arith) }
      | no other ↦ record { which = fewest_blocks; is = five_is (omega arith) }
    ]

pub laid_kind : {kind : ℕ} {k : Kind} → Laying kind k → kind_of kind ≡ some k
unfolding kind_of all_kinds
laid_kind (five_is e) = rw e
laid_kind (six_is e) = rw e

-- both have the same rules, and use weights alone
pub laid_rules : {kind : ℕ} {k : Kind} → Laying kind k → (r : Rules) → (r ≡ rules_of fewest_blocks) × (r ≡ rules_of block_ways) → r ≡ rules_of k
laid_rules (five_is e) r same = same.0
laid_rules (six_is e) r same = same.1

pub laid_alone : {kind : ℕ} {k : Kind} → Laying kind k → ((rules_of k).uses_values ≡ false) × ((rules_of k).uses_copies ≡ false)
unfolding rules_of weight_rules
laid_alone (five_is e) = (refl, refl)
laid_alone (six_is e) = (refl, refl)

pub laid_claims : {kind : ℕ} {k : Kind} → Laying kind k → (j : Job) → claims_fit (rules_of k) j ≡ true
unfolding claims_fit rules_of weight_rules
laid_claims (five_is e) j = refl
laid_claims (six_is e) j = refl

pub laid_room : {kind : ℕ} {k : Kind} → Laying kind k → (n budget : ℕ) (room : Room)
    → (kind ≡ 5 → NeededBy fewest_blocks n budget room) × (kind ≡ 6 → NeededBy block_ways n budget room)
    → NeededBy k n budget room
laid_room (five_is e) n budget room needed = needed.0 e
laid_room (six_is e) n budget room needed = needed.1 e

pub laid_in : {kind : ℕ} {k : Kind} → Laying kind k → (j : Job) (lent : Lent) → Unrefused k j lent → blocks.LetIn j lent
laid_in (five_is e) j lent ok = blocks.blocks_asked ok
laid_in (six_is e) j lent ok = blocks.ways_asked ok
