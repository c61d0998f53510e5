-- How many picks and cells a certificate has, as the code counts them: by the list of weights, and by the job's room, kind 1 the full way.
-- Assumes nothing.
use mathlib.Core.Path.{◌≡◌, refl, sym, ap, ◌∙◌}
use mathlib.Core.Option.{some}
use Prim.Native.Nat.{ℕ, ◌≤◌, ◌<◌, min}
use native.Mathlib.Omega.{arith}
use Rattle.meaning.specs.declared.Way.TheVariants.{Full}
use Rattle.meaning.specs.Job.{Job, Knapsack, packing, labels, kind_of}
use Rattle.meaning.specs.Lent as meaning
use Rattle.meaning.specs.Lent.{room_of}
use Rattle.meaning.specs.Bounds.{most_labels, most_budget}
use Rattle.meaning.specs.Certificates.{HasCertificates, certificate_cells}
use Rattle.meaning.proofs.Valid.{Valid, certificate_32, labels_32}
use Rattle.meaning.proofs.Certified.{certified_kind, certified_valid}
use Rattle.meaning.proofs.EachKind.{full_claims}
use Rattle.rules.specs.declared.Room.{Room}
use Rattle.rules.specs.Places.{NeededFor, room_from}
use Rattle.rules.proofs.Places.{needed_within}
use Rattle.certificate.proofs.Refusing.{number_within}

-- what is promised of the room of a job with n labels, each number counted up to its bound
abbrev pub RoomCounted : Job → ℕ → Room → Type 0
RoomCounted j n room =
    (k : Knapsack) → kind_of j.kind_number ≡ some (packing k) → NeededFor Full (packing k) (min n most_labels) (min j.budget most_budget) room

module _ {k : Knapsack} {j : Job} (has : HasCertificates k j) where
  -- its kind is one that the room is counted for
  pub room_asked : (1 ≤ j.kind_number) × (j.kind_number ≤ 3)
  room_asked = number_within j.kind_number k has.of_knapsack

  abbrev valid : Valid k j
  valid = certified_valid has

  module _ (n : ℕ) (n-is : labels j ≡ n) where
    -- there are so many picks
    pub few_labels : n < 4_294_967_296
    few_labels = omega (arith, labels_32 k j valid)

    module _ (room : Room) (counted : RoomCounted j n room) where
      -- the room has as many cells as the certificate
      pub cells_needed : certificate_cells k j ≡ room.cells
      unfolding NeededFor room_from room_of
      cells_needed =
          let bounded = counted k (certified_kind j.kind_number k has.of_knapsack) in
          let own = needed_within Full (packing k) n j.budget room (rw (sym n-is) valid.few) valid.small bounded in
          sym (ap (λ (r : meaning.Room). r.cells) (own j n-is refl ∙ (full_claims k j).room))

      pub few_cells : room.cells < 4_294_967_296
      few_cells = omega (arith, certificate_32 k j valid, cells_needed)
