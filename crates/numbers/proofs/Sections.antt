-- A section that is written number by number: one number more, and the whole after its count.
-- Assumes nothing.
use Prim.Native.Nat.{ℕ, ◌+◌, ◌*◌, ◌≤◌, ◌<◌}
use mathlib.Core.Path.{◌≡◌}
use mathlib.Core.List.{List}
use native.Mathlib.Omega.{arith}
use lib.ListN.{length, take}
use lib.Seq.{length-take-le, take_all}
use Rattle.meaning.specs.Lists.{at}
use Rattle.meaning.specs.Bytes.{bytes_of, bytes_of_all, section_bytes}
use Rattle.meaning.proofs.Numbers.{number_long, all_long, all_next, section_long}
use Rattle.numbers.specs.Placed.{HoldsAt}
use Rattle.numbers.proofs.Placed.{joined}

first_long : (ns : List ℕ) (i : ℕ) → i ≤ length ns → length (bytes_of_all (take i ns)) ≡ 4 * i
first_long ns i h = omega (arith, all_long (take i ns), length-take-le i ns h)

-- with the first i numbers written, and number i after them
pub turn : (start : ℕ) (ns before mid after : List ℕ) (i : ℕ) → i < length ns → start + 4 * length ns ≤ length before
    → HoldsAt start (bytes_of_all (take i ns)) before mid → HoldsAt (start + 4 * i) (bytes_of (at ns i)) mid after
    → HoldsAt start (bytes_of_all (take (i + 1) ns)) before after
turn start ns before mid after i h fits first next =
    let long = first_long ns i (omega arith) in
    rw (all_next ns i h)
    (joined start (bytes_of_all (take i ns)) before mid (omega arith) first (bytes_of (at ns i)) after (rw long next))

-- with the count written, and all numbers after it
pub whole : (p : ℕ) (ns before mid after : List ℕ) (i : ℕ) → length ns ≤ i → p + length (section_bytes ns) ≤ length before
    → HoldsAt p (bytes_of (length ns)) before mid → HoldsAt (p + 4) (bytes_of_all (take i ns)) mid after
    → HoldsAt p (section_bytes ns) before after
unfolding section_bytes
whole p ns before mid after i h fits count numbers =
    joined p (bytes_of (length ns)) before mid (omega (arith, number_long (length ns), section_long ns)) count
    (bytes_of_all ns) after (rw (number_long, ← take_all i ns h) numbers)
