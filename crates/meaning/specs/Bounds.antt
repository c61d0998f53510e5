-- The bounds on the numbers, each in one place: the documents' own numbers and no rule. Refusals says what is held to them.
-- Assumes nothing.
use Rattle.std.specs.Prelude.{ℕ}

-- n in kinds 1 to 4, 8 and 9
unfoldable pub most_labels : ℕ
most_labels = 4_096

-- n in kinds 5 and 6
unfoldable pub most_sizes : ℕ
most_sizes = 64

-- n in kind 7
unfoldable pub most_claims : ℕ
most_claims = 1_024

-- C in kinds 1 to 6, 8 and 9
unfoldable pub most_budget : ℕ
most_budget = 65_535

-- C in kind 7: any 32-bit number
unfoldable pub most_shared : ℕ
most_shared = 4_294_967_295

-- values
unfoldable pub most_value : ℕ
most_value = 65_535

-- copies, at most
unfoldable pub most_copies : ℕ
most_copies = 65_535

-- copies, at least
unfoldable pub least_copies : ℕ
least_copies = 0

-- q, at least
unfoldable pub least_q : ℕ
least_q = 2

-- q, at most
unfoldable pub most_q : ℕ
most_q = 100

-- picks of one label in a certificate of kind 3
unfoldable pub most_of_one : ℕ
most_of_one = 65_535
