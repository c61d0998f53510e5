-- Which picks are printed.
-- Assumes nothing.
use Rattle.std.specs.Prelude.{ℕ}
use Rattle.meaning.specs.Says.{Answer}
use Rattle.meaning.specs.Says as Says

-- how many picks an answer to a job of n labels has written: one a label where its kind has picks, none with a refusal
unfoldable pub picks_written : Answer → ℕ → ℕ
picks_written (Says.Refused r) n = 0
picks_written (Says.Knapsack v w) n = n
picks_written (Says.Sums y t) n = 0
picks_written (Says.Blocks b) n = n
picks_written (Says.Ways w) n = 0
picks_written (Says.Shares s) n = n
picks_written (Says.Weight w) n = n
