-- The lent slices, and how many of their places a job needs.
-- Assumes nothing.
use Rattle.std.specs.Prelude.{ℕ, ◌+◌, ◌*◌, ◌/◌, List}
use Rattle.meaning.specs.declared.Way.{Way}
use Rattle.meaning.specs.declared.Way.TheVariants.{Light, Full}
use Rattle.meaning.specs.Job.{Job, labels, once, limited, free, Kind, packing, subset_sums, fewest_blocks, block_ways, sharing}
use Rattle.meaning.specs.Job.{labels_behind, stated_share}
use Rattle.meaning.specs.Cuts.{stated_cells}

-- what the slices hold: a table of 32-bit cells, a table of 64-bit words, and picks
pub record Lent : Type 0 where
  pub cells : List ℕ
  pub words : List ℕ
  pub picks : List ℕ

-- slices with these contents
unfoldable pub lent_of : List ℕ → List ℕ → List ℕ → Lent
lent_of cells words picks = record { cells = cells; words = words; picks = picks }

-- how many places of each are needed
pub record Room : Type 0 where
  pub cells : ℕ
  pub words : ℕ
  pub picks : ℕ

-- so many cells, words and picks
unfoldable pub room_of : ℕ → ℕ → ℕ → Room
room_of cells words picks = record { cells = cells; words = words; picks = picks }

-- (n+1)(C+1): how many cells the table of kind 2 has, and the full one of kind 1
unfoldable pub cell_count : Job → ℕ
cell_count j = (labels j + 1) * (j.budget + 1)

-- floor(C/64)+1: how many words hold a bit for each budget from 0 to C. Kind 4 has so many, and each label of kind 1 the light way
abbrev pub bit_words : Job → ℕ
bit_words j = j.budget / 64 + 1

-- kind 1: a row of C+1 cells, and words of its own for each label; or the full table
unfoldable pub once_room : Way → Job → Room
once_room Light j = room_of (j.budget + 1) (labels j * bit_words j) (labels j)
once_room Full j = room_of (cell_count j) 0 (labels j)

-- the document's table of cells needed, by the way that kind 1 goes; picks need n places in kinds 1, 2, 3, 5, 7, 8 and 9, none in 4 and 6
unfoldable pub room_by : Way → Kind → Job → Room
room_by way (packing once) j = once_room way j
room_by way (packing limited) j = room_of (cell_count j) 0 (labels j)
room_by way (packing free) j = room_of (j.budget + 1) 0 (labels j)
room_by way subset_sums j = room_of 0 (bit_words j) 0
room_by way fewest_blocks j = room_of (j.budget + 1) 0 (labels j)
room_by way block_ways j = room_of 0 (j.budget + 1) 0
room_by way sharing j = room_of 0 0 (labels j)
room_by way labels_behind j = room_of (j.budget + 1) 0 (labels j)
room_by way stated_share j = room_of (stated_cells j) 0 (labels j)

-- by the light way, which `solve` goes
abbrev pub room_for : Kind → Job → Room
room_for k j = room_by Light k j
