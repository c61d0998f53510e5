-- Laws of the definitions in specs/, for those who call this crate.

-- cells that a loop stores, and a part of a slice that is lent
pub mod Stores
pub mod Parts
-- what shifts and `|` do to the bits of a word, and what a store does to the bits of a slice
pub mod Bits
-- what one label makes of a row: one theory over the counts that may be picked, and the next row of a table
pub mod Counts
pub mod NextRow
-- what a row says of a count
pub mod LeastCounts
pub mod LeadsOn
-- a slice made label by label, and the trace through the labels
pub mod Rounds
pub mod Traces
-- rows of values, each made of the one before it by a label: they hold the best values, and the trace back through them finds the picks
pub mod AnyRows
pub mod Bounded
-- no second choice is left by any function of this crate
pub mod Unique
