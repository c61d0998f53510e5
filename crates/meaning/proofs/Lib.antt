-- Laws of the definitions in specs/, by subject. Other crates cite these in place of the definitions' text.

-- lists and tests
pub mod UpTo
pub mod Tests
pub mod Members
pub mod Loops
pub mod Totals
pub mod Counting
-- cells that show the least of some numbers
pub mod Shown
-- one step more: what each kind's table and picks rest on
pub mod Steps
pub mod Trace
pub mod Free
pub mod Greedy
pub mod Reaching
pub mod Behind
pub mod Remaining
pub mod CutCells
pub mod Making
-- kind 7: shares sum to C
pub mod Tally
pub mod Ranks
pub mod SharesSum
-- the quick answer: its order, its two lists, and that the worthier is worth half of the best
pub mod EachLabel
pub mod QuickOrder
pub mod QuickLists
pub mod QuickFits
pub mod QuickHalf
-- kind 9: the picks are worth the stated share of the best
pub mod StatedShare
-- no second choice is left
pub mod CellNumbers
pub mod OneOfEach
pub mod Light
pub mod EachKind
pub mod Refusing
pub mod Unique
pub mod Laws
pub mod QuickPromise
-- budgets, and bytes
pub mod Budgets
pub mod Numbers
pub mod Sections
-- kind 9 over the promise; and that other kinds ignore q
pub mod StatedPromise
-- certificates: the third demand
pub mod Searches
pub mod Valid
pub mod SolvedIn
-- no second choice is left of what the code hands back
pub mod HandedBack
pub mod Covering
pub mod ExactCells
pub mod Verdicts
pub mod Certified
pub mod Ours
pub mod Ring
pub mod Entries
-- kinds 4 and 8 agree, and so do the two ways of kind 1
pub mod Agreement
pub mod Ways
-- trials, and wrong versions
pub mod Small
pub mod SmallTables
pub mod SmallQuick
pub mod SmallStated
pub mod Opens
pub mod Sixteen
pub mod Cases
mod Tables
pub mod Held
pub mod Versions
mod Wrong
-- corner cases, by computation, in the order of specs/; Tables has whole calls
mod Computing
mod CornersBounds
mod CornersKinds
mod CornersRoom
mod CornersNumbers
mod CornersBytes
mod CornersTies
mod CornersShares
mod CornersAnswers
mod CornersVerdicts
mod CornersWriter
mod CornersQuick
mod CornersStated
-- wrong quick answers, by these cases
mod QuickWrong
