-- `planner::pack_full` meets its contract: kinds 1 to 3, kind 1 the full way, are turned away by 3 to 6, or let in to `knapsack`.
use mathlib.Core.Path.{refl}
use mathlib.Core.Bool.{false}
use mathlib.Core.List.{[]}
use Rattle.meaning.specs.Refusals.{claims_fit, knapsack_rules, rules_of}
use Rattle.meaning.specs.SolvedIn.{SolvedInCellsBy}
use Rattle.rules.proofs.Ruling.{knapsack_of}
use Rattle.planner.proofs.Preamble.{let_in, turned_with}
use Rattle.planner.proofs.Arms.{packed_full}
use Rattle.planner.proofs.pack_full.Goals as goal

pub returns-in_err-refusal : goal.returns-in_err-refusal
unfolding SolvedInCellsBy
returns-in_err-refusal c words =
    let k = knapsack_of c.args.job.now.kind c.requires.0 c.requires.1 in
    turned_with _ _ c.from_residual.ensures.1
    (packed_full c.args.job.now _ _ _ _ c.len-n.ensures k (c.knapsack_rules-rules.ensures k.knapsack k.of_kind)
    (c.knapsack_room-room.ensures k.knapsack k.of_kind)
    c.args.cells.now c.args.picks.now (c.in_err-refusal.ensures c.args.job.now.kind false) words)

pub solve-requires : goal.solve-requires
unfolding claims_fit knapsack_rules rules_of
solve-requires c =
    let k = knapsack_of c.args.job.now.kind c.requires.0 c.requires.1 in
    let lowest = packed_full c.args.job.now _ _ _ _ c.len-n.ensures k (c.knapsack_rules-rules.ensures k.knapsack k.of_kind)
    (c.knapsack_room-room.ensures k.knapsack k.of_kind)
    c.args.cells.now c.args.picks.now (c.in_ok-refusal.ensures c.args.job.now.kind false) [] in
    record { knapsack = k.knapsack; unrefused = let_in lowest refl refl }
