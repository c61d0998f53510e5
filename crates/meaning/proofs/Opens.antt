-- `unfolding opens` unfolds every definition of specs/ that computes: for proofs on closed jobs.
-- Assumes nothing.
use Rattle.meaning.specs.Lists.{sum, total, every, up_to, if, tally}
use Rattle.meaning.specs.Job.{has_q, budget_count, job_of, budgets_of, labels, all_kinds, kind_of}
use Rattle.meaning.specs.Cuts.{remain_of, remain, that_fit, greatest_of, greatest_value, divisor, cut_by, cut_values, cut_sum, stated_cells}
use Rattle.meaning.specs.Lent.{lent_of, room_of, cell_count, once_room, room_by}
use Rattle.meaning.specs.Bounds.{most_labels, most_sizes, most_claims, most_budget, most_shared, most_value}
use Rattle.meaning.specs.Bounds.{most_copies, least_copies, least_q, most_q, most_of_one}
use Rattle.meaning.specs.Refusals.{positive, ascending_from, anything, each_within, has_copies, least_value, knapsack_rules, weight_rules}
use Rattle.meaning.specs.Refusals.{rules_of, lists_fit, bounds_fit, q_fits, numbers_fit, room_fits, claims_fit, job_refusal, kind_refusal}
use Rattle.meaning.specs.Bytes.{number_at, numbers_in, between, is_needed, whole_section, read_section, with_section}
use Rattle.meaning.specs.Bytes.{at_end, read_job, bytes_of, bytes_of_all, section_bytes, job_bytes}
use Rattle.meaning.specs.Knapsacks.{order_of, cell_number}
use Rattle.meaning.specs.Light.{label_bit}
use Rattle.meaning.specs.Behind.{total_order}
use Rattle.meaning.specs.Stated.{stated_order, stated_cell}
use Rattle.meaning.specs.Blocks.{block_order, too_many}
use Rattle.meaning.specs.Shares.{start_of, remainder_of, spare_of, precedes, rank_of, share_of, shares_of}
use Rattle.meaning.specs.Answers.{answer_numbers, verdict_numbers, written_numbers, quick_numbers}
use Rattle.meaning.specs.Solved.{ways_answer}
use Rattle.meaning.specs.Certificates.{or_else, first, some_of, most_picks, certificate_cells, certificate_cell, cell_at, below_with, low_in_row}
use Rattle.meaning.specs.Certificates.{low_for_one, too_low, over_picked, overweight, low_cell, misvalued, unless_found, verdict_on_cells}
use Rattle.meaning.specs.Certificates.{certificate_broken, verdict_on_certificate, certified_knapsack}
use Rattle.meaning.specs.Certificates.{verdict_for, unless_refused, verdict_on_job, verdict_of}
use Rattle.meaning.specs.Quick.{goes_before, kept_before, still_fits, quick_refusal, worthier}

unfoldable pub opens : Unit {0}
unfolding sum total every up_to if tally
    has_q budget_count job_of budgets_of labels all_kinds kind_of
    remain_of remain that_fit greatest_of greatest_value divisor cut_by cut_values cut_sum stated_cells
    lent_of room_of cell_count once_room room_by
    most_labels most_sizes most_claims most_budget most_shared most_value most_copies least_copies least_q most_q most_of_one
    positive ascending_from anything each_within has_copies least_value knapsack_rules weight_rules
    rules_of lists_fit bounds_fit q_fits numbers_fit room_fits claims_fit job_refusal kind_refusal
    number_at numbers_in between is_needed whole_section read_section with_section
    at_end read_job bytes_of bytes_of_all section_bytes job_bytes
    order_of cell_number label_bit
    total_order stated_order stated_cell
    block_order too_many
    start_of remainder_of spare_of precedes rank_of share_of shares_of
    answer_numbers verdict_numbers written_numbers quick_numbers
    ways_answer
    or_else first some_of most_picks certificate_cells certificate_cell cell_at below_with low_in_row low_for_one too_low over_picked overweight low_cell
    misvalued unless_found verdict_on_cells certificate_broken verdict_on_certificate certified_knapsack
    verdict_for unless_refused verdict_on_job verdict_of
    goes_before kept_before still_fits quick_refusal worthier
opens = tt
