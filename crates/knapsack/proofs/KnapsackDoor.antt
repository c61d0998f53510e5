-- From a job that is let in to what the functions ask, and from what they leave to what `meaning` promises.
-- Assumes nothing.
use mathlib.Core.Path.{◌≡◌, refl, sym, ap, ◌∙◌, subst}
use Prim.Native.Nat.{ℕ, ◌+◌, ◌-◌, ◌*◌, ◌≤◌, ◌<◌}
use native.Mathlib.Omega.{arith}
use mathlib.Core.List.{List, [], ◌∷◌, ◌++◌}
use lib.ListN.{length, drop}
use Rattle.meaning.specs.Says as Says
use Rattle.meaning.specs.declared.Way.TheVariants.{Full}
use Rattle.meaning.specs.Lists.{at, total, if}
use Rattle.meaning.specs.Slices.{Holds}
use Rattle.meaning.specs.Job.{Job, Knapsack, once, limited, free, packing, labels, job_of}
use Rattle.meaning.specs.Lent.{Lent, Room, lent_of, room_by, once_room, room_of, cell_count}
use Rattle.meaning.specs.Refusals.{has_copies}
use Rattle.meaning.specs.Orders.{last_least}
use Rattle.meaning.specs.Knapsacks.{MayPick, BestValue, BestPicks, order_of, ValueTable, FullTable, OneRow, cell_number}
use Rattle.meaning.specs.Solved.{Gives, UnrefusedBy}
use Rattle.meaning.specs.SolvedIn.{SolvedInCellsBy}
use Rattle.meaning.proofs.Valid.{Valid, is_cleared, is_valid}
use Rattle.meaning.proofs.EachKind.{full_claims}
use Rattle.meaning.proofs.Laws.{number_of, kind_number}
use Rattle.meaning.proofs.SolvedIn.{kept, holds_front, solved_in_cells}
use Rattle.meaning.proofs.Totals.{total_none, empty_of}
use Rattle.meaning.proofs.Trace.{picks_none, picks_worth}
use Rattle.knapsack.specs.Tables.{limit_of, row_of, Filled, Climbed}
use Rattle.rows.specs.Bounded.{Bounded}
use Rattle.rows.proofs.Bounded.{bounded}
use Rattle.rows.specs.Traces.{TraceBack}
use Rattle.knapsack.specs.Traces.{TraceAlong}
use Rattle.knapsack.specs.KnapsackDoor.{LetIn}
use Rattle.knapsack.proofs.FullRows.{row_best, back_picks, back_weight}
use Rattle.knapsack.proofs.FreeRow.{climbed_best, along_picks, along_weight}

-- ---- what a job keeps that is let in

-- a knapsack that keeps the rules, with room in cells and picks
pub record Ready (k : Knapsack) (j : Job) (cells picks : List ℕ) : Type 0 where
  pub valid : Valid k j
  pub cells_room : (room_by Full (packing k) j).cells ≤ length cells
  pub picks_room : labels j ≤ length picks

-- picks need n places in each of the three, and words none
picks_needed : (k : Knapsack) (j : Job) → (room_by Full (packing k) j).picks ≡ labels j
unfolding room_of
picks_needed k j = ap (λ (r : Room). r.picks) (full_claims k j).room

pub words_needed : (k : Knapsack) (j : Job) → (room_by Full (packing k) j).words ≡ 0
unfolding room_of
words_needed k j = ap (λ (r : Room). r.words) (full_claims k j).room

pub ready : (k : Knapsack) (j : Job) (cells picks : List ℕ) → UnrefusedBy Full (packing k) j (lent_of cells [] picks) → Ready k j cells picks
unfolding lent_of
ready k j cells picks a =
    let lent = lent_of cells [] picks in
    let c = is_cleared (room_by Full (packing k) j) (packing k) j lent a.no_refusal in
    let keeps = kept (packing k) j lent a in
    record { valid = is_valid k j _ c.keeps; cells_room = keeps.cells_room; picks_room = rw (picks_needed k j) at keeps.picks_room }

-- ---- kinds 1 and 2

-- the knapsacks whose table has a row for each label
pub data Rowed : Knapsack → Type 0 where
  once_is : Rowed once
  limited_is : Rowed limited

-- a kind number below 3 is that of one of them
pub rowed : (k : Knapsack) → number_of (packing k) < 3 → Rowed k
unfolding number_of
rowed once h = once_is
rowed limited h = limited_is
rowed free h = absurd (omega arith)

-- the limits are those of the knapsack
pub limit_few : {k : Knapsack} → Rowed k → (j : Job) (i x : ℕ) → MayPick k (at j.copies i) x → x ≤ limit_of (number_of (packing k)) j.copies i
unfolding number_of limit_of MayPick if
limit_few once_is j i x m = m
limit_few limited_is j i x m = m

pub limit_may : {k : Knapsack} → Rowed k → (j : Job) (i x : ℕ) → x ≤ limit_of (number_of (packing k)) j.copies i → MayPick k (at j.copies i) x
unfolding number_of limit_of MayPick if
limit_may once_is j i x m = m
limit_may limited_is j i x m = m

-- as many cells as the full table has
pub full_room : {k : Knapsack} → Rowed k → (j : Job) → (room_by Full (packing k) j).cells ≡ cell_count j
unfolding room_by once_room room_of
full_room once_is j = refl
full_room limited_is j = refl

-- kind 2 has a number of copies for each label
pub copies_long : {k : Knapsack} → Rowed k → (j : Job) → Valid k j → ¬ (number_of (packing k) ≡ 1) → length j.copies ≡ labels j
unfolding number_of has_copies if
copies_long once_is j ok other = absurd (other refl)
copies_long limited_is j ok other = ok.copied

-- what a job of kind 1 or 2 keeps that is let in, in the numbers and lists that it is made of
pub record FullReady (kind budget : ℕ) (ws vs cs cells picks : List ℕ) (k : Knapsack) : Type 0 where
  pub is : Rowed k
  pub numbered : kind ≡ number_of (packing k)
  pub bounds : Bounded (budget + 1) ws vs
  pub copied : ¬ (kind ≡ 1) → length cs ≡ length ws
  pub cells_room : (length ws + 1) * (budget + 1) ≤ length cells
  pub picks_room : length ws ≤ length picks

pub full_ready : {kind budget : ℕ} {ws vs cs cells picks : List ℕ} (asked : LetIn (job_of kind (budget ∷ []) ws vs cs) cells picks) → kind < 3
    → FullReady kind budget ws vs cs cells picks asked.knapsack
unfolding cell_count job_of labels
full_ready {kind} {budget} {ws} {vs} {cs} {cells} {picks} asked few =
    let k = asked.knapsack in
    let job = job_of kind (budget ∷ []) ws vs cs in
    let numbered = kind_number kind (packing k) asked.unrefused.of_kind in
    let is : Rowed k = rowed k (rw numbered at few) in
    let keeps = ready k job cells picks asked.unrefused in
    record {
      is = is;
      numbered = numbered;
      bounds = bounded k job keeps.valid;
      copied = λ other. copies_long is job keeps.valid (rw numbered at other);
      cells_room = rw (full_room is job) at keeps.cells_room;
      picks_room = keeps.picks_room;
    }

-- so the lent cells hold the table of the labels that were counted
pub table_held : (kind budget : ℕ) (weights values copies cells picks : List ℕ) (n : ℕ)
    → LetIn (job_of kind (budget ∷ []) weights values copies) cells picks → kind < 3 → n ≡ length weights
    → (n + 1) * (budget + 1) ≤ length cells
table_held kind budget weights values copies cells picks n asked few n-is = rw n-is (full_ready asked few).cells_room

order_back : {k : Knapsack} → Rowed k → order_of k ≡ last_least
unfolding order_of
order_back once_is = refl
order_back limited_is = refl

full_value : {k : Knapsack} → Rowed k → (j : Job) (table : List ℕ) → FullTable k j table → ValueTable k j table
unfolding ValueTable
full_value once_is j table t = t
full_value limited_is j table t = t

-- ---- kind 3

-- what a job of kind 3 keeps that is let in
pub record FreeReady (budget : ℕ) (ws vs cells picks : List ℕ) : Type 0 where
  pub bounds : Bounded (budget + 1) ws vs
  pub cells_room : budget + 1 ≤ length cells
  pub picks_room : length ws ≤ length picks

pub free_ready : {budget : ℕ} {ws vs cells picks : List ℕ}
    → UnrefusedBy Full (packing free) (job_of 3 (budget ∷ []) ws vs []) (lent_of cells [] picks) → FreeReady budget ws vs cells picks
unfolding job_of labels room_by room_of
free_ready {budget} {ws} {vs} {cells} {picks} a =
    let job = job_of 3 (budget ∷ []) ws vs [] in
    let keeps = ready free job cells picks a in
    record { bounds = bounded free job keeps.valid; cells_room = keeps.cells_room; picks_room = keeps.picks_room }

-- ---- what an answer comes to

-- the table and the picks that were written are those of the knapsack, and the numbers are those of the picks
packs : (k : Knapsack) (j : Job) (cells picks : List ℕ) → UnrefusedBy Full (packing k) j (lent_of cells [] picks)
    → (cells-after picks-after table found : List ℕ) (value weight : ℕ)
    → length table ≡ (room_by Full (packing k) j).cells → ValueTable k j table → BestPicks k j (labels j) j.budget found
    → value ≡ total j.values found → weight ≡ total j.weights found → Holds table cells cells-after → Holds found picks picks-after
    → SolvedInCellsBy Full j cells picks (Says.Knapsack value weight) cells-after picks-after
unfolding Gives lent_of
packs k j cells picks a cells-after picks-after table found value weight long right chosen v w in_cells in_picks =
    solved_in_cells (packing k) j (Says.Knapsack value weight) cells picks cells-after picks-after table found a (words_needed k j)
    (record { picked = chosen; numbers = rw (v, w) })
    (subst (λ (holds : Lent → Type 0). holds (lent_of table [] found)) (sym (full_claims k j).table) right) long in_cells in_picks

-- kinds 1 and 2, by the table that was filled and the trace back through it
module _ (k : Knapsack) (j : Job) (cells picks table found : List ℕ) (left : ℕ) (is : Rowed k) (a : UnrefusedBy Full (packing k) j (lent_of cells [] picks))
    (long : length table ≡ cell_count j)
    (filled : Filled j.weights j.values (limit_of (number_of (packing k)) j.copies) (j.budget + 1) (labels j) table)
    (trace : TraceBack (row_of table (j.budget + 1)) j.weights j.values (labels j) j.budget 0 left found) where
  abbrev limits : ℕ → ℕ
  limits = limit_of (number_of (packing k)) j.copies

  abbrev few : (i x : ℕ) → i < labels j → MayPick k (at j.copies i) x → x ≤ limits i
  few i x h = limit_few is j i x

  abbrev may : (i x : ℕ) → i < labels j → x ≤ limits i → MayPick k (at j.copies i) x
  may i x h = limit_may is j i x

  chosen : BestPicks k j (labels j) j.budget found
  chosen = back_picks k j limits (j.budget + 1) table few may filled (order_back is) j.budget (omega arith) trace [] (picks_none k j left)

  pub packs_full : (needed n value : ℕ) → needed ≡ cell_count j → n ≡ labels j → value ≡ at table (labels j * (j.budget + 1) + j.budget)
      → SolvedInCellsBy Full j cells picks (Says.Knapsack value (j.budget - left)) (table ++ drop needed cells) (found ++ drop n picks)
  unfolding FullTable cell_number BestPicks
  packs_full needed n value e₁ e₂ e₃ =
      let best = row_best k j limits (j.budget + 1) table few may filled in
      packs k j cells picks a (table ++ drop needed cells) (found ++ drop n picks) table found value (j.budget - left)
      (long ∙ sym (full_room is j)) (full_value is j table (λ i c h l. best i c h (omega arith))) chosen
      (e₃ ∙ picks_worth k j (labels j) j.budget found chosen (best (labels j) j.budget (omega arith) (omega arith)))
      (omega (arith, back_weight k j limits (j.budget + 1) table few may filled trace [] refl, total_none j.weights))
      (holds_front table cells needed (long ∙ sym e₁))
      (holds_front found picks n (chosen.one_of.fits.selection.one_each ∙ sym e₂))

-- kind 3, by the row that was filled and the trace along the labels
module _ (j : Job) (cells picks row found : List ℕ) (left : ℕ) (a : UnrefusedBy Full (packing free) j (lent_of cells [] picks))
    (long : length row ≡ j.budget + 1) (climbed : Climbed j.weights j.values (j.budget + 1) (labels j) row)
    (trace : TraceAlong (at row) j.weights j.values j.budget left found) where
  row_best_values : (c : ℕ) → c ≤ j.budget → BestValue free j (labels j) c (at row c)
  row_best_values c h = climbed_best j (j.budget + 1) row climbed c (omega arith)

  pub packs_free : (n value : ℕ) → n ≡ labels j → value ≡ at row j.budget
      → SolvedInCellsBy Full j cells picks (Says.Knapsack value (j.budget - left)) (row ++ drop (j.budget + 1) cells) (found ++ drop n picks)
  unfolding ValueTable OneRow BestPicks room_by room_of
  packs_free n value e₁ e₂ =
      let chosen = along_picks j (at row) j.budget row_best_values left found trace in
      packs free j cells picks a (row ++ drop (j.budget + 1) cells) (found ++ drop n picks) row found value (j.budget - left)
      long row_best_values chosen
      (e₂ ∙ picks_worth free j (labels j) j.budget found chosen (row_best_values j.budget (omega arith)))
      (omega (arith, along_weight (at row) j.weights j.values j.budget left found trace))
      (holds_front row cells (j.budget + 1) long)
      (holds_front found picks n (chosen.one_of.fits.selection.one_each ∙ sym e₁))

-- ---- the choice among the three

-- kind 3 has no copies, and is the knapsack of any number
any_free : (j : Job) (cells picks : List ℕ) → j.kind_number ≡ 3 → LetIn j cells picks
    → UnrefusedBy Full (packing free) j (lent_of cells [] picks) × (j.copies ≡ [])
unfolding number_of has_copies if
any_free j cells picks e a = go a.knapsack (sym (kind_number j.kind_number (packing a.knapsack) a.unrefused.of_kind) ∙ e) a.unrefused
  where
    go : (k : Knapsack) → number_of (packing k) ≡ 3 → UnrefusedBy Full (packing k) j (lent_of cells [] picks)
        → UnrefusedBy Full (packing free) j (lent_of cells [] picks) × (j.copies ≡ [])
    go once n r = absurd (omega arith)
    go limited n r = absurd (omega arith)
    go free n r = (r, empty_of j.copies (ready free j cells picks r).valid.copied)

-- another kind is 1 or 2
pub any_below : (j : Job) (cells picks : List ℕ) → ¬ (j.kind_number ≡ 3) → LetIn j cells picks → j.kind_number < 3
unfolding number_of
any_below j cells picks other a = go a.knapsack (kind_number j.kind_number (packing a.knapsack) a.unrefused.of_kind)
  where
    go : (k : Knapsack) → j.kind_number ≡ number_of (packing k) → j.kind_number < 3
    go once e = omega arith
    go limited e = omega arith
    go free e = absurd (other e)

-- so a job of kind 3 is one without copies
pub job_free : (kind budget : ℕ) (ws vs cs cells picks : List ℕ) → kind ≡ 3 → LetIn (job_of kind (budget ∷ []) ws vs cs) cells picks
    → (job_of kind (budget ∷ []) ws vs cs ≡ job_of 3 (budget ∷ []) ws vs [])
    × UnrefusedBy Full (packing free) (job_of 3 (budget ∷ []) ws vs []) (lent_of cells [] picks)
unfolding job_of
job_free kind budget ws vs cs cells picks e a =
    let (r, none_of) = any_free (job_of kind (budget ∷ []) ws vs cs) cells picks e a in
    let same : job_of kind (budget ∷ []) ws vs cs ≡ job_of 3 (budget ∷ []) ws vs [] = cc in
    (same, subst (λ (j : Job). UnrefusedBy Full (packing free) j (lent_of cells [] picks)) same r)
