-- From a job that is let in to what the functions ask, and from what they leave to what `meaning` promises.
-- Assumes nothing.
use mathlib.Core.Path.{◌≡◌, sym, ◌∙◌}
use Prim.Native.Nat.{ℕ, ◌+◌, ◌-◌, ◌*◌, ◌/◌, ◌≤◌, ◌<◌}
use native.Mathlib.Nat.{mul-le-mul}
use native.Mathlib.Omega.{arith}
use mathlib.Core.List.{List, [], ◌∷◌, ◌++◌}
use lib.ListN.{length, drop}
use Rattle.meaning.specs.Says as Says
use Rattle.meaning.specs.declared.Way.TheVariants.{Light}
use Rattle.meaning.specs.Lists.{at, total}
use Rattle.meaning.specs.Job.{Job, job_of, once, packing, labels}
use Rattle.meaning.specs.Lent.{lent_of, room_by, once_room, room_of, bit_words}
use Rattle.meaning.specs.Bounds.{most_labels, most_budget}
use Rattle.meaning.specs.Refusals.{rules_of, knapsack_rules}
use Rattle.meaning.specs.Knapsacks.{BestPicks, OneRow}
use Rattle.meaning.specs.Solved.{Gives, TableBy, OnceTable, Solved, Unrefused}
use Rattle.meaning.proofs.Valid.{is_cleared, is_valid}
use Rattle.meaning.proofs.Laws.{answered_solved}
use Rattle.meaning.proofs.SolvedIn.{kept, holds_front}
use Rattle.meaning.proofs.Trace.{picks_worth}
use Rattle.rows.specs.Bounded.{Bounded}
use Rattle.rows.proofs.Bounded.{bounded}
use Rattle.light.specs.Packed.{PackedLight}

-- what a job keeps that is let in: its bounds, and room in all three slices
pub record Ready (j : Job) (cells words picks : List ℕ) : Type 0 where
  pub bounds : Bounded (j.budget + 1) j.weights j.values
  pub cells_room : j.budget + 1 ≤ length cells
  pub words_room : labels j * bit_words j ≤ length words
  pub picks_room : labels j ≤ length picks
  pub few : labels j ≤ most_labels

pub ready : (j : Job) (cells words picks : List ℕ) → Unrefused (packing once) j (lent_of cells words picks) → Ready j cells words picks
unfolding lent_of room_by once_room room_of rules_of knapsack_rules
ready j cells words picks ok =
    let lent = lent_of cells words picks in
    let cleared = is_cleared (room_by Light (packing once) j) (packing once) j lent ok.no_refusal in
    let keeps = kept (packing once) j lent ok in
    record {
      bounds = bounded once j (is_valid once j _ cleared.keeps);
      cells_room = keeps.cells_room;
      words_room = keeps.words_room;
      picks_room = keeps.picks_room;
      few = keeps.few;
    }

-- so the words can be counted
pub few_words : (n budget : ℕ) → n ≤ most_labels → budget ≤ most_budget → n * (budget / 64 + 1) < 18_446_744_073_709_551_616
unfolding most_labels most_budget
few_words n budget h l =
    let per : budget / 64 + 1 ≤ 1_024 = omega arith in
    omega (arith, mul-le-mul h per)

-- the same of a job of kind 1, in the numbers and lists that it is made of
pub record LightReady (budget : ℕ) (ws vs cells words picks : List ℕ) : Type 0 where
  pub bounds : Bounded (budget + 1) ws vs
  pub cells_room : budget + 1 ≤ length cells
  pub words_room : length ws * (budget / 64 + 1) ≤ length words
  pub picks_room : length ws ≤ length picks
  pub counted : length ws * (budget / 64 + 1) < 18_446_744_073_709_551_616

pub light_ready : {budget : ℕ} {ws vs cells words picks : List ℕ}
    → Unrefused (packing once) (job_of 1 (budget ∷ []) ws vs []) (lent_of cells words picks) → LightReady budget ws vs cells words picks
unfolding job_of labels
light_ready {budget} {ws} {vs} {cells} {words} {picks} ok =
    let keeps = ready (job_of 1 (budget ∷ []) ws vs []) cells words picks ok in
    record {
      bounds = keeps.bounds;
      cells_room = keeps.cells_room;
      words_room = keeps.words_room;
      picks_room = keeps.picks_room;
      counted = few_words (length ws) budget keeps.few (omega (arith, keeps.bounds.narrow));
    }

-- the row, the words and the picks that were written, over what the slices held
module _ (j : Job) (cells words picks row bits found : List ℕ) (left : ℕ) (ok : Unrefused (packing once) j (lent_of cells words picks))
    (row_long : length row ≡ j.budget + 1) (bits_long : length bits ≡ labels j * bit_words j) (packed : PackedLight j row bits found left) where
  -- what is left is no more than the budget
  pub within : left ≤ j.budget
  within = omega (arith, packed.weight)

  pub packs_light : (needed n value : ℕ) → needed ≡ labels j * bit_words j → n ≡ labels j → value ≡ at row j.budget
      → Solved j (lent_of cells words picks) (Says.Knapsack value (j.budget - left))
      (lent_of (row ++ drop (j.budget + 1) cells) (bits ++ drop needed words) (found ++ drop n picks))
  unfolding Gives TableBy OnceTable OneRow BestPicks lent_of room_by once_room room_of
  packs_light needed n value e₁ e₂ e₃ =
      let chosen = packed.chosen in
      let best = packed.table.best j.budget (omega arith) in
      let worth : value ≡ total j.values found = e₃ ∙ picks_worth once j (labels j) j.budget found chosen best in
      let weighs : j.budget - left ≡ total j.weights found = omega (arith, packed.weight) in
      answered_solved (packing once) j _ _ _ ok
      (record {
        content = lent_of row bits found;
        gives = record { picked = chosen; numbers = rw (worth, weighs) };
        table_right = packed.table;
        cells_needed = row_long;
        words_needed = bits_long;
        cells_hold = holds_front row cells (j.budget + 1) row_long;
        words_hold = holds_front bits words needed (bits_long ∙ sym e₁);
        picks_hold = holds_front found picks n (chosen.one_of.fits.selection.one_each ∙ sym e₂);
      })
