-- What a kind's crate may count on, and what it owes: laws of `Unrefused` and of the promises in specs/SolvedIn.
-- Assumes nothing.
use mathlib.Core.Path.{◌≡◌, ap, refl, sym}
use Prim.Native.Nat.{◌≤◌, ℕ}
use mathlib.Core.Bool.{◌&&◌}
use mathlib.Core.List.{List, [], ◌++◌}
use lib.Dec.{T, leb, leb-zero}
use lib.ListN.{drop, length}
use mir.Facts.{and_yes, leb_yes}
use Rattle.meaning.specs.Says.{Answer}
use Rattle.meaning.specs.declared.Way.{Way}
use Rattle.meaning.specs.declared.Way.TheVariants.{Light}
use Rattle.meaning.specs.Slices.{Holds}
use Rattle.meaning.specs.Job.{Job, Kind, labels}
use Rattle.meaning.specs.Lent.{Lent, lent_of, room_by, room_for}
use Rattle.meaning.specs.Refusals.{bounds_fit, claims_fit, kind_refusal, room_fits, rules_of}
use Rattle.meaning.specs.Answers.{answer_numbers}
use Rattle.meaning.specs.Solved.{Gives, TableBy, TableHolds, Unrefused, UnrefusedBy}
use Rattle.meaning.specs.SolvedIn.{SolvedInCellsBy, SolvedInWords, SolvedInPicks}
use Rattle.meaning.proofs.Valid.{is_cleared, each_number}
use Rattle.meaning.proofs.Laws.{answered_solved}
use Rattle.meaning.proofs.Unique.{no_second_choice}

-- ---- what a job that is not refused keeps

pub record KeptBy (way : Way) (k : Kind) (j : Job) (lent : Lent) : Type 0 where
  pub few : labels j ≤ (rules_of k).label_bound
  pub small : j.budget ≤ (rules_of k).budget_bound
  pub weights_right : T ((rules_of k).weight_rule j.weights)
  pub cells_room : (room_by way k j).cells ≤ length lent.cells
  pub words_room : (room_by way k j).words ≤ length lent.words
  pub picks_room : (room_by way k j).picks ≤ length lent.picks
  pub claimed : T (claims_fit (rules_of k) j)

pub kept : {way : Way} (k : Kind) (j : Job) (lent : Lent) → UnrefusedBy way k j lent → KeptBy way k j lent
unfolding bounds_fit room_fits
kept {way} k j lent ok =
    let room = room_by way k j in
    let rules = rules_of k in
    let c = is_cleared room k j lent ok.no_refusal in
    let (n, b) = and_yes (leb (labels j) rules.label_bound) (leb j.budget rules.budget_bound) c.keeps.bounds in
    let (cw, p) =
    and_yes (leb room.cells (length lent.cells) && leb room.words (length lent.words)) (leb room.picks (length lent.picks))
    c.roomy in
    let (cs, ws) = and_yes (leb room.cells (length lent.cells)) (leb room.words (length lent.words)) cw in
    record {
      few = leb_yes n;
      small = leb_yes b;
      weights_right = (each_number rules j c.keeps.numbers).weights;
      cells_room = leb_yes cs;
      words_room = leb_yes ws;
      picks_room = leb_yes p;
      claimed = c.claimed;
    }

-- by the light way
abbrev pub Kept : Kind → Job → Lent → Type 0
Kept k j lent = KeptBy Light k j lent

-- ---- of a lent slice only its length counts, and of one that isn't needed not even that

pub data Alike (needed : ℕ) (s t : List ℕ) : Type 0 where
  not_needed : needed ≡ 0 → Alike needed s t
  as_long : length s ≡ length t → Alike needed s t

alike_room : {needed : ℕ} {s t : List ℕ} → Alike needed s t → leb needed (length s) ≡ leb needed (length t)
alike_room {s = s} {t = t} (not_needed e) = rw (e, leb-zero (length s), leb-zero (length t))
alike_room (as_long e) = rw e

pub still_unrefused : {way : Way} (k : Kind) (j : Job) (before after : Lent) → Alike (room_by way k j).cells before.cells after.cells
    → Alike (room_by way k j).words before.words after.words → Alike (room_by way k j).picks before.picks after.picks
    → UnrefusedBy way k j before → UnrefusedBy way k j after
unfolding kind_refusal room_fits
still_unrefused k j before after c w p ok = record {
  of_kind = ok.of_kind;
  no_refusal = rw (← alike_room c, ← alike_room w, ← alike_room p) ok.no_refusal;
}

-- ---- what is owed: the numbers and picks of the kind's answer, its table, and all else as it was

-- a slice with its first places written
pub holds_front : (new old : List ℕ) (n : ℕ) → length new ≡ n → Holds new old (new ++ drop n old)
unfolding Holds
holds_front new old n long = rw long

module _ (k : Kind) (j : Job) (a : Answer) where
  -- `table` and `found` are written over the first cells and picks
  pub solved_in_cells : {way : Way} (cells picks cells-after picks-after table found : List ℕ) → UnrefusedBy way k j (lent_of cells [] picks)
      → (room_by way k j).words ≡ 0 → Gives k j (answer_numbers a) found → TableBy way k j (lent_of table [] found) → length table ≡ (room_by way k j).cells
      → Holds table cells cells-after → Holds found picks picks-after → SolvedInCellsBy way j cells picks a cells-after picks-after
  unfolding SolvedInCellsBy Holds lent_of
  solved_in_cells cells picks cells-after picks-after table found ok none gives right long in_cells in_picks words =
      answered_solved k j (lent_of cells words picks) (lent_of cells-after words picks-after) a
      (still_unrefused k j (lent_of cells [] picks) (lent_of cells words picks) (as_long refl) (not_needed none) (as_long refl) ok)
      (record {
        content = lent_of table [] found;
        gives = gives;
        table_right = right;
        cells_needed = long;
        words_needed = sym none;
        cells_hold = in_cells;
        words_hold = refl;
        picks_hold = in_picks;
      })

  -- `table` is written over the first words
  pub solved_in_words : (words words-after table : List ℕ) → Unrefused k j (lent_of [] words []) → (room_for k j).cells ≡ 0 → (room_for k j).picks ≡ 0
      → Gives k j (answer_numbers a) [] → TableHolds k j (lent_of [] table []) → length table ≡ (room_for k j).words
      → Holds table words words-after → SolvedInWords j words a words-after
  unfolding SolvedInWords Holds lent_of
  solved_in_words words words-after table ok no_cells no-picks gives right long in_words_lem cells picks =
      answered_solved k j (lent_of cells words picks) (lent_of cells words-after picks) a
      (still_unrefused k j (lent_of [] words []) (lent_of cells words picks) (not_needed no_cells) (as_long refl) (not_needed no-picks) ok)
      (record {
        content = lent_of [] table [];
        gives = gives;
        table_right = right;
        cells_needed = sym no_cells;
        words_needed = long;
        cells_hold = refl;
        words_hold = in_words_lem;
        picks_hold = refl;
      })

  -- `found` is written over the first picks
  pub solved_in_picks : (picks picks-after found : List ℕ) → Unrefused k j (lent_of [] [] picks) → (room_for k j).cells ≡ 0 → (room_for k j).words ≡ 0
      → Gives k j (answer_numbers a) found → TableHolds k j (lent_of [] [] found) → Holds found picks picks-after → SolvedInPicks j picks a picks-after
  unfolding SolvedInPicks Holds lent_of
  solved_in_picks picks picks-after found ok no_cells no_words gives right in_picks cells words =
      answered_solved k j (lent_of cells words picks) (lent_of cells words picks-after) a
      (still_unrefused k j (lent_of [] [] picks) (lent_of cells words picks) (not_needed no_cells) (not_needed no_words) (as_long refl) ok)
      (record {
        content = lent_of [] [] found;
        gives = gives;
        table_right = right;
        cells_needed = sym no_cells;
        words_needed = sym no_words;
        cells_hold = refl;
        words_hold = refl;
        picks_hold = in_picks;
      })

-- ---- no second choice is left: the answer, and what the slices hold

module _ (j : Job) (a a' : Answer) where
  pub one_in_cells : (way : Way) (cells picks c c' p p' : List ℕ) → SolvedInCellsBy way j cells picks a c p → SolvedInCellsBy way j cells picks a' c' p'
      → (a ≡ a') × (c ≡ c') × (p ≡ p')
  unfolding SolvedInCellsBy lent_of
  one_in_cells way cells picks c c' p p' x y =
      let one = no_second_choice j (lent_of cells [] picks) (lent_of c [] p) (lent_of c' [] p') a a' (x []) (y []) in
      (one.answer, ap (λ (l : Lent). l.cells) one.left, ap (λ (l : Lent). l.picks) one.left)

  pub one_in_words : (words w w' : List ℕ) → SolvedInWords j words a w → SolvedInWords j words a' w' → (a ≡ a') × (w ≡ w')
  unfolding SolvedInWords lent_of
  one_in_words words w w' x y =
      let one = no_second_choice j (lent_of [] words []) (lent_of [] w []) (lent_of [] w' []) a a' (x [] []) (y [] []) in
      (one.answer, ap (λ (l : Lent). l.words) one.left)

  pub one_in_picks : (picks p p' : List ℕ) → SolvedInPicks j picks a p → SolvedInPicks j picks a' p' → (a ≡ a') × (p ≡ p')
  unfolding SolvedInPicks lent_of
  one_in_picks picks p p' x y =
      let one = no_second_choice j (lent_of [] [] picks) (lent_of [] [] p) (lent_of [] [] p') a a' (x [] []) (y [] []) in
      (one.answer, ap (λ (l : Lent). l.picks) one.left)
