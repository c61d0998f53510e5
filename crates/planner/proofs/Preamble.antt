-- A job of a kind, asked about 3 to 6 by the rules and the room that an arm chose: turned away with a number, or let in to the crate of its kind.
-- Assumes nothing.
use mathlib.Core.Path.{◌≡◌, refl, sym, ap, subst, ◌∙◌}
use mathlib.Core.Option.{some}
use Prim.Native.Nat.{ℕ, zero, suc, ◌≤◌, min}
use native.Mathlib.Omega.{arith}
use mathlib.Core.Bool.{Bool, true, false, not}
use mathlib.Core.List.{List, [], ◌∷◌}
use lib.Dec.{T, eqb, leb, leb-zero}
use lib.ListN.{length}
use mir.Facts.{and_yes, eqb_yes, leb_yes}
use Rattle.std.specs.Prelude.{Result, IsErrAnd}
use Rattle.std.proofs.lemmas.Result.{err_from_is_err_and}
use Rattle.meaning.specs.declared.Answer.{Answer as Given}
use Rattle.meaning.specs.declared.Refusal.{Refusal}
use Rattle.meaning.specs.Refusing.{number_of}
use Rattle.meaning.proofs.Refusing.{some_number}
use Rattle.meaning.specs.Says.{Answer, said}
use Rattle.meaning.specs.Says as Says
use Rattle.meaning.specs.declared.Way.{Way}
use Rattle.meaning.specs.declared.Way.TheVariants.{Light}
use Rattle.meaning.specs.Lists.{if}
use Rattle.meaning.specs.Job.{Job, Knapsack, Kind, packing, labels, job_of, kind_of}
use Rattle.meaning.specs.Bounds.{most_labels, most_budget}
use Rattle.meaning.specs.Lent as places
use Rattle.meaning.specs.Lent.{Lent, room_by, room_of}
use Rattle.meaning.specs.Refusals as meaning
use Rattle.meaning.specs.Refusals.{bounds_fit, claims_fit, job_refusal, kind_refusal, knapsack_rules, lists_fit, room_fits, rules_of}
use Rattle.meaning.specs.Solved.{Outcome, SolvedBy, UnrefusedBy}
use Rattle.meaning.proofs.Laws.{solved_kind, turned_down}
use Rattle.meaning.proofs.Budgets.{q_ignored}
use Rattle.meaning.proofs.Ways.{either_way}
use Rattle.numbers.specs.declared.Job.{Job as Came}
use Rattle.numbers.specs.Lists.{job_in, job_as}
use Rattle.meaning.proofs.Valid.{has_passed}
use Rattle.meaning.proofs.Totals.{empty_of}
use Rattle.rules.specs.declared.Room.{Room}
use Rattle.rules.specs.declared.Rules.{Rules}
use Rattle.rules.specs.Ruling.{rules_from}
use Rattle.rules.specs.Places.{NeededFor, has_room, room_from}
use Rattle.rules.proofs.Places.{needed_within}
use Rattle.requests.proofs.Judging.{earlier_given, later_within, none_earlier}

-- ---- 6 is asked after 3 to 5

module _ (m : meaning.Rules) (j : Job) (fits : Bool) (r : ℕ) (asked_first : r ≡ job_refusal m j 0) where
  pub room_unasked : ¬ (r ≡ 0) → r ≡ job_refusal m j (if fits 0 6)
  room_unasked Some-number = asked_first ∙ sym (earlier_given m j (if fits 0 6) (λ none. Some-number (asked_first ∙ none)))

  pub has_the_room : r ≡ 0 → fits ≡ true → 0 ≡ job_refusal m j (if fits 0 6)
  unfolding if
  has_the_room none e = sym (none_earlier m j (if fits 0 6) (sym asked_first ∙ none) ∙ rw e)

  pub lacks_the_room : r ≡ 0 → fits ≡ false → 6 ≡ job_refusal m j (if fits 0 6)
  unfolding if
  lacks_the_room none e = sym (none_earlier m j (if fits 0 6) (sym asked_first ∙ none) ∙ rw e)

-- ---- what an arm asks by

-- a slice that isn't needed may have any length
pub unneeded : (needed a b : ℕ) → needed ≡ 0 → leb needed a ≡ leb needed b
unneeded needed a b none = rw (none, leb-zero a, leb-zero b)

-- the rules of the job's kind; the room that it needs, where its bounds are kept; and lengths that pass the same tests as those of the lent slices
pub record AskedBy (way : Way) (k : Kind) (j : Job) (lent : Lent) (rules : Rules) (needs_sum : Bool) (room : Room)
    (cells words picks : ℕ) : Type 0 where
  pub of_kind : kind_of j.kind_number ≡ some k
  pub its_rules : rules_from rules needs_sum ≡ rules_of k
  pub its_room : labels j ≤ (rules_of k).label_bound → j.budget ≤ (rules_of k).budget_bound → NeededFor way k (labels j) j.budget room
  pub in_cells : leb (room_by way k j).cells cells ≡ leb (room_by way k j).cells (length lent.cells)
  pub in_words : leb (room_by way k j).words words ≡ leb (room_by way k j).words (length lent.words)
  pub in_picks : leb (room_by way k j).picks picks ≡ leb (room_by way k j).picks (length lent.picks)

-- the lowest of 3 to 6 that applies, and 0 for none
pub record LowestBy (way : Way) (k : Kind) (j : Job) (lent : Lent) (r : ℕ) : Type 0 where
  pub of_kind : kind_of j.kind_number ≡ some k
  pub lowest : r ≡ job_refusal (rules_of k) j (if (room_fits (room_by way k j) lent) 0 6)

-- by the light way
abbrev pub Lowest : Kind → Job → Lent → ℕ → Type 0
Lowest k j lent r = LowestBy Light k j lent r

-- the code's test of the room that is needed is refusal 6's
same_room : (need : places.Room) (room : Room) (cells words picks : ℕ) (lent : Lent) → room_from room ≡ need
    → leb need.cells cells ≡ leb need.cells (length lent.cells)
    → leb need.words words ≡ leb need.words (length lent.words) → leb need.picks picks ≡ leb need.picks (length lent.picks)
    → has_room room cells words picks ≡ room_fits need lent
unfolding has_room room_fits room_from room_of
same_room need room cells words picks lent e a b c =
    let in_cells : room.cells ≡ need.cells = ap (λ (n : places.Room). n.cells) e in
    let in_words : room.words ≡ need.words = ap (λ (n : places.Room). n.words) e in
    let in_picks : room.picks ≡ need.picks = ap (λ (n : places.Room). n.picks) e in
    rw (in_cells, in_words, in_picks, a, b, c)

-- so what was asked by it is the lowest
module _ {way : Way} (k : Kind) (j : Job) (lent : Lent) (rules : Rules) (needs_sum : Bool) (room : Room) (cells words picks r : ℕ) where
  pub asked : AskedBy way k j lent rules needs_sum room cells words picks
      → r ≡ job_refusal (rules_from rules needs_sum) j (if (has_room room cells words picks) 0 6) → LowestBy way k j lent r
  unfolding NeededFor bounds_fit
  asked by asked-so = record {
    of_kind = by.of_kind;
    lowest =
        asked-so ∙ ap (λ (m : meaning.Rules). job_refusal m j (if (has_room room cells words picks) 0 6)) by.its_rules
        ∙ later_within (rules_of k) j _ _ (λ kept.
        let (few, small) = and_yes (leb (labels j) (rules_of k).label_bound) (leb j.budget (rules_of k).budget_bound) kept in
        let needed = by.its_room (leb_yes few) (leb_yes small) j refl refl in
        ap (λ (there : Bool). if there 0 6)
        (same_room (room_by way k j) room cells words picks lent needed by.in_cells by.in_words by.in_picks));
  }

  -- the labels counted, and the room that so many need
  pub asked_counted : (n : ℕ) → n ≡ labels j → kind_of j.kind_number ≡ some k → rules_from rules needs_sum ≡ rules_of k
      → NeededFor way k n j.budget room
      → leb (room_by way k j).cells cells ≡ leb (room_by way k j).cells (length lent.cells)
      → leb (room_by way k j).words words ≡ leb (room_by way k j).words (length lent.words)
      → leb (room_by way k j).picks picks ≡ leb (room_by way k j).picks (length lent.picks)
      → r ≡ job_refusal (rules_from rules needs_sum) j (if (has_room room cells words picks) 0 6) → LowestBy way k j lent r
  asked_counted n n-is of_kind its_rules needed in_cells in_words in_picks =
      asked record {
        of_kind = of_kind;
        its_rules = its_rules;
        its_room = λ few small. subst (λ (m : ℕ). NeededFor way k m j.budget room) n-is needed;
        in_cells = in_cells;
        in_words = in_words;
        in_picks = in_picks;
      }

-- a knapsack's room is counted for no more labels and budget than its rules let in
pub asked_knapsack : {way : Way} (x : Knapsack) (j : Job) (lent : Lent) (rules : Rules) (room : Room) (cells words picks r n : ℕ)
    → n ≡ labels j → kind_of j.kind_number ≡ some (packing x) → rules_from rules false ≡ rules_of (packing x)
    → NeededFor way (packing x) (min n most_labels) (min j.budget most_budget) room
    → leb (room_by way (packing x) j).cells cells ≡ leb (room_by way (packing x) j).cells (length lent.cells)
    → leb (room_by way (packing x) j).words words ≡ leb (room_by way (packing x) j).words (length lent.words)
    → leb (room_by way (packing x) j).picks picks ≡ leb (room_by way (packing x) j).picks (length lent.picks)
    → r ≡ job_refusal (rules_from rules false) j (if (has_room room cells words picks) 0 6) → LowestBy way (packing x) j lent r
unfolding rules_of knapsack_rules
asked_knapsack {way = way} x j lent rules room cells words picks r n n-is of_kind its_rules needed in_cells in_words in_picks =
    asked (packing x) j lent rules false room cells words picks r
    record {
      of_kind = of_kind;
      its_rules = its_rules;
      its_room = λ few small.
          needed_within way (packing x) (labels j) j.budget room few small
          (subst (λ (m : ℕ). NeededFor way (packing x) (min m most_labels) (min j.budget most_budget) room) n-is needed);
      in_cells = in_cells;
      in_words = in_words;
      in_picks = in_picks;
    }

-- ---- what comes of it

-- where one of 3 to 6 applies, nothing later does
asked_before : (r : meaning.Rules) (j : Job) (fits : Bool) (later : ℕ) → ¬ (job_refusal r j (if fits 0 6) ≡ 0)
    → job_refusal r j (if (not fits) 6 later) ≡ job_refusal r j (if fits 0 6)
unfolding if
asked_before r j true later h = earlier_given r j later h
asked_before r j false later h = refl

-- and where none does, what comes later
asked_after : (r : meaning.Rules) (j : Job) (fits : Bool) (later : ℕ) → job_refusal r j (if fits 0 6) ≡ 0
    → job_refusal r j (if (not fits) 6 later) ≡ later
unfolding if
asked_after r j true later h = none_earlier r j later h
asked_after r j false later h = absurd (omega (arith, (has_passed r j 6 h).later_none))

refused_with : {way : Way} (k : Kind) (j : Job) (lent : Lent) (r : ℕ) → ¬ (r ≡ 0) → kind_of j.kind_number ≡ some k
    → kind_refusal (room_by way k j) k j lent ≡ r → SolvedBy way j lent (Says.Refused r) lent
unfolding Outcome
refused_with k j lent zero Some-number is e = absurd (Some-number refl)
refused_with k j lent (suc r) Some-number is e = solved_kind j lent k (suc r) (Says.Refused (suc r)) lent is e (turned_down (suc r) lent)

module _ {way : Way} {k : Kind} {j : Job} {lent : Lent} {r : ℕ} (by : LowestBy way k j lent r) where
  -- one of 3 to 6 applies
  pub turned_away : ¬ (r ≡ 0) → SolvedBy way j lent (Says.Refused r) lent
  unfolding kind_refusal
  turned_away Some-number =
      refused_with k j lent r Some-number by.of_kind
      (asked_before (rules_of k) j (room_fits (room_by way k j) lent) _ (λ none. Some-number (by.lowest ∙ none)) ∙ sym by.lowest)

  -- none does
  module _ (none : r ≡ 0) where
    later_asked : kind_refusal (room_by way k j) k j lent ≡ if (not (claims_fit (rules_of k) j)) 9 0
    unfolding kind_refusal
    later_asked = asked_after (rules_of k) j (room_fits (room_by way k j) lent) _ (sym by.lowest ∙ none)

    pub no_claims : claims_fit (rules_of k) j ≡ false → SolvedBy way j lent (Says.Refused 9) lent
    unfolding if
    no_claims unclaimed = refused_with k j lent 9 (λ zero_is. absurd (omega arith)) by.of_kind (later_asked ∙ rw unclaimed)

    pub let_in : claims_fit (rules_of k) j ≡ true → UnrefusedBy way k j lent
    unfolding if
    let_in claimed = record { of_kind = by.of_kind; no_refusal = later_asked ∙ rw claimed }

-- what the `?` of an arm hands back
pub turned_with : {way : Way} {k : Kind} {j : Job} {lent : Lent} (why : Refusal) (r : Result Given Refusal) → IsErrAnd r (λ e. e ≡ why)
    → LowestBy way k j lent (number_of why) → SolvedBy way j lent (said r) lent
turned_with why r is by =
    let p = err_from_is_err_and r is in
    rw (p.1, p.2) (turned_away by (λ none. omega (arith, some_number why)))

-- ---- a list that the kind doesn't use is empty

no_members : (xs : List ℕ) (used : Bool) (n : ℕ) → used ≡ false → T (eqb (length xs) (if used n 0)) → xs ≡ []
unfolding if
no_members xs used n unused fits = empty_of xs (eqb_yes fits ∙ rw unused)

-- kinds 1, 3 and 9 have no copies
pub no_copies : (k : Kind) (j : Job) (later : ℕ) → (rules_of k).uses_copies ≡ false → job_refusal (rules_of k) j later ≡ 0 → j.copies ≡ []
unfolding lists_fit
no_copies k j later unused none =
    let (v, c) =
    and_yes (eqb (length j.values) (if (rules_of k).uses_values (labels j) 0))
    (eqb (length j.copies) (if (rules_of k).uses_copies (labels j) 0)) (has_passed (rules_of k) j later none).lists in
    no_members j.copies _ (labels j) unused c

pub without_copies : {way : Way} {k : Kind} (kind : ℕ) (budgets ws vs cs : List ℕ) {lent : Lent} {r : ℕ} → (rules_of k).uses_copies ≡ false
    → LowestBy way k (job_of kind budgets ws vs cs) lent r → r ≡ 0 → job_of kind budgets ws vs cs ≡ job_of kind budgets ws vs []
unfolding job_of
without_copies {k = k} kind budgets ws vs cs unused by none =
    let no-cs : cs ≡ [] = no_copies k (job_of kind budgets ws vs cs) _ unused (sym by.lowest ∙ none) in
    rw no-cs

-- a job that uses weights alone has no values and no copies
pub weights_alone : {way : Way} {k : Kind} (kind budget : ℕ) (ws vs cs : List ℕ) {lent : Lent} {r : ℕ} → (rules_of k).uses_values ≡ false
    → (rules_of k).uses_copies ≡ false
    → LowestBy way k (job_of kind (budget ∷ []) ws vs cs) lent r → r ≡ 0 → job_of kind (budget ∷ []) ws vs cs ≡ job_of kind (budget ∷ []) ws [] []
unfolding lists_fit job_of
weights_alone {k = k} kind budget ws vs cs no-values no_copies by none =
    let j = job_of kind (budget ∷ []) ws vs cs in
    let kept = (has_passed (rules_of k) j _ (sym by.lowest ∙ none)).lists in
    let (v, c) =
    and_yes (eqb (length vs) (if (rules_of k).uses_values (labels j) 0)) (eqb (length cs) (if (rules_of k).uses_copies (labels j) 0)) kept in
    let no-vs : vs ≡ [] = no_members vs _ (labels j) no-values v in
    let no-cs : cs ≡ [] = no_members cs _ (labels j) no_copies c in
    rw (no-vs, no-cs)

-- ---- the arm of a kind that isn't kind 1, whichever way kind 1 goes

-- `job` has its kind's number, which is m, and the arm takes it as `bare`
pub of_arm : (way : Way) (job : ℕ → Job) (m kind : ℕ) {bare : Job} (before after : Lent) (a : Answer) → ((k : ℕ) → (job k).kind_number ≡ k)
    → kind ≡ m → ¬ (m ≡ 1) → bare ≡ job m → SolvedBy Light bare before a after → SolvedBy way (job kind) before a after
of_arm way job m kind before after a numbered is not-1 same h =
    rw is (either_way {way = Light} way (job m) before after a (λ one. not-1 (sym (numbered m) ∙ one)) (rw same at h))

-- a job that came, with its q
pub of_arm_with : (way : Way) (j : Came) (m : ℕ) (before after : Lent) (a : Answer) → j.kind ≡ m → ¬ (m ≡ 1)
    → SolvedBy Light (job_of m (j.budget ∷ j.q ∷ []) j.weights j.values j.copies) before a after → SolvedBy way (job_in j) before a after
unfolding job_of
of_arm_with way j m before after a is not-1 h =
    of_arm way (λ k. job_of k (j.budget ∷ j.q ∷ []) j.weights j.values j.copies) m j.kind before after a (λ k. refl) is not-1 refl h

-- and a kind that has no q doesn't look at it
pub of_arm_without : (way : Way) (j : Came) (m : ℕ) (before after : Lent) (a : Answer) → j.kind ≡ m → ¬ (m ≡ 1) → ¬ (m ≡ 9)
    → SolvedBy Light (job_as m j) before a after → SolvedBy way (job_in j) before a after
of_arm_without way j m before after a is not-1 not-9 h =
    of_arm_with way j m before after a is not-1 (rw (q_ignored m j.weights j.values j.copies not-9 j.budget j.q) at h)
