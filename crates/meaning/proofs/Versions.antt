-- The versions that document 01 names, each shown not to keep the promise, by every door: a planner that refuses everything, answers 0 or writes no
-- cells; and a checker that accepts everything, or refuses everything. Each goes wrong on requests that aren't to be refused, and may do right on all
-- others. (Held has the laws over every job; by them totals, ways and spare can't be invented.)
-- Assumes nothing.
use mathlib.Core.Path.{◌∙◌, ◌≡◌, ap, refl, subst, sym}
use Prim.Native.Nat.{ℕ, ◌≤◌}
use native.Mathlib.Nat.{le_refl}
use native.Mathlib.Omega.{arith}
use mathlib.Core.List.{List, [], ◌∷◌, ◌++◌}
use lib.Dec.{lit≤}
use lib.ListN.{length}
use Rattle.meaning.specs.Says.{Answer}
use Rattle.meaning.specs.Says as Says
use Rattle.meaning.specs.Judges.{Verdict}
use Rattle.meaning.specs.Judges.{Accepted}
use Rattle.meaning.specs.declared.Way.{Way}
use Rattle.meaning.specs.Lists.{at}
use Rattle.meaning.specs.Job.{Job, Kind, Knapsack, labels, once, sharing}
use Rattle.meaning.specs.Lent.{Lent, room_by}
use Rattle.meaning.specs.Bytes.{job_bytes, read_job, readable, section_bytes}
use Rattle.meaning.specs.Knapsacks.{BestPicks, Fits}
use Rattle.meaning.specs.Answers.{AnswerNumbers, answer_numbers}
use Rattle.meaning.specs.Solved.{Answered, SolvedBy, SolvedBytesBy, TableBy, UnrefusedBy}
use Rattle.meaning.specs.Certificates.{certificate_cells}
use Rattle.meaning.specs.Host.{SolvedHostBy, first_number}
use Rattle.meaning.specs.Demands.{Accepts, BestList, Demand3, Sound, ValidJob, list_in}
use Rattle.meaning.specs.Trials.{job_j}
use Rattle.meaning.proofs.EachKind.{Late, not_said, numbered, table_left, table_unique, table_of}
use Rattle.meaning.proofs.Unique.{no_influence}
use Rattle.meaning.proofs.Laws.{bytes_solved, held_at, unrefused_answered}
use Rattle.meaning.proofs.ExactCells.{best_of}
use Rattle.meaning.proofs.Certified.{certified_valid, one_knapsack}
use Rattle.meaning.proofs.Covering.{counts_shown}
use Rattle.meaning.proofs.Small.{picked, picked_out, selects, selects_out}
use Rattle.meaning.proofs.Opens.{opens}
use Rattle.meaning.proofs.Cases.{case_j, tried, filled, trial_facts}
use Rattle.meaning.proofs.Held.{refused_only, trial_says, tried_back, tried_goes}

-- ---- a version by any door

-- a door in its own words: what a call hands in and gets back, and what is promised of it; which job a call asks for, the way that kind 1 goes, and
-- the slices that the planner is lent then; and of what comes back, that it is a refusal, and that the first number of an answer of kind k is 0
pub record Door : Type 1 where
  pub Call : Type 0
  pub Given : Type 0
  pub Promise : Call → Given → Type 0
  pub AsksFor : Call → Job → Type 0
  pub way : Way
  pub lent : Call → Lent
  pub Refuses : Given → Type 0
  pub Answers0 : Kind → Given → Type 0

-- a call for a job of kind k that no refusal meets
pub record Asked (d : Door) (k : Kind) (c : d.Call) : Type 0 where
  pub job : Job
  pub asks_for : d.AsksFor c job
  pub unrefused : UnrefusedBy d.way k job (d.lent c)

-- a version gives back what it likes, whatever the call, and the promise is kept
pub record Version (d : Door) : Type 0 where
  pub gives : d.Call → d.Given
  pub keeps : (c : d.Call) → d.Promise c (gives c)

-- no version goes wrong in this way on every such call
unfoldable pub Never : (d : Door) → Kind → (d.Call → d.Given → Type 0) → Type 0
Never d k Wrong = (v : Version d) → ¬ ((c : d.Call) → Asked d k c → Wrong c (v.gives c))

-- an answer that is a refusal, and one whose first number is 0 (so is a refusal's)
abbrev pub Refusal : Answer → Type 0
Refusal a = (r : ℕ) × (a ≡ Says.Refused r)

abbrev pub First0 : Answer → Type 0
First0 a = first_number (answer_numbers a) ≡ 0

-- what no version by a door can do on the calls for kind k. It refuses not one of them but late, by 7 or 8
pub record ShutOut (d : Door) (k : Kind) : Type 0 where
  pub refuses_everything : Never d k (λ c g. d.Refuses g)
  pub refuses_late : (v : Version d) (c : d.Call) (a : Asked d k c) → d.Refuses (v.gives c) → (r : ℕ) × Late k a.job r
  pub answers_0 : Never d k (λ c g. d.Answers0 k g)

-- ---- a version by a door that is lent the planner's slices and gives them back

-- requests and the jobs that they hold, the way that kind 1 goes, replies, and of a reply that it is a refusal, and that its first number is 0
pub record LentDoor : Type 1 where
  pub Request : Type 0
  pub Reply : Type 0
  pub Promise : Request → Lent → Reply → Lent → Type 0
  pub HoldsJob : Request → Job → Type 0
  pub way : Way
  pub Refuses : Reply → Type 0
  pub Answers0 : Reply → Type 0

-- a call hands in a request and slices, and gets back a reply and slices
abbrev pub door_of : LentDoor → Door
door_of l = record {
  Call = l.Request × Lent;
  Given = l.Reply × Lent;
  Promise = λ c g. l.Promise c.0 c.1 g.0 g.1;
  AsksFor = λ c j. l.HoldsJob c.0 j;
  way = l.way;
  lent = λ c. c.1;
  Refuses = λ g. l.Refuses g.0;
  Answers0 = λ k g. l.Answers0 g.0;
}

-- what no version by such a door can do
pub record LentShutOut (l : LentDoor) (k : Kind) : Type 0 where
  pub answers : ShutOut (door_of l) k
  pub writes_no_cells : ¬ (k ≡ sharing) → Never (door_of l) k (λ c g. table_of k g.1 ≡ table_of k c.1)

-- ---- one law for every door: whoever keeps its promise shows the answer of the trial of kind k, which is no refusal, and whose first number isn't 0

pub not_refused : (k : Kind) → ¬ Refusal (tried k).answer
not_refused k (r, e) = not_said r (tried k).answer (trial_facts k).no_refusal (sym (ap answer_numbers e))

-- an answer to a job and the slices as they are left, both in some way shown
pub record SolvedAndShown (way : Way) (j : Job) (lent : Lent) (Shown : Answer → Lent → Type 0) : Type 0 where
  pub answer : Answer
  pub left : Lent
  pub solved : SolvedBy way j lent answer left
  pub shown : Shown answer left

-- a door that shows the planner's answer in what it gives back
module _ (d : Door) (Shown : Job → d.Given → Answer → Lent → Type 0)
    (shows : (c : d.Call) (g : d.Given) (j : Job) → d.AsksFor c j → d.Promise c g → SolvedAndShown d.way j (d.lent c) (Shown j g))
    (refusal_shown : (j : Job) (g : d.Given) (a : Answer) (left : Lent) → Shown j g a left → d.Refuses g → Refusal a)
    (not_0_shown : (k : Kind) (g : d.Given) (left : Lent) → Shown (tried k).job g (tried k).answer left → ¬ d.Answers0 k g) where
  tried_shown : (k : Kind) (c : d.Call) (g : d.Given) → d.AsksFor c (tried k).job → UnrefusedBy d.way k (tried k).job (d.lent c) → d.Promise c g
      → (left : Lent) × Shown (tried k).job g (tried k).answer left
  tried_shown k c g asks ok kept =
      let x = shows c g (tried k).job asks kept in
      let says = (trial_says (tried k).job (tried k).answer (tried k).picks (tried_goes k) k (d.lent c) x.left x.answer ok x.solved).0 in
      (x.left, subst (λ (a : Answer). Shown (tried k).job g a x.left) says x.shown)

  -- by one call that asks for that trial
  pub shut_out : (k : Kind) (c : d.Call) → d.AsksFor c (tried k).job → UnrefusedBy d.way k (tried k).job (d.lent c) → ShutOut d k
  unfolding Never
  shut_out k c asks ok =
      let asked : Asked d k c = record { job = (tried k).job; asks_for = asks; unrefused = ok } in
      let shown : (v : Version d) → (left : Lent) × Shown (tried k).job (v.gives c) (tried k).answer left =
      λ v. tried_shown k c (v.gives c) asks ok (v.keeps c) in
      record {
        refuses_everything =
            λ v all. let (left, s) = shown v in not_refused k (refusal_shown (tried k).job (v.gives c) (tried k).answer left s (all c asked));
        refuses_late =
            λ v c' a refused.
            let x = shows c' (v.gives c') a.job a.asks_for (v.keeps c') in
            let (r, e) = refusal_shown a.job (v.gives c') x.answer x.left x.shown refused in
            (r, refused_only a.job (d.lent c') x.left k r a.unrefused (rw e at x.solved));
        answers_0 = λ v all. let (left, s) = shown v in not_0_shown k (v.gives c) left s (all c asked);
      }

-- ---- the table: what is left in it doesn't depend on what stood there, so it can't be as it was on slices of 0 and on slices of 1

-- a table that is as it was has x in its first place
as_it_was : (way : Way) (k : Kind) (has : ¬ (k ≡ sharing)) (x : ℕ) {left : Lent} {s : AnswerNumbers}
    (y : Answered (room_by way k (tried k).job) (TableBy way k (tried k).job) k (tried k).job (filled way x k) s left)
    → table_of k left ≡ table_of k (filled way x k) → at (table_of k y.content) 0 ≡ x
as_it_was way k has x y kept =
    sym (held_at _ _ _ 0 (table_left way k y).held ((table_left way k y).needed has))
    ∙ ap (λ (l : List ℕ). at l 0) kept ∙ (trial_facts k).first_filled has way x

not_both : (way : Way) (k : Kind) (has : ¬ (k ≡ sharing)) (left left' : Lent) (a a' : Answer) → SolvedBy way (tried k).job (filled way 0 k) a left
    → SolvedBy way (tried k).job (filled way 1 k) a' left'
    → table_of k left ≡ table_of k (filled way 0 k) → ¬ (table_of k left' ≡ table_of k (filled way 1 k))
not_both way k has left left' a a' solved solved' kept kept' =
    let j = (tried k).job in
    let x = unrefused_answered k j (filled way 0 k) left a ((trial_facts k).unrefused way 0) solved in
    let y = unrefused_answered k j (filled way 1 k) left' a' ((trial_facts k).unrefused way 1) solved' in
    let same = (no_influence k j (filled way 0 k) (filled way 1 k) left left' (answer_numbers a) (answer_numbers a') (table_unique way k j) x y).1 in
    omega (arith, as_it_was way k has 0 x kept, as_it_was way k has 1 y kept', ap (λ (c : Lent). at (table_of k c) 0) same)

-- both laws, for a door that gives the slices back, with a request that holds the trial of each kind
module _ (l : LentDoor) (Shown : l.Reply → Answer → Type 0)
    (shows : (r : l.Request) (before after : Lent) (x : l.Reply) (j : Job) → l.HoldsJob r j → l.Promise r before x after
    → (a : Answer) × SolvedBy l.way j before a after × Shown x a)
    (refusal_shown : (x : l.Reply) (a : Answer) → Shown x a → l.Refuses x → Refusal a)
    (0-shown : (x : l.Reply) (a : Answer) → Shown x a → l.Answers0 x → First0 a)
    (ask : Kind → l.Request) (holds : (k : Kind) → l.HoldsJob (ask k) (tried k).job) where
  by_answer : (k : Kind) → ShutOut (door_of l) k
  by_answer k =
      shut_out (door_of l) (λ j g a left. Shown g.0 a)
      (λ c g j asks kept.
      let (a, solved, shown) = shows c.0 c.1 g.1 g.0 j asks kept in
      record { answer = a; left = g.1; solved = solved; shown = shown })
      (λ j g a left. refusal_shown g.0 a)
      (λ k' g left shown is-0. omega (arith, (trial_facts k').not_0, 0-shown g.0 (tried k').answer shown is-0))
      k (ask k, filled l.way 0 k) (holds k) ((trial_facts k).unrefused l.way 0)

  -- a version on the trial of kind k, with slices of x
  module _ (v : Version (door_of l)) (k : Kind) where
    abbrev lent_full : ℕ → Lent
    lent_full x = filled l.way x k

    left_by : ℕ → Lent
    left_by x = (v.gives (ask k, lent_full x)).1

    solves : (x : ℕ) → (a : Answer) × SolvedBy l.way (tried k).job (lent_full x) a (left_by x)
    unfolding left_by
    solves x =
        let (a, solved, shown) =
        shows (ask k) (lent_full x) (left_by x) (v.gives (ask k, lent_full x)).0 (tried k).job (holds k) (v.keeps (ask k, lent_full x)) in
        (a, solved)

    writes : ¬ (k ≡ sharing) → ¬ ((c : (door_of l).Call) → Asked (door_of l) k c → table_of k (v.gives c).1 ≡ table_of k c.1)
    unfolding left_by
    writes has all =
        let kept : (x : ℕ) → table_of k (left_by x) ≡ table_of k (lent_full x) =
        λ x. all (ask k, lent_full x) (record { job = (tried k).job; asks_for = holds k; unrefused = (trial_facts k).unrefused l.way x }) in
        not_both l.way k has (left_by 0) (left_by 1) (solves 0).0 (solves 1).0 (solves 0).1 (solves 1).1 (kept 0) (kept 1)

  pub lent_shut_out : (k : Kind) → LentShutOut l k
  unfolding Never
  lent_shut_out k = record { answers = by_answer k; writes_no_cells = λ has v. writes v k has }

-- ---- the planner's doors, by either way: on lists, on job bytes, and from C

-- a door whose reply is the answer itself
abbrev pub answering : {Request : Type 0} → Way → (Request → Lent → Answer → Lent → Type 0) → (Request → Job → Type 0) → LentDoor
answering {Request} way Promise HoldsJob =
    record { Request = Request; Reply = Answer; Promise = Promise; HoldsJob = HoldsJob; way = way; Refuses = Refusal; Answers0 = First0 }

module _ {Request : Type 0} (way : Way) (Promise : Request → Lent → Answer → Lent → Type 0) (HoldsJob : Request → Job → Type 0)
    (solves : (r : Request) (before after : Lent) (a : Answer) (j : Job) → HoldsJob r j → Promise r before a after → SolvedBy way j before a after)
    (ask : Kind → Request) (holds : (k : Kind) → HoldsJob (ask k) (tried k).job) where
  answering_versions : (k : Kind) → LentShutOut (answering way Promise HoldsJob) k
  answering_versions =
      lent_shut_out (answering way Promise HoldsJob) (λ x a. x ≡ a) (λ r before after x j held kept. (x, solves r before after x j held kept, refl))
      (λ x a same refused. rw same at refused) (λ x a same is-0. rw same at is-0) ask holds

planner_versions : (way : Way) (k : Kind) → LentShutOut (answering way (SolvedBy way) (λ r j. r ≡ j)) k
planner_versions way =
    answering_versions way (SolvedBy way) (λ r j. r ≡ j) (λ r before after a j same kept. rw same at kept) (λ k. (tried k).job) (λ k. refl)

-- the bytes hold a job
abbrev pub ReadAs : List ℕ → Job → Type 0
ReadAs bytes j = read_job bytes ≡ readable j

bytes_versions : (way : Way) (k : Kind) → LentShutOut (answering way (SolvedBytesBy way) ReadAs) k
bytes_versions way =
    answering_versions way (SolvedBytesBy way) ReadAs (λ b before after a j reads kept. bytes_solved b j before after a reads kept)
    (λ k. job_bytes (tried k).job) tried_back

-- from C three numbers are given back; the first is a refusal's where it isn't 0
pub record HostReply : Type 0 where
  pub refusal : ℕ
  pub first : ℕ
  pub second : ℕ

abbrev pub from_c : Way → LentDoor
from_c way = record {
  Request = List ℕ;
  Reply = HostReply;
  Promise = λ b before x after. SolvedHostBy way b before x.refusal x.first x.second after;
  HoldsJob = ReadAs;
  way = way;
  Refuses = λ x. ¬ (x.refusal ≡ 0);
  Answers0 = λ x. x.first ≡ 0;
}

host_versions : (way : Way) (k : Kind) → LentShutOut (from_c way) k
host_versions way =
    lent_shut_out (from_c way) (λ x a. (x.refusal ≡ (answer_numbers a).refusal) × (x.first ≡ first_number (answer_numbers a)))
    (λ b before after x j reads kept. (kept.answer, bytes_solved b j before after kept.answer reads kept.solved, (kept.refusal, kept.first_is)))
    (λ x a shown h. numbered a (λ e. h (shown.0 ∙ e))) (λ x a shown is-0. sym shown.1 ∙ is-0)
    (λ k. job_bytes (tried k).job) tried_back

-- ---- the checker: one that accepts everything, and one that refuses everything, of a valid job. What isn't one it may refuse as it should

valid_j : ValidJob job_j case_j
unfolding opens job_j
valid_j = record { reads = refl; knapsack = once; has_certificates = record { of_knapsack = refl; not_refused = refl } }

best_j : BestList once case_j (1 ∷ [])
unfolding opens picked BestPicks BestList
best_j = (picked_out once case_j (1 ∷ []) tt).one_of

-- a list that fits, and as many cells as are needed, whatever they claim: 11 to 13 don't refuse it
record ListFits (k : Knapsack) (j : Job) (cert_b : List ℕ) : Type 0 where
  picks : List ℕ
  cells : List ℕ
  written : cert_b ≡ section_bytes picks ++ section_bytes cells
  fits : Fits k j (labels j) j.budget picks
  cells_needed : length cells ≡ certificate_cells k j

-- J's job with nothing kept, and claims of nothing
unfoldable keep_none : List ℕ
keep_none = section_bytes (0 ∷ []) ++ section_bytes (0 ∷ 0 ∷ 0 ∷ 0 ∷ 0 ∷ 0 ∷ [])

none_fits : ListFits once case_j keep_none
unfolding opens keep_none selects
none_fits = record {
  picks = 0 ∷ [];
  cells = 0 ∷ 0 ∷ 0 ∷ 0 ∷ 0 ∷ 0 ∷ [];
  written = refl;
  fits = record { selection = selects_out once case_j 1 (0 ∷ []) tt; weight = lit≤ tt };
  cells_needed = refl;
}

-- which isn't best
none_worth_most : ¬ BestList once case_j (list_in keep_none)
unfolding opens keep_none list_in BestList
none_worth_most best = let three : 3 ≤ 0 = best.greatest (1 ∷ []) best_j.fits in omega arith

-- one that looks at the list alone
accepts_what_fits : (Check : List ℕ → List ℕ → Verdict → Type 0)
    → ((jobB cert_b : List ℕ) (j : Job) (ok : ValidJob jobB j) → ListFits ok.knapsack j cert_b → (v : ℕ) × Check jobB cert_b (Accepted v))
    → ¬ Demand3 Check
unfolding valid_j
accepts_what_fits Check all d =
    let (v, e) = all job_j keep_none case_j valid_j none_fits in
    let s : Sound job_j keep_none v = d.accepted_is_best job_j keep_none v e in
    let same : s.job ≡ case_j = cc (valid_j.reads, s.valid_job.reads) in
    let kind : s.valid_job.knapsack ≡ once = one_knapsack s.valid_job valid_j in
    let best : BestList once case_j (list_in keep_none) = rw (same, kind) at s.best in
    none_worth_most best

pub accepts_all : (Check : List ℕ → List ℕ → Verdict → Type 0)
    → ((jobB cert_b : List ℕ) (j : Job) → ValidJob jobB j → (v : ℕ) × Check jobB cert_b (Accepted v)) → ¬ Demand3 Check
accepts_all Check all = accepts_what_fits Check (λ jobB cert_b j ok fits. all jobB cert_b j ok)

-- one valid job whose certificates are all refused is enough
pub refuses_all : (Check : List ℕ → List ℕ → Verdict → Type 0) (jobB : List ℕ) (j : Job) → ValidJob jobB j
    → ((cert_b : List ℕ) (v : ℕ) → ¬ Check jobB cert_b (Accepted v)) → ¬ Demand3 Check
unfolding BestList
refuses_all Check jobB j ok none d =
    let k = ok.knapsack in
    let shown = counts_shown k j (certified_valid ok.has_certificates) in
    let (v, b) = best_of k j shown (labels j) j.budget (le_refl (labels j)) (le_refl j.budget) in
    let a : Accepts Check jobB b.picks = (d.exactly_when_best jobB j ok b.picks).1 b.best in
    none a.cert_b a.value a.accepted.verdict
