-- No second choice is left of what the code hands back: two results that say what a promise allows for one input are the same, and so is what they
-- leave in the lent slices.
-- Assumes nothing.
use Prim.Native.Nat.{ℕ}
use mathlib.Core.Path.{◌≡◌, ap}
use mathlib.Core.List.{List}
use Rattle.std.specs.Prelude.{Result, Ok, Err}
use Rattle.meaning.specs.declared.Refusal.{Refusal}
use Rattle.meaning.specs.declared.Fault.{Fault}
use Rattle.meaning.specs.declared.Answer.{Answer}
use Rattle.meaning.specs.declared.Quick.{Quick}
use Rattle.meaning.specs.declared.Way.{Way}
use Rattle.meaning.specs.Says.{given, said}
use Rattle.meaning.specs.Judges.{judged}
use Rattle.meaning.specs.Reports.{reported}
use Rattle.meaning.specs.Hands.{handed}
use Rattle.meaning.specs.Job.{Job}
use Rattle.meaning.specs.Lent.{Lent}
use Rattle.meaning.specs.Solved.{SolvedBy, SolvedBytesBy}
use Rattle.meaning.specs.SolvedIn.{SolvedInCellsBy, SolvedInWords, SolvedInPicks}
use Rattle.meaning.specs.Told.{ToldBy}
use Rattle.meaning.specs.Certificates.{Checked}
use Rattle.meaning.specs.Writer.{Writes, WritesBytes}
use Rattle.meaning.specs.Quick.{Filled}
use Rattle.meaning.proofs.Refusing.{one_answer, one_verdict, one_report, one_quick}
use Rattle.meaning.proofs.Unique.{no_second_choice, no_second_choice_bytes, no_second_choice_told, no_second_verdict}
use Rattle.meaning.proofs.Unique.{no_second_writing, no_second_writing_bytes}
use Rattle.meaning.proofs.QuickPromise.{no_second_filling}
use Rattle.meaning.proofs.SolvedIn.{one_in_cells, one_in_words, one_in_picks}

-- ---- the planner

-- one result, and one content of the lent slices
pub record OneResult {A : Type 0} (r r' : A) (t t' : Lent) : Type 0 where
  pub result : r ≡ r'
  pub left : t ≡ t'

-- an answer that no refusal takes the place of
pub one_given : (a a' : Answer) → given a ≡ given a' → a ≡ a'
one_given a a' e = ap answer_in (one_answer (Ok a) (Ok a') e)
  where
    answer_in : Result Answer Refusal → Answer
    answer_in (Ok answer) = answer
    answer_in (Err why) = a

pub no_second_result : {way : Way} (j : Job) (before t t' : Lent) (r r' : Result Answer Refusal) → SolvedBy way j before (said r) t
    → SolvedBy way j before (said r') t' → OneResult r r' t t'
no_second_result j before t t' r r' x y =
    let one = no_second_choice j before t t' (said r) (said r') x y in
    record { result = one_answer r r' one.answer; left = one.left }

pub no_second_result_bytes : {way : Way} (bytes : List ℕ) (before t t' : Lent) (r r' : Result Answer Refusal)
    → SolvedBytesBy way bytes before (said r) t → SolvedBytesBy way bytes before (said r') t' → OneResult r r' t t'
no_second_result_bytes bytes before t t' r r' x y =
    let one = no_second_choice_bytes bytes before t t' (said r) (said r') x y in
    record { result = one_answer r r' one.answer; left = one.left }

-- of what a program is told: the kind and the labels too
pub record OneToldBack (kind kind' labels labels' : ℕ) (r r' : Result Answer Refusal) (t t' : Lent) : Type 0 where
  pub kind_same : kind ≡ kind'
  pub labels_same : labels ≡ labels'
  pub one : OneResult r r' t t'

pub no_second_told : {way : Way} (bytes : List ℕ) (before t t' : Lent) (kind kind' labels labels' : ℕ) (r r' : Result Answer Refusal)
    → ToldBy way bytes before kind labels (said r) t → ToldBy way bytes before kind' labels' (said r') t'
    → OneToldBack kind kind' labels labels' r r' t t'
no_second_told bytes before t t' kind kind' labels labels' r r' x y =
    let told = no_second_choice_told bytes before t t' kind kind' labels labels' (said r) (said r') x y in
    record {
      kind_same = told.kind_same;
      labels_same = told.labels_same;
      one = record { result = one_answer r r' told.one.answer; left = told.one.left };
    }

-- ---- the doors of the kinds, in the slices that each uses

module _ (j : Job) (r r' : Result Answer Refusal) where
  pub result_in_cells : (way : Way) (cells picks c c' p p' : List ℕ) → SolvedInCellsBy way j cells picks (said r) c p
      → SolvedInCellsBy way j cells picks (said r') c' p' → (r ≡ r') × (c ≡ c') × (p ≡ p')
  result_in_cells way cells picks c c' p p' x y =
      let (one, left, picked) = one_in_cells j (said r) (said r') way cells picks c c' p p' x y in
      (one_answer r r' one, left, picked)

  pub result_in_words : (words w w' : List ℕ) → SolvedInWords j words (said r) w → SolvedInWords j words (said r') w' → (r ≡ r') × (w ≡ w')
  result_in_words words w w' x y =
      let (one, left) = one_in_words j (said r) (said r') words w w' x y in
      (one_answer r r' one, left)

  pub result_in_picks : (picks p p' : List ℕ) → SolvedInPicks j picks (said r) p → SolvedInPicks j picks (said r') p' → (r ≡ r') × (p ≡ p')
  result_in_picks picks p p' x y =
      let (one, left) = one_in_picks j (said r) (said r') picks p p' x y in
      (one_answer r r' one, left)

-- ---- the checker

pub no_second_judgement : (jobB cert_b : List ℕ) (r r' : Result ℕ Fault) → Checked jobB cert_b (judged r) → Checked jobB cert_b (judged r') → r ≡ r'
no_second_judgement jobB cert_b r r' x y = one_verdict r r' (no_second_verdict jobB cert_b (judged r) (judged r') x y)

-- ---- the writer

-- one result, and one content of the byte slice
pub record OneReport (r r' : Result ℕ Refusal) (after after' : List ℕ) : Type 0 where
  pub result : r ≡ r'
  pub left : after ≡ after'

pub no_second_report : (j : Job) (picks cells before after after' : List ℕ) (r r' : Result ℕ Refusal)
    → Writes j picks cells before (reported r) after → Writes j picks cells before (reported r') after' → OneReport r r' after after'
no_second_report j picks cells before after after' r r' x y =
    let one = no_second_writing j picks cells before after after' (reported r) (reported r') x y in
    record { result = one_report r r' one.answer; left = one.left }

pub no_second_report_bytes : (bytes picks cells before after after' : List ℕ) (r r' : Result ℕ Refusal)
    → WritesBytes bytes picks cells before (reported r) after → WritesBytes bytes picks cells before (reported r') after' → OneReport r r' after after'
no_second_report_bytes bytes picks cells before after after' r r' x y =
    let one = no_second_writing_bytes bytes picks cells before after after' (reported r) (reported r') x y in
    record { result = one_report r r' one.answer; left = one.left }

-- ---- the quick answer

-- one result, and one content of each list
pub record OneHanded (r r' : Result Quick Refusal) (f f' s s' : List ℕ) : Type 0 where
  pub result : r ≡ r'
  pub first_left : f ≡ f'
  pub second_left : s ≡ s'

pub no_second_handing : (j : Job) (first second : List ℕ) (r r' : Result Quick Refusal) (f f' s s' : List ℕ) → Filled j first second (handed r) f s
    → Filled j first second (handed r') f' s' → OneHanded r r' f f' s s'
no_second_handing j first second r r' f f' s s' x y =
    let one = no_second_filling j first second (handed r) (handed r') f f' s s' x y in
    record { result = one_quick r r' one.answer; first_left = one.in_first; second_left = one.in_second }
