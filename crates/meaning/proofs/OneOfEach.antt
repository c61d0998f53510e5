-- Each meaning leaves one list, one number, one table.
-- Assumes nothing.
use mathlib.Core.Path.{◌∙◌, ◌≡◌, ap, subst, sym, ap₂, refl}
use Prim.Native.Nat.{◌%◌, ◌*◌, ◌+◌, ◌-◌, ◌/◌, ◌<◌, ◌^◌, min, suc, suc-le-suc, zero, zero-le, ℕ}
use native.Mathlib.Nat.{div-add-mod', div-div-eq-div-mul, div-lt_iff_lt-mul, div-one, le_antisymm, le_of_suc-le-suc, le_refl, le_trans, mod-lt}
use native.Mathlib.Nat.{mul_comm, not-suc-le-zero, pow-suc, le_of_eq}
use native.Mathlib.Omega.{arith}
use mathlib.Core.Bool.{Bool, false, true}
use mathlib.Core.List.{List}
use lib.Arith.{digits_div, digits_mod}
use lib.ListN.{length}
use lib.Seq.{ext_get_or}
use Rattle.meaning.specs.Says.{Answer}
use Rattle.meaning.specs.Says as Says
use Rattle.meaning.specs.Lists.{at, if, total}
use Rattle.meaning.specs.Cells.{LeastShown, none_shown, shown}
use Rattle.meaning.specs.Job.{Job, Knapsack, labels}
use Rattle.meaning.specs.Lent.{cell_count, bit_words}
use Rattle.meaning.specs.Orders.{AgreeEarlier, Chosen, Earlier, NoWorse, Order, first_most, last_least, last_most}
use Rattle.meaning.specs.Knapsacks.{BestValue, FullTable, OneRow, Best, BestPicks, order_of}
use Rattle.meaning.specs.Sums.{Weighs, BitTable, Tells, bit, is_not, is_so, TotalCount, YesOrNo}
use Rattle.meaning.specs.Light.{LightTable, label_bit}
use Rattle.meaning.specs.Behind.{Behind, total_order}
use Rattle.meaning.specs.Cuts.{cut_sum, cut_values, remain, remain_of, stated_cells}
use Rattle.meaning.specs.Stated.{CutBest, StatedPicks, StatedTable, stated_cell, stated_order}
use Rattle.meaning.specs.Blocks.{WaysFor, WaysShown, too_many, Fewest, Laid, block_order}
use Rattle.meaning.specs.Answers.{AnswerNumbers, answer_numbers}
use Rattle.meaning.specs.Solved.{Packed, SumOrNone, Summed, WaysGiven, a_sum, no_such_sum, ways_answer}
use Rattle.meaning.proofs.Counting.{counted_unique}
use Rattle.meaning.proofs.Remaining.{row_of}
use Rattle.meaning.proofs.CellNumbers.{RowAndBudget, row_and_budget}

-- lists of the same length that agree at each place are the same
pub same_list : (n : ℕ) (s t : List ℕ) → length s ≡ n → length t ≡ n → ((m : ℕ) → m < n → at s m ≡ at t m) → s ≡ t
same_list n s t ls lt h = ext_get_or 0 s t (ls ∙ sym lt) (λ m k. h m (omega arith))

-- ---- an order chooses one list

-- how many labels may be settled before label m
rank : Order → ℕ → ℕ → ℕ
rank last_least n m = n - suc m
rank first_most n m = m
rank last_most n m = n - suc m

rank_before : (o : Order) (n i m : ℕ) → i < n → m < n → Earlier o i m → rank o n i < rank o n m
unfolding rank Earlier
rank_before last_least n i m hi hm b = omega arith
rank_before first_most n i m hi hm b = omega arith
rank_before last_most n i m hi hm b = omega arith

no_worse_both : (o : Order) (x y : ℕ) → NoWorse o x y → NoWorse o y x → x ≡ y
unfolding NoWorse
no_worse_both last_least x y a b = le_antisymm a b
no_worse_both first_most x y a b = le_antisymm b a
no_worse_both last_most x y a b = le_antisymm b a

module _ (o : Order) (n : ℕ) (P : List ℕ → Type 0) (p q : List ℕ) (tp : Chosen o n P p) (tq : Chosen o n P q) where
  agree_upto : (f m : ℕ) → m < n → rank o n m < f → at p m ≡ at q m
  unfolding AgreeEarlier
  agree_upto zero m h k = absurd (not-suc-le-zero k)
  agree_upto (suc f) m h k =
      let earlier : (i : ℕ) → i < n → Earlier o i m → at p i ≡ at q i =
      λ i hi b. agree_upto f i hi (le_trans (rank_before o n i m hi h b) (le_of_suc-le-suc k)) in
      no_worse_both o (at p m) (at q m)
      (tp.settled m h q tq.one_of (λ i hi b. sym (earlier i hi b)))
      (tq.settled m h p tp.one_of earlier)

  -- two chosen lists are the same
  pub chosen_unique : length p ≡ n → length q ≡ n → p ≡ q
  chosen_unique lp lq = same_list n p q lp lq (λ m h. agree_upto (suc (rank o n m)) m h (le_refl (suc (rank o n m))))

no_worse_same : (o : Order) (x y : ℕ) → x ≡ y → NoWorse o x y
unfolding NoWorse
no_worse_same last_least x y e = le_of_eq e
no_worse_same first_most x y e = le_of_eq (sym e)
no_worse_same last_most x y e = le_of_eq (sym e)

-- the only list with P is the chosen one
pub only_choice : (o : Order) (n : ℕ) (P : List ℕ → Type 0) (p : List ℕ) → P p → ((q : List ℕ) → P q → q ≡ p) → Chosen o n P p
only_choice o n P p has only =
    record { one_of = has; settled = λ m h q k agree. no_worse_same o (at p m) (at q m) (ap (λ (l : List ℕ). at l m) (sym (only q k))) }

-- ---- the best value is one number

pub best_value_unique : {k : Knapsack} {j : Job} {i c v w : ℕ} → BestValue k j i c v → BestValue k j i c w → v ≡ w
best_value_unique a b =
    a.value ∙ le_antisymm (b.best.greatest a.picks a.best.fits) (a.best.greatest b.picks b.best.fits) ∙ sym b.value

-- yes or no, not both
pub tells_unique : {P : Type 0} {x y : ℕ} → Tells P x → Tells P y → x ≡ y
tells_unique (is_so a e) (is_so b f) = e ∙ sym f
tells_unique (is_so a e) (is_not b f) = absurd (b a)
tells_unique (is_not a e) (is_so b f) = absurd (a b)
tells_unique (is_not a e) (is_not b f) = e ∙ sym f

-- numbers of k bits with the same bits are the same
bits_unique : (k x y : ℕ) → x < 2 ^ k → y < 2 ^ k → ((b : ℕ) → b < k → x / 2 ^ b % 2 ≡ y / 2 ^ b % 2) → x ≡ y
bits_unique zero x y hx hy h = omega arith
bits_unique (suc k) x y hx hy h =
    let lowest : x % 2 ≡ y % 2 = simp div-one at (h 0 (suc-le-suc zero-le)) in
    let half : (z b : ℕ) → z / 2 / 2 ^ b ≡ z / 2 ^ suc b =
    λ z b. div-div-eq-div-mul z 2 (2 ^ b) ∙ ap (λ (d : ℕ). z / d) (mul_comm 2 (2 ^ b) ∙ sym (pow-suc 2 b)) in
    let rest : x / 2 ≡ y / 2 =
    bits_unique k (x / 2) (y / 2) (omega (arith, pow-suc 2 k)) (omega (arith, pow-suc 2 k))
    (λ b l. ap (λ (d : ℕ). d % 2) (half x b) ∙ h (suc b) (suc-le-suc l) ∙ sym (ap (λ (d : ℕ). d % 2) (half y b))) in
    omega arith

-- ---- the tables: what the needed places hold

pub rows_unique : (k : Knapsack) (j : Job) (s t : List ℕ) → FullTable k j s → FullTable k j t → (m : ℕ) → m < cell_count j → at s m ≡ at t m
unfolding FullTable
rows_unique k j s t a b m h =
    let here : RowAndBudget j m = row_and_budget j m h in
    subst (λ (x : ℕ). at s x ≡ at t x) here.numbered
    (best_value_unique (a (m / (j.budget + 1)) (m % (j.budget + 1)) here.row here.column)
    (b (m / (j.budget + 1)) (m % (j.budget + 1)) here.row here.column))

pub row_unique : (k : Knapsack) (j : Job) (s t : List ℕ) → OneRow k j s → OneRow k j t → (m : ℕ) → m < j.budget + 1 → at s m ≡ at t m
unfolding OneRow
row_unique k j s t a b m h = best_value_unique (a m (omega arith)) (b m (omega arith))

bit_at : (words : List ℕ) (m b : ℕ) → b < 64 → bit words (m * 64 + b) ≡ at words m / 2 ^ b % 2
unfolding bit
bit_at words m b h = rw (digits_div m h, digits_mod m h)

-- two words of 64 bits with the same bits are the same
words_unique : (s t : List ℕ) (m : ℕ) → at s m < 2 ^ 64 → at t m < 2 ^ 64 → ((b : ℕ) → b < 64 → bit s (m * 64 + b) ≡ bit t (m * 64 + b)) → at s m ≡ at t m
words_unique s t m hs ht same = bits_unique 64 (at s m) (at t m) hs ht (λ b l. sym (bit_at s m b l) ∙ same b l ∙ bit_at t m b l)

pub bits_table_unique : (j : Job) (s t : List ℕ) → BitTable j s → BitTable j t → (m : ℕ) → m < bit_words j → at s m ≡ at t m
bits_table_unique j s t a b m h =
    words_unique s t m (a.narrow m h) (b.narrow m h)
    (λ i l. tells_unique (a.set (m * 64 + i) (omega arith)) (b.set (m * 64 + i) (omega arith)))

-- a word of the light table is one of a label's own
pub label_words_unique : (j : Job) {cells cells' : List ℕ} (s t : List ℕ) → LightTable j cells s → LightTable j cells' t
    → (m : ℕ) → m < labels j * bit_words j → at s m ≡ at t m
unfolding label_bit
label_words_unique j s t a b m h =
    let per = bit_words j in
    let pos : 0 < per = omega arith in
    let label : m / per < labels j = (div-lt_iff_lt-mul pos).1 h in
    let within : m % per < per = mod-lt m pos in
    words_unique s t m (a.narrow m h) (b.narrow m h)
    (λ i l.
    let place : 64 * (m / per * per) + (m % per * 64 + i) ≡ m * 64 + i = omega (arith, div-add-mod' m per) in
    rw place at (tells_unique (a.set (m / per) (m % per * 64 + i) label (omega arith)) (b.set (m / per) (m % per * 64 + i) label (omega arith))))

-- a cell that shows the least of some numbers, or that there is none
pub least_shown_unique : {P : ℕ → Type 0} {x y : ℕ} → LeastShown P x → LeastShown P y → x ≡ y
least_shown_unique {x = x} {y = y} (shown a f) (shown b g) = le_antisymm (f y b) (g x a)
least_shown_unique {x = x} (shown a f) (none_shown n e) = absurd (n x a)
least_shown_unique {y = y} (none_shown n e) (shown b g) = absurd (n y b)
least_shown_unique (none_shown n e) (none_shown n' e') = e ∙ sym e'

-- each row of kind 9's table is that of some first labels
pub stated_cells_unique : (j : Job) (s t : List ℕ) → StatedTable j s → StatedTable j t → (m : ℕ) → m < stated_cells j → at s m ≡ at t m
unfolding StatedTable stated_cells stated_cell
stated_cells_unique j s t a b m h =
    let width : ℕ = cut_sum j + 1 in
    let pos : 0 < width = omega arith in
    let row : m / width < remain j + 1 = (div-lt_iff_lt-mul pos).1 h in
    let column : m % width < width = mod-lt m pos in
    let (i, inside, there) = row_of j (m / width) (omega arith) in
    let numbered : remain_of j i * width + m % width ≡ m = ap (λ (x : ℕ). x * width + m % width) there ∙ div-add-mod' m width in
    subst (λ (x : ℕ). at s x ≡ at t x) numbered (least_shown_unique (a i (m % width) inside (omega arith)) (b i (m % width) inside (omega arith)))

-- the ways are one number
pub ways_unique : (j : Job) (i a n m : ℕ) → WaysFor j i a n → WaysFor j i a m → n ≡ m
unfolding WaysFor
ways_unique j i a n m c d = counted_unique c d

-- and so is the cell that shows them
pub ways_shown_unique : {j : Job} {i a x y : ℕ} → WaysShown j i a x → WaysShown j i a y → x ≡ y
ways_shown_unique {j} {i} {a} c d =
    c.lesser ∙ ap (λ (w : ℕ). min w too_many) (ways_unique j i a c.many d.many c.how_many d.how_many) ∙ sym d.lesser

-- ---- what each kind says and writes

-- picks with their value and weight, where there is one choice at most
pub packed_unique : {Choice : List ℕ → Type 0} {j : Job} {s s' : AnswerNumbers} {p p' : List ℕ} → ((q r : List ℕ) → Choice q → Choice r → q ≡ r)
    → Packed Choice j s p → Packed Choice j s' p' → (p ≡ p') × (s ≡ s')
packed_unique {j = j} {p = p} {p' = p'} one a b =
    let same : p ≡ p' = one p p' a.picked b.picked in
    (same, a.numbers ∙ ap (λ (x : List ℕ). answer_numbers (Says.Knapsack (total j.values x) (total j.weights x))) same ∙ sym b.numbers)

pub best_unique : (k : Knapsack) (j : Job) (i c : ℕ) (p q : List ℕ) → BestPicks k j i c p → BestPicks k j i c q → p ≡ q
unfolding BestPicks
best_unique k j i c p q b b' =
    chosen_unique (order_of k) i (Best k j i c) p q b b' b.one_of.fits.selection.one_each b'.one_of.fits.selection.one_each

pub stated_unique : (j : Job) (p q : List ℕ) → StatedPicks j p → StatedPicks j q → p ≡ q
unfolding StatedPicks
stated_unique j p q b b' =
    chosen_unique stated_order (labels j) (CutBest j (cut_values j)) p q b b'
    b.one_of.fits.selection.one_each b'.one_of.fits.selection.one_each

same_bit : (x y : Bool) → ◌≡◌ {A = ℕ} (if x 1 0) (if y 1 0) → x ≡ y
unfolding if
same_bit true true e = refl
same_bit true false e = absurd (omega arith)
same_bit false true e = absurd (omega arith)
same_bit false false e = refl

pub summed_unique : {j : Job} {s s' : AnswerNumbers} {p p' : List ℕ} → Summed j s p → Summed j s' p' → (p ≡ p') × (s ≡ s')
unfolding YesOrNo TotalCount
summed_unique a b =
    let e : a.yes ≡ b.yes = same_bit a.yes b.yes (tells_unique a.tells b.tells) in
    let f : a.totals ≡ b.totals = counted_unique a.how_many b.how_many in
    (a.none_written ∙ sym b.none_written, a.numbers ∙ ap₂ (λ (y : Bool) (n : ℕ). answer_numbers (Says.Sums y n)) e f ∙ sym b.numbers)

-- a sum, or none: one of them, where there is one choice at most
pub sum_or_none_unique : {Exact Choice : List ℕ → Type 0} {answer : List ℕ → Answer} {s s' : AnswerNumbers} {p p' : List ℕ}
    → ((q r : List ℕ) → Choice q → Choice r → q ≡ r)
    → SumOrNone Exact Choice answer s p → SumOrNone Exact Choice answer s' p' → (p ≡ p') × (s ≡ s')
sum_or_none_unique {answer = answer} {p = p} {p' = p'} one (a_sum m c e) (a_sum m' c' e') =
    let same : p ≡ p' = one p p' c c' in
    (same, e ∙ ap (λ (x : List ℕ). answer_numbers (answer x)) same ∙ sym e')
sum_or_none_unique {p = p} one (a_sum m c e) (no_such_sum n e' z) = absurd (n p m)
sum_or_none_unique {p' = p'} one (no_such_sum n e z) (a_sum m c e') = absurd (n p' m)
sum_or_none_unique one (no_such_sum n e z) (no_such_sum n' e' z') = (z ∙ sym z', e ∙ sym e')

pub laid_unique : (j : Job) (a : ℕ) (p q : List ℕ) → Laid j a p → Laid j a q → p ≡ q
unfolding Laid
laid_unique j a p q l l' =
    chosen_unique block_order (labels j) (Fewest j (labels j) a) p q l l' l.one_of.makes.one_each l'.one_of.makes.one_each

pub behind_unique : (j : Job) (i t : ℕ) (p q : List ℕ) → Behind j i t p → Behind j i t q → p ≡ q
unfolding Behind
behind_unique j i t p q b b' =
    chosen_unique total_order i (Weighs j i t) p q b b' b.one_of.selection.one_each b'.one_of.selection.one_each

pub ways_given_unique : {j : Job} {s s' : AnswerNumbers} {p p' : List ℕ} → WaysGiven j s p → WaysGiven j s' p' → (p ≡ p') × (s ≡ s')
ways_given_unique {j} a b = (
  a.none_written ∙ sym b.none_written,
  a.numbers ∙ ap (λ (w : ℕ). answer_numbers (ways_answer w)) (ways_unique j (labels j) j.budget a.ways b.ways a.how_many b.how_many)
      ∙ sym b.numbers,
)
