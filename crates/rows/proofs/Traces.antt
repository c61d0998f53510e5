-- The trace through the labels finds the chosen list: one argument for kinds 3 and 5.
-- Assumes nothing.
use mathlib.Core.Path.{◌≡◌, refl, sym, ap, ◌∙◌, subst}
use mathlib.Core.Logic.{inl, inr}
use Prim.Native.Nat.{ℕ, ◌+◌, ◌-◌, ◌≤◌, ◌<◌}
use native.Mathlib.Decide.{ℕ_discrete}
use native.Mathlib.Nat.{mul-le-mul_right, one-mul}
use native.Mathlib.Omega.{arith}
use mathlib.Core.Bool.{Bool, true, false}
use mathlib.Core.List.{List}
use lib.ListN.{length}
use lib.Seq.{ext_get_or}
use Rattle.meaning.specs.Lists.{at, sum, total}
use Rattle.meaning.specs.Orders.{Order, Earlier, Chosen}
use Rattle.meaning.proofs.Totals.{one_more, one_fewer, length_more, more_total, zero_total, positive_or_zero, at_more, at_more_other, total_part}
use Rattle.meaning.proofs.Greedy.{Most, first_is, last_is, greedy_step}
use Rattle.meaning.proofs.OneOfEach.{only_choice}
use Rattle.rows.specs.Traces.{turn_of, Trace, start, taken, passed}

-- ---- turns

-- each label has one
pub turn_within : {o : Order} → Most o → (n k : ℕ) → k < n → turn_of o n k < n
unfolding turn_of
turn_within first_is n k h = h
turn_within last_is n k h = omega arith

turn_back : {o : Order} → Most o → (n m : ℕ) → m < n → turn_of o n (turn_of o n m) ≡ m
unfolding turn_of
turn_back first_is n m h = refl
turn_back last_is n m h = omega arith

-- a label that is settled earlier has had its turn
turn_earlier : {o : Order} → Most o → (n k m : ℕ) → k < n → m < n → Earlier o m (turn_of o n k) → turn_of o n m < k
unfolding turn_of Earlier
turn_earlier first_is n k m hk hm e = e
turn_earlier last_is n k m hk hm e = omega arith

-- ---- what was spent so far

-- counts that are all 0 sum to 0
zero_sum : (p : List ℕ) → ((m : ℕ) → m < length p → at p m ≡ 0) → sum p ≡ 0
zero_sum p zeros = elim (positive_or_zero p) [ inl (m, h, Some-of) ↦ absurd (omega (arith, zeros m h)) | inr e ↦ e ]

module _ {o : Order} (most : Most o) (leads : ℕ → ℕ → Bool) (ws : List ℕ) (n budget : ℕ)
    (light : (m c : ℕ) → leads m c ≡ true → at ws m ≤ c) where
  -- a count for each label
  pub trace_long : {k c : ℕ} {p : List ℕ} → Trace o leads ws n budget k c p → length p ≡ n
  unfolding one_more
  trace_long (start long zeros) = long
  trace_long (taken {k} {c} {picks = p} trace inside on) = length_more p (turn_of o n k) ∙ trace_long trace
  trace_long (passed trace inside off) = trace_long trace

  -- the picks weigh what is not left
  pub trace_spent : {k c : ℕ} {p : List ℕ} → Trace o leads ws n budget k c p → total ws p + c ≡ budget
  unfolding one_more
  trace_spent (start {picks = p} long zeros) = omega (arith, zero_total ws p (zero_sum p (λ m h. zeros m (omega arith))))
  trace_spent (taken {k} {c} {picks = p} trace inside on) =
      let m = turn_of o n k in
      omega (arith, trace_spent trace, more_total ws p m (omega (arith, trace_long trace, turn_within most n k inside)), light m c on)
  trace_spent (passed trace inside off) = trace_spent trace

  -- so no count passes the budget
  pub trace_few : {k c : ℕ} {p : List ℕ} → Trace o leads ws n budget k c p → (m : ℕ) → 1 ≤ at ws m → at p m + c ≤ budget
  trace_few {p = p} trace m heavy =
      omega (arith, trace_spent trace, total_part ws p m, mul-le-mul_right (at p m) heavy, one-mul (at p m))

  -- ---- `Good c` are the best lists for c. Where a label leads on, they are, as far as they use it, those for what it leaves with one
  -- more of it, and where it doesn't, none of them uses it

  module _ (Good : ℕ → List ℕ → Type 0) (long : (c : ℕ) (q : List ℕ) → Good c q → length q ≡ n)
      (some_left : (m c : ℕ) → m < n → c ≤ budget → leads m c ≡ true → (q : List ℕ) × Good (c - at ws m) q)
      (more : (m c : ℕ) → m < n → c ≤ budget → leads m c ≡ true → (q : List ℕ) → Good (c - at ws m) q → Good c (one_more q m))
      (fewer : (m c : ℕ) → m < n → c ≤ budget → leads m c ≡ true → (q : List ℕ) → Good c q → 0 < at q m → Good (c - at ws m) (one_fewer q m))
      (unused : (m c : ℕ) → m < n → c ≤ budget → leads m c ≡ false → (q : List ℕ) → Good c q → at q m ≡ 0) where
    -- r has the counts of p and q together
    record Together (p q r : List ℕ) : Type 0 where
      counts : length r ≡ n
      each : (m : ℕ) → m < n → at r m ≡ at p m + at q m

    -- what is known where the counts of k labels are settled and c is left: there are best lists for c, none uses a settled label, and
    -- the chosen one of them, with the counts so far, is the chosen one for the budget
    record Come (k c : ℕ) (p : List ℕ) : Type 0 where
      best : (q : List ℕ) × Good c q
      settled : (q : List ℕ) → Good c q → (l : ℕ) → l < k → at q (turn_of o n l) ≡ 0
      on : (q r : List ℕ) → Chosen o n (Good c) q → Together p q r → Chosen o n (Good budget) r

    -- one more of label m on either side
    together_more : (p q r : List ℕ) (m : ℕ) → m < n → length p ≡ n → length q ≡ n → Together (one_more p m) q r → Together p (one_more q m) r
    together_more p q r m inside lp lq t = record {
      counts = t.counts;
      each = λ l h.
          elim (ℕ_discrete l m) [
            | yes e ↦
                subst (λ (x : ℕ). at r x ≡ at p x + at (one_more q m) x) (sym e)
                (omega (arith, t.each m inside, at_more p m (omega arith), at_more q m (omega arith)))
            | no other ↦ omega (arith, t.each l h, at_more_other p m l other, at_more_other q m l other)
          ];
    }

    come : {k c : ℕ} {p : List ℕ} → (q : List ℕ) × Good budget q → Trace o leads ws n budget k c p → Come k c p
    unfolding one_more
    come first (start {picks = p} lp zeros) = record {
      best = first;
      settled = λ q g l h. absurd (omega arith);
      on = λ q r chosen t.
          subst (Chosen o n (Good budget))
          (ext_get_or 0 q r (long budget q chosen.one_of ∙ sym t.counts)
          (λ m h. let h' : m < n = omega (arith, long budget q chosen.one_of) in omega (arith, t.each m h', zeros m h')))
          chosen;
    }
    come first (taken {k} {c} {picks = p} trace inside on) =
        let d = come first trace in
        let m = turn_of o n k in
        let m< = turn_within most n k inside in
        let within : c ≤ budget = omega (arith, trace_spent trace) in
        record {
          best = some_left m c m< within on;
          settled = λ q g l h.
              let other : turn_of o n l ≡ m → ⊥ = λ e. omega (arith, turn_back most n l (omega arith), turn_back most n k inside, ap (turn_of o n) e) in
              sym (at_more_other q m (turn_of o n l) other) ∙ d.settled (one_more q m) (more m c m< within on q g) l h;
          on = λ q r chosen t.
              d.on (one_more q m) r
              (greedy_step o most n (Good c) (Good (c - at ws m)) m m< (long c) (long (c - at ws m)) (fewer m c m< within on)
              (λ i h earlier q' g.
              subst (λ (x : ℕ). at q' x ≡ 0) (turn_back most n i h) (d.settled q' g (turn_of o n i) (turn_earlier most n k i inside h earlier)))
              q chosen (more m c m< within on q chosen.one_of))
              (together_more p q r m m< (trace_long trace) (long (c - at ws m) q chosen.one_of) t);
        }
    come first (passed {k} {c} {picks = p} trace inside off) =
        let d = come first trace in
        record {
          best = d.best;
          settled = λ q g l h.
              elim (ℕ_discrete l k) [
                | yes e ↦ rw e (unused (turn_of o n k) c (turn_within most n k inside) (omega (arith, trace_spent trace)) off q g)
                | no other ↦ d.settled q g l (omega arith)
              ];
          on = d.on;
        }

    -- where all counts are settled, the picks are the chosen list: the only best list for what is left is of zeros
    pub trace_chosen : (c : ℕ) (p : List ℕ) → (q : List ℕ) × Good budget q → Trace o leads ws n budget n c p → Chosen o n (Good budget) p
    trace_chosen c p first trace =
        let d = come first trace in
        let (q, good) = d.best in
        let zero_at : (q' : List ℕ) → Good c q' → (m : ℕ) → m < n → at q' m ≡ 0 =
        λ q' g m h. subst (λ (x : ℕ). at q' x ≡ 0) (turn_back most n m h) (d.settled q' g (turn_of o n m) (turn_within most n m h)) in
        d.on q p
        (only_choice o n (Good c) q good
        (λ q' g.
        ext_get_or 0 q' q (long c q' g ∙ sym (long c q good))
        (λ m h. let h' : m < n = omega (arith, long c q' g) in zero_at q' g m h' ∙ sym (zero_at q good m h'))))
        (record { counts = trace_long trace; each = λ m h. omega (arith, zero_at q good m h) })
