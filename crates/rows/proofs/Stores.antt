-- Cells that a loop stores one by one: what is stored so far, and the loop's invariants made of it.
-- Assumes nothing.
use mathlib.Core.Path.{◌≡◌, refl, sym, ap, ap₂, ◌∙◌, subst}
use Prim.Native.Nat.{ℕ, zero, suc, ◌+◌, ◌-◌, ◌*◌, ◌≤◌, ◌<◌, max, min}
use native.Mathlib.Decide.{dec_lt}
use native.Mathlib.Nat.{zero-add}
use native.Mathlib.Omega.{arith}
use mathlib.Core.List.{List, ◌∷◌}
use lib.ListN.{length, set, drop, length-set}
use lib.Seq.{get_or-set_same, get_or-set_other, drop-cons, drop-set-lt, lt-length-set}
use Rattle.meaning.specs.Lists.{at}
use Rattle.meaning.specs.Bounds.{most_value}
use Rattle.rows.specs.Rows.{Joined, Swept, Stored, FirstAlone, Capped}

-- by cases, a below b or not; the numbers come first, so that what each case is handed is known
pub by : {C : Type 0} (a b : ℕ) → (a < b → C) → (b ≤ a → C) → C
by {C} a b below not_below = go (dec_lt a b)
  where
    go : Dec (a < b) → C
    go (yes h) = below h
    go (no h) = not_below (omega arith)

-- the place that was stored to, and another
pub at_same : (l : List ℕ) (i x k : ℕ) → i < length l → k ≡ i → at (set l i x) k ≡ x
at_same l i x k h e = rw e (get_or-set_same l i x 0 h)

pub at_other : (l : List ℕ) (i x k : ℕ) → ¬ (k ≡ i) → at (set l i x) k ≡ at l k
at_other l i x k h = get_or-set_other l i k x 0 h

-- a place and those after it, once it was stored to
pub stored_first : (l : List ℕ) (i x : ℕ) → i < length l → drop i (set l i x) ≡ x ∷ drop (suc i) l
stored_first l i x h =
    drop-cons (set l i x) i 0 (lt-length-set l i x h)
    ∙ rw (get_or-set_same l i x 0 h, drop-set-lt (suc i) l i x (omega arith))

-- the places that were stored from the first on
pub stored_each : (s t : List ℕ) (n : ℕ) (rule : ℕ → ℕ) → Stored s t 0 0 n rule → (i : ℕ) → i < n → at t i ≡ rule i
stored_each s t n rule d i h = ap (at t) (sym (zero-add i)) ∙ d.cells i (omega arith) h

-- `one` over the first of places that all hold `none`
pub alone : (t : List ℕ) (one none count : ℕ) → 0 < length t → ((m : ℕ) → m < count → at t m ≡ none) → FirstAlone one none count (set t 0 one)
alone t one none count some same = record { first = at_same t 0 one 0 some refl; others = λ m pos h. at_other t 0 one m (omega arith) ∙ same m h }

-- so what is right for `one` in the first place, and for `none` in every other, is right for what they hold
pub alone_shows : (one none count : ℕ) (Shows : ℕ → ℕ → Type 0) → Shows 0 one → ((m : ℕ) → 0 < m → Shows m none)
    → (l : List ℕ) → FirstAlone one none count l → (m : ℕ) → m < count → Shows m (at l m)
alone_shows one none count Shows first others l f zero h = subst (Shows 0) (sym f.first) first
alone_shows one none count Shows first others l f (suc m) h =
    subst (Shows (suc m)) (sym (f.others (suc m) (omega arith) h)) (others (suc m) (omega arith))

module _ (s : List ℕ) (to lo hi : ℕ) (rule : ℕ → ℕ) where
  -- nothing stored yet
  pub stored_none : hi ≤ lo → Stored s s to lo hi rule
  stored_none h = record { cells = λ c l m. absurd (omega arith); before = λ k l. refl; past = λ k l. refl }

  module _ (t : List ℕ) (place x : ℕ) (inside : place < length t) (d : Stored s t to lo hi rule) where
    -- the next cell up
    pub stored_up : lo ≤ hi → place ≡ to + hi → x ≡ rule hi → Stored s (set t place x) to lo (hi + 1) rule
    stored_up h e r = record {
      cells = λ c l m. by c hi
          (λ b. at_other t place x (to + c) (omega arith) ∙ d.cells c l b)
          (λ b. let same : hi ≡ c = omega arith in at_same t place x (to + c) inside (omega arith) ∙ r ∙ rw same);
      before = λ k l. at_other t place x k (omega arith) ∙ d.before k l;
      past = λ k l. at_other t place x k (omega arith) ∙ d.past k (omega arith);
    }

    -- the next cell down
    pub stored_down : 0 < lo → lo ≤ hi → place ≡ to + (lo - 1) → x ≡ rule (lo - 1) → Stored s (set t place x) to (lo - 1) hi rule
    stored_down pos h e r = record {
      cells = λ c l m. by (lo - 1) c
          (λ b. at_other t place x (to + c) (omega arith) ∙ d.cells c (omega arith) m)
          (λ b. let same : lo - 1 ≡ c = omega arith in at_same t place x (to + c) inside (omega arith) ∙ r ∙ rw same);
      before = λ k l. at_other t place x k (omega arith) ∙ d.before k (omega arith);
      past = λ k l. at_other t place x k (omega arith) ∙ d.past k l;
    }

-- a loop that stores the cells from lo to hi - 1, from the first on, has come to cell c
pub record Storing (s : List ℕ) (to lo hi : ℕ) (rule : ℕ → ℕ) (c : ℕ) (t : List ℕ) : Type 0 where
  pub from : lo ≤ c
  pub within : c ≤ hi
  pub long : length t ≡ length s
  pub stored : Stored s t to lo c rule

module _ (s : List ℕ) (to lo hi : ℕ) (rule : ℕ → ℕ) where
  pub storing_none : lo ≤ hi → Storing s to lo hi rule lo s
  storing_none h = record { from = omega arith; within = h; long = refl; stored = stored_none s to lo lo rule (omega arith) }

  -- one cell more
  pub storing_more : (c place x : ℕ) (t : List ℕ) → c < hi → to + hi ≤ length s → Storing s to lo hi rule c t → place ≡ to + c → x ≡ rule c
      → Storing s to lo hi rule (c + 1) (set t place x)
  storing_more c place x t h room d here e = record {
    from = omega (arith, d.from);
    within = omega arith;
    long = simp length-set d.long;
    stored = stored_up s to lo c rule t place x (omega (arith, d.long)) d.stored d.from here e;
  }

  -- all of them
  pub storing_all : (c : ℕ) (t : List ℕ) → hi ≤ c → Storing s to lo hi rule c t → Stored s t to lo hi rule
  storing_all c t h d = let end : c ≡ hi = omega (arith, d.within) in rw end at d.stored

-- ---- a row in place, from the greatest budget down

-- a loop that makes the cells of a row from the last down to cell w, each by a rule of what it held and of the old cell w places before it, has
-- come to cell c. There may be none to make
pub record Descending (rule : ℕ → ℕ → ℕ) (s : List ℕ) (w c : ℕ) (t : List ℕ) : Type 0 where
  pub from : min w (length s) ≤ c
  pub within : c ≤ length s
  pub long : length t ≡ length s
  pub stored : Stored s t 0 c (length s) (λ k. rule (at s k) (at s (k - w)))

module _ (rule : ℕ → ℕ → ℕ) (s : List ℕ) (w : ℕ) where
  pub descending_none : Descending rule s w (length s) s
  descending_none = record { from = omega arith; within = omega arith; long = refl; stored = stored_none s 0 (length s) (length s) _ (omega arith) }

  -- one cell more: those below it are still the old ones
  pub descending_more : (c x : ℕ) (t : List ℕ) → w < c → Descending rule s w c t → x ≡ rule (at t (c - 1)) (at t (c - 1 - w))
      → Descending rule s w (c - 1) (set t (c - 1) x)
  descending_more c x t h d e = record {
    from = omega (arith, d.from);
    within = omega (arith, d.within);
    long = simp length-set d.long;
    stored =
        stored_down s 0 c (length s) _ t (c - 1) x (omega (arith, d.within, d.long)) d.stored (omega arith) d.within (omega arith)
        (e ∙ ap₂ rule (d.stored.before (c - 1) (omega arith)) (d.stored.before (c - 1 - w) (omega arith)));
  }

  -- all of them
  pub descending_all : (c : ℕ) (t : List ℕ) → c ≤ w → Descending rule s w c t → Joined rule (at s) (at s) (at t) w (length s)
  descending_all c t h d = record {
    short = λ k l m. d.stored.before k (omega (arith, d.from));
    long = λ k l m. rw zero-add at (d.stored.cells k (omega arith) l);
  }

-- ---- a row in place, from small budgets up

module _ (rule : ℕ → ℕ → ℕ) (s : List ℕ) (w : ℕ) where
  swept_none : (c : ℕ) → Swept rule s s w c c
  swept_none c = record { made = λ k l h. absurd (omega arith); before = λ k l. refl; past = λ k l. refl }

  -- one cell more
  pub swept_more : (t : List ℕ) (lo c x : ℕ) → c < length t → 1 ≤ w → w ≤ lo → lo ≤ c → Swept rule s t w lo c
      → x ≡ rule (at t c) (at t (c - w)) → Swept rule s (set t c x) w lo (c + 1)
  swept_more t lo c x inside pos light h d e =
      let same : (k : ℕ) → k < c → at (set t c x) k ≡ at t k = λ k l. at_other t c x k (omega arith) in
      record {
        made = λ k l m. by k c
            (λ b. same k b ∙ d.made k l b ∙ ap (rule (at s k)) (sym (same (k - w) (omega arith))))
            (λ b.
            let here : k ≡ c = omega arith in
            rw here (at_same t c x c inside refl ∙ e ∙ ap₂ rule (d.past c (omega arith)) (sym (same (c - w) (omega arith)))));
        before = λ k l. same k (omega arith) ∙ d.before k l;
        past = λ k l. at_other t c x k (omega arith) ∙ d.past k (omega arith);
      }

  -- one stretch after another
  pub swept_on : (t u : List ℕ) (lo mid hi : ℕ) → 1 ≤ w → lo ≤ mid → mid ≤ hi → Swept rule s t w lo mid → Swept rule t u w mid hi
      → Swept rule s u w lo hi
  swept_on t u lo mid hi pos h₁ h₂ d e = record {
    made = λ k l m. by k mid
        (λ b. e.before k b ∙ d.made k l b ∙ ap (rule (at s k)) (sym (e.before (k - w) (omega arith))))
        (λ b. e.made k b m ∙ ap (λ (x : ℕ). rule x (at u (k - w))) (d.past k b));
    before = λ k l. e.before k (omega arith) ∙ d.before k l;
    past = λ k l. e.past k l ∙ d.past k (omega arith);
  }

-- a loop that sweeps the cells from lo to hi - 1 has come to cell c, cell by cell or stretch by stretch. There may be none to sweep
pub record Sweeping (rule : ℕ → ℕ → ℕ) (s : List ℕ) (w lo hi c : ℕ) (t : List ℕ) : Type 0 where
  pub from : lo ≤ c
  pub within : c ≤ max lo hi
  pub long : length t ≡ length s
  pub swept : Swept rule s t w lo c

module _ (rule : ℕ → ℕ → ℕ) (s : List ℕ) (w lo hi : ℕ) where
  pub sweeping_none : Sweeping rule s w lo hi lo s
  sweeping_none = record { from = omega arith; within = omega arith; long = refl; swept = swept_none rule s w lo }

  module _ (pos : 1 ≤ w) (light : w ≤ lo) (c : ℕ) (t : List ℕ) (h : c < hi) (d : Sweeping rule s w lo hi c t) where
    -- one cell more
    pub sweeping_more : (x : ℕ) → hi ≤ length s → x ≡ rule (at t c) (at t (c - w)) → Sweeping rule s w lo hi (c + 1) (set t c x)
    sweeping_more x room e = record {
      from = omega (arith, d.from);
      within = omega arith;
      long = simp length-set d.long;
      swept = swept_more rule s w t lo c x (omega (arith, d.long)) pos light d.from d.swept e;
    }

    -- one stretch more
    pub sweeping_on : (end : ℕ) (u : List ℕ) → c ≤ end → end ≤ hi → length u ≡ length t → Swept rule t u w c end
        → Sweeping rule s w lo hi end u
    sweeping_on end u h₁ h₂ kept e = record {
      from = omega (arith, d.from);
      within = omega arith;
      long = kept ∙ d.long;
      swept = swept_on rule s w t u lo c end pos d.from h₁ d.swept e;
    }

  -- all of them
  pub sweeping_all : (c : ℕ) (t : List ℕ) → hi ≤ c → Sweeping rule s w lo hi c t → Swept rule s t w lo hi
  sweeping_all c t h d = record {
    made = λ k m n. d.swept.made k m (omega arith);
    before = d.swept.before;
    past = λ k m. by k c (λ b. d.swept.before k (omega (arith, d.from, d.within))) (λ b. d.swept.past k b);
  }

-- a cell that keeps to the greatest value for each unit of its budget does so with a label more
pub capped_more : (x y c w v : ℕ) → x ≤ most_value * c → w ≤ c → y ≤ most_value * (c - w) → v ≤ most_value * w → max x (y + v) ≤ most_value * c
unfolding most_value
capped_more x y c w v hx h hy hv = omega arith

-- a capped row with one cell stored that was raised by a label
pub capped_raised : (t : List ℕ) (c x w v width : ℕ) → c < length t → c < width → w ≤ c → v ≤ most_value * w → Capped (at t) width
    → x ≡ max (at t c) (at t (c - w) + v) → Capped (at (set t c x)) width
unfolding Capped
capped_raised t c x w v width inside here light cheap capped e k l =
    let more = capped_more (at t c) (at t (c - w)) c w v (capped c here) light (capped (c - w) (omega arith)) cheap in
    by k c (λ b. rw (at_other t c x k (omega arith)) (capped k l))
    (λ b. by c k
    (λ b'. rw (at_other t c x k (omega arith)) (capped k l))
    (λ b'. let same : k ≡ c = omega arith in rw (same, at_same t c x c inside refl, e) more))
