-- Searches, by which numbers pass the test: whether some does, and the first that does.
-- Assumes nothing.
use mathlib.Core.Path.{◌≡◌, refl, sym, ap, ap₂, ◌∙◌}
use mathlib.Core.Logic.{◌⊎◌, inl, inr}
use mathlib.Core.Option.{Option, none, some}
use Prim.Native.Nat.{ℕ, suc, zero, ◌+◌, ◌≤◌, ◌<◌}
use native.Mathlib.Nat.{add-zero, le_refl, not-suc-le-zero}
use native.Mathlib.Numerals.{add-one}
use native.Mathlib.Decide.{dec_lt}
use native.Mathlib.Omega.{arith}
use mathlib.Core.Bool.{Bool, true, false, ◌||◌, or-true, or-false}
use borrow.Author.Count.{below_more}
use Rattle.meaning.specs.Lists.{if}
use Rattle.meaning.specs.Certificates.{first, or_else, some_of}

-- ---- whether some does

or_neither : (a b : Bool) → (a || b) ≡ false → (a ≡ false) × (b ≡ false)
or_neither true b e = (e, let c : true ≡ false = e in cc)
or_neither false b e = (refl, e)

or_either : (a b : Bool) → (a || b) ≡ true → (a ≡ true) ⊎ (b ≡ true)
or_either true b e = inl refl
or_either false b e = inr e

-- one that passes
pub record Passing (test : ℕ → Bool) (n : ℕ) : Type 0 where
  pub place : ℕ
  pub inside : place < n
  pub passes : test place ≡ true

module _ (test : ℕ → Bool) where
  -- one passes, so some does
  pub some_passes : (n i : ℕ) → i < n → test i ≡ true → some_of test n ≡ true
  unfolding some_of
  some_passes zero i h e = absurd (not-suc-le-zero h)
  some_passes (suc n) i h e =
      elim (dec_lt i n) [
        | yes earlier ↦ rw (some_passes n i earlier e)
        | no last ↦ let same : i ≡ n = omega arith in ap (λ (b : Bool). some_of test n || b) (sym (ap test same) ∙ e) ∙ or-true (some_of test n)
      ]

  -- and back
  pub passing : (n : ℕ) → some_of test n ≡ true → Passing test n
  unfolding some_of
  passing zero e = let never : false ≡ true = e in let z : ◌≡◌ {A = ℕ} 0 1 = cc in absurd (omega arith)
  passing (suc n) e =
      elim (or_either (some_of test n) (test n) e) [
        | inl before ↦ let p = passing n before in record { place = p.place; inside = omega (arith, p.inside); passes = p.passes }
        | inr here ↦ record { place = n; inside = le_refl (suc n); passes = here }
      ]

  -- none passes
  pub none_pass : (n : ℕ) → ((i : ℕ) → i < n → test i ≡ false) → some_of test n ≡ false
  unfolding some_of
  none_pass zero fail = refl
  none_pass (suc n) fail = ap₂ ◌||◌ (none_pass n (λ i h. fail i (omega arith))) (fail n (le_refl (suc n)))

  -- and back
  pub none_passes : (n : ℕ) → some_of test n ≡ false → (i : ℕ) → i < n → test i ≡ false
  unfolding some_of
  none_passes zero e i h = absurd (not-suc-le-zero h)
  none_passes (suc n) e i h =
      let (before, here) = or_neither (some_of test n) (test n) e in
      below_more (λ (x : ℕ). test x ≡ false) n (none_passes n before) here i (omega arith)

-- those that fail needn't be asked
pub some_fewer : (test : ℕ → Bool) (n m : ℕ) → m ≤ n → ((i : ℕ) → m ≤ i → i < n → test i ≡ false) → some_of test n ≡ some_of test m
unfolding some_of
some_fewer test zero m h fail = let same : 0 ≡ m = omega arith in ap (some_of test) same
some_fewer test (suc n) m h fail =
    elim (dec_lt n m) [
      | yes all ↦ let same : suc n ≡ m = omega arith in ap (some_of test) same
      | no less ↦
          let before = some_fewer test n m (omega arith) (λ i above below. fail i above (omega arith)) in
          ap₂ ◌||◌ before (fail n (omega arith) (le_refl (suc n))) ∙ or-false (some_of test m)
    ]

-- two tests that agree on them
pub some_same : (f g : ℕ → Bool) (n : ℕ) → ((i : ℕ) → i < n → f i ≡ g i) → some_of f n ≡ some_of g n
unfolding some_of
some_same f g zero same = refl
some_same f g (suc n) same = ap₂ ◌||◌ (some_same f g n (λ i h. same i (omega arith))) (same n (le_refl (suc n)))

-- ---- the first that does

some≢none : {n : ℕ} → ◌≡◌ {A = Option ℕ} (some n) none → ⊥
some≢none e = let z : ◌≡◌ {A = ℕ} 0 1 = cc in omega arith

or_else_none : (o p : Option ℕ) → or_else o p ≡ none → (o ≡ none) × (p ≡ none)
unfolding or_else
or_else_none (some i) p e = absurd (some≢none e)
or_else_none none p e = (refl, e)

if_none : (b : Bool) (n : ℕ) → if b (some n) none ≡ none → b ≡ false
unfolding if
if_none true n e = absurd (some≢none e)
if_none false n e = refl

module _ (test : ℕ → Bool) where
  -- nothing is found below 0
  pub first_start : first test 0 ≡ none
  unfolding first
  first_start = refl

  -- nothing is found exactly where no number passes
  pub first_none : (n : ℕ) → first test n ≡ none → (i : ℕ) → i < n → test i ≡ false
  unfolding first
  first_none zero e i h = absurd (not-suc-le-zero h)
  first_none (suc n) e i h =
      let (before, here) = or_else_none (first test n) (if (test n) (some n) none) e in
      below_more (λ (x : ℕ). test x ≡ false) n (first_none n before) (if_none (test n) n here) i (omega arith)

  -- and back
  pub none_first : (n : ℕ) → ((i : ℕ) → i < n → test i ≡ false) → first test n ≡ none
  unfolding first or_else if
  none_first zero fail = refl
  none_first (suc n) fail = rw (none_first n (λ i h. fail i (omega arith)), fail n (le_refl (suc n)))

  module _ (m : ℕ) (none_below : first test m ≡ none) where
    -- one more that fails
    pub first_fails : test m ≡ false → first test (m + 1) ≡ none
    unfolding first or_else if
    first_fails fails = rw (add-one, none_below, fails)

    -- the first that passes is found, however far the search was to go
    pub first_passes : test m ≡ true → (n : ℕ) → m < n → first test n ≡ some m
    unfolding first or_else if
    first_passes passes zero h = absurd (omega arith)
    first_passes passes (suc n) h =
        elim (dec_lt m n) [
          | yes earlier ↦ rw (first_passes passes n earlier)
          | no here ↦ let e : n ≡ m = omega arith in rw (e, none_below, passes)
        ]

    -- some more that fail
    pub first_clear : (k : ℕ) → ((c : ℕ) → c < k → test (m + c) ≡ false) → first test (m + k) ≡ none
    unfolding first or_else if
    first_clear zero fail = ap (first test) (add-zero m) ∙ none_below
    first_clear (suc k) fail =
        let next : m + suc k ≡ suc (m + k) = omega arith in
        ap (first test) next ∙ rw (first_clear k (λ c h. fail c (omega arith)), fail k (omega arith))
