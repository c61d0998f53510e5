-- One theory over the counts that may be picked: what one label makes of a row, for kinds 1, 2 and 3.
-- Assumes nothing.
use mathlib.Core.Path.{◌≡◌, refl, sym, ap, ◌∙◌}
use mathlib.Core.Logic.{◌⊎◌, inl, inr}
use Prim.Native.Nat.{ℕ, zero, suc, ◌+◌, ◌-◌, ◌*◌, ◌/◌, ◌%◌, ◌≤◌, ◌<◌, min}
use native.Mathlib.Nat.{mul-add, mul-zero, mul-one, one-mul, mul_comm, mul_assoc, mul-le-mul_left, mul-le-mul_right}
use native.Mathlib.Nat.{le_antisymm, sub-add_cancel, div-add-mod, mod-lt, le-div_iff_mul-le}
use native.Mathlib.Omega.{arith}
use Rattle.meaning.specs.Lists.{at}
use Rattle.meaning.specs.Job.{Job, Knapsack}
use Rattle.meaning.specs.Bounds.{most_value}
use Rattle.meaning.specs.Knapsacks.{MayPick, BestValue}
use Rattle.meaning.proofs.Steps.{best_step}
use Rattle.rows.specs.Rows.{Worth, Greatest, GreatestRow, AnyCount, Least, Raised, Capped}
use Rattle.rows.proofs.Stores.{by}

-- x times w, with s of the x apart
apart : (w x s : ℕ) → s ≤ x → w * x ≡ w * (x - s) + w * s
apart w x s h = ap (λ (n : ℕ). w * n) (sym (sub-add_cancel h)) ∙ mul-add w (x - s) s

-- ---- other counts, other rows

-- where the same counts may be picked, as far as they fit
pub greatest_may : (May Can : ℕ → Type 0) (f : ℕ → ℕ) (w v c b : ℕ) → ((x : ℕ) → May x → Can x) → ((x : ℕ) → w * x ≤ c → Can x → May x)
    → Greatest May f w v c b → Greatest Can f w v c b
greatest_may May Can f w v c b to from d = record {
  count = d.count;
  may = to d.count d.may;
  made = d.made;
  above = λ x y m r. d.above x y (from x (omega (arith, r.spent)) m) r;
}

-- a count that is over what the whole budget holds makes no difference
pub greatest_limit : (f : ℕ → ℕ) (w v c b limit budget : ℕ) → 1 ≤ w → c ≤ budget
    → Greatest (λ x. x ≤ min limit (budget / w)) f w v c b → Greatest (λ x. x ≤ limit) f w v c b
greatest_limit f w v c b limit budget pos h =
    greatest_may (λ x. x ≤ min limit (budget / w)) (λ x. x ≤ limit) f w v c b (λ x m. omega arith)
    (λ x l m. let fits : x ≤ budget / w = (le-div_iff_mul-le pos).1 (omega (arith, mul_comm x w)) in omega arith)

-- over a row with the same cells
pub greatest_same : (May : ℕ → Type 0) (f g : ℕ → ℕ) (w v c b : ℕ) → ((d : ℕ) → d ≤ c → f d ≡ g d) → Greatest May f w v c b → Greatest May g w v c b
greatest_same May f g w v c b e d = record {
  count = d.count;
  may = d.may;
  made = record { left = d.made.left; spent = d.made.spent; worth = d.made.worth ∙ rw (e d.made.left (omega (arith, d.made.spent))) };
  above = λ x y m r. d.above x y m (record { left = r.left; spent = r.spent; worth = r.worth ∙ rw (← e r.left (omega (arith, r.spent))) });
}

-- ---- none of the label, and more of it

pub greatest_none : (f : ℕ → ℕ) (w v c : ℕ) → Greatest (λ x. x ≤ 0) f w v c (f c)
greatest_none f w v c = record {
  count = 0;
  may = omega arith;
  made = record { left = c; spent = omega (arith, mul-zero w); worth = omega (arith, mul-zero v) };
  above = λ x y m r.
      let e : x ≡ 0 = omega arith in
      let here : r.left ≡ c = omega (arith, r.spent, ap (λ (n : ℕ). w * n) e, mul-zero w) in
      omega (arith, r.worth, ap f here, ap (λ (n : ℕ). v * n) e, mul-zero v);
}

-- h is `base` raised by s of the label at once over `less`. Where `base` holds the counts of one sort over f, and `less` those of another, h holds
-- those of the first, and those of the second with s more
module _ (First Second Both : ℕ → Type 0) (s : ℕ)
    (either : (x : ℕ) → Both x → First x ⊎ ((s ≤ x) × Second (x - s)))
    (as_first : (x : ℕ) → First x → Both x) (with-more : (x : ℕ) → Second x → Both (x + s))
    (f base less h : ℕ → ℕ) (w v width : ℕ) (up : Raised base less h (w * s) (v * s) width) (c : ℕ) (inside : c < width)
    (bases : Greatest First f w v c (base c)) (lesses : w * s ≤ c → Greatest Second f w v (c - w * s) (less (c - w * s))) where
  -- no count is worth more than one of the two
  under : (x y : ℕ) → Both x → Worth f w v c x y → (y ≤ base c) ⊎ ((w * s ≤ c) × (y ≤ less (c - w * s) + v * s))
  under x y k r =
      elim (either x k) [
        | inl m ↦ inl (bases.above x y m r)
        | inr (large, m) ↦
            let light : w * s ≤ c = omega (arith, r.spent, apart w x s large) in
            let fewer : Worth f w v (c - w * s) (x - s) (f r.left + v * (x - s)) =
            record { left = r.left; spent = omega (arith, r.spent, apart w x s large); worth = refl } in
            let others = (lesses light).above (x - s) (f r.left + v * (x - s)) m fewer in
            inr (light, omega (arith, r.worth, apart v x s large))
      ]

  keep : h c ≡ base c → (w * s ≤ c → less (c - w * s) + v * s ≤ base c) → Greatest Both f w v c (h c)
  keep e no_more = record {
    count = bases.count;
    may = as_first bases.count bases.may;
    made = record { left = bases.made.left; spent = bases.made.spent; worth = e ∙ bases.made.worth };
    above = λ x y k r. elim (under x y k r) [ inl a ↦ omega arith | inr (light, a) ↦ omega (arith, no_more light) ];
  }

  add : w * s ≤ c → h c ≡ less (c - w * s) + v * s → base c ≤ h c → Greatest Both f w v c (h c)
  add light e over =
      let d = lesses light in
      record {
        count = d.count + s;
        may = with-more d.count d.may;
        made = record {
          left = d.made.left;
          spent = omega (arith, d.made.spent, mul-add w d.count s);
          worth = omega (arith, d.made.worth, mul-add v d.count s);
        };
        above = λ x y k r. elim (under x y k r) [ inl a ↦ omega arith | inr (l, a) ↦ omega arith ];
      }

  greatest_raised : Greatest Both f w v c (h c)
  greatest_raised =
      by c (w * s)
      (λ short. keep (up.short c inside short) (λ light. absurd (omega arith)))
      (λ light.
      let e = up.long c inside light in
      by (base c) (less (c - w * s) + v * s)
      (λ more. add light (omega arith) (omega arith))
      (λ less-of. keep (omega arith) (λ l. less-of)))

-- g holds up to m of the label over f. With s of them more at once, which are no more than m + 1, every count up to m + s is within reach
pub greatest_part : (f g h : ℕ → ℕ) (w v m s width : ℕ) → s ≤ suc m → GreatestRow (λ x. x ≤ m) f w v width g → Raised g g h (w * s) (v * s) width
    → GreatestRow (λ x. x ≤ m + s) f w v width h
unfolding GreatestRow
greatest_part f g h w v m s width small greatest up c inside =
    greatest_raised (λ x. x ≤ m) (λ x. x ≤ m) (λ x. x ≤ m + s) s
    (λ x k. by m x (λ l. inr (omega arith, omega arith)) (λ l. inl l)) (λ x k. omega arith) (λ x k. omega arith)
    f g g h w v width up c inside (greatest c inside) (λ light. greatest (c - w * s) (omega arith))

-- g holds, over f, the label added again and again to g itself: any count is within reach
module _ (f g : ℕ → ℕ) (w v width : ℕ) (pos : 1 ≤ w) (up : Raised f g g w v width) where
  any_below : (n c : ℕ) → c < n → c < width → Greatest AnyCount f w v c (g c)
  any_below zero c h l = absurd (omega arith)
  any_below (suc n) c h l =
      greatest_raised (λ x. x ≤ 0) AnyCount AnyCount 1
      (λ x k. by 0 x (λ some. inr (some, tt)) (λ none. inl none)) (λ x k. tt) (λ x k. tt)
      f f g g w v width (rw (mul-one w, mul-one v) up) c l (greatest_none f w v c)
      (rw (mul-one w) (λ light. any_below n (c - w) (omega arith) (omega arith)))

  pub greatest_any : GreatestRow AnyCount f w v width g
  unfolding GreatestRow
  greatest_any c h = any_below (suc c) c (omega arith) h

-- counts up to m - 1, and then any number of m at once: any count is within reach
module _ (f g h : ℕ → ℕ) (w v m width : ℕ) (pos : 1 ≤ m)
    (fewer : GreatestRow (λ x. x ≤ m - 1) f w v width g) (bundles : GreatestRow AnyCount g (w * m) (v * m) width h) where
  pub greatest_bundles : GreatestRow AnyCount f w v width h
  unfolding GreatestRow
  greatest_bundles c inside =
      let d = bundles c inside in
      let e = fewer d.made.left (omega (arith, d.made.spent)) in
      record {
        count = e.count + m * d.count;
        may = tt;
        made = record {
          left = e.made.left;
          spent = omega (arith, e.made.spent, d.made.spent, mul-add w e.count (m * d.count), mul_assoc w m d.count);
          worth = omega (arith, e.made.worth, d.made.worth, mul-add v e.count (m * d.count), mul_assoc v m d.count);
        };
        above = λ x y k r.
            let q = x / m in
            let s = x % m in
            let parts : x ≡ s + m * q = omega (arith, div-add-mod x m) in
            let weights : w * x ≡ w * s + w * m * q = ap (λ (n : ℕ). w * n) parts ∙ omega (arith, mul-add w s (m * q), mul_assoc w m q) in
            let values : v * x ≡ v * s + v * m * q = ap (λ (n : ℕ). v * n) parts ∙ omega (arith, mul-add v s (m * q), mul_assoc v m q) in
            let mid = r.left + w * s in
            let rest : Worth f w v mid s (f r.left + v * s) = record { left = r.left; spent = refl; worth = refl } in
            let under = (fewer mid (omega (arith, r.spent))).above s (f r.left + v * s) (omega (arith, mod-lt x pos)) rest in
            omega (arith, r.worth, d.above q (g mid + v * m * q) tt (record { left = mid; spent = omega (arith, r.spent); worth = refl }));
      }

-- ---- what a row comes to

-- over a capped row, whatever may be picked
pub greatest_capped : (May : ℕ → Type 0) (f g : ℕ → ℕ) (w v width : ℕ) → 1 ≤ w → v ≤ most_value
    → Capped f width → GreatestRow May f w v width g → Capped g width
unfolding Capped GreatestRow most_value
greatest_capped May f g w v width pos cheap capped greatest c h =
    let d = (greatest c h).made in
    let x = (greatest c h).count in
    let heavy : 1 * x ≤ w * x = mul-le-mul_right x pos in
    let worth : v * x ≤ most_value * x = mul-le-mul_right x cheap in
    omega (arith, d.spent, d.worth, capped d.left (omega (arith, d.spent)), one-mul x)

-- the row of the first i labels with label i is the row of the first i + 1
pub greatest_best : (k : Knapsack) (j : Job) (i width : ℕ) (f g : ℕ → ℕ) → ((c : ℕ) → c < width → BestValue k j i c (f c))
    → GreatestRow (MayPick k (at j.copies i)) f (at j.weights i) (at j.values i) width g
    → (c : ℕ) → c < width → BestValue k j (suc i) c (g c)
unfolding GreatestRow
greatest_best k j i width f g rows greatest c h =
    let d = greatest c h in
    let w = at j.weights i in
    let v = at j.values i in
    best_step k j i c f (λ d l. rows d (omega arith)) (g c)
    (λ x may light. d.above x (f (c - w * x) + v * x) may (record { left = c - w * x; spent = omega arith; worth = refl }))
    d.count d.may (omega (arith, d.made.spent))
    (let same : d.made.left ≡ c - w * d.count = omega (arith, d.made.spent) in d.made.worth ∙ rw same)

-- a part of a label's copies: it is lighter than the row is wide, and worth no more than the greatest value for each unit
pub record PartFits (w v part width : ℕ) : Type 0 where
  pub light : w * part < width
  pub cheap : v * part ≤ most_value * (w * part)

pub part_fits : (w v part most width : ℕ) → 1 ≤ w → v ≤ most_value → part ≤ most → w * most < width → PartFits w v part width
unfolding most_value
part_fits w v part most width pos cheap few light =
    let heavy : 1 * part ≤ w * part = mul-le-mul_right part pos in
    let worth : v * part ≤ most_value * part = mul-le-mul_right part cheap in
    record { light = omega (arith, mul-le-mul_left w few); cheap = omega (arith, one-mul part) }

-- a capped row stays so where what is added keeps to the greatest value for each unit of its weight
pub raised_capped : (f g : ℕ → ℕ) (w v width : ℕ) → v ≤ most_value * w → Capped f width → Raised f f g w v width → Capped g width
unfolding Capped most_value
raised_capped f g w v width cheap capped up c h =
    by c w
    (λ short. omega (arith, up.short c h short, capped c h))
    (λ light. omega (arith, up.long c h light, capped c h, capped (c - w) (omega arith)))

-- ---- no second choice is left

-- one number is the greatest
pub greatest_unique : {May : ℕ → Type 0} {f : ℕ → ℕ} {w v c b b' : ℕ} → Greatest May f w v c b → Greatest May f w v c b' → b ≡ b'
greatest_unique {b = b} {b' = b'} d e = le_antisymm (e.above d.count b d.may d.made) (d.above e.count b' e.may e.made)

-- and one count the least
pub least_unique : {f : ℕ → ℕ} {w v c b x x' : ℕ} → Least f w v c b x → Least f w v c b x' → x ≡ x'
least_unique {x = x} {x' = x'} d e =
    by x x' (λ l. absurd (e.fewer x l d.made)) (λ l. by x' x (λ m. absurd (d.fewer x' m e.made)) (λ m. omega arith))
