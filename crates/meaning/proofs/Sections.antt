-- What is written as sections is read back; so is a job.
-- Assumes nothing.
use mathlib.Core.Path.{◌∙◌, ◌≡◌, ap, refl, subst, sym}
use Prim.Native.Nat.{◌%◌, ◌*◌, ◌+◌, ◌-◌, ◌/◌, ◌<◌, ◌≤◌, suc, zero, zero-le, ℕ}
use native.Mathlib.Nat.{add-zero, div-add-mod', div-div-eq-div-mul, div-lt_iff_lt-mul, mod-eq_of_lt}
use native.Mathlib.Omega.{arith}
use mathlib.Core.Bool.{Bool, true, false}
use mathlib.Core.List.{List, [], ◌++◌, ◌∷◌, append_assoc, append-nil}
use lib.Dec.{eqb, lit<}
use lib.ListN.{drop, length, length-append, length-drop, take, take-append-drop}
use lib.Seq.{drop-drop, drop_at, drop-cons, ext_get_or, get_or-drop, length-take-le, take_at}
use borrow.Author.Tests.{le-ltb}
use Rattle.std.specs.Prelude.{Some, None, Ok}
use Rattle.meaning.specs.Lists.{at, if}
use Rattle.meaning.specs.Job.{Job, has_q, budget_count, job_of, budgets_of}
use Rattle.meaning.specs.Bytes.{Needed, Section, at_end, bytes_of, bytes_of_all, is_needed, job_bytes, number_at, numbers_in, between}
use Rattle.meaning.specs.Bytes.{read_job, read_section, readable, section_bytes, unreadable, whole_section, with_section}
use Rattle.meaning.proofs.Numbers.{all_append, all_long, number_long, numbers_at, numbers_long, section_long, section_whole}

-- ---- numbers of 32 bits

-- 2^32
abbrev pub limit32 : ℕ
limit32 = 4_294_967_296

-- every number is one of 32 bits
unfoldable pub All32 : List ℕ → Type 0
All32 xs = (m : ℕ) → m < length xs → at xs m < limit32

one32 : (x : ℕ) → x < limit32 → All32 (x ∷ [])
unfolding All32
one32 x h zero k = h
one32 x h (suc m) k = absurd (omega arith)

two32 : (x y : ℕ) → x < limit32 → y < limit32 → All32 (x ∷ y ∷ [])
unfolding All32
two32 x y h h' zero k = h
two32 x y h h' (suc zero) k = h'
two32 x y h h' (suc (suc m)) k = absurd (omega arith)

-- ---- one number

digits : (n a b c r₀ r₁ r₂ : ℕ) → a * 256 + r₀ ≡ n → b * 256 + r₁ ≡ a → c * 256 + r₂ ≡ b → r₀ + 256 * r₁ + 65_536 * r₂ + 16_777_216 * c ≡ n
digits n a b c r₀ r₁ r₂ e f g = omega arith

-- a number of 32 bits is read back from its four bytes
pub number_back : (n : ℕ) (rest : List ℕ) → n < limit32 → number_at (bytes_of n ++ rest) 0 ≡ n
unfolding number_at bytes_of
number_back n rest h =
    let e₁ : n / 256 / 256 ≡ n / 65_536 = div-div-eq-div-mul n 256 256 in
    let e₂ : n / 65_536 / 256 ≡ n / 16_777_216 = div-div-eq-div-mul n 65_536 256 in
    let top : n / 16_777_216 % 256 ≡ n / 16_777_216 = mod-eq_of_lt ((div-lt_iff_lt-mul (lit< tt)).1 h) in
    ap (λ (c : ℕ). n % 256 + 256 * (n / 256 % 256) + 65_536 * (n / 65_536 % 256) + 16_777_216 * c) top
    ∙ digits n (n / 256) (n / 65_536) (n / 16_777_216) (n % 256) (n / 256 % 256) (n / 65_536 % 256)
    (div-add-mod' n 256)
    (subst (λ (x : ℕ). x * 256 + n / 256 % 256 ≡ n / 256) e₁ (div-add-mod' (n / 256) 256))
    (subst (λ (x : ℕ). x * 256 + n / 65_536 % 256 ≡ n / 65_536) e₂ (div-add-mod' (n / 65_536) 256))

-- the number at a place is the first of what stands from there on
number_from : (b : List ℕ) (p : ℕ) → number_at b p ≡ number_at (drop p b) 0
unfolding number_at
number_from b p = rw (get_or-drop p b 0 0, get_or-drop p b 1 0, get_or-drop p b 2 0, get_or-drop p b 3 0, add-zero)

-- ---- what stands from a place on

pub record Stands (b : List ℕ) (p : ℕ) (l : List ℕ) : Type 0 where
  pub inside : p ≤ length b
  pub from : drop p b ≡ l

-- from place 0 on stands all
pub stands_first : (b : List ℕ) → Stands b 0 b
stands_first b = record { inside = zero-le; from = refl }

module _ {b : List ℕ} {p : ℕ} {l : List ℕ} (s : Stands b p l) where
  pub stands_long : length b ≡ p + length l
  stands_long = omega (arith, s.inside, length-drop p b, ap length s.from)

  stands_on : (n : ℕ) → n ≤ length l → Stands b (p + n) (drop n l)
  stands_on n h = record { inside = omega (arith, stands_long); from = sym (drop-drop n p b) ∙ ap (drop n) s.from }

-- ---- numbers and sections are read back

-- number i of a list and those after it stand from byte 4i on
split_all : (ns : List ℕ) (i : ℕ) → i < length ns → drop (4 * i) (bytes_of_all ns) ≡ bytes_of (at ns i) ++ bytes_of_all (drop (suc i) ns)
unfolding bytes_of_all
split_all ns i k =
    ap (λ (l : List ℕ). drop (4 * i) (bytes_of_all l)) (sym (take-append-drop i ns))
    ∙ ap (drop (4 * i)) (all_append (take i ns) (drop i ns))
    ∙ drop_at (bytes_of_all (take i ns)) (bytes_of_all (drop i ns)) (4 * i)
    (all_long (take i ns) ∙ ap (λ (x : ℕ). 4 * x) (length-take-le i ns (omega arith)))
    ∙ ap bytes_of_all (drop-cons ns i 0 k)

numbers_back : (ns : List ℕ) → All32 ns → numbers_in (bytes_of_all ns) ≡ ns
unfolding All32
numbers_back ns small =
    ext_get_or 0 (numbers_in (bytes_of_all ns)) ns (numbers_long (bytes_of_all ns) ∙ omega (arith, all_long ns))
    (λ i h.
    let k : i < length ns = omega (arith, numbers_long (bytes_of_all ns), all_long ns) in
    numbers_at (bytes_of_all ns) i h ∙ number_from (bytes_of_all ns) (4 * i) ∙ ap (λ (l : List ℕ). number_at l 0) (split_all ns i k)
    ∙ number_back (at ns i) (bytes_of_all (drop (suc i) ns)) (small i k))

-- a section that stands at p, with what follows it
module _ (b : List ℕ) (p : ℕ) (ns rest : List ℕ) (here : Stands b p (section_bytes ns ++ rest)) where
  section_apart : section_bytes ns ++ rest ≡ bytes_of (length ns) ++ (bytes_of_all ns ++ rest)
  unfolding section_bytes
  section_apart = append_assoc (bytes_of (length ns)) (bytes_of_all ns) rest

  pub section_next : Stands b (p + 4 + 4 * length ns) rest
  section_next =
      subst (λ (l : List ℕ). Stands b (p + 4 + 4 * length ns) l) (drop_at (section_bytes ns) rest (4 + 4 * length ns) (section_long ns))
      (subst (λ (q : ℕ). Stands b q (drop (4 + 4 * length ns) (section_bytes ns ++ rest))) (omega arith)
      (stands_on here (4 + 4 * length ns) (omega (arith, length-append (section_bytes ns) rest, section_long ns))))

  numbers_stand : Stands b (p + 4) (bytes_of_all ns ++ rest)
  numbers_stand =
      subst (λ (l : List ℕ). Stands b (p + 4) l)
      (ap (drop 4) section_apart ∙ drop_at (bytes_of (length ns)) (bytes_of_all ns ++ rest) 4 (number_long (length ns)))
      (stands_on here 4 (omega (arith, length-append (section_bytes ns) rest, section_long ns)))

  section_between : between b (p + 4) (p + 4 + 4 * length ns) ≡ bytes_of_all ns
  unfolding between
  section_between =
      ap (λ (l : List ℕ). take (p + 4 + 4 * length ns - (p + 4)) l) numbers_stand.from
      ∙ take_at (bytes_of_all ns) rest (p + 4 + 4 * length ns - (p + 4)) (all_long ns ∙ omega arith)

  module _ (many : length ns < limit32) where
    section_count : number_at b p ≡ length ns
    section_count =
        number_from b p ∙ ap (λ (l : List ℕ). number_at l 0) (here.from ∙ section_apart) ∙ number_back (length ns) (bytes_of_all ns ++ rest) many

    -- it is found as it was written
    pub section_back : (needed : Needed) → is_needed needed (length ns) ≡ true
        → read_section needed b p ≡ Ok (p + 4, length ns, p + 4 + 4 * length ns)
    unfolding whole_section
    section_back needed right =
        section_whole needed b p (omega (arith, stands_long numbers_stand))
        (ap (is_needed needed) section_count ∙ right)
        (omega (arith, section_count, stands_long section_next))
        ∙ ap (λ (n : ℕ). Ok (p + 4, n, p + 4 + 4 * n)) section_count

    -- reading goes on with its numbers, from the place after it
    pub read_on_lem : {A : Type 0} (needed : Needed) (stop : ℕ → A) (read_on : List ℕ → ℕ → A) → All32 ns → is_needed needed (length ns) ≡ true
        → with_section b (read_section needed b p) stop read_on ≡ read_on ns (p + 4 + 4 * length ns)
    unfolding with_section
    read_on_lem needed stop read_on small right =
        ap (λ (s : Section). with_section b s stop read_on) (section_back needed right)
        ∙ ap (λ (l : List ℕ). read_on l (p + 4 + 4 * length ns)) (ap numbers_in section_between ∙ numbers_back ns small)

-- nothing is left over
pub end_back : {A : Type 0} (b : List ℕ) (p : ℕ) (stop : ℕ → A) (done : A) → Stands b p [] → at_end b p stop done ≡ done
unfolding at_end if
end_back b p stop done s = simp (le-ltb p (length b) (omega (arith, stands_long s)))

-- ---- a job is read back

-- the numbers of a job fit the bytes, and it has no q where its kind has none
pub record Job32 (j : Job) : Type 0 where
  pub kind_number : j.kind_number < limit32
  pub budget : j.budget < limit32
  pub q : j.q < limit32
  pub ignored : has_q j.kind_number ≡ false → j.q ≡ 0
  pub weights : All32 j.weights
  pub values : All32 j.values
  pub copies : All32 j.copies
  pub many_weights : length j.weights < limit32
  pub many_values : length j.values < limit32
  pub many_copies : length j.copies < limit32

-- its budgets are as many as its kind has, they fit, and with them it is made
record BudgetsBack (j : Job) : Type 0 where
  few : length (budgets_of j) < limit32
  many : eqb (length (budgets_of j)) (budget_count j.kind_number) ≡ true
  fit : All32 (budgets_of j)
  made : job_of j.kind_number (budgets_of j) j.weights j.values j.copies ≡ j

budgets_back : (j : Job) → Job32 j → BudgetsBack j
unfolding budgets_of budget_count job_of if
budgets_back j s = go (has_q j.kind_number) refl
  where
    go : (b : Bool) → has_q j.kind_number ≡ b → BudgetsBack j
    go true e = record { few = rw e (lit< tt); many = rw e refl; fit = rw e (two32 j.budget j.q s.budget s.q); made = rw e }
    go false e = record { few = rw e (lit< tt); many = rw e refl; fit = rw e (one32 j.budget s.budget); made = rw (e, s.ignored e) }

-- a job's bytes are read as that job
pub job_back : (j : Job) → Job32 j → read_job (job_bytes j) ≡ readable j
unfolding read_job job_bytes is_needed
job_back j s =
    let b : List ℕ = job_bytes j in
    let ks : List ℕ = j.kind_number ∷ [] in
    let bs : List ℕ = budgets_of j in
    let budgets = budgets_back j s in
    let laid : b ≡ section_bytes ks ++
    (section_bytes bs ++ (section_bytes j.weights ++ (section_bytes j.values ++ (section_bytes j.copies ++ [])))) =
    simp (append_assoc, append-nil) in
    let s₁ = subst (λ (l : List ℕ). Stands b 0 l) laid (stands_first b) in
    let s₂ = section_next b 0 ks _ s₁ in
    let s₃ = section_next b _ bs _ s₂ in
    let s₄ = section_next b _ j.weights _ s₃ in
    let s₅ = section_next b _ j.values _ s₄ in
    let s₆ = section_next b _ j.copies [] s₅ in
    read_on_lem b 0 ks _ s₁ (lit< tt) (Some 1) unreadable _ (one32 j.kind_number s.kind_number) refl
    ∙ read_on_lem b _ bs _ s₂ budgets.few (Some (budget_count j.kind_number)) unreadable _ budgets.fit budgets.many
    ∙ read_on_lem b _ j.weights _ s₃ s.many_weights None unreadable _ s.weights refl
    ∙ read_on_lem b _ j.values _ s₄ s.many_values None unreadable _ s.values refl
    ∙ read_on_lem b _ j.copies [] s₅ s.many_copies None unreadable _ s.copies refl
    ∙ end_back b _ unreadable (readable (job_of j.kind_number bs j.weights j.values j.copies)) s₆
    ∙ ap readable budgets.made
