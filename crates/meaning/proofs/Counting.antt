-- Laws of `Counted`: along an equivalence, through a one-to-one function, of two kinds that exclude each other; and the number is one.
-- Assumes nothing.
use mathlib.Core.Path.{◌≡◌, refl, sym, ap, ◌∙◌}
use mathlib.Core.Logic.{◌⊎◌, inl, inr}
use Prim.Native.Nat.{ℕ, suc, ◌+◌, ◌≤◌, zero-le}
use native.Mathlib.Nat.{le_antisymm}
use native.Mathlib.Omega.{arith}
use mathlib.Core.List.Memᴰ
use mathlib.Core.List.{List, [], ◌∷◌, ◌++◌, map, Memᴰ}
use lib.ListN.{length, length-append, length-map}
use Rattle.meaning.specs.Counting.{Distinct, Counted}

-- as many have Q as have P, where each has both or neither
pub counted_iff : {A : Type 0} {P Q : A → Type 0} {n : ℕ} → Counted P n → ((a : A) → P a → Q a) → ((a : A) → Q a → P a) → Counted Q n
counted_iff c f g = record {
  those = c.those;
  distinct = c.distinct;
  size = c.size;
  no_others = λ a m. f a (c.no_others a m);
  them_all = λ a q. c.them_all a (g a q);
}

-- without repetition: what a function that is one to one on such a list makes of it
pub distinct_map : {A B : Type 0} (f : A → B) (xs : List A) → ((a b : A) → Memᴰ a xs → Memᴰ b xs → f a ≡ f b → a ≡ b) → Distinct xs
    → Distinct (map f xs)
unfolding Distinct
distinct_map f [] one d = tt
distinct_map f (x ∷ xs) one d = (
  λ m. let (a, h, e) = Memᴰ.of_map f xs m in d.0 (Memᴰ.cast (one x a (Memᴰ.head refl) (Memᴰ.tail h) (sym e)) h),
  distinct_map f xs (λ a b ha hb. one a b (Memᴰ.tail ha) (Memᴰ.tail hb)) d.1,
)

-- and two such lists that share no member, one after the other
pub distinct_append : {A : Type 0} (xs ys : List A) → Distinct xs → Distinct ys → ((a : A) → Memᴰ a xs → Memᴰ a ys → ⊥)
    → Distinct (xs ++ ys)
unfolding Distinct
distinct_append [] ys d e apart = e
distinct_append (x ∷ xs) ys d e apart = (
  λ m. elim (Memᴰ.append_cases xs m) [ inl h ↦ d.0 h | inr h ↦ apart x (Memᴰ.head refl) h ],
  distinct_append xs ys d.1 e (λ a h. apart a (Memᴰ.tail h)),
)

-- a one-to-one function makes as many as there are to make them of
pub counted_through : {A B : Type 0} {P : A → Type 0} {n : ℕ} (f : A → B) → ((a b : A) → P a → P b → f a ≡ f b → a ≡ b)
    → Counted P n → Counted (λ (b : B). (a : A) × P a × (b ≡ f a)) n
counted_through f one c = record {
  those = map f c.those;
  distinct = distinct_map f c.those (λ a b ha hb. one a b (c.no_others a ha) (c.no_others b hb)) c.distinct;
  no_others = λ b m. let (a, h, e) = Memᴰ.of_map f c.those m in (a, c.no_others a h, sym e);
  them_all = λ b h. Memᴰ.cast h.2 (Memᴰ.map f (c.them_all h.0 h.1));
  size = length-map c.those f ∙ c.size;
}

-- where nothing has both, those with P or Q are as many as those with P and those with Q together
pub counted_either : {A : Type 0} {P Q : A → Type 0} {n m : ℕ} → ((a : A) → P a → Q a → ⊥) → Counted P n → Counted Q m
    → Counted (λ (a : A). P a ⊎ Q a) (n + m)
counted_either apart c d = record {
  those = c.those ++ d.those;
  distinct = distinct_append c.those d.those c.distinct d.distinct (λ a h k. apart a (c.no_others a h) (d.no_others a k));
  no_others = λ a h. elim (Memᴰ.append_cases c.those h) [ inl k ↦ inl (c.no_others a k) | inr k ↦ inr (d.no_others a k) ];
  them_all = λ a h. elim h [ inl k ↦ Memᴰ.append_left d.those (c.them_all a k) | inr k ↦ Memᴰ.append_right c.those (d.them_all a k) ];
  size = omega (arith, length-append c.those d.those, c.size, d.size);
}

-- ---- counting

-- a list without one of its members
taken_out : {A : Type 0} {x : A} (ys : List A) → Memᴰ x ys
    → (zs : List A) × (length ys ≡ suc (length zs)) × ((a : A) → Memᴰ a ys → (a ≡ x) ⊎ Memᴰ a zs)
taken_out [] m = absurd (Memᴰ.not-nil m)
taken_out (y ∷ ys) m =
    elim (Memᴰ.cases_cons m) [
      | inl e ↦ (ys, refl, λ a m'. elim (Memᴰ.cases_cons m') [ inl e' ↦ inl (e' ∙ sym e) | inr k ↦ inr k ])
      | inr m₁ ↦
          let (zs, l, f) = taken_out ys m₁ in (
            y ∷ zs,
            ap suc l,
            λ a m'.
                elim (Memᴰ.cases_cons m') [
                  | inl e ↦ inr (Memᴰ.head e)
                  | inr k ↦ elim (f a k) [ inl e ↦ inl e | inr k' ↦ inr (Memᴰ.tail k') ]
                ],
          )
    ]

-- without x, ys still holds what follows x in a list without repetition that it held
without : {A : Type 0} (x : A) (xs ys : List A) → Distinct (x ∷ xs) → ((a : A) → Memᴰ a (x ∷ xs) → Memᴰ a ys)
    → (zs : List A) × (length ys ≡ suc (length zs)) × ((a : A) → Memᴰ a ys → (a ≡ x) ⊎ Memᴰ a zs) × ((a : A) → Memᴰ a xs → Memᴰ a zs)
unfolding Distinct
without x xs ys d h =
    let (zs, l, f) = taken_out ys (h x (Memᴰ.head refl)) in
    (zs, l, f, λ a m. elim (f a (h a (Memᴰ.tail m))) [ inl e ↦ absurd (d.0 (Memᴰ.cast (sym e) m)) | inr k ↦ k ])

-- a list without repetition is no longer than one that holds it
pub fewer : {A : Type 0} (xs ys : List A) → Distinct xs → ((a : A) → Memᴰ a xs → Memᴰ a ys) → length xs ≤ length ys
unfolding Distinct
fewer [] ys d h = zero-le
fewer (x ∷ xs) ys d h = let (zs, l, f, rest) = without x xs ys d h in omega (arith, fewer xs zs d.1 rest)

-- and where it is as long, it holds that one
pub fills : {A : Type 0} (xs ys : List A) → Distinct xs → ((a : A) → Memᴰ a xs → Memᴰ a ys) → length ys ≤ length xs
    → (a : A) → Memᴰ a ys → Memᴰ a xs
unfolding Distinct
fills [] [] d h long a m = m
fills [] (y ∷ ys) d h long a m = absurd (omega arith)
fills (x ∷ xs) ys d h long a m =
    let (zs, l, f, rest) = without x xs ys d h in
    elim (f a m) [ inl e ↦ Memᴰ.head e | inr k ↦ Memᴰ.tail (fills xs zs d.1 rest (omega arith) a k) ]

-- the number is one
pub counted_unique : {A : Type 0} {P : A → Type 0} {n m : ℕ} → Counted P n → Counted P m → n ≡ m
counted_unique c d =
    sym c.size
    ∙ le_antisymm (fewer c.those d.those c.distinct (λ a h. d.them_all a (c.no_others a h)))
    (fewer d.those c.those d.distinct (λ a h. c.them_all a (d.no_others a h)))
    ∙ d.size
