-- Numbers in bytes: how many there are and what stands at a place, also in a part of the bytes; what reading a section finds; and how
-- long what is written is.
-- Assumes nothing.
use Prim.Native.Nat.{ℕ, ◌+◌, ◌-◌, ◌*◌, ◌/◌, ◌≤◌, ◌<◌}
use mathlib.Core.Path.{◌≡◌, refl, ap, sym, ◌∙◌}
use mathlib.Core.List.{List, [], ◌∷◌, ◌++◌, append_assoc, append-nil}
use mathlib.Core.Bool.{Bool, true, false}
use native.Mathlib.Numerals.{add-one}
use native.Mathlib.Decide.{dec_lt}
use native.Mathlib.Omega.{arith}
use borrow.Author.Tests.{lt-ltb, le-ltb}
use lib.ListN.{length, take, drop, length-append, length-drop}
use lib.Seq.{get_or-take, get_or-drop, length-take-le, take-suc}
use Rattle.std.specs.Prelude.{Ok, Err}
use Rattle.meaning.specs.Lists.{at, if}
use Rattle.meaning.specs.Bytes.{Needed, Section, number_at, numbers_in, between, is_needed, whole_section}
use Rattle.meaning.specs.Bytes.{read_section, with_section, bytes_of, bytes_of_all, section_bytes}
use Rattle.meaning.proofs.UpTo.{made_length, made_at}

-- ---- reading

pub numbers_long : (b : List ℕ) → length (numbers_in b) ≡ length b / 4
unfolding numbers_in
numbers_long b = made_length (λ (i : ℕ). number_at b (4 * i)) (length b / 4)

pub numbers_at : (b : List ℕ) (i : ℕ) → i < length (numbers_in b) → at (numbers_in b) i ≡ number_at b (4 * i)
unfolding numbers_in
numbers_at b i h =
    made_at (λ (k : ℕ). number_at b (4 * k)) (length b / 4) i
    (omega (arith, made_length (λ (k : ℕ). number_at b (4 * k)) (length b / 4)))

-- ---- a part of the bytes

pub between_long : (b : List ℕ) (a e : ℕ) → e ≤ length b → length (between b a e) ≡ e - a
unfolding between
between_long b a e h = length-take-le (e - a) (drop a b) (omega (arith, length-drop a b))

pub between_at : (b : List ℕ) (a e i : ℕ) → i < e - a → at (between b a e) i ≡ at b (a + i)
unfolding between
between_at b a e i h = get_or-take (e - a) (drop a b) i 0 h ∙ get_or-drop a b i 0

-- a number in a part is the number at that place of the whole
pub between_number : (b : List ℕ) (a e p : ℕ) → p + 4 ≤ e - a → number_at (between b a e) p ≡ number_at b (a + p)
unfolding number_at
between_number b a e p h = rw (byte 1 (omega arith), byte 2 (omega arith), byte 3 (omega arith), between_at b a e p (omega arith))
  where
    byte : (k : ℕ) → k < 4 → at (between b a e) (p + k) ≡ at b (a + p + k)
    byte k small = between_at b a e (p + k) (omega arith) ∙ ap (λ (i : ℕ). at b i) (omega arith)

-- ---- sections

module _ (needed : Needed) (b : List ℕ) (p : ℕ) where
  -- the count runs past the end
  pub section_cut : length b < p + 4 → read_section needed b p ≡ Err p
  unfolding read_section if
  section_cut h = simp (lt-ltb (length b) (p + 4) h)

  module _ (there : p + 4 ≤ length b) where
    -- the count isn't the needed one
    pub section_unneeded : is_needed needed (number_at b p) ≡ false → read_section needed b p ≡ Err p
    unfolding read_section if
    section_unneeded h = simp (le-ltb (length b) (p + 4) there, h)

    module _ (right : is_needed needed (number_at b p) ≡ true) where
      -- the numbers run past the end
      pub section_short : length b < p + 4 + 4 * number_at b p → read_section needed b p ≡ Err (p + 4)
      unfolding read_section if
      section_short h =
          simp (le-ltb (length b) (p + 4) there, right, lt-ltb (length b) (p + 4 + 4 * number_at b p) h) refl

      -- all is there
      pub section_whole : p + 4 + 4 * number_at b p ≤ length b → read_section needed b p ≡ whole_section b p
      unfolding read_section if
      section_whole h =
          simp (le-ltb (length b) (p + 4) there, right, le-ltb (length b) (p + 4 + 4 * number_at b p) h)

-- a section that was found: where it stands, that it is within the bytes, and that its count is a needed one
pub record SectionFound (needed : Needed) (b : List ℕ) (p start count next : ℕ) : Type 0 where
  pub starts : start ≡ p + 4
  pub found : count ≡ number_at b p
  pub ends : next ≡ start + 4 * count
  pub inside : next ≤ length b
  pub right : is_needed needed count ≡ true

-- the numbers of a section that was found
abbrev parts_of : Section → ℕ × ℕ × ℕ
parts_of (Ok parts) = parts
parts_of (Err place) = (0, 0, 0)

not_both : {s : Section} {q start count next : ℕ} → s ≡ Err q → s ≡ Ok (start, count, next) → ⊥
not_both broken found = let z : ◌≡◌ {A = ℕ} 0 1 = cc in omega arith

-- reading found a section, so all that is true of it
pub section_found : (needed : Needed) (b : List ℕ) (p start count next : ℕ)
    → read_section needed b p ≡ Ok (start, count, next) → SectionFound needed b p start count next
unfolding whole_section
section_found needed b p start count next found =
    elim (dec_lt (length b) (p + 4)) [
      | yes cut ↦ absurd (not_both (section_cut needed b p cut) found)
      | no there ↦ judged (is_needed needed (number_at b p)) refl (omega arith)
    ]
  where
    judged : (t : Bool) → is_needed needed (number_at b p) ≡ t → p + 4 ≤ length b → SectionFound needed b p start count next
    judged false wrong there = absurd (not_both (section_unneeded needed b p there wrong) found)
    judged true right there =
        elim (dec_lt (length b) (p + 4 + 4 * number_at b p)) [
          | yes short ↦ absurd (not_both (section_short needed b p there right short) found)
          | no all ↦
              let same = section_whole needed b p there right (omega arith) in
              let parts : (start, count, next) ≡ (p + 4, number_at b p, p + 4 + 4 * number_at b p) = ap parts_of (sym found ∙ same) in
              let s : start ≡ p + 4 = ap (λ t. t.0) parts in
              let n : count ≡ number_at b p = ap (λ t. t.1) parts in
              let e : next ≡ p + 4 + 4 * number_at b p = ap (λ t. t.2) parts in
              record { starts = s; found = n; ends = omega arith; inside = omega arith; right = rw n right }
        ]

-- the part of a section has as many numbers as its count says
pub section_numbers : (b : List ℕ) (start count next : ℕ) → next ≡ start + 4 * count → next ≤ length b
    → length (numbers_in (between b start next)) ≡ count
section_numbers b start count next e h =
    numbers_long (between b start next) ∙ omega (arith, between_long b start next h)

-- reading goes on after one that is whole
pub goes_on : {A : Type 0} (b : List ℕ) (found : Section) (stop : ℕ → A) (on : List ℕ → ℕ → A) (start count next : ℕ) → found ≡ Ok (start, count, next)
    → with_section b found stop on ≡ on (numbers_in (between b start next)) next
unfolding with_section
goes_on b found stop on start count next e = ap (λ (s : Section). with_section b s stop on) e

-- and stops at one that broke
pub stops : {A : Type 0} (b : List ℕ) (found : Section) (stop : ℕ → A) (on : List ℕ → ℕ → A) (place : ℕ) → found ≡ Err place
    → with_section b found stop on ≡ stop place
unfolding with_section
stops b found stop on place e = ap (λ (s : Section). with_section b s stop on) e

-- ---- writing

pub number_long : (n : ℕ) → length (bytes_of n) ≡ 4
unfolding bytes_of
number_long n = refl

pub all_long : (ns : List ℕ) → length (bytes_of_all ns) ≡ 4 * length ns
unfolding bytes_of_all
all_long [] = refl
all_long (n ∷ ns) = length-append (bytes_of n) (bytes_of_all ns) ∙ omega (arith, number_long n, all_long ns)

pub section_long : (ns : List ℕ) → length (section_bytes ns) ≡ 4 + 4 * length ns
unfolding section_bytes
section_long ns =
    length-append (bytes_of (length ns)) (bytes_of_all ns) ∙ omega (arith, number_long (length ns), all_long ns)

pub all_append : (ms ns : List ℕ) → bytes_of_all (ms ++ ns) ≡ bytes_of_all ms ++ bytes_of_all ns
unfolding bytes_of_all
all_append [] ns = refl
all_append (m ∷ ms) ns = rw (all_append ms ns, append_assoc)

-- one number more
pub all_next : (ns : List ℕ) (i : ℕ) → i < length ns → bytes_of_all (take (i + 1) ns) ≡ bytes_of_all (take i ns) ++ bytes_of (at ns i)
unfolding bytes_of_all
all_next ns i h = rw (add-one, take-suc ns i 0, all_append, append-nil)
