-- Parts of a slice that are lent and come back: what they held, and where their cells stand then.
-- Assumes nothing.
use mathlib.Core.Path.{◌≡◌, ap, ◌∙◌}
use Prim.Native.Nat.{ℕ, ◌+◌, ◌-◌, ◌≤◌, ◌<◌}
use native.Mathlib.Omega.{arith}
use mathlib.Core.List.{List, ◌++◌}
use lib.ListN.{length, take, drop, length-append, length-take, length-drop, get_or-append}
use lib.Seq.{get_or-take, get_or-drop, get_or-append-add, length-take-le, take_at}
use Rattle.meaning.specs.Lists.{at}

-- ---- the first n places, written with `new`

module _ (new old : List ℕ) (n : ℕ) (long : length new ≡ n) where
  pub front_part : take n (new ++ drop n old) ≡ new
  front_part = take_at new (drop n old) n long

  pub front_room : n ≤ length (new ++ drop n old)
  front_room = omega (arith, length-append new (drop n old))

  pub front_long : n ≤ length old → length (new ++ drop n old) ≡ length old
  front_long room = simp (length-append, length-drop) (omega arith)

  -- one of them
  pub front_at : (k : ℕ) → k < n → at (new ++ drop n old) k ≡ at new k
  front_at k h = get_or-append new (drop n old) 0 k (omega arith)

  -- the last of them
  pub front_last : (b : ℕ) → n ≡ b + 1 → at (new ++ drop n old) (n - 1) ≡ at new b
  front_last b e = ap (at (new ++ drop n old)) (omega arith) ∙ front_at b (omega arith)

-- ---- places from the middle on

-- the `len` places of a slice from a place on
abbrev pub part_of : List ℕ → ℕ → ℕ → List ℕ
part_of whole from len = take (from + len - from) (drop from whole)

module _ (whole : List ℕ) (from len : ℕ) (fits : from + len ≤ length whole) where
  pub part_long : length (part_of whole from len) ≡ len
  part_long = simp (length-take, length-drop) (omega arith)

  pub part_at : (c : ℕ) → c < len → at (part_of whole from len) c ≡ at whole (from + c)
  part_at c h = get_or-take (from + len - from) (drop from whole) c 0 (omega arith) ∙ get_or-drop from whole c 0

  module _ (new : List ℕ) where
    -- what stands after the part
    abbrev rest : List ℕ
    rest = drop (from + len - from) (drop from whole)

    pub put_at : (c : ℕ) → c < length new → at (take from whole ++ (new ++ rest)) (from + c) ≡ at new c
    put_at c h =
        let front : length (take from whole) ≡ from = length-take-le from whole (omega arith) in
        ap (λ (n : ℕ). at (take from whole ++ (new ++ rest)) n) (omega arith)
        ∙ get_or-append-add (take from whole) (new ++ rest) c 0
        ∙ get_or-append new rest 0 c h

    pub put_before : (k : ℕ) → k < from → at (take from whole ++ (new ++ rest)) k ≡ at whole k
    put_before k h =
        let front : length (take from whole) ≡ from = length-take-le from whole (omega arith) in
        get_or-append (take from whole) (new ++ rest) 0 k (omega arith) ∙ get_or-take from whole k 0 h

    pub put_past : length new ≡ len → (k : ℕ) → from + len ≤ k → at (take from whole ++ (new ++ rest)) k ≡ at whole k
    put_past long k h =
        let front : length (take from whole) ≡ from = length-take-le from whole (omega arith) in
        let past : k ≡ length (take from whole) + (length new + (k - from - len)) = omega arith in
        let back : from + (from + len - from + (k - from - len)) ≡ k = omega arith in
        ap (λ (n : ℕ). at (take from whole ++ (new ++ rest)) n) past
        ∙ get_or-append-add (take from whole) (new ++ rest) (length new + (k - from - len)) 0
        ∙ get_or-append-add new rest (k - from - len) 0
        ∙ get_or-drop (from + len - from) (drop from whole) (k - from - len) 0
        ∙ get_or-drop from whole (from + len - from + (k - from - len)) 0
        ∙ ap (at whole) back

-- ---- places from the middle to the end

-- those from a place on
abbrev pub end_of : List ℕ → ℕ → List ℕ
end_of whole from = take (length whole - from) (drop from whole)

module _ (whole : List ℕ) (from len : ℕ) (all : from + len ≡ length whole) where
  pub end_long : length (end_of whole from) ≡ len
  end_long = simp (length-take, length-drop) (omega arith)

  pub end_at : (c : ℕ) → c < len → at (end_of whole from) c ≡ at whole (from + c)
  end_at c h = get_or-take (length whole - from) (drop from whole) c 0 (omega arith) ∙ get_or-drop from whole c 0
