-- `plan::read_input` meets its contract: what a read gives stands after what was there.
use Rattle.std.proofs.Common.{◌≡◌, ℕ, ◌+◌, ◌-◌, ◌≤◌, List, ◌++◌, arith, rules, length, take, drop, ap, sym, ◌∙◌, subst, le_refl, drop_at, length-take-le}
use Rattle.std.proofs.lemmas.Slice.{take-put_mid_below}
use Rattle.std.specs.Io.KnownBytes.{Consumes}
use Rattle.std.proofs.KnownBytes.{Consumes-trans}
use borrow.Rule.Slice.PartMut.{put_mid, post_of}
use lib.Seq.{take-add, take-append-le}
use Rattle.plan.proofs.read_input.Goals as goal

-- the first a places, and n more of what was put at place a
grown : (a k n : ℕ) (xs ys : List ℕ) → a ≤ length xs → n ≤ length ys → take a xs ++ take n ys ≡ take (a + n) (put_mid a k xs ys)
grown a k n xs ys within fits =
    let whole = put_mid a k xs ys in
    let after = post_of a k xs in
    let front : take a whole ≡ take a xs = take-put_mid_below a k xs ys a (le_refl a) within in
    let part : take n (drop a whole) ≡ take n ys =
    ap (take n) (drop_at (take a xs) (ys ++ after) a (length-take-le a xs within)) ∙ take-append-le n ys after fits in
    sym (take-add a n whole ∙ ap (λ l. l ++ take n (drop a whole)) front ∙ ap (λ l. take a xs ++ l) part)

pub loop-filled-preserved : goal.loop-filled-preserved
loop-filled-preserved g c = record {
  same = search rules;
  within = search rules;
  given =
      subst (Consumes _ _)
      (grown c.loop-filled.filled (length c.loop-filled.input - c.loop-filled.filled) c.in_ok-count.count c.loop-filled.input c.read.new.buf
      (omega arith) c.in_ok-count.ensures.bound.0)
      (Consumes-trans _ _ _ _ _ c.loop-filled.invariant.given c.in_ok-count.ensures.bytes.0);
}
