-- `light::turn` meets its contract: the three exchanges, one after another.
use mathlib.Core.Path.{◌≡◌, ap, ◌∙◌}
use Prim.Native.Nat.{ℕ}
use Rattle.light.specs.Bits.{exchanged, turned}
use Rattle.light.proofs.turn.Goals as goal

pub returns : goal.returns
unfolding turned
returns c =
    let x = c.args.x in
    let ones : c.exchange-ones.result ≡ exchanged x 47_851_476_196_393_130 7 = c.exchange-ones.ensures in
    let pairs : c.exchange-pairs.result ≡ exchanged c.exchange-ones.result 225_176_545_447_116 14 = c.exchange-pairs.ensures in
    let fours : c.exchange.result ≡ exchanged c.exchange-pairs.result 4_042_322_160 28 = c.exchange.ensures in
    fours ∙ ap (λ (y : ℕ). exchanged y 4_042_322_160 28) (pairs ∙ ap (λ (y : ℕ). exchanged y 225_176_545_447_116 14) ones)
