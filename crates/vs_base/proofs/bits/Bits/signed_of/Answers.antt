use Rattle.std.proofs.Common.{◌≡◌, ◌≤◌, ◌*◌, ◌-◌, ◌^◌, ◌%◌, ap, sym, ◌∙◌, arith, pos, to_z}
use Rattle.std.specs.Int.{w128}
use Rattle.std.proofs.lemmas.Int.{ints}
use Rattle.std.proofs.lemmas.Nat.{one_shl}
use Rattle.vs_base.specs.Number.{Number, signed_reading}
use Rattle.vs_base.specs.NumberLaws.{signed_reading-positive}
use Rattle.vs_base.proofs.NumberLemmas.{low_power}
use Rattle.vs_base.proofs.bits.Bits.signed_of.Goals as goal

pub overflow_cast-result : goal.overflow_cast-result
overflow_cast-result c =
    let w = c.self.inside.width in
    let half : (1 * 2 ^ (w - 1)) % 2 ^ 128 ≡ 2 ^ (w - 1) = one_shl (w - 1) 128 (omega arith) in
    let low : 2 ^ (w - 1) ≤ 2 ^ 127 = low_power (w - 1) 127 (omega arith) in
    omega (arith, ints)

pub returns-then-value-width : goal.returns-then-value-width
returns-then-value-width c =
    let w = c.self.inside.width in
    let n : Number = record { width = w; value = c.self.inside.value } in
    let half : (1 * 2 ^ (w - 1)) % 2 ^ 128 ≡ 2 ^ (w - 1) = one_shl (w - 1) 128 (omega arith) in
    let low : 2 ^ (w - 1) ≤ 2 ^ 127 = low_power (w - 1) 127 (omega arith) in
    let same : to_z w128 c.self.inside.value ≡ pos c.self.inside.value = omega (arith, ints) in
    same ∙ sym (signed_reading-positive n (omega arith)) ∙ ap signed_reading c.self.view_is
