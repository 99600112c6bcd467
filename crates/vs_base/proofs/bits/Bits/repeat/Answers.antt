use Rattle.std.proofs.Common.{ℕ, suc, ◌≡◌, ◌≤◌, ◌+◌, ◌*◌, sym, ap, ◌∙◌, arith}
use Rattle.std.proofs.Math.Nat.{mul-le-mul_right}
use Rattle.vs_base.specs.Number.{Number}
use Rattle.vs_base.specs.Operators.{joined, repeated}
use Rattle.vs_base.specs.OperatorLaws.{repeated-width, repeated_next}
use Rattle.vs_base.proofs.OperatorLemmas.{repeated_once}
use Rattle.vs_base.proofs.bits.Bits.repeat.Goals as goal

pub loop-init : goal.loop-init
loop-init c = repeated_once c.args.self

pub join-made-requires : goal.join-made-requires
join-made-requires c =
    let wide : c.loop.made.width ≡ c.loop.counter * c.args.self.width = ap (λ (n : Number). n.width) c.loop.invariant ∙ repeated-width c.loop.counter c.args.self in
    let test = c.loop-test.true in
    let next : (c.loop.counter + 1) * c.args.self.width ≤ c.args.times * c.args.self.width = mul-le-mul_right c.args.self.width (omega arith) in
    let most : c.args.times * c.args.self.width ≤ 128 = c.requires.most in
    record { most = omega arith }

pub loop-preserved : goal.loop-preserved
loop-preserved c =
    let next : suc c.loop.counter ≡ c.loop.counter + 1 = omega arith in
    c.join-made.ensures ∙ ap (λ (n : Number). joined n c.args.self) c.loop.invariant
    ∙ sym (repeated_next c.loop.counter c.args.self) ∙ ap (λ (k : ℕ). repeated k c.args.self) next

pub returns : goal.returns
returns c =
    let some : 1 ≤ c.args.times = c.requires.some in
    let upto : c.loop.counter ≤ c.args.times = c.loop.auto.counter-end some in
    let test = c.loop-test.false in
    let done : c.loop.counter ≡ c.args.times = omega arith in
    c.loop.invariant ∙ ap (λ (k : ℕ). repeated k c.args.self) done
