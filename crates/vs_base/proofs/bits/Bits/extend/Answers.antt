use Rattle.std.proofs.Common.{◌≡◌, ◌≤◌, ◌*◌, ◌-◌, ◌+◌, ◌^◌, ◌%◌, true, sym, ap, ◌∙◌, arith}
use Rattle.std.proofs.lemmas.Nat.{one_shl}
use Rattle.vs_base.specs.Number.{Number, kept, extended}
use Rattle.vs_base.proofs.NumberLemmas.{word_extended-negative}
use Rattle.vs_base.proofs.bits.Bits.extend.Goals as goal

pub returns-then-self : goal.returns-then-self
returns-then-self c =
    let n : Number = record { width = c.self.inside.width; value = c.self.inside.value } in
    let half : (1 * 2 ^ (n.width - 1)) % 2 ^ 128 ≡ 2 ^ (n.width - 1) = one_shl (n.width - 1) 128 (omega arith) in
    let top : 2 ^ (n.width - 1) ≤ n.value = omega arith in
    let sum : n.value + (2 ^ 128 - 1 - c.mask.result) ≡ n.value + (2 ^ 128 - 2 ^ n.width) = omega arith in
    c.new.ensures ∙ ap (kept c.args.width) sum
    ∙ word_extended-negative n c.args.width c.requires.most c.self.invariant.most c.self.invariant.fits top
    ∙ ap (λ (m : Number). extended m c.args.width true) c.self.view_is ∙ ap (λ b. extended c.args.self c.args.width b) (sym c.if-signed.true)
