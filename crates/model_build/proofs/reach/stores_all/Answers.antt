use Rattle.std.proofs.Common.{◌≡◌, ℕ, Bool, suc, ◌+◌, ◌-◌, ◌*◌, sym, ap, ◌∙◌, arith}
use Rattle.model_build.specs.Reaching.{touch_by}
use Rattle.model_build.proofs.Keeping.{below_step}
use Rattle.model_build.proofs.reach.stores_all.Goals as goal

pub elements-preserved : goal.elements-preserved
elements-preserved c =
    let reach = c.args.reach.now in
    let passes : ℕ → Bool = (touch_by reach.words.now reach.line.now reach.called.now reach.read.now reach.written.now c.args.node).stores in
    let more = c.elements-test.true in
    let one : c.elements.left ≡ suc (c.elements.left - 1) = omega (arith, more) in
    c.elements.invariant
    ∙ below_step (λ k. passes (c.args.elements.now.base + k * c.args.elements.now.stride)) c.elements.left (c.elements.left - 1) one (ap passes (sym c.element.ensures) ∙ sym c.stores.ensures ∙ c.if-not-stores.false)
