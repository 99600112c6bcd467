use Rattle.std.proofs.Common.{◌≡◌, ◌+◌, ◌*◌}
use Rattle.plan_types.specs.Touches.{all_below}
use Rattle.model_build.specs.Reaching.{touch_by}
use Rattle.model_build.proofs.reach.loads_each.Given as goal

abbrev pub invariant-elements : goal.invariant-elements
invariant-elements l =
    all_below (λ k. (touch_by l.reach.words.now l.reach.line.now l.reach.called.now l.reach.read.now l.reach.written.now l.node).loads (l.elements.base + k * l.elements.stride)) l.elements.count
    ≡ all_below (λ k. (touch_by l.reach.words.now l.reach.line.now l.reach.called.now l.reach.read.now l.reach.written.now l.node).loads (l.elements.base + k * l.elements.stride)) l.left

abbrev pub decreases-elements : goal.decreases-elements
decreases-elements l = l.left
