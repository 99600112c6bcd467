use Rattle.std.proofs.Common.{◌≡◌, ◌∙◌, true, false, not, sym, ap, length, get_or}
use Rattle.std.proofs.lemmas.List.{get_or_default}
use Rattle.order_levels.proofs.FirstLemmas.{first_some}
use Rattle.order_levels.proofs.stall.first_unmarked.Goals as goal

pub returns-then-not-marks-i : goal.returns-then-not-marks-i
returns-then-not-marks-i c =
    let marks = c.args.marks.now in
    let here : get_or marks c.loop-i.i true ≡ false = get_or_default marks c.loop-i.i true false c.loop-i-test.true ∙ c.if-not-marks-i.true in
    sym (first_some (λ m. not (get_or marks m true)) (length marks) c.loop-i.i c.loop-i-test.true (ap not here) (λ m less. ap not (c.loop-i.invariant m less)))
