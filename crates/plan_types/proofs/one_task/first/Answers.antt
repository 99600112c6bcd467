use Rattle.std.proofs.Common.{ℕ, ◌∷◌, [], ◌++◌, List, sym, ap, ◌∙◌, add-one, arith}
use Rattle.std.specs.List.{range_with_len}
use Rattle.plan_types.proofs.Whole.{range_more}
use Rattle.plan_types.proofs.one_task.first.Goals as goal

pub loop-n-preserved : goal.loop-n-preserved
loop-n-preserved c =
    let n : ℕ = c.loop-n.n in
    c.in-Ok.ensures.ok ∙ ap (λ (list : List ℕ). list ++ n ∷ []) c.loop-n.invariant ∙ sym (range_more n 0 n (omega arith)) ∙ sym (ap (range_with_len 0) (add-one n))
