use Rattle.std.proofs.Common.{◌≡◌, ◌∙◌, ◌++◌, ◌∷◌, [], List, map, ap, sym}
use Rattle.std.specs.List.{range_with_len}
use Rattle.plan_graph.specs.declared.task.Task.{Task}
use Rattle.plan_graph.specs.ListLaws.{range_from_0, map_push}
use Rattle.thread_pack.specs.Packing.{task_in}
use Rattle.thread_pack.proofs.tasks.no_tasks.Goals as goal

pub loop-t-preserved : goal.loop-t-preserved
loop-t-preserved c =
    let t = c.loop-t.t in
    c.in_ok-push.ensures.items ∙ ap (λ (ts : List Task). ts ++ task_in [] t ∷ []) c.loop-t.invariant
    ∙ sym (ap (map (task_in [])) (range_from_0 t) ∙ map_push (task_in []) (range_with_len 0 t) t)
