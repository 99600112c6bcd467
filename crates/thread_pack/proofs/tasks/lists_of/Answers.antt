use Rattle.std.proofs.Common.{◌≡◌, ◌∙◌, ◌++◌, ◌∷◌, [], ℕ, List, map, ap, sym}
use Rattle.std.specs.List.{range_with_len}
use Rattle.plan_graph.specs.ListLaws.{range_from_0, map_push}
use Rattle.thread_pack.specs.Packing.{on_thread}
use Rattle.thread_pack.proofs.tasks.lists_of.Goals as goal

pub loop-thread-preserved : goal.loop-thread-preserved
loop-thread-preserved c =
    let k = c.loop-thread.thread in
    let puts = c.args.puts.now in
    c.in_ok-push.ensures.ok ∙ (λ j. c.loop-thread.invariant j ++ c.in_ok-list.ensures j ∷ [])
    ∙ sym (ap (map (on_thread puts)) (range_from_0 k) ∙ map_push (on_thread puts) (range_with_len 0 k) k)
