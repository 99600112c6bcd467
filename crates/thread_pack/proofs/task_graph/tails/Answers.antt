use Rattle.std.proofs.Common.{◌≡◌, ◌∙◌, true, List, map, sym, subst}
use Rattle.std.specs.List.{list_all}
use Rattle.plan_graph.specs.declared.node.Edge.{Edge}
use Rattle.plan_graph.specs.Graphs.{ends_within, HasNoCycle, turned}
use Rattle.plan_graph.specs.PathLaws.{turned_acyclic}
use Rattle.thread_pack.proofs.GroupLemmas.{turned_ends}
use Rattle.thread_pack.proofs.task_graph.tails.Goals as goal

pub costliest_paths-requires-clause-ends : goal.costliest_paths-requires-clause-ends
costliest_paths-requires-clause-ends c =
    subst (λ (es : List Edge). list_all (ends_within c.args.tasks) es ≡ true) (sym (c.as_slice.ensures.value ∙ c.in_ok-back.ensures)) (turned_ends c.args.tasks c.args.edges.now c.requires.ends)

pub costliest_paths-requires-clause-no_cycle : goal.costliest_paths-requires-clause-no_cycle
costliest_paths-requires-clause-no_cycle c =
    subst (λ (es : List Edge). HasNoCycle es) (sym (c.as_slice.ensures.value ∙ c.in_ok-back.ensures)) (turned_acyclic c.args.edges.now c.requires.no_cycle)
