use Rattle.std.proofs.Common.{◌≡◌, ℕ, [], ◌∷◌, List, length, true, ap, subst, ◌∙◌}
use Rattle.std.specs.List.{list_all}
use Rattle.plan_graph.specs.Graphs.{ends_within}
use Rattle.plan_types.specs.OneTask.{groups_of, first_tasks, numbers_of}
use Rattle.plan_types.proofs.Whole.{parts_valid}
use Rattle.plan_types.proofs.plan.ValidPlan.one_task.Goals as goal

pub invariant_of-result : goal.invariant_of-result
invariant_of-result c =
    let many = c.requires.costs in
    let first : c.nodes.result ≡ length c.args.nodes = c.nodes.ensures ∙ many in
    let second : c.nodes-3.result ≡ length c.args.nodes = c.nodes-3.ensures ∙ many in
    let ends = subst (λ (n : ℕ). list_all (ends_within n) c.args.graph.edges ≡ true) many c.args.graph.ends in
    record {
      costs = many;
      valid = parts_valid (length c.args.nodes) c.args.graph.edges _ _ _ _ ends c.requires.rising
          (c.in_ok-groups.ensures ∙ ap groups_of first)
          (c.in_ok-placed.ensures.tasks ∙ ap first_tasks second)
          (c.in_ok-threads.ensures ∙ ap (λ (list : List ℕ). list ∷ []) (c.in_ok-placed.ensures.list ∙ ap numbers_of second))
          (c.in_ok-placed.ensures.order ∙ ap numbers_of second);
    }
