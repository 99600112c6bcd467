use Rattle.std.proofs.Common.{◌≡◌, ◌∙◌, ◌<◌, List, ℕ, get_or, ap, sym, subst}
use Rattle.std.proofs.lemmas.Result.{IfOk-weaker}
use Rattle.plan_graph.specs.declared.node.Edge.{Edge}
use Rattle.plan_graph.specs.Groupings.{image, group_from, group_edges}
use Rattle.thread_pack.proofs.GroupLemmas.{image_same}
use Rattle.thread_pack.proofs.task_graph.edges_of_groups.Goals as goal

pub returns : goal.returns
returns c =
    let g = c.args.graph.now in
    let groups = c.args.groups.now in
    let numbers = c.as_slice.result.now in
    IfOk-weaker c.edges_under.result (λ v. v.items ≡ image (λ k. get_or numbers k 0) c.as_slice-2.result.now) (λ v. v.items ≡ group_edges groups g.edges)
    (λ v e.
    e ∙ ap (image (λ k. get_or numbers k 0)) c.as_slice-2.ensures
    ∙ image_same (λ k. get_or numbers k 0) (group_from 0 groups) _ g.edges g.ends
    (λ n less. ap (λ (ns : List ℕ). get_or ns n 0) c.as_slice.ensures.value ∙ c.in_ok-numbers.ensures.numbers n (subst (λ k. n < k) (sym c.len.ensures) less)))
    c.edges_under.ensures
