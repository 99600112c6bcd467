use Rattle.std.proofs.Common.{◌≡◌, ◌<◌, ◌+◌, ◌==◌, ◌∙◌, length, get_or, arith}
use Rattle.std.proofs.lemmas.List.{get_or_default, length-set}
use Rattle.plan_graph.specs.declared.node.Edge.{Edge}
use Rattle.order_levels.proofs.EdgeLemmas.{to_at, counts_more, count_taken}
use Rattle.order_levels.proofs.lists.source_counts.Goals as goal

pub overflow_add-index_mut : goal.overflow_add-index_mut
overflow_add-index_mut c =
    let edges = c.args.edges.now in
    let counts = c.loop-e.counts.items in
    let d : Edge = record { from = 0; to = 0 } in
    let e : Edge = get_or edges c.loop-e.e-index d in
    let place = to_at c.args.nodes edges c.loop-e.e-index e c.requires c.loop-e-test.true (get_or_default edges c.loop-e.e-index d e c.loop-e-test.true) in
    let inside : e.to < length counts = omega (arith, c.loop-e.invariant.0) in
    let old : c.index_mut.result.now ≡ get_or counts e.to 0 = c.index_mut.ensures.value ∙ get_or_default counts e.to c.index_mut.result.now 0 inside in
    let so_far = c.loop-e.invariant.1 e.to place in
    let few = count_taken (λ (x : Edge). x.to == e.to) edges c.loop-e.e-index c.loop-e-test.true in
    omega arith

pub loop-e-preserved : goal.loop-e-preserved
loop-e-preserved c =
    let edges = c.args.edges.now in
    let counts = c.loop-e.counts.items in
    let d : Edge = record { from = 0; to = 0 } in
    let e : Edge = get_or edges c.loop-e.e-index d in
    let place = to_at c.args.nodes edges c.loop-e.e-index e c.requires c.loop-e-test.true (get_or_default edges c.loop-e.e-index d e c.loop-e-test.true) in
    let inside : e.to < length counts = omega (arith, c.loop-e.invariant.0) in
    let old : c.index_mut.result.now ≡ get_or counts e.to 0 = c.index_mut.ensures.value ∙ get_or_default counts e.to c.index_mut.result.now 0 inside in (
      length-set counts e.to (c.index_mut.result.now + 1) ∙ c.loop-e.invariant.0,
      λ n less. counts_more counts edges c.loop-e.e-index c.index_mut.result.now n d c.loop-e-test.true inside old (c.loop-e.invariant.1 n less),
    )
