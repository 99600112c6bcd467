use Rattle.std.proofs.Common.{◌≡◌, ◌<◌, ◌≤◌, ◌+◌, ◌++◌, ◌∙◌, List, length, ap, sym, arith}
use Rattle.std.specs.List.{list_all, range_with_len}
use Rattle.plan_graph.specs.declared.node.Edge.{Edge}
use Rattle.plan_graph.specs.Graphs.{ends_within}
use Rattle.hazard_edges.specs.Hazards.{hazards, hazards_of_all, hazards_from}
use Rattle.hazard_edges.proofs.HazardLaws.{hazards_within}
use Rattle.hazard_edges.proofs.HazardLemmas.{one_node_more, no_fewer}
use Rattle.vs_base.specs.declared.limits.TheConstants.{EDGES}
use Rattle.hazard_edges.proofs.graph.hazard_list.Goals as goal

pub returns-then-len-gt-EDGES-clause-edges : goal.returns-then-len-gt-EDGES-clause-edges
returns-then-len-gt-EDGES-clause-edges c =
    let touched = c.args.touched.now in
    let calls = c.args.calls.now in
    let i = c.loop-i.i in
    let so_far : c.push_hazards.new.edges ≡ hazards_of_all touched calls (range_with_len 0 (i + 1)) =
    c.in_ok-push_hazards.ensures ∙ ap (λ (es : List Edge). es ++ hazards_from touched calls i) c.loop-i.invariant.so_far ∙ sym (one_node_more touched calls i) in
    let len = ap length so_far in
    let few = no_fewer touched calls (i + 1) (omega arith) in
    let many = c.if-len-gt-EDGES.true in
    let is = c.len.ensures in
    omega arith

pub returns-then-len-gt-EDGES-clause-within : goal.returns-then-len-gt-EDGES-clause-within
returns-then-len-gt-EDGES-clause-within c = returns-then-len-gt-EDGES-clause-edges c

pub returns-then-len-gt-EDGES-clause-ends : goal.returns-then-len-gt-EDGES-clause-ends
returns-then-len-gt-EDGES-clause-ends c = returns-then-len-gt-EDGES-clause-edges c

pub loop-i-preserved : goal.loop-i-preserved
loop-i-preserved c =
    let touched = c.args.touched.now in
    let calls = c.args.calls.now in
    let i = c.loop-i.i in
    let few = c.if-len-gt-EDGES.false in
    let is = c.len.ensures in
    record {
      so_far = c.in_ok-push_hazards.ensures ∙ ap (λ (es : List Edge). es ++ hazards_from touched calls i) c.loop-i.invariant.so_far ∙ sym (one_node_more touched calls i);
      within = omega arith;
    }

pub returns-clause-ends : goal.returns-clause-ends
returns-clause-ends c =
    let touched = c.args.touched.now in
    let calls = c.args.calls.now in
    let end : c.loop-i.i ≡ length touched = let past = c.loop-i-test.false in omega arith in
    ap (list_all (ends_within (length touched))) (c.loop-i.invariant.so_far ∙ ap (λ n. hazards_of_all touched calls (range_with_len 0 n)) end) ∙ hazards_within touched calls
