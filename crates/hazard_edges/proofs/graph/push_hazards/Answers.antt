use Rattle.std.proofs.Common.{◌≡◌, ◌<◌, ◌≤◌, ◌+◌, ◌++◌, ◌∷◌, [], ◌∙◌, ◌&&◌, ◌||◌, suc, not, cond, Bool, List, length, append_assoc, ap, sym, refl, arith}
use Rattle.plan_graph.specs.declared.node.Edge.{Edge}
use Rattle.logic_graph.specs.Reading.{edge_to}
use Rattle.hazard_edges.specs.Hazards.{call, is_hazard, nodes_share}
use Rattle.hazard_edges.proofs.HazardLemmas.{edges_up_to, is_next, edges_more, next_more, tested}
use Rattle.hazard_edges.proofs.graph.push_hazards.Goals as goal

pub loop-j-preserved : goal.loop-j-preserved
loop-j-preserved c =
    let touched = c.args.touched.now in
    let calls = c.args.calls.now in
    let i = c.args.i in
    let j = c.loop-j.j in
    let low : suc i ≤ j = omega arith in
    let next = c.loop-j.invariant.next in
    let chained : c.is_chained-chained.result ≡ (is_next touched calls i j && call calls j) = c.is_chained-chained.ensures ∙ ap (λ (b : Bool). b && call calls j) next in
    let hazard : c.either-hazard.result ≡ is_hazard touched calls i j =
    c.either-hazard.ensures ∙ (λ k. chained k || c.share_at-shared.ensures k) ∙ tested touched calls i j (nodes_share touched i j) refl in
    record {
      so_far =
          c.in_ok-push_if.ensures
          ∙ (λ k. c.loop-j.invariant.so_far k ++ cond (hazard k) (edge_to i j ∷ []) [])
          ∙ append_assoc c.args.edges.now (edges_up_to touched calls i j) (cond (is_hazard touched calls i j) (edge_to i j ∷ []) [])
          ∙ ap (λ (es : List Edge). c.args.edges.now ++ es) (sym (edges_more touched calls i j (is_hazard touched calls i j) low refl));
      next = c.is_still_next-next.ensures ∙ ap (λ (b : Bool). b && not (call calls j)) next ∙ sym (next_more touched calls i j low);
    }
