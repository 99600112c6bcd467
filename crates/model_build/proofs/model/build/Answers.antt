use Rattle.std.proofs.Common.{◌≡◌, ◌∙◌, ℕ, List, ap, length, sym, subst}
use Rattle.plan_graph.specs.declared.node.Part.TheVariants as part
use Rattle.order_levels.specs.Serial.{serial_nodes}
use Rattle.plan_types.specs.Coded.{AllWithin}
use Rattle.plan_types.specs.Settle.{clocked_of, is_in_order, order_of}
use Rattle.model_build.proofs.Planned.{plan_has_codes}
use Rattle.model_build.proofs.Uses.{deemed_told, ids_told, deemed_count, ids_count}
use Rattle.model_build.proofs.model.build.Goals as goal

pub returns-clause-deemed : goal.returns-clause-deemed
returns-clause-deemed g c =
    deemed_told (g.H.Host.id_of (g.H.Host.fixed c.args.host.now)) (g.H.Host.by_args (g.H.Host.fixed c.args.host.now)) c.args.mode
    c.args.design c.in_ok-uses.uses.items c.as_slice.result.now c.in_ok-parts.parts.deemed c.in_ok-parts.ensures.deemed c.as_slice.ensures.value c.in_ok-uses.ensures.uses

pub returns-clause-ids : goal.returns-clause-ids
returns-clause-ids g c =
    ids_told (g.H.Host.id_of (g.H.Host.fixed c.args.host.now)) (g.H.Host.by_args (g.H.Host.fixed c.args.host.now)) c.args.mode
    c.args.design c.in_ok-uses.uses.items c.as_slice.result.now c.in_ok-parts.parts.ids c.in_ok-parts.ensures.ids c.as_slice.ensures.value c.in_ok-uses.ensures.uses

pub invariant_of-result : goal.invariant_of-result
invariant_of-result g c =
    let each_deemed : length c.in_ok-parts.parts.deemed ≡ length c.args.design.imports =
    deemed_count (g.H.Host.id_of (g.H.Host.fixed c.args.host.now)) (g.H.Host.by_args (g.H.Host.fixed c.args.host.now)) c.args.mode c.args.design.imports c.in_ok-parts.parts.deemed
    (deemed_told (g.H.Host.id_of (g.H.Host.fixed c.args.host.now)) (g.H.Host.by_args (g.H.Host.fixed c.args.host.now)) c.args.mode
    c.args.design c.in_ok-uses.uses.items c.as_slice.result.now c.in_ok-parts.parts.deemed c.in_ok-parts.ensures.deemed c.as_slice.ensures.value c.in_ok-uses.ensures.uses) in
    let each_id : length c.in_ok-parts.parts.ids ≡ length c.args.design.imports =
    ids_count (g.H.Host.id_of (g.H.Host.fixed c.args.host.now)) (g.H.Host.by_args (g.H.Host.fixed c.args.host.now)) c.args.mode c.args.design.imports c.in_ok-parts.parts.ids
    (ids_told (g.H.Host.id_of (g.H.Host.fixed c.args.host.now)) (g.H.Host.by_args (g.H.Host.fixed c.args.host.now)) c.args.mode
    c.args.design c.in_ok-uses.uses.items c.as_slice.result.now c.in_ok-parts.parts.ids c.in_ok-parts.ensures.ids c.as_slice.ensures.value c.in_ok-uses.ensures.uses) in
    record {
      coded = c.in_ok-laid.ensures.count;
      within = subst (λ (many : ℕ). AllWithin (length c.in_ok-laid.laid.layout.words.items) many c.in_ok-laid.laid.codes) (sym each_id) c.in_ok-laid.ensures.within;
      deemed_each = each_deemed;
      ids_each = each_id;
      settle_codes = plan_has_codes c.args.design.procs c.in_ok-laid.laid.codes c.in_ok-laid.laid.order.items part.Settle c.in_ok-parts.parts.settle c.in_ok-laid.ensures.count c.in_ok-laid.ensures.order.within c.in_ok-parts.ensures.settle;
      clocked_codes = plan_has_codes c.args.design.procs c.in_ok-laid.laid.codes c.in_ok-laid.laid.order.items part.Clocked c.in_ok-parts.parts.clocked c.in_ok-laid.ensures.count c.in_ok-laid.ensures.order.within c.in_ok-parts.ensures.clocked;
      one_driver = c.in_ok-uses.ensures.accepted.drivers;
      free_inputs = c.in_ok-uses.ensures.inputs;
      is_cut = c.in_ok-laid.ensures.words;
      settled = ap is_in_order c.in_ok-laid.ensures.order.in_order;
      settle_serial = c.in_ok-parts.ensures.settle.nodes ∙ ap (λ (order : List ℕ). serial_nodes (clocked_of c.args.design.procs) order part.Settle) (sym (ap order_of c.in_ok-laid.ensures.order.in_order));
      clocked_serial = c.in_ok-parts.ensures.clocked.nodes ∙ ap (λ (order : List ℕ). serial_nodes (clocked_of c.args.design.procs) order part.Clocked) (sym (ap order_of c.in_ok-laid.ensures.order.in_order));
      settle_keeps = c.in_ok-parts.ensures.settle_keeps;
      clocked_keeps = c.in_ok-parts.ensures.clocked_keeps;
    }
