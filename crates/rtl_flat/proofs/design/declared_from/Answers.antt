use Rattle.std.proofs.Common.{map, ap, ◌∙◌, subst}
use Rattle.std.proofs.lemmas.Result.{IfOk-weaker}
use Rattle.rtl_lower.specs.Kinds.{environment_of}
use Rattle.rtl_flat.specs.Laid.{Begins, typed, held_typed}
use Rattle.rtl_flat.specs.Ports.{list_of}
use Rattle.rtl_flat.specs.PortVars.{ports_in}
use Rattle.rtl_flat.proofs.design.declared_from.Goals as goal

pub returns-clause-ports : goal.returns-clause-ports
returns-clause-ports c =
    let inside = c.args.walk.now.present.inside in
    let m = c.args.top.now in
    IfOk-weaker c.laid_down.result (λ v. Begins (map (held_typed 0) c.in_ok-ports.ports.items) (map typed v.vars))
    (λ v. Begins (ports_in (environment_of inside.names.now inside.table) (list_of m.ports)) (map typed v.vars))
    (λ v is. subst (λ l. Begins l (map typed v.vars)) (c.in_ok-ports.ensures ∙ ap (λ e. ports_in e (list_of m.ports)) c.view.ensures) is)
    c.laid_down.ensures.ports
