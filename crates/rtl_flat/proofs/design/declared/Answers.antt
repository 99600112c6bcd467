use Rattle.std.proofs.Common.{map, ap, ◌∙◌, subst}
use Rattle.std.proofs.lemmas.Result.{IfOk-weaker}
use Rattle.rtl_lower.specs.Kinds.{environment_of}
use Rattle.rtl_flat.specs.Laid.{Begins, typed}
use Rattle.rtl_flat.specs.Ports.{list_of}
use Rattle.rtl_flat.specs.PortVars.{ports_in, ArePortVars}
use Rattle.rtl_flat.proofs.Tops.{of_top}
use Rattle.rtl_flat.proofs.design.declared.Goals as goal

pub returns-clause-port_vars : goal.returns-clause-port_vars
returns-clause-port_vars c =
    let m = c.in_ok-top.top.now in
    let inside = c.enter_top.new.self.present.inside in
    IfOk-weaker c.declared_from.result (λ v. Begins (ports_in (environment_of inside.names.now inside.table) (list_of m.ports)) (map typed v.vars))
    (λ v. ArePortVars c.args.names.now c.args.tree.now.descriptions c.args.scopes.now v.vars)
    (λ v is.
    of_top c.args.names.now _ _ _ _ m _ inside.table v.vars (ap (λ t. t.descriptions) c.in_ok-walk.ensures.tree) c.in_ok-walk.ensures.scopes
    c.in_ok-top.ensures.module c.in_ok-walk.ensures.table c.in_ok-top.ensures.table
    (subst (λ n. Begins (ports_in (environment_of n inside.table) (list_of m.ports)) (map typed v.vars)) (c.enter_top.ensures.names ∙ c.in_ok-walk.ensures.names) is))
    c.declared_from.ensures.ports
