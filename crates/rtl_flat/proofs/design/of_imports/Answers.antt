use Rattle.std.proofs.Common.{◌≡◌, true, map, sym, ap, subst, ◌∙◌}
use Rattle.std.specs.List.{list_all}
use Rattle.std.proofs.lemmas.Result.{IfOk-weaker}
use Rattle.rtl_flat.specs.Imports.{told, told_of}
use Rattle.rtl_flat.specs.Edges.{has_bit_events}
use Rattle.rtl_flat.specs.Laid.{ScopeByScope, var_scope, mem_scope}
use Rattle.rtl_flat.specs.PortVars.{ArePortVars}
use Rattle.rtl_flat.proofs.Outcomes.{both_hold}
use Rattle.rtl_flat.proofs.design.of_imports.Goals as goal

pub returns-clause-imports : goal.returns-clause-imports
returns-clause-imports c =
    IfOk-weaker c.whole.result (λ d. d.imports ≡ c.in_ok-imports.imports) (λ d. map told d.imports ≡ map (λ x. told_of c.args.names.now x.now) c.args.texts.now)
    (λ d is. ap (map told) is ∙ c.in_ok-imports.ensures) c.whole.ensures.imports

pub returns-clause-vars_order : goal.returns-clause-vars_order
returns-clause-vars_order c =
    IfOk-weaker c.whole.result (λ d. d.vars ≡ c.in_ok-parts.parts.variables.vars) (λ d. ScopeByScope var_scope d.vars)
    (λ d is. subst (λ l. ScopeByScope var_scope l) (sym is) c.in_ok-parts.ensures.vars_order) c.whole.ensures.vars

pub returns-clause-mems_order : goal.returns-clause-mems_order
returns-clause-mems_order c =
    IfOk-weaker c.whole.result (λ d. d.mems ≡ c.in_ok-parts.parts.variables.mems) (λ d. ScopeByScope mem_scope d.mems)
    (λ d is. subst (λ l. ScopeByScope mem_scope l) (sym is) c.in_ok-parts.ensures.mems_order) c.whole.ensures.mems

pub returns-clause-port_vars : goal.returns-clause-port_vars
returns-clause-port_vars c =
    IfOk-weaker c.whole.result (λ d. d.vars ≡ c.in_ok-parts.parts.variables.vars) (λ d. ArePortVars c.args.names.now c.args.tree.now.descriptions c.args.scopes.now d.vars)
    (λ d is. subst (λ l. ArePortVars c.args.names.now c.args.tree.now.descriptions c.args.scopes.now l) (sym is) c.in_ok-parts.ensures.port_vars) c.whole.ensures.vars

pub returns-clause-events : goal.returns-clause-events
returns-clause-events c =
    both_hold c.whole.result (λ d. d.vars ≡ c.in_ok-parts.parts.variables.vars) (λ d. d.procs ≡ c.in_ok-parts.parts.procs)
    (λ d. list_all (has_bit_events d.vars) d.procs ≡ true)
    (λ d vars procs. ap (λ l. list_all (has_bit_events l) d.procs) vars ∙ ap (λ l. list_all (has_bit_events c.in_ok-parts.parts.variables.vars) l) procs ∙ c.in_ok-parts.ensures.events)
    c.whole.ensures.vars c.whole.ensures.procs
