use Rattle.vsim_cli.specs.Case.{host_view}
use Rattle.vsim_cli.specs.RefusalLaws.{model_refused}
use Rattle.vsim_cli.proofs.model.model_of.Goals as goal

pub returns-in-Ok-build-clause-model : goal.returns-in-Ok-build-clause-model
returns-in-Ok-build-clause-model g c =
    let e = c.in-Ok.ensures in
    let b = c.in-Ok-build.ensures in
    record {
      design = c.in-Ok.design;
      flat = record { scopes_are = e.scopes; imports = e.imports; ports = e.ports; vars = e.vars; mems = e.mems; vars_order = e.vars_order; mems_order = e.mems_order };
      accepted = b.accepted;
      built = record { design = b.design; words = b.words; bodies = b.bodies; commits = b.commits; settle = b.settle; deemed = b.deemed; ids = b.ids };
    }

pub returns-in-Err-clause-refusal : goal.returns-in-Err-clause-refusal
returns-in-Err-clause-refusal g c = λ command.
    let e = c.in-Ok.ensures in
    let host = c.args.host.now in
    let h = host_view (g.H.Host.id_of (g.H.Host.fixed host)) (g.H.Host.by_args (g.H.Host.fixed host)) g.H.Host.answer g.H.Host.after (g.H.Host.fixed host) (g.H.Host.state host) in
    model_refused command.files c.args.mode h c.args.names.now c.args.tree.now c.args.scopes.now.scopes.items c.in-Ok.design
    (record { scopes_are = e.scopes; imports = e.imports; ports = e.ports; vars = e.vars; mems = e.mems; vars_order = e.vars_order; mems_order = e.mems_order }) c.in-Err.fault c.in-Err.ensures.refused
