use Rattle.std.proofs.Common.{List, length, sym, ap, ◌∙◌}
use Rattle.rtl_ir.specs.declared.design.Import.{Import}
use Rattle.proc_calls.specs.Calls.{is_called}
use Rattle.model_build.specs.declared.import.ImportUse.{ImportUse}
use Rattle.model_build.proofs.Uses.{uses_length}
use Rattle.model_build.proofs.model.accepted_uses.Goals as goal

pub check_uses-requires : goal.check_uses-requires
check_uses-requires g c =
    ap (λ (uses : List ImportUse). length uses) (c.as_slice-2.ensures.value ∙ c.in_ok-uses.ensures)
    ∙ uses_length (g.H.Host.id_of (g.H.Host.fixed c.args.host.now)) (g.H.Host.by_args (g.H.Host.fixed c.args.host.now)) c.args.mode (is_called c.args.design.now.procs) 0 c.args.design.now.imports
    ∙ sym (ap (λ (imports : List Import). length imports) c.as_slice.ensures)
