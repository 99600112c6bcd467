use Rattle.std.proofs.Common.{◌≡◌, ◌<◌, ℕ, Bool, false, List, length, ap, ◌∙◌, subst}
use Rattle.std.specs.Prelude.{slice_index_or, IfOk}
use Rattle.rtl_ir.specs.declared.design.Import.{Import}
use Rattle.proc_calls.specs.Calls.{is_called}
use Rattle.model_build.specs.declared.import.ImportUse.{ImportUse}
use Rattle.model_build.specs.Imports as spec
use Rattle.model_build.proofs.Uses.{uses_same}
use Rattle.model_build.proofs.import.uses_of.Goals as goal

pub returns : goal.returns
returns g c =
    let agree : (j : ℕ) → j < length c.args.design.now.imports → slice_index_or c.as_slice.result.now j false ≡ is_called c.args.design.now.procs j =
    λ j less. ap (λ (marks : List Bool). slice_index_or marks j false) c.as_slice.ensures.value ∙ c.in_ok-called.ensures.called j less in
    let same =
    ap (λ (imports : List Import). spec.uses_from (g.H.Host.id_of (g.H.Host.fixed c.args.host.now)) (g.H.Host.by_args (g.H.Host.fixed c.args.host.now)) c.args.mode (λ k. slice_index_or c.as_slice.result.now k false) 0 imports) c.as_slice-2.ensures
    ∙ uses_same (g.H.Host.id_of (g.H.Host.fixed c.args.host.now)) (g.H.Host.by_args (g.H.Host.fixed c.args.host.now)) c.args.mode (λ k. slice_index_or c.as_slice.result.now k false) (is_called c.args.design.now.procs) c.args.design.now.imports agree in
    subst (λ (list : List ImportUse). IfOk c.list_uses.result (λ uses. uses.items ≡ list)) same c.list_uses.ensures
