use Rattle.std.proofs.Common.{◌≡◌, ℕ, List, Option, Some, sym, subst, inr}
use Rattle.std.specs.Prelude.{IfSome}
use Rattle.vs_world.specs.Outside.{IsWhole}
use Rattle.run_status.specs.StageLaws.{leaves_none, leaves_read}
use Rattle.run_input.specs.InputLaws.{read_whole}
use Rattle.vsim_cli.specs.Inputs.{stim_read}
use Rattle.vsim_cli.specs.InputLaws.{stim_none, stim_whole}
use Rattle.vsim_cli.proofs.inputs.read_stimulus.Goals as goal

pub returns-in_default-clause-found : goal.returns-in_default-clause-found
returns-in_default-clause-found g c = stim_none c.args.name.now c.in_default.is (g.W.World.told c.args.world.now).files

pub returns-in_default-clause-rest : goal.returns-in_default-clause-rest
returns-in_default-clause-rest g c = leaves_none (g.W.World.told c.args.world.now)

pub returns-in-Ok-clause-found : goal.returns-in-Ok-clause-found
returns-in-Ok-clause-found g c =
    let told = (g.W.World.told c.args.world.now).files in
    let name = c.in-Some.name in
    let r = c.in-Ok.ensures in
    let bytes = c.in-Ok.bytes.items in
    let whole = subst (λ (n : List ℕ). IsWhole told n bytes) c.as_bytes.ensures r.ok in
    subst (λ (o : Option (List ℕ)). IfSome told (λ files. stim_read files o ≡ inr (Some bytes))) (sym c.in-Some.is) (stim_whole told name bytes (read_whole name told bytes whole r.bound))

pub returns-in-Ok-clause-rest : goal.returns-in-Ok-clause-rest
returns-in-Ok-clause-rest g c = leaves_read c.as_bytes.result.now (g.W.World.told c.args.world.now) (g.W.World.told c.read_all.new.world) c.in-Ok.ensures.rest

pub returns-in-Err-clause-rest : goal.returns-in-Err-clause-rest
returns-in-Err-clause-rest g c = leaves_read c.as_bytes.result.now (g.W.World.told c.args.world.now) (g.W.World.told c.read_all.new.world) c.in-Err.ensures.rest
