use Rattle.std.proofs.Common.{◌≡◌, take, true}
use Rattle.std.specs.List.{list_all}
use Rattle.rtl_ir.specs.WithinDesign.{port_fits}
use Rattle.rtl_ir.proofs.whole_fits.ports_fit.Given as goal

abbrev pub invariant-loop-port : goal.invariant-loop-port
invariant-loop-port l = list_all (port_fits l.vars) (take l.port-index l.ports) ≡ true
