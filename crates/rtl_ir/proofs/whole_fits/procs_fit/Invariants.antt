use Rattle.std.proofs.Common.{◌≡◌, take, true}
use Rattle.std.specs.List.{list_all}
use Rattle.rtl_ir.specs.WithinDesign.{proc_fits}
use Rattle.rtl_ir.proofs.whole_fits.procs_fit.Given as goal

abbrev pub invariant-loop-process : goal.invariant-loop-process
invariant-loop-process l = list_all (proc_fits l.counts) (take l.process-index l.procs) ≡ true
