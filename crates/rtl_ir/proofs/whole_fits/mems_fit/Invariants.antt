use Rattle.std.proofs.Common.{◌≡◌, take, true}
use Rattle.std.specs.List.{list_all}
use Rattle.rtl_ir.specs.WithinDesign.{mem_fits}
use Rattle.rtl_ir.proofs.whole_fits.mems_fit.Given as goal

abbrev pub invariant-loop-mem : goal.invariant-loop-mem
invariant-loop-mem l = list_all (mem_fits l.scopes) (take l.mem-index l.mems) ≡ true
