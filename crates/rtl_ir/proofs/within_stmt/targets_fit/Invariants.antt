use Rattle.std.proofs.Common.{◌≡◌, take, true}
use Rattle.std.specs.List.{list_all}
use Rattle.rtl_ir.specs.Within.{target_fits}
use Rattle.rtl_ir.proofs.within_stmt.targets_fit.Given as goal

abbrev pub invariant-loop-target : goal.invariant-loop-target
invariant-loop-target l = list_all (target_fits l.counts) (take l.target-index l.targets) ≡ true
