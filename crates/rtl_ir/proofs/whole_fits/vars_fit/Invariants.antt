use Rattle.std.proofs.Common.{◌≡◌, take, true}
use Rattle.std.specs.List.{list_all}
use Rattle.rtl_ir.specs.WithinDesign.{var_fits}
use Rattle.rtl_ir.proofs.whole_fits.vars_fit.Given as goal

abbrev pub invariant-loop-var : goal.invariant-loop-var
invariant-loop-var l = list_all (var_fits l.scopes) (take l.var-index l.vars) ≡ true
