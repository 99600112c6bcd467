use Rattle.std.proofs.Common.{◌≤◌, map}
use Rattle.rtl_flat.specs.Laid.{VarsUpTo, MemsUpTo, Begins, typed}
use Rattle.rtl_flat.proofs.variables.put_scopes.Given as goal

abbrev pub invariant-loop-held : goal.invariant-loop-held
invariant-loop-held l = record {
  grows : Begins (map typed l.fn.all.vars) (map typed l.all.vars);
  vars : VarsUpTo l.scopes l.scope l.all.vars;
  mems : MemsUpTo l.scopes l.scope l.all.mems;
  fits : l.scope ≤ 4294967295;
}
