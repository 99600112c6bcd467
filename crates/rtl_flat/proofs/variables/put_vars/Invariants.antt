use Rattle.std.proofs.Common.{◌≡◌, ◌++◌, map}
use Rattle.rtl_flat.specs.Laid.{VarsUpTo, typed, held_typed}
use Rattle.rtl_flat.proofs.variables.put_vars.Given as goal

abbrev pub invariant-loop-held : goal.invariant-loop-held
invariant-loop-held l = record {
  up_to : VarsUpTo l.scopes l.scope l.vars;
  typed : map typed l.vars ≡ map typed l.fn.vars ++ map (held_typed l.scope) l.yielded;
}
