use Rattle.std.proofs.Common.{◌≡◌, length, true}
use Rattle.std.specs.List.{list_all}
use Rattle.rtl_ir.specs.WithinDesign.{port_fits}
use Rattle.stimulus.proofs.Names.{Grows}
use Rattle.stimulus.proofs.inputs.inputs_of.Given as goal

abbrev pub invariant-ports : goal.invariant-ports
invariant-ports l = record {
  fit : list_all (port_fits (length l.vars)) l.rest ≡ true;
  grows : Grows l.vars l.ports l.inputs l.place l.rest;
}

abbrev pub decreases-ports : goal.decreases-ports
decreases-ports l = length l.rest
