use Rattle.std.proofs.Common.{◌≡◌, ◌≤◌, ◌+◌, ℕ, length, true, slice_index_or, None}
use Rattle.std.specs.List.{list_all}
use Rattle.rtl_ir.specs.WithinDesign.{port_fits}
use Rattle.plan_types.specs.Machine.{input_vars, input_from, input_of}
use Rattle.run_tables.proofs.inputs.inputs_of.Given as goal

abbrev pub invariant-loop-rest : goal.invariant-loop-rest
invariant-loop-rest l = record {
  fits : list_all (port_fits l.vars) l.rest ≡ true;
  many : length l.table.items ≡ l.vars;
  few : l.count + length l.rest ≤ length l.ports;
  each : (v : ℕ) → input_from (slice_index_or l.table.items v None) l.count (input_vars l.rest) v ≡ input_of (input_vars l.ports) v;
}

abbrev pub decreases-loop-rest : goal.decreases-loop-rest
decreases-loop-rest l = length l.rest
