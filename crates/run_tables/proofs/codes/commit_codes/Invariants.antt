use Rattle.std.proofs.Common.{◌≡◌, ◌<◌, ◌+◌, ℕ, length, take, slice_index}
use Rattle.std.specs.List.{count_by}
use Rattle.plan_types.specs.Coded.{is_clocked}
use Rattle.run_tables.proofs.codes.commit_codes.Given as goal

abbrev pub invariant-loop-proc : goal.invariant-loop-proc
invariant-loop-proc l = record {
  code : l.code ≡ length l.procs + count_by is_clocked (take l.proc-index l.procs);
  many : length l.out.items ≡ l.proc-index;
  each : (p : ℕ) → p < l.proc-index → slice_index l.out.items p ≡ length l.procs + count_by is_clocked (take p l.procs);
}
