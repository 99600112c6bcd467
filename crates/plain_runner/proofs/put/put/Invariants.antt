use Rattle.std.proofs.Common.{◌≡◌, length, true}
use Rattle.std.specs.List.{list_all}
use Rattle.plan_types.specs.Machine.{put_inputs}
use Rattle.run_tables.specs.Tables.{is_narrow}
use Rattle.plain_runner.proofs.put.put.Given as goal

abbrev pub invariant-loop-rest : goal.invariant-loop-rest
invariant-loop-rest l = record {
  same : put_inputs l.inputs l.rest l.words ≡ put_inputs l.inputs l.table l.initial.words;
  narrow : list_all is_narrow l.rest ≡ true;
}

abbrev pub decreases-loop-rest : goal.decreases-loop-rest
decreases-loop-rest l = length l.rest
