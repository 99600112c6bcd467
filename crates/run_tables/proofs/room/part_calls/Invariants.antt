use Rattle.std.proofs.Common.{◌≡◌, ◌-◌, ◌^◌, min, take}
use Rattle.std.specs.List.{sum_by}
use Rattle.plan_types.specs.Room.{code_calls}
use Rattle.run_tables.proofs.room.part_calls.Given as goal

abbrev pub invariant-loop-code : goal.invariant-loop-code
invariant-loop-code l = l.calls ≡ min (sum_by (code_calls l.built) (take l.code-index l.codes)) (2 ^ 64 - 1)
