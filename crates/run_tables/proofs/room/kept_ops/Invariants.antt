use Rattle.std.proofs.Common.{◌≡◌, take}
use Rattle.std.specs.List.{count_by}
use Rattle.plan_types.specs.Room.{is_kept}
use Rattle.run_tables.proofs.room.kept_ops.Given as goal

abbrev pub invariant-loop-op : goal.invariant-loop-op
invariant-loop-op l = l.calls ≡ count_by (is_kept l.deemed) (take l.op-index l.ops)
