use Rattle.std.proofs.Common.{◌*◌, ◌-◌, ◌^◌, ℕ, min, ap, ◌∙◌}
use Rattle.run_tables.proofs.Rooms.{room_is}
use Rattle.run_tables.proofs.room.call_room.Goals as goal

pub returns : goal.returns
returns c =
    room_is c.args.built.now c.args.settle.now c.args.clocked.now c.part_calls-once.result c.part_calls-each.result c.saturating_mul.result c.saturating_add.result
    c.requires.settle c.requires.clocked c.part_calls-once.ensures c.part_calls-each.ensures
    (c.saturating_mul.ensures ∙ ap (λ (n : ℕ). min (c.part_calls-each.result * n) (2 ^ 64 - 1)) c.from.ensures) c.saturating_add.ensures
