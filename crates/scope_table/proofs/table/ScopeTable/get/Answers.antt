use Rattle.std.proofs.Common.{◌<◌, ◌≤◌, get_or, reverse, arith}
use Rattle.scope_table.proofs.Steps.{meaning-past, meaning-of_file, meaning-of_slot}
use Rattle.scope_table.proofs.table.ScopeTable.get.Goals as goal

pub returns-then-place-len : goal.returns-then-place-len
returns-then-place-len g c =
    let s = c.self.inside in
    rw (← c.self.view_is)
    (meaning-past s.nothing s.file.items s.slots.items s.replaced.items (reverse s.frames.items) s.base c.args.name.0 c.self.invariant (omega arith))

pub returns-then-slot-self : goal.returns-then-slot-self
returns-then-slot-self g c =
    let s = c.self.inside in
    let slot = c.index-slot.result.now in
    let low : (get_or s.slots.items c.args.name.0 slot).level < s.base = rw (← c.index-slot.ensures) c.if-slot-self.true in
    rw (← c.self.view_is, c.index.ensures)
    (meaning-of_file s.nothing s.file.items s.slots.items s.replaced.items (reverse s.frames.items) s.base c.args.name.0 c.index.result.now slot c.self.invariant (omega arith) low)

pub returns-else-slot-self : goal.returns-else-slot-self
returns-else-slot-self g c =
    let s = c.self.inside in
    let slot = c.index-slot.result.now in
    let high : s.base ≤ (get_or s.slots.items c.args.name.0 slot).level = rw (← c.index-slot.ensures) c.if-slot-self.false in
    rw (← c.self.view_is, c.index-slot.ensures)
    (meaning-of_slot s.nothing s.file.items s.slots.items s.replaced.items (reverse s.frames.items) s.base c.args.name.0 slot c.self.invariant (omega arith) high)
