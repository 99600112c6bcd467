use Rattle.std.proofs.Common.{◌≡◌, ◌+◌, reverse, arith, ◌∙◌}
use Rattle.std.proofs.lemmas.Bool.{le-ltb}
use Rattle.std.proofs.lemmas.List.{length-reverse}
use Rattle.scope_table.specs.Slots.{level_of}
use Rattle.scope_table.proofs.Steps.{here-declares, past-declares}
use Rattle.scope_table.proofs.table.ScopeTable.is_declared_here.Goals as goal

pub returns-then-place-len : goal.returns-then-place-len
returns-then-place-len g c =
    let s = c.self.inside in
    let level : c.len-then-place-len.result + 1 ≡ level_of (reverse s.frames.items) = omega (arith, length-reverse s.frames.items) in
    rw (← c.self.view_is, level, c.index.ensures)
    (here-declares (level_of (reverse s.frames.items)) s.base s.file.items s.slots.items c.args.name.0 c.index.result.now c.self.invariant.lengths (omega arith))

pub returns-else-place-len : goal.returns-else-place-len
returns-else-place-len g c =
    let s = c.self.inside in
    rw (← c.self.view_is)
    (le-ltb c.args.name.0 c.len.result c.if-place-len.false
    ∙ past-declares (level_of (reverse s.frames.items)) s.base s.file.items s.slots.items c.args.name.0 c.self.invariant.lengths (omega arith))
