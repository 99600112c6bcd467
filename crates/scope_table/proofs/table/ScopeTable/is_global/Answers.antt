use Rattle.std.proofs.Common.{refl, arith, ◌∙◌}
use Rattle.std.proofs.lemmas.Bool.{le-ltb}
use Rattle.scope_table.proofs.Steps.{here-declares, past-declares}
use Rattle.scope_table.proofs.table.ScopeTable.is_global.Goals as goal

pub returns-then-place-len : goal.returns-then-place-len
returns-then-place-len g c =
    let s = c.self.inside in
    rw (← c.self.view_is, c.index.ensures)
    (here-declares 1 0 s.file.items s.file.items c.args.name.0 c.index.result.now refl (omega arith))

pub returns-else-place-len : goal.returns-else-place-len
returns-else-place-len g c =
    let s = c.self.inside in
    rw (← c.self.view_is)
    (le-ltb c.args.name.0 c.len.result c.if-place-len.false ∙ past-declares 1 0 s.file.items s.file.items c.args.name.0 refl (omega arith))
