use Rattle.scope_table.proofs.Steps.{scopes-at_file_level}
use Rattle.scope_table.proofs.table.ScopeTable.new.Goals as goal

pub returns : goal.returns
returns g c =
    rw (c.in-Ok.ensures, c.in-Ok-empty_slots.ensures, c.new.ensures.items, c.new-2.ensures.items)
    (scopes-at_file_level c.args.count c.args.nothing)
