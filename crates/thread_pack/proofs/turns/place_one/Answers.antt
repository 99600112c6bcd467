use Rattle.std.proofs.Common.{◌≡◌, ◌∙◌, ◌<◌, ◌++◌, ◌∷◌, [], ℕ, List, length, get_or, ap, sym, subst, arith}
use Rattle.std.proofs.lemmas.List.{get_or_read}
use Rattle.plan_graph.specs.declared.node.Edge.{Edge}
use Rattle.order_levels.specs.Sets.{targets_of}
use Rattle.thread_pack.proofs.TableLemmas.{holds_more}
use Rattle.thread_pack.proofs.turns.place_one.Goals as goal

pub returns-clause-holds : goal.returns-clause-holds
returns-clause-holds c = λ tasks threads edges costs puts cost running holds.
    let turns = c.args.turns.now in
    let table = c.args.table.now in
    let p = c.args.put in
    let within : p.task < tasks = subst (λ n. p.task < n) running.lists_len c.requires.node in
    let list : c.as_slice-targets.result.now ≡ targets_of p.task edges =
    c.as_slice-targets.ensures ∙ get_or_read turns.targets.items p.task c.index.result.now c.requires.node c.index.ensures [] ∙ running.lists p.task within in
    let done = c.place.ensures in
    holds_more tasks threads edges costs puts table.free.items c.place.new.self.free.items table.arrive.items c.place.new.self.arrive.items p c.args.cost c.as_slice-targets.result.now
    cost list holds done.free_len done.rows_len done.row_len done.free done.rows
