use Rattle.std.proofs.Common.{◌≡◌, ◌∙◌, ◌<◌, ◌≤◌, ◌+◌, ◌-◌, ◌^◌, ◌++◌, ◌∷◌, [], ◌&&◌, nat_lt, ℕ, suc, true, None, Some, Option, List, length, get_or, ap, sym, subst, refl, arith}
use Rattle.std.specs.List.{list_all, range_with_len}
use Rattle.std.proofs.lemmas.Bool.{and_from, lt-ltb}
use Rattle.std.proofs.lemmas.List.{get_or_read}
use Rattle.plan_graph.specs.Graphs.{ends_within, cost_of_all}
use Rattle.plan_graph.specs.ListLaws.{all_below}
use Rattle.order_levels.specs.Sets.{targets_of}
use Rattle.order_levels.specs.Running.{Running}
use Rattle.thread_pack.specs.declared.put.Put.{Put}
use Rattle.thread_pack.specs.Packing.{order_of, is_ready, pack_turns, packed}
use Rattle.thread_pack.specs.Tables.{Holds}
use Rattle.thread_pack.proofs.PackLaws.{IsPacking, order_pushed}
use Rattle.thread_pack.proofs.BoundLemmas.{AllEnd, load, chosen, packing_more, end_more, fits_64, turn_ends, turn_goes}
use Rattle.thread_pack.proofs.TableLemmas.{next_choice, targets_below}
use Rattle.thread_pack.proofs.turns.place_all.Goals as goal

pub returns-in_default : goal.returns-in_default
returns-in_default c =
    let g = c.args.graph.now in
    let t = c.loop-turn.turns in
    let table = c.loop-turn.table in
    let tasks = c.len-tasks.result in
    let threads = c.args.threads in
    let edges = g.edges.items in
    let cost : ℕ → ℕ = λ k. get_or g.costs.items k 0 in
    let tail : ℕ → ℕ = λ k. get_or g.tails.items k 0 in
    let puts = c.loop-turn.puts.items in
    let inv = c.loop-turn.invariant in
    let next = next_choice tasks threads edges cost puts table.free.items c.as_slice-in-loop-turn.result.now table.arrive.items c.as_slice-in-loop-turn-2.result.now g.tails.items c.as_slice-in-loop-turn-3.result.now t.ready.words.items c.choose-next.result
    inv.holds inv.running.members c.as_slice-in-loop-turn.ensures.value c.as_slice-in-loop-turn-2.ensures.value c.as_slice-in-loop-turn-3.ensures.value c.choose-next.ensures in
    let len : tasks ≡ length g.costs.items = omega (arith, c.len-tasks.ensures, g.costs.ok.0) in
    sym (turn_ends (tasks - c.loop-turn.turn) tasks threads edges cost tail puts (next ∙ c.in_default.is)) ∙ inv.rest ∙ ap (λ n. packed n threads edges cost tail) len

pub index-requires : goal.index-requires
index-requires c =
    let g = c.args.graph.now in
    let t = c.loop-turn.turns in
    let table = c.loop-turn.table in
    let tasks = c.len-tasks.result in
    let threads = c.args.threads in
    let edges = g.edges.items in
    let cost : ℕ → ℕ = λ k. get_or g.costs.items k 0 in
    let tail : ℕ → ℕ = λ k. get_or g.tails.items k 0 in
    let puts = c.loop-turn.puts.items in
    let inv = c.loop-turn.invariant in
    let next = next_choice tasks threads edges cost puts table.free.items c.as_slice-in-loop-turn.result.now table.arrive.items c.as_slice-in-loop-turn-2.result.now g.tails.items c.as_slice-in-loop-turn-3.result.now t.ready.words.items c.choose-next.result
    inv.holds inv.running.members c.as_slice-in-loop-turn.ensures.value c.as_slice-in-loop-turn-2.ensures.value c.as_slice-in-loop-turn-3.ensures.value c.choose-next.ensures in
    let p = c.in-Some.put in
    let it = chosen tasks threads edges cost tail puts p (next ∙ c.in-Some.is) in
    let less = it.task in
    let is = c.len-tasks.ensures in
    omega arith

pub place_one-requires-clause-ready : goal.place_one-requires-clause-ready
place_one-requires-clause-ready c =
    let g = c.args.graph.now in
    let t = c.loop-turn.turns in
    let table = c.loop-turn.table in
    let tasks = c.len-tasks.result in
    let threads = c.args.threads in
    let edges = g.edges.items in
    let cost : ℕ → ℕ = λ k. get_or g.costs.items k 0 in
    let tail : ℕ → ℕ = λ k. get_or g.tails.items k 0 in
    let puts = c.loop-turn.puts.items in
    let inv = c.loop-turn.invariant in
    let next = next_choice tasks threads edges cost puts table.free.items c.as_slice-in-loop-turn.result.now table.arrive.items c.as_slice-in-loop-turn-2.result.now g.tails.items c.as_slice-in-loop-turn-3.result.now t.ready.words.items c.choose-next.result
    inv.holds inv.running.members c.as_slice-in-loop-turn.ensures.value c.as_slice-in-loop-turn-2.ensures.value c.as_slice-in-loop-turn-3.ensures.value c.choose-next.ensures in
    let p = c.in-Some.put in
    let it = chosen tasks threads edges cost tail puts p (next ∙ c.in-Some.is) in
    let len : tasks ≡ length g.costs.items = omega (arith, c.len-tasks.ensures, g.costs.ok.0) in
    let ends : list_all (ends_within tasks) edges ≡ true = subst (λ n. list_all (ends_within n) edges ≡ true) (sym len) c.requires.ends in
    record {
      nodes = tasks;
      edges = edges;
      ran = order_of puts;
      ends = ends;
      running = inv.running;
      ready = inv.running.members p.task ∙ and_from (nat_lt p.task tasks) (is_ready edges (order_of puts) p.task) (lt-ltb p.task tasks it.task) it.ready;
    }

pub place_one-requires-clause-node : goal.place_one-requires-clause-node
place_one-requires-clause-node c =
    let g = c.args.graph.now in
    let t = c.loop-turn.turns in
    let table = c.loop-turn.table in
    let tasks = c.len-tasks.result in
    let threads = c.args.threads in
    let edges = g.edges.items in
    let cost : ℕ → ℕ = λ k. get_or g.costs.items k 0 in
    let tail : ℕ → ℕ = λ k. get_or g.tails.items k 0 in
    let puts = c.loop-turn.puts.items in
    let inv = c.loop-turn.invariant in
    let next = next_choice tasks threads edges cost puts table.free.items c.as_slice-in-loop-turn.result.now table.arrive.items c.as_slice-in-loop-turn-2.result.now g.tails.items c.as_slice-in-loop-turn-3.result.now t.ready.words.items c.choose-next.result
    inv.holds inv.running.members c.as_slice-in-loop-turn.ensures.value c.as_slice-in-loop-turn-2.ensures.value c.as_slice-in-loop-turn-3.ensures.value c.choose-next.ensures in
    let p = c.in-Some.put in
    let it = chosen tasks threads edges cost tail puts p (next ∙ c.in-Some.is) in
    subst (λ n. p.task < n) (sym inv.running.lists_len) it.task

pub place_one-requires-clause-within : goal.place_one-requires-clause-within
place_one-requires-clause-within c =
    let g = c.args.graph.now in
    let t = c.loop-turn.turns in
    let table = c.loop-turn.table in
    let tasks = c.len-tasks.result in
    let threads = c.args.threads in
    let edges = g.edges.items in
    let cost : ℕ → ℕ = λ k. get_or g.costs.items k 0 in
    let tail : ℕ → ℕ = λ k. get_or g.tails.items k 0 in
    let puts = c.loop-turn.puts.items in
    let inv = c.loop-turn.invariant in
    let next = next_choice tasks threads edges cost puts table.free.items c.as_slice-in-loop-turn.result.now table.arrive.items c.as_slice-in-loop-turn-2.result.now g.tails.items c.as_slice-in-loop-turn-3.result.now t.ready.words.items c.choose-next.result
    inv.holds inv.running.members c.as_slice-in-loop-turn.ensures.value c.as_slice-in-loop-turn-2.ensures.value c.as_slice-in-loop-turn-3.ensures.value c.choose-next.ensures in
    let p = c.in-Some.put in
    let it = chosen tasks threads edges cost tail puts p (next ∙ c.in-Some.is) in
    let len : tasks ≡ length g.costs.items = omega (arith, c.len-tasks.ensures, g.costs.ok.0) in
    let ends : list_all (ends_within tasks) edges ≡ true = subst (λ n. list_all (ends_within n) edges ≡ true) (sym len) c.requires.ends in
    (λ i. all_below (inv.holds.tasks_len i) (inv.running.lists p.task it.task i)) ∙ targets_below tasks p.task edges ends

pub place_one-requires-clause-thread : goal.place_one-requires-clause-thread
place_one-requires-clause-thread c =
    let g = c.args.graph.now in
    let t = c.loop-turn.turns in
    let table = c.loop-turn.table in
    let tasks = c.len-tasks.result in
    let threads = c.args.threads in
    let edges = g.edges.items in
    let cost : ℕ → ℕ = λ k. get_or g.costs.items k 0 in
    let tail : ℕ → ℕ = λ k. get_or g.tails.items k 0 in
    let puts = c.loop-turn.puts.items in
    let inv = c.loop-turn.invariant in
    let next = next_choice tasks threads edges cost puts table.free.items c.as_slice-in-loop-turn.result.now table.arrive.items c.as_slice-in-loop-turn-2.result.now g.tails.items c.as_slice-in-loop-turn-3.result.now t.ready.words.items c.choose-next.result
    inv.holds inv.running.members c.as_slice-in-loop-turn.ensures.value c.as_slice-in-loop-turn-2.ensures.value c.as_slice-in-loop-turn-3.ensures.value c.choose-next.ensures in
    let p = c.in-Some.put in
    let it = chosen tasks threads edges cost tail puts p (next ∙ c.in-Some.is) in
    subst (λ n. p.thread < n) (sym inv.holds.threads_len) it.thread

pub place_one-requires-clause-fits : goal.place_one-requires-clause-fits
place_one-requires-clause-fits c =
    let g = c.args.graph.now in
    let t = c.loop-turn.turns in
    let table = c.loop-turn.table in
    let tasks = c.len-tasks.result in
    let threads = c.args.threads in
    let edges = g.edges.items in
    let cost : ℕ → ℕ = λ k. get_or g.costs.items k 0 in
    let tail : ℕ → ℕ = λ k. get_or g.tails.items k 0 in
    let puts = c.loop-turn.puts.items in
    let inv = c.loop-turn.invariant in
    let next = next_choice tasks threads edges cost puts table.free.items c.as_slice-in-loop-turn.result.now table.arrive.items c.as_slice-in-loop-turn-2.result.now g.tails.items c.as_slice-in-loop-turn-3.result.now t.ready.words.items c.choose-next.result
    inv.holds inv.running.members c.as_slice-in-loop-turn.ensures.value c.as_slice-in-loop-turn-2.ensures.value c.as_slice-in-loop-turn-3.ensures.value c.choose-next.ensures in
    let p = c.in-Some.put in
    let it = chosen tasks threads edges cost tail puts p (next ∙ c.in-Some.is) in
    let len : tasks ≡ length g.costs.items = omega (arith, c.len-tasks.ensures, g.costs.ok.0) in
    let cost_is : c.index.result.now ≡ cost p.task = get_or_read g.costs.items p.task c.index.result.now (subst (λ n. p.task < n) len it.task) c.index.ensures 0 in
    let total : cost_of_all cost (range_with_len 0 tasks) < 2 ^ 63 = subst (λ n. cost_of_all cost (range_with_len 0 n) < 2 ^ 63) (sym len) c.requires.fits in
    let fits = fits_64 tasks threads edges cost tail puts p it inv.packing inv.ends total in
    omega arith

pub loop-turn-preserved : goal.loop-turn-preserved
loop-turn-preserved c =
    let g = c.args.graph.now in
    let t = c.loop-turn.turns in
    let table = c.loop-turn.table in
    let tasks = c.len-tasks.result in
    let threads = c.args.threads in
    let edges = g.edges.items in
    let cost : ℕ → ℕ = λ k. get_or g.costs.items k 0 in
    let tail : ℕ → ℕ = λ k. get_or g.tails.items k 0 in
    let puts = c.loop-turn.puts.items in
    let inv = c.loop-turn.invariant in
    let next = next_choice tasks threads edges cost puts table.free.items c.as_slice-in-loop-turn.result.now table.arrive.items c.as_slice-in-loop-turn-2.result.now g.tails.items c.as_slice-in-loop-turn-3.result.now t.ready.words.items c.choose-next.result
    inv.holds inv.running.members c.as_slice-in-loop-turn.ensures.value c.as_slice-in-loop-turn-2.ensures.value c.as_slice-in-loop-turn-3.ensures.value c.choose-next.ensures in
    let p = c.in-Some.put in
    let it = chosen tasks threads edges cost tail puts p (next ∙ c.in-Some.is) in
    let len : tasks ≡ length g.costs.items = omega (arith, c.len-tasks.ensures, g.costs.ok.0) in
    let ends : list_all (ends_within tasks) edges ≡ true = subst (λ n. list_all (ends_within n) edges ≡ true) (sym len) c.requires.ends in
    let cost_is : c.index.result.now ≡ cost p.task = get_or_read g.costs.items p.task c.index.result.now (subst (λ n. p.task < n) len it.task) c.index.ensures 0 in
    let pushed : c.push.new.self.items ≡ puts ++ p ∷ [] = c.in_ok-push.ensures.items in
    let u = c.place_one.new.turns in
    let now = c.place_one.new.table in
    let order : order_of c.push.new.self.items ≡ order_of puts ++ p.task ∷ [] = ap order_of pushed ∙ order_pushed puts p in
    record {
      running = subst (λ (xs : List ℕ). Running tasks edges xs u.targets.items u.waits.items u.ready.words.items) (sym order) (c.place_one.ensures.running tasks edges (order_of puts) ends inv.running);
      holds = subst (λ (ps : List Put). Holds tasks threads edges cost ps now.free.items now.arrive.items) (sym pushed) (c.place_one.ensures.holds tasks threads edges cost puts (sym cost_is) inv.running inv.holds);
      packing = subst (λ (ps : List Put). IsPacking tasks threads edges ps) (sym pushed) (packing_more tasks threads edges cost tail puts p it inv.packing);
      ends = subst (λ (ps : List Put). AllEnd cost (load cost ps + load cost ps) ps) (sym pushed) (end_more tasks threads edges cost tail puts p it inv.ends);
      rest =
          ap (pack_turns (tasks - (c.loop-turn.turn + 1)) tasks threads edges cost tail) pushed
          ∙ turn_goes (tasks - c.loop-turn.turn) (tasks - (c.loop-turn.turn + 1)) tasks threads edges cost tail puts p (let more = c.loop-turn-test.true in omega arith) (next ∙ c.in-Some.is)
          ∙ inv.rest;
    }
