use Rattle.std.proofs.Common.{◌≡◌, ◌∙◌, ◌<◌, ◌≤◌, ◌-◌, ◌∷◌, [], List, length, map, drop, get_or, set, ap, sym, arith}
use Rattle.std.specs.List.{range_with_len}
use Rattle.std.proofs.lemmas.List.{length-set}
use Rattle.plan_graph.specs.declared.task.Task.{Task}
use Rattle.thread_pack.specs.declared.put.Put.{Put}
use Rattle.thread_pack.specs.Packing.{task_in}
use Rattle.thread_pack.proofs.TaskLemmas.{last_dropped, one_taken, one_set, none_set, tasks_len}
use Rattle.thread_pack.proofs.tasks.tasks_of.Goals as goal

pub down-init : goal.down-init
down-init c =
    let puts = c.args.puts.now in
    let so_far : c.in_ok-list.list.items ≡ map (task_in (drop (length puts) puts)) (range_with_len 0 c.args.tasks) =
    c.in_ok-list.ensures ∙ ap (λ (ps : List Put). map (task_in ps) (range_with_len 0 c.args.tasks)) (sym (last_dropped puts)) in
    record { low = omega arith; len = ap length so_far ∙ tasks_len (drop (length puts) puts) c.args.tasks 0; so_far = so_far }

pub down-preserved-then-put-len : goal.down-preserved-then-put-len
down-preserved-then-put-len c =
    let puts = c.args.puts.now in
    let i = c.down.i in
    let some = c.down-test.true in
    let low = c.down.invariant.low in
    let p : Put = get_or puts (i - 1) (record { task = 0; thread = 0; start = 0 }) in
    let task : Task = record { thread = p.thread; start = p.start } in
    let test = c.if-put-len.true in
    let is = c.len.ensures in
    let len = c.down.invariant.len in
    let within : p.task < c.args.tasks = omega arith in
    record {
      low = omega arith;
      len = length-set c.down.list.items p.task task ∙ len;
      so_far =
          ap (λ (ts : List Task). set ts p.task task) c.down.invariant.so_far
          ∙ one_set p (drop i puts) c.args.tasks within
          ∙ ap (λ (ps : List Put). map (task_in ps) (range_with_len 0 c.args.tasks)) (sym (one_taken puts i (record { task = 0; thread = 0; start = 0 }) (omega arith) low));
    }

pub down-preserved : goal.down-preserved
down-preserved c =
    let puts = c.args.puts.now in
    let i = c.down.i in
    let some = c.down-test.true in
    let low = c.down.invariant.low in
    let p : Put = get_or puts (i - 1) (record { task = 0; thread = 0; start = 0 }) in
    let test = c.if-put-len.false in
    let is = c.len.ensures in
    let len = c.down.invariant.len in
    let past : c.args.tasks ≤ p.task = omega arith in
    record {
      low = omega arith;
      len = len;
      so_far =
          c.down.invariant.so_far
          ∙ none_set p (drop i puts) c.args.tasks past
          ∙ ap (λ (ps : List Put). map (task_in ps) (range_with_len 0 c.args.tasks)) (sym (one_taken puts i (record { task = 0; thread = 0; start = 0 }) (omega arith) low));
    }
