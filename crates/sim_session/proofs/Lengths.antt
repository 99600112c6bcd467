-- An eval keeps the number of words.
use Rattle.std.proofs.Common.{◌≡◌, ℕ, zero, suc, Bool, true, false, cond, List, [], ◌∷◌, length, refl, ◌∙◌}
use Rattle.std.specs.Prelude.{slice_index}
use Rattle.std.proofs.lemmas.List.{length-set}
use Rattle.vs_base.specs.Number.{Number}
use Rattle.rtl_ir.specs.declared.design.Proc.{Proc}
use Rattle.rtl_pieces.specs.declared.layout.Word.{Word}
use Rattle.plan_graph.specs.declared.node.Node.{Node}
use Rattle.dpi_host.specs.HostMachine.{Answer, After}
use Rattle.task_eval.specs.Codes.{Ops}
use Rattle.task_eval.specs.Course.{Course, finished, loading, storing, calling}
use Rattle.task_eval.specs.Buses.{Outside, store, call, reply, run}
use Rattle.plan_types.specs.Coded.{code_number}
use Rattle.plan_types.specs.declared.built.Built.{Built}
use Rattle.plan_types.specs.declared.input.InputWord.{InputWord}
use Rattle.plan_types.specs.Machine.{Machine, course_at, is_run, run_node, run_nodes, put_inputs, input_words, settled, Ended, ended, some_fired, rounds, most_runs, evaluated, fired_of}

run_length : (answer : Answer) (after : After) (c : Course) (o : Outside) → length (run answer after c o).words ≡ length o.words
run_length answer after finished o = refl
run_length answer after (loading word go) o = run_length answer after (go (slice_index o.words word)) o
run_length answer after (storing word value go) o = run_length answer after go (store word value o) ∙ length-set o.words word value
run_length answer after (calling import args go) o = run_length answer after (go (reply answer after import args o)) (call answer after import args o)

node_length : (answer : Answer) (after : After) (procs : List Proc) (codes : List Ops) (fired : List Bool) (o : Outside) (n : Node)
    → length (run_node answer after procs codes fired o n).words ≡ length o.words
node_length answer after procs codes fired o n = by (is_run fired n)
  where
    by : (b : Bool) → length (cond b (run answer after (course_at codes (code_number procs n)) o) o).words ≡ length o.words
    by true = run_length answer after (course_at codes (code_number procs n)) o
    by false = refl

nodes_length : (answer : Answer) (after : After) (procs : List Proc) (codes : List Ops) (fired : List Bool) (nodes : List Node) (o : Outside)
    → length (run_nodes answer after procs codes fired nodes o).words ≡ length o.words
nodes_length answer after procs codes fired [] o = refl
nodes_length answer after procs codes fired (n ∷ nodes) o =
    nodes_length answer after procs codes fired nodes (run_node answer after procs codes fired o n) ∙ node_length answer after procs codes fired o n

inputs_length : (inputs : List Number) (words : List InputWord) (values : List ℕ) → length (put_inputs inputs words values) ≡ length values
inputs_length inputs [] values = refl
inputs_length inputs (w ∷ words) values = inputs_length inputs words _ ∙ length-set values w.word _

round_length : (b : Bool) (e : Ended) (o : Outside) → length e.outside.words ≡ length o.words → length (cond b e (ended true o)).outside.words ≡ length o.words
round_length true e o same = same
round_length false e o same = refl

rounds_length : (answer : Answer) (after : After) (procs : List Proc) (codes : List Ops) (words : List Word) (nodes : List Node) (n : ℕ) (last : List ℕ) (o : Outside)
    → length (rounds answer after procs codes words nodes n last o).outside.words ≡ length o.words
rounds_length answer after procs codes words nodes zero last o = refl
rounds_length answer after procs codes words nodes (suc n) last o =
    let fired = fired_of procs words last o.words in
    let next = run_nodes answer after procs codes fired nodes o in
    round_length (some_fired fired) (rounds answer after procs codes words nodes n o.words next) o
    (rounds_length answer after procs codes words nodes n o.words next ∙ nodes_length answer after procs codes fired nodes o)

pub evaluated_length : (answer : Answer) (after : After) (b : Built) (inputs : List Number) (m : Machine) → length (evaluated answer after b inputs m).outside.words ≡ length m.outside.words
evaluated_length answer after b inputs m =
    rounds_length answer after b.design.procs b.codes b.layout.words.items b.clocked.nodes most_runs m.last (settled answer after b inputs m.outside)
    ∙ nodes_length answer after b.design.procs b.codes [] b.settle.nodes _
    ∙ inputs_length inputs (input_words b.design.ports b.layout.words.items) m.outside.words
