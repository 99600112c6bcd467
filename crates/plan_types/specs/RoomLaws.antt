-- An eval keeps no more calls than it has room for.
use Rattle.std.proofs.Common.{◌≡◌, ℕ, zero, suc, ◌+◌, ◌*◌, ◌≤◌, Bool, true, false, cond, not, List, [], ◌∷◌, ◌++◌, length, length-append, suc-mul, take, drop, slice_get, slice_index, slice_index_or, Option, Some, None, refl, ap, ◌∙◌, arith}
use Rattle.std.specs.Prelude.{option_map}
use Rattle.std.specs.List.{count_by, sum_by}
use Rattle.std.proofs.lemmas.List.Sums.{sum_by-cons}
use Rattle.vs_base.specs.Number.{Number, kept}
use Rattle.plan_graph.specs.declared.node.Node.{Node}
use Rattle.dpi_host.specs.Calls.{Call}
use Rattle.dpi_host.specs.HostMachine.{Answer, After}
use Rattle.task_eval.specs.Codes.{Ops}
use Rattle.task_eval.specs.declared.op.Op.{Op}
use Rattle.task_eval.specs.declared.op.Op.TheVariants as op
use Rattle.task_eval.specs.Places.{word_at}
use Rattle.task_eval.specs.Moves.{Move, goes, loads, stores, calls, on_one, on_two, on_three, load_at, store_at, arguments, move}
use Rattle.task_eval.specs.Course.{Course, from, course}
use Rattle.task_eval.specs.Buses.{Outside, Deed, stored, called, with_deed, store, call, reply, run}
use Rattle.plan_types.specs.Coded.{code_number}
use Rattle.plan_types.specs.Machine.{Machine, Ended, ended, is_run, course_if, kept_deed, kept_deeds, kept_calls, run_node, run_nodes, put_inputs, input_words, fired_of, settled, some_fired, rounds, most_runs, evaluated, kept_of}
use Rattle.plan_types.specs.Room.{is_kept, calls_if, node_calls, call_room}
use Rattle.plan_types.specs.declared.built.Built.{Built}

-- ---- one more store or call

module _ (deemed : List Bool) where
  one_kept : (b : Bool) (c : Call) → length (cond b [] (c ∷ [])) ≡ cond (not b) 1 0
  one_kept true c = refl
  one_kept false c = refl

  deeds_more : (made : List Deed) (deed : Deed) → length (kept_deeds deemed (made ++ deed ∷ [])) ≡ length (kept_deeds deemed made) + length (kept_deed deemed deed)
  deeds_more [] deed = length-append (kept_deed deemed deed) [] ∙ omega arith
  deeds_more (x ∷ made) deed =
      let whole = length-append (kept_deed deemed x) (kept_deeds deemed (made ++ deed ∷ [])) in
      let before = length-append (kept_deed deemed x) (kept_deeds deemed made) in
      let more = deeds_more made deed in
      omega (arith, whole, before, more)

  calls_more : (made : Option (List Deed)) (deed : Deed) → length (kept_calls deemed (option_map (with_deed deed) made)) ≤ length (kept_calls deemed made) + length (kept_deed deemed deed)
  calls_more (Some made) deed = (let more = deeds_more made deed in omega (arith, more))
  calls_more None deed = omega arith

  -- ---- what an op calls

  abbrev move_calls : Move → ℕ
  move_calls (goes skip stack) = 0
  move_calls (loads word width stack) = 0
  move_calls (stores word value stack) = 0
  move_calls (calls import count width stack) = cond (not (slice_index_or deemed import false)) 1 0

  one_calls : (stack : List Number) (act : Number → List Number → Move) → ((a : Number) (rest : List Number) → move_calls (act a rest) ≡ 0) → move_calls (on_one stack act) ≡ 0
  one_calls [] act none = refl
  one_calls (a ∷ rest) act none = none a rest

  two_calls : (stack : List Number) (act : Number → Number → List Number → Move) → ((b a : Number) (rest : List Number) → move_calls (act b a rest) ≡ 0) → move_calls (on_two stack act) ≡ 0
  two_calls stack act none = one_calls stack (λ b more. on_one more (act b)) (λ b more. one_calls more (act b) (none b))

  three_calls : (stack : List Number) (act : Number → Number → Number → List Number → Move) → ((d b a : Number) (rest : List Number) → move_calls (act d b a rest) ≡ 0) → move_calls (on_three stack act) ≡ 0
  three_calls stack act none = one_calls stack (λ d more. on_two more (act d)) (λ d more. two_calls more (act d) (none d))

  load_calls : (word : Option ℕ) (width : ℕ) (rest : List Number) → move_calls (load_at word width rest) ≡ 0
  load_calls (Some word) width rest = refl
  load_calls None width rest = refl

  store_calls : (word : Option ℕ) (value : ℕ) (rest : List Number) → move_calls (store_at word value rest) ≡ 0
  store_calls (Some word) value rest = refl
  store_calls None value rest = refl

  op_calls : (o : Op) (stack : List Number) → move_calls (move o stack) ≡ cond (is_kept deemed o) 1 0
  op_calls (op.Push n) stack = refl
  op_calls (op.Load word width) stack = refl
  op_calls (op.LoadAt e width) stack = one_calls stack _ (λ a rest. load_calls (word_at e a) width rest)
  op_calls (op.Store word width) stack = one_calls stack _ (λ a rest. refl)
  op_calls (op.StoreAt e width) stack = two_calls stack _ (λ b a rest. store_calls (word_at e b) _ rest)
  op_calls (op.Slice at width) stack = one_calls stack _ (λ a rest. refl)
  op_calls (op.SliceAt i width) stack = two_calls stack _ (λ b a rest. refl)
  op_calls (op.Place at) stack = two_calls stack _ (λ b a rest. refl)
  op_calls (op.PlaceAt i) stack = three_calls stack _ (λ d b a rest. refl)
  op_calls (op.Extend width signed) stack = one_calls stack _ (λ a rest. refl)
  op_calls (op.One o) stack = one_calls stack _ (λ a rest. refl)
  op_calls (op.Two o width signed) stack = two_calls stack _ (λ b a rest. refl)
  op_calls (op.Join high low) stack = two_calls stack _ (λ b a rest. refl)
  op_calls (op.Repeat times width) stack = one_calls stack _ (λ a rest. refl)
  op_calls (op.Pick below) stack = refl
  op_calls op.Drop stack = one_calls stack _ (λ a rest. refl)
  op_calls (op.Skip n) stack = refl
  op_calls (op.SkipIfZero n) stack = one_calls stack _ (λ a rest. refl)
  op_calls (op.SkipIfTrue n) stack = one_calls stack _ (λ a rest. refl)
  op_calls (op.Call import count width) stack = refl

-- ---- what runs keep

module _ (answer : Answer) (after : After) (deemed : List Bool) where
  move_few : (m : Move) (go : ℕ → List Number → Course) (most : ℕ) (o : Outside)
      → ((skip : ℕ) (stack : List Number) (o : Outside) → length (kept_calls deemed (run answer after (go skip stack) o).made) ≤ length (kept_calls deemed o.made) + most)
      → length (kept_calls deemed (run answer after (from m go) o).made) ≤ length (kept_calls deemed o.made) + (move_calls deemed m + most)
  move_few (goes skip stack) go most o few = (let h = few skip stack o in omega (arith, h))
  move_few (loads word width stack) go most o few = (let h = few 0 (kept width (slice_index o.words word) ∷ stack) o in omega (arith, h))
  move_few (stores word value stack) go most o few =
      let h = few 0 stack (store word value o) in
      let more = calls_more deemed o.made (stored word value) in
      omega (arith, h, more)
  move_few (calls import count width stack) go most o few =
      let args : List ℕ = arguments (take count stack) in
      let given : ℕ = reply answer after import args o in
      let made : Call = record { import = import; args = args; reply = given } in
      let h = few 0 (kept width given ∷ drop count stack) (call answer after import args o) in
      let more = calls_more deemed o.made (called made) in
      let one = one_kept deemed (slice_index_or deemed import false) made in
      omega (arith, h, more, one)

  ops_few : (ops : List Op) (skip : ℕ) (stack : List Number) (o : Outside)
      → length (kept_calls deemed (run answer after (course ops skip stack) o).made) ≤ length (kept_calls deemed o.made) + count_by (is_kept deemed) ops
  ops_few [] skip stack o = omega arith
  ops_few (x ∷ more) (suc skip) stack o =
      let h = ops_few more skip stack o in
      let whole = sum_by-cons (λ (x : Op). cond (is_kept deemed x) 1 0) x more in
      omega (arith, h, whole)
  ops_few (x ∷ more) zero stack o =
      let h = move_few (move x stack) (course more) (count_by (is_kept deemed) more) o (ops_few more) in
      let here = op_calls deemed x stack in
      let whole = sum_by-cons (λ (x : Op). cond (is_kept deemed x) 1 0) x more in
      omega (arith, h, here, whole)

  code_few : (code : Option Ops) (o : Outside) → length (kept_calls deemed (run answer after (course_if code) o).made) ≤ length (kept_calls deemed o.made) + calls_if deemed code
  code_few (Some code) o = ops_few code.ops 0 [] o
  code_few None o = omega arith

  node_few : (runs : Bool) (code : Option Ops) (o : Outside) → length (kept_calls deemed (cond runs (run answer after (course_if code) o) o).made) ≤ length (kept_calls deemed o.made) + calls_if deemed code
  node_few true code o = code_few code o
  node_few false code o = omega arith

module _ (answer : Answer) (after : After) (b : Built) where
  nodes_few : (fired : List Bool) (nodes : List Node) (o : Outside)
      → length (kept_calls b.deemed (run_nodes answer after b.design.procs b.codes fired nodes o).made) ≤ length (kept_calls b.deemed o.made) + sum_by (node_calls b) nodes
  nodes_few fired [] o = omega arith
  nodes_few fired (n ∷ more) o =
      let first = node_few answer after b.deemed (is_run fired n) (slice_get b.codes (code_number b.design.procs n)) o in
      let rest = nodes_few fired more (run_node answer after b.design.procs b.codes fired o n) in
      let whole = sum_by-cons (node_calls b) n more in
      omega (arith, first, rest, whole)

  -- where a round ends, or an eval
  round_few : (any : Bool) (e : Ended) (o : Outside) (most : ℕ) → length (kept_calls b.deemed e.outside.made) ≤ most → length (kept_calls b.deemed o.made) ≤ most
      → length (kept_calls b.deemed (cond any e (ended true o)).outside.made) ≤ most
  round_few true e o most on here = on
  round_few false e o most on here = here

  rounds_few : (n : ℕ) (last : List ℕ) (o : Outside)
      → length (kept_calls b.deemed (rounds answer after b.design.procs b.codes b.layout.words.items b.clocked.nodes n last o).outside.made) ≤ length (kept_calls b.deemed o.made) + n * sum_by (node_calls b) b.clocked.nodes
  rounds_few zero last o = omega arith
  rounds_few (suc n) last o =
      let fired : List Bool = fired_of b.design.procs b.layout.words.items last o.words in
      let next : Outside = run_nodes answer after b.design.procs b.codes fired b.clocked.nodes o in
      let each : ℕ = sum_by (node_calls b) b.clocked.nodes in
      let h = rounds_few n o.words next in
      let first = nodes_few fired b.clocked.nodes o in
      let more : suc n * each ≡ n * each + each = suc-mul n each in
      round_few (some_fired fired) (rounds answer after b.design.procs b.codes b.layout.words.items b.clocked.nodes n o.words next) o (length (kept_calls b.deemed o.made) + suc n * each) (omega (arith, h, first, more)) (omega (arith, more))

  pub kept_few : (inputs : List Number) (m : Machine) → length (kept_of (evaluated answer after b inputs m)) ≤ call_room b
  kept_few inputs m =
      let start : Outside = record m.outside { words = put_inputs inputs (input_words b.design.ports b.layout.words.items) m.outside.words; made = Some [] } in
      let first = nodes_few [] b.settle.nodes start in
      let rest = rounds_few most_runs m.last (settled answer after b inputs m.outside) in
      omega (arith, first, rest)
