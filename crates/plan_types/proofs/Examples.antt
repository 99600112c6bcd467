-- A model of a few words, and what the terms say of it.
use Rattle.std.proofs.Common.{◌≡◌, ℕ, List, [], ◌∷◌, true, false, Some, None, refl}
use Rattle.rtl_pieces.specs.declared.layout.Word.{Word}
use Rattle.rtl_ir.specs.declared.design.Port.{Port}
use Rattle.rtl_ir.specs.declared.design.Event.{Event}
use Rattle.rtl_ir.specs.declared.design.Proc.{Proc}
use Rattle.rtl_ir.specs.declared.design.ProcKind.{ProcKind}
use Rattle.rtl_ir.specs.declared.design.ProcKind.TheVariants.{Comb, Clocked}
use Rattle.plan_graph.specs.declared.node.Edge.{Edge}
use Rattle.plan_graph.specs.declared.node.Node.{Node}
use Rattle.plan_graph.specs.declared.node.Node.TheVariants as node
use Rattle.vs_base.specs.Number.{Number}
use Rattle.dpi_host.specs.Calls.{Call}
use Rattle.dpi_host.specs.HostMachine.{Answer, After}
use Rattle.task_eval.specs.Codes.{Ops}
use Rattle.task_eval.specs.declared.op.Op.TheVariants as op
use Rattle.task_eval.specs.declared.op.One.TheVariants as one
use Rattle.task_eval.specs.Buses.{Outside, stored, called}
use Rattle.plan_types.specs.declared.input.InputWord.{InputWord}
use Rattle.plan_graph.specs.Groupings.{ascends, group_edges, keeps}
use Rattle.plan_types.specs.Machine.{event_word, input_vars, input_words, put_inputs, is_edge, kind_fires, fired_of, is_run, run_nodes, ended, rounds, kept_deeds, value_from}
use Rattle.plan_types.specs.Coded.{code_number}
use Rattle.plan_types.specs.Room.{calls_if}

-- ---- plans

abbrev edge : ℕ → ℕ → Edge
edge i j = record { from = i; to = j }

abbrev diamond : List Edge
diamond = edge 0 1 ∷ edge 0 2 ∷ edge 1 3 ∷ edge 2 3 ∷ []

-- of two groups the second waits for the first, by the edges that lead across
waits : group_edges ((0 ∷ 1 ∷ 2 ∷ []) ∷ (3 ∷ []) ∷ []) diamond ≡ edge 0 1 ∷ edge 0 1 ∷ []
waits = refl

-- two groups that wait for each other
wait_for_each_other : group_edges ((0 ∷ 3 ∷ []) ∷ (1 ∷ 2 ∷ []) ∷ []) diamond ≡ edge 0 1 ∷ edge 0 1 ∷ edge 1 0 ∷ edge 1 0 ∷ []
wait_for_each_other = refl

serial_order : ascends (0 ∷ 2 ∷ 3 ∷ []) ≡ true
serial_order = refl

none_twice : ascends (0 ∷ 2 ∷ 2 ∷ []) ≡ false
none_twice = refl

placed_before : keeps (2 ∷ 0 ∷ 1 ∷ []) (edge 0 1) ≡ true
placed_before = refl

placed_after : keeps (2 ∷ 0 ∷ 1 ∷ []) (edge 0 2) ≡ false
placed_after = refl

-- ---- words: variable 0 in two words, variable 1 in one, and its shadow

abbrev word : ℕ → ℕ → ℕ → Word
word var bit len = record { holds = record { mem = false; item = var; element = 0; bit = bit }; len = len; shadow = false }

abbrev shadow : ℕ → ℕ → Word
shadow var len = record { holds = record { mem = false; item = var; element = 0; bit = 0 }; len = len; shadow = true }

abbrev words : List Word
words = word 0 0 0 ∷ word 0 0 4 ∷ word 0 4 4 ∷ word 1 0 1 ∷ shadow 1 1 ∷ []

-- word 0 is the table's, and holds no bit of variable 0
first_word : event_word words 0 ≡ 1
first_word = refl

no_shadow : event_word words 1 ≡ 3
no_shadow = refl

no_word : event_word words 2 ≡ 0
no_word = refl

-- ---- inputs: variable 1 is an output, 0 an input, and 2 an input

abbrev ports : List Port
ports = record { var = 1; input = false } ∷ record { var = 2; input = true } ∷ record { var = 0; input = true } ∷ []

inputs_alone : input_vars ports ≡ 2 ∷ 0 ∷ []
inputs_alone = refl

abbrev to : ℕ → ℕ → ℕ → ℕ → InputWord
to word input bit len = record { word = word; input = input; bit = bit; len = len }

both_words : input_words ports words ≡ to 1 1 0 4 ∷ to 2 1 4 4 ∷ []
both_words = refl

abbrev bits : ℕ → ℕ → Number
bits width value = record { width = width; value = value }

put : put_inputs (bits 1 1 ∷ bits 8 0xa5 ∷ []) (to 1 1 0 4 ∷ to 2 1 4 4 ∷ []) (0 ∷ 0 ∷ 0 ∷ 1 ∷ 1 ∷ []) ≡ 0 ∷ 5 ∷ 10 ∷ 1 ∷ 1 ∷ []
put = refl

-- ---- events

rises : is_edge true 0 1 ≡ true
rises = refl

stays : is_edge true 1 1 ≡ false
stays = refl

falls : is_edge false 1 0 ≡ true
falls = refl

abbrev rising : ℕ → Event
rising var = record { var = var; rising = true }

fires : kind_fires words (0 ∷ 0 ∷ 0 ∷ 0 ∷ 0 ∷ []) (0 ∷ 0 ∷ 0 ∷ 1 ∷ 0 ∷ []) (Clocked (rising 1 ∷ [])) ≡ true
fires = refl

does_not_fire : kind_fires words (0 ∷ 0 ∷ 0 ∷ 1 ∷ 0 ∷ []) (0 ∷ 0 ∷ 0 ∷ 1 ∷ 0 ∷ []) (Clocked (rising 1 ∷ [])) ≡ false
does_not_fire = refl

commit_of_one_that_fired : is_run (false ∷ true ∷ []) (node.Commit 1) ≡ true
commit_of_one_that_fired = refl

body_of_one_that_did_not : is_run (false ∷ true ∷ []) (node.Body 0) ≡ false
body_of_one_that_did_not = refl

-- ---- calls: import 0 is deemed safe

abbrev call : ℕ → ℕ → Call
call import reply = record { import = import; args = []; reply = reply }

kept : kept_deeds (true ∷ false ∷ []) (called (call 0 1) ∷ called (call 1 2) ∷ stored 3 4 ∷ called (call 1 5) ∷ []) ≡ call 1 2 ∷ call 1 5 ∷ []
kept = refl

-- ---- values

put_together : value_from 0 (bits 8 0) words (9 ∷ 5 ∷ 10 ∷ 1 ∷ 0 ∷ []) ≡ bits 8 0xa5
put_together = refl

not_the_shadow : value_from 1 (bits 1 0) words (9 ∷ 5 ∷ 10 ∷ 1 ∷ 0 ∷ []) ≡ bits 1 1
not_the_shadow = refl

-- ---- nodes: process 0 is combinational, 1 and 2 are clocked

abbrev proc : ProcKind → Proc
proc kind = record { kind = kind; body = []; at = record { file = 0; line = 1; col = 1 } }

abbrev procs : List Proc
procs = proc Comb ∷ proc (Clocked (rising 1 ∷ [])) ∷ proc (Clocked (rising 0 ∷ [])) ∷ []

body_has_its_process : code_number procs (node.Body 2) ≡ 2
body_has_its_process = refl

first_commit : code_number procs (node.Commit 1) ≡ 3
first_commit = refl

second_commit : code_number procs (node.Commit 2) ≡ 4
second_commit = refl

only_one_fires : fired_of procs words (0 ∷ 0 ∷ 0 ∷ 0 ∷ 0 ∷ []) (0 ∷ 2 ∷ 0 ∷ 1 ∷ 0 ∷ []) ≡ false ∷ true ∷ false ∷ []
only_one_fires = refl

-- process 1 copies word 2 to word 1, and process 2 copies word 1 to word 2, by the shadows 3 and 4
abbrev copy : ℕ → ℕ → Ops
copy from into = record { ops = op.Load from 8 ∷ op.Store into 8 ∷ []; stack = 1 }

abbrev codes : List Ops
codes = record { ops = []; stack = 0 } ∷ copy 2 3 ∷ copy 1 4 ∷ copy 3 1 ∷ copy 4 2 ∷ []

abbrev values_only : List ℕ → Outside
values_only values = record { words = values; fixed = []; state = []; ids = []; widths = []; made = None }

-- both bodies run before the first commit, so the words are exchanged
exchanged : (answer : Answer) (after : After) → run_nodes answer after procs codes (false ∷ true ∷ true ∷ []) (node.Body 1 ∷ node.Body 2 ∷ node.Commit 1 ∷ node.Commit 2 ∷ []) (values_only (0 ∷ 5 ∷ 9 ∷ 0 ∷ 0 ∷ [])) ≡ values_only (0 ∷ 9 ∷ 5 ∷ 9 ∷ 5 ∷ [])
exchanged answer after = refl

-- and a process that did not fire writes nothing
one_alone : (answer : Answer) (after : After) → run_nodes answer after procs codes (false ∷ true ∷ false ∷ []) (node.Body 1 ∷ node.Body 2 ∷ node.Commit 1 ∷ node.Commit 2 ∷ []) (values_only (0 ∷ 5 ∷ 9 ∷ 0 ∷ 0 ∷ [])) ≡ values_only (0 ∷ 9 ∷ 9 ∷ 9 ∷ 0 ∷ [])
one_alone answer after = refl

-- ---- rounds: variable 0 is a clock in word 1, variables 1 and 2 are flip-flops in the words 2 and 3, with shadows in 4 and 5

abbrev flops : List Word
flops = word 0 0 0 ∷ word 0 0 1 ∷ word 1 0 1 ∷ word 2 0 1 ∷ shadow 1 1 ∷ shadow 2 1 ∷ []

-- process 0 toggles the first flip-flop where the clock rises, and process 1 the second where the first rises
abbrev ripple : List Proc
ripple = proc (Clocked (rising 0 ∷ [])) ∷ proc (Clocked (rising 1 ∷ [])) ∷ []

abbrev toggle : ℕ → ℕ → Ops
toggle from into = record { ops = op.Load from 1 ∷ op.One one.Invert ∷ op.Store into 1 ∷ []; stack = 1 }

abbrev move_bit : ℕ → ℕ → Ops
move_bit from into = record { ops = op.Load from 1 ∷ op.Store into 1 ∷ []; stack = 1 }

abbrev flop_codes : List Ops
flop_codes = toggle 2 4 ∷ toggle 3 5 ∷ move_bit 4 2 ∷ move_bit 5 3 ∷ []

abbrev flop_nodes : List Node
flop_nodes = node.Body 0 ∷ node.Body 1 ∷ node.Commit 0 ∷ node.Commit 1 ∷ []

-- the clock has risen: it toggles the first, which rises and toggles the second, and then nothing fires
ripples : (answer : Answer) (after : After) → rounds answer after ripple flop_codes flops flop_nodes 2 (0 ∷ 0 ∷ 0 ∷ 0 ∷ 0 ∷ 0 ∷ []) (values_only (0 ∷ 1 ∷ 0 ∷ 0 ∷ 0 ∷ 0 ∷ [])) ≡ ended true (values_only (0 ∷ 1 ∷ 1 ∷ 1 ∷ 1 ∷ 1 ∷ []))
ripples answer after = refl

-- with one run fewer it has not converged: the second flip-flop still fires, and does not run
cut_short : (answer : Answer) (after : After) → rounds answer after ripple flop_codes flops flop_nodes 1 (0 ∷ 0 ∷ 0 ∷ 0 ∷ 0 ∷ 0 ∷ []) (values_only (0 ∷ 1 ∷ 0 ∷ 0 ∷ 0 ∷ 0 ∷ [])) ≡ ended false (values_only (0 ∷ 1 ∷ 1 ∷ 0 ∷ 1 ∷ 0 ∷ []))
cut_short answer after = refl

-- the first flip-flop falls, which is no event of the second; an event of one test is none of the next
falls_once : (answer : Answer) (after : After) → rounds answer after ripple flop_codes flops flop_nodes 7 (0 ∷ 0 ∷ 1 ∷ 1 ∷ 1 ∷ 1 ∷ []) (values_only (0 ∷ 1 ∷ 1 ∷ 1 ∷ 1 ∷ 1 ∷ [])) ≡ ended true (values_only (0 ∷ 1 ∷ 0 ∷ 1 ∷ 0 ∷ 1 ∷ []))
falls_once answer after = refl

-- nothing fires, and nothing runs
quiet : (answer : Answer) (after : After) → rounds answer after ripple flop_codes flops flop_nodes 7 (0 ∷ 1 ∷ 1 ∷ 1 ∷ 1 ∷ 1 ∷ []) (values_only (0 ∷ 1 ∷ 1 ∷ 1 ∷ 1 ∷ 1 ∷ [])) ≡ ended true (values_only (0 ∷ 1 ∷ 1 ∷ 1 ∷ 1 ∷ 1 ∷ []))
quiet answer after = refl

-- one process toggles the first flip-flop at each of its own edges
abbrev oscillator : List Proc
oscillator = proc (Clocked (rising 1 ∷ record { var = 1; rising = false } ∷ [])) ∷ []

abbrev own_codes : List Ops
own_codes = toggle 2 4 ∷ move_bit 4 2 ∷ []

-- it never converges, however often it runs: after one run it stands at 0, after two at 1
runs_once : (answer : Answer) (after : After) → rounds answer after oscillator own_codes flops (node.Body 0 ∷ node.Commit 0 ∷ []) 1 (0 ∷ 0 ∷ 0 ∷ 0 ∷ 0 ∷ 0 ∷ []) (values_only (0 ∷ 0 ∷ 1 ∷ 0 ∷ 0 ∷ 0 ∷ [])) ≡ ended false (values_only (0 ∷ 0 ∷ 0 ∷ 0 ∷ 0 ∷ 0 ∷ []))
runs_once answer after = refl

runs_twice : (answer : Answer) (after : After) → rounds answer after oscillator own_codes flops (node.Body 0 ∷ node.Commit 0 ∷ []) 2 (0 ∷ 0 ∷ 0 ∷ 0 ∷ 0 ∷ 0 ∷ []) (values_only (0 ∷ 0 ∷ 1 ∷ 0 ∷ 0 ∷ 0 ∷ [])) ≡ ended false (values_only (0 ∷ 0 ∷ 1 ∷ 0 ∷ 1 ∷ 0 ∷ []))
runs_twice answer after = refl

-- ---- the room of calls: import 0 is deemed safe

two_of_three : calls_if (true ∷ false ∷ []) (Some (record { ops = op.Call 1 0 8 ∷ op.Call 0 1 8 ∷ op.Call 1 1 8 ∷ op.Store 2 8 ∷ []; stack = 1 })) ≡ 2
two_of_three = refl
