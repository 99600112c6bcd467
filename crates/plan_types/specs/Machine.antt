-- What a run of a compiled model means, on words and codes alone.
use Rattle.std.specs.Prelude.{◌≡◌, ◌==◌, ℕ, zero, suc, Bool, true, false, ◌&&◌, not, if◌then◌else◌, nat_lt, List, [], ◌∷◌, ◌++◌, map, slice_get, slice_set, slice_index, slice_index_or, Option, Some, None, pos}
use Rattle.std.specs.List.{list_any, fold}
use Rattle.vs_base.specs.Number.{Number, kept, sliced, placed}
use Rattle.vs_base.specs.declared.types.ValueType.{ValueType}
use Rattle.rtl_ir.specs.declared.design.Var.{Var}
use Rattle.rtl_ir.specs.declared.design.Port.{Port}
use Rattle.rtl_ir.specs.declared.design.Import.{Import}
use Rattle.rtl_ir.specs.declared.design.Event.{Event}
use Rattle.rtl_ir.specs.declared.design.Proc.{Proc}
use Rattle.rtl_ir.specs.declared.design.ProcKind.{ProcKind}
use Rattle.rtl_ir.specs.declared.design.ProcKind.TheVariants.{Comb, Clocked}
use Rattle.rtl_ir.specs.declared.whole.Design.{Design}
use Rattle.rtl_pieces.specs.declared.layout.Word.{Word}
use Rattle.plan_graph.specs.declared.node.Node.{Node}
use Rattle.plan_graph.specs.declared.node.Node.TheVariants as node
use Rattle.dpi_host.specs.Calls.{Call}
use Rattle.dpi_host.specs.HostMachine.{Answer, After}
use Rattle.task_eval.specs.Codes.{Ops}
use Rattle.task_eval.specs.Course.{Course, finished, course_of}
use Rattle.task_eval.specs.Buses.{Outside, Deed, stored, called, run}
use Rattle.plan_types.specs.Coded.{code_number}
use Rattle.plan_types.specs.declared.input.InputWord.{InputWord}
use Rattle.plan_types.specs.declared.built.Built.{Built}

-- A model between two evals: its words, the host and the imports, the words at the last test of what fired, and the calls of the eval
-- before that are kept. What the outside tells of stores and calls is that of an eval under way, and between two of them there is none.
pub record Machine : Type 0 where
  pub outside : Outside
  pub last : List ℕ
  pub calls : List Call

-- ---- where a variable stands

-- a word holds bits of a variable, and not as a shadow; word 0 of a table holds none
abbrev pub is_piece : Word → Bool
is_piece word = not word.holds.mem && (not word.shadow && nat_lt 0 word.len)

-- it holds bits of this variable
abbrev pub holds_of : ℕ → Word → Bool
holds_of var word = is_piece word && (word.holds.item == var)

-- the first word with bits of a variable, where the first of these has a number; 0 where there is none
abbrev pub event_word_from : ℕ → List Word → ℕ → ℕ
event_word_from k [] var = 0
event_word_from k (word ∷ more) var = if holds_of var word then k else event_word_from (suc k) more var

abbrev pub event_word : List Word → ℕ → ℕ
event_word words var = event_word_from 0 words var

-- the bits of a variable's value that a word holds
abbrev pub part_of : Number → ℕ → ℕ → ℕ
part_of n bit len = (sliced n (pos bit) len).value

-- ---- inputs

-- the variables of the input ports, in order
abbrev pub input_vars : List Port → List ℕ
input_vars [] = []
input_vars (port ∷ more) = if port.input then port.var ∷ input_vars more else input_vars more

-- the last input of a variable, of those from a number on
abbrev pub input_from : Option ℕ → ℕ → List ℕ → ℕ → Option ℕ
input_from found k [] var = found
input_from found k (v ∷ more) var = input_from (if v == var then Some k else found) (suc k) more var

abbrev pub input_of : List ℕ → ℕ → Option ℕ
input_of vars var = input_from None 0 vars var

-- word k, where it has bits of an input
abbrev pub input_word : ℕ → Word → Option ℕ → List InputWord
input_word k word (Some input) = if is_piece word then record { word = k; input = input; bit = word.holds.bit; len = word.len } ∷ [] else []
input_word k word None = []

-- the words with bits of inputs, in order, where the first of these words has a number
abbrev pub input_words_from : ℕ → List ℕ → List Word → List InputWord
input_words_from k vars [] = []
input_words_from k vars (word ∷ more) = input_word k word (input_of vars word.holds.item) ++ input_words_from (suc k) vars more

abbrev pub input_words : List Port → List Word → List InputWord
input_words ports words = input_words_from 0 (input_vars ports) words

abbrev pub no_number : Number
no_number = record { width = 1; value = 0 }

-- a word is given its bits of its input
abbrev pub put_input : List Number → List ℕ → InputWord → List ℕ
put_input inputs values w = slice_set values w.word (part_of (slice_index_or inputs w.input no_number) w.bit w.len)

abbrev pub put_inputs : List Number → List InputWord → List ℕ → List ℕ
put_inputs inputs words values = fold (put_input inputs) values words

-- one value for each input port, in order, of its width
abbrev pub width_if : Option Var → ℕ
width_if (Some x) = x.width
width_if None = 1

abbrev pub width_of : List Var → ℕ → ℕ
width_of vars v = width_if (slice_get vars v)

abbrev pub IsInput : Design → List Number → Type 0
IsInput design inputs = map (λ (n : Number). n.width) inputs ≡ map (width_of design.vars) (input_vars design.ports)

-- ---- events (IEEE 1800-2017 9.4.2, at two states)

-- from 0 to 1, and otherwise from 1 to 0
abbrev pub is_edge : Bool → ℕ → ℕ → Bool
is_edge true was is = (was == 0) && (is == 1)
is_edge false was is = (was == 1) && (is == 0)

-- an event has its edge between two lists of values
abbrev pub occurs : List Word → List ℕ → List ℕ → Event → Bool
occurs words last now e = is_edge e.rising (slice_index last (event_word words e.var)) (slice_index now (event_word words e.var))

abbrev pub kind_fires : List Word → List ℕ → List ℕ → ProcKind → Bool
kind_fires words last now Comb = false
kind_fires words last now (Clocked events) = list_any (occurs words last now) events

-- which processes fire
abbrev pub fired_of : List Proc → List Word → List ℕ → List ℕ → List Bool
fired_of procs words last now = map (λ (p : Proc). kind_fires words last now p.kind) procs

-- ---- nodes

-- a combinational process always runs, a body and a commit where their process fired
abbrev pub is_run : List Bool → Node → Bool
is_run fired (node.Comb p) = true
is_run fired (node.Body p) = slice_index_or fired p false
is_run fired (node.Commit p) = slice_index_or fired p false

abbrev pub course_if : Option Ops → Course
course_if (Some code) = course_of code
course_if None = finished

abbrev pub course_at : List Ops → ℕ → Course
course_at codes n = course_if (slice_get codes n)

-- ---- calls

-- the calls of imports that are not deemed safe, in order
abbrev pub kept_deed : List Bool → Deed → List Call
kept_deed deemed (stored word value) = []
kept_deed deemed (called call) = if slice_index_or deemed call.import false then [] else call ∷ []

abbrev pub kept_deeds : List Bool → List Deed → List Call
kept_deeds deemed [] = []
kept_deeds deemed (deed ∷ more) = kept_deed deemed deed ++ kept_deeds deemed more

abbrev pub kept_calls : List Bool → Option (List Deed) → List Call
kept_calls deemed (Some made) = kept_deeds deemed made
kept_calls deemed None = []

-- ---- rounds

abbrev pub some_fired : List Bool → Bool
some_fired fired = list_any (λ (f : Bool). f) fired

-- how often the clocked nodes may run in one eval
unfoldable pub most_runs : ℕ
most_runs = 99

-- where an eval ends: whether nothing fired any more, and what stands then
pub record Ended : Type 0 where
  pub converged : Bool
  pub outside : Outside

abbrev pub ended : Bool → Outside → Ended
ended converged o = record { converged = converged; outside = o }

-- ---- an eval, on a host that answers so, and moves its state so

module _ (answer : Answer) (after : After) where
  abbrev pub run_node : List Proc → List Ops → List Bool → Outside → Node → Outside
  run_node procs codes fired o n = if is_run fired n then run answer after (course_at codes (code_number procs n)) o else o

  -- nodes one after another
  abbrev pub run_nodes : List Proc → List Ops → List Bool → List Node → Outside → Outside
  run_nodes procs codes fired nodes o = fold (run_node procs codes fired) o nodes

  -- the inputs are put, and the combinational processes settle
  abbrev pub settled : Built → List Number → Outside → Outside
  settled b inputs o =
      run_nodes b.design.procs b.codes [] b.settle.nodes (record o {
        words = put_inputs inputs (input_words b.design.ports b.layout.words.items) o.words;
        made = Some [];
      })

  -- Rounds of these clocked nodes, of which the last is a test alone. A round tests which processes fire from the words at the test
  -- before to those of now. Where one does, those that fired run, and the combinational ones settle again; otherwise the eval ends.
  module _ (procs : List Proc) (codes : List Ops) (words : List Word) (nodes : List Node) where
    abbrev pub rounds : ℕ → List ℕ → Outside → Ended
    rounds zero last o = ended (not (some_fired (fired_of procs words last o.words))) o
    rounds (suc n) last o =
        if some_fired (fired_of procs words last o.words) then rounds n o.words (run_nodes procs codes (fired_of procs words last o.words) nodes o) else ended true o

  -- where an eval ends
  abbrev pub ends : Built → List Number → Machine → Ended
  ends b inputs m = rounds b.design.procs b.codes b.layout.words.items b.clocked.nodes most_runs m.last (settled b inputs m.outside)

  -- an eval is at its end
  abbrev pub closed : Built → Outside → Machine
  closed b o = record { outside = record o { made = None }; last = o.words; calls = kept_calls b.deemed o.made }

  -- one eval
  abbrev pub evaluated : Built → List Number → Machine → Machine
  evaluated b inputs m = closed b (ends b inputs m).outside

  -- it ends where nothing fires any more, and not for the number of its rounds
  abbrev pub converges : Built → List Number → Machine → Bool
  converges b inputs m = (ends b inputs m).converged

-- ---- the opening

-- the bits of a variable's first value that a word holds; a memory is 0
abbrev pub opening_if : Word → Option Var → ℕ
opening_if word (Some x) = part_of x.init word.holds.bit word.len
opening_if word None = 0

abbrev pub opening_word : List Var → Word → ℕ
opening_word vars word = if word.holds.mem then 0 else opening_if word (slice_get vars word.holds.item)

abbrev pub opening_words : List Var → List Word → List ℕ
opening_words vars words = map (opening_word vars) words

-- the width of an import's result; a void one has none
abbrev pub result_width : Option ValueType → ℕ
result_width (Some t) = t.width
result_width None = 0

abbrev pub result_widths : List Import → List ℕ
result_widths imports = map (λ (i : Import). result_width i.result) imports

-- before the first eval, on a host
abbrev pub opening : Built → List (List ℕ) → List ℕ → Machine
opening b fixed state = record {
  outside = record {
    words = opening_words b.design.vars b.layout.words.items;
    fixed = fixed;
    state = state;
    ids = b.ids;
    widths = result_widths b.design.imports;
    made = None;
  };
  last = map (λ (w : Word). 0) b.layout.words.items;
  calls = [];
}

-- ---- what a reader sees

-- the calls of the last eval that are kept
abbrev pub kept_of : Machine → List Call
kept_of m = m.calls

-- a variable's value, put together from the words that hold its bits
abbrev pub with_piece : ℕ → Number → Word → ℕ → Number
with_piece var so_far word value = if holds_of var word then placed so_far (pos word.holds.bit) (kept word.len value) else so_far

abbrev pub value_from : ℕ → Number → List Word → List ℕ → Number
value_from var so_far [] values = so_far
value_from var so_far (word ∷ words) [] = so_far
value_from var so_far (word ∷ words) (value ∷ values) = value_from var (with_piece var so_far word value) words values

-- those of the variables from a number on
abbrev pub values_from : ℕ → List Var → List Word → List ℕ → List Number
values_from var [] words values = []
values_from var (x ∷ more) words values = value_from var (record { width = x.width; value = 0 }) words values ∷ values_from (suc var) more words values

abbrev pub values_of : Built → Machine → List Number
values_of b m = values_from 0 b.design.vars b.layout.words.items m.outside.words
