-- A run as one thread makes it: the words, the host's state and the calls that are kept so far.
use Rattle.std.specs.Prelude.{ℕ, zero, suc, Bool, true, not, if◌then◌else◌, List, [], ◌++◌, slice_set, slice_index, None}
use Rattle.std.specs.List.{fold}
use Rattle.vs_base.specs.Number.{Number}
use Rattle.rtl_ir.specs.declared.design.Proc.{Proc}
use Rattle.plan_graph.specs.declared.node.Node.{Node}
use Rattle.dpi_host.specs.Calls.{Call}
use Rattle.dpi_host.specs.HostMachine.{Answer, After, reply_of}
use Rattle.task_eval.specs.Codes.{Ops}
use Rattle.task_eval.specs.Course.{Course, finished, loading, storing, calling}
use Rattle.task_eval.specs.Buses.{called}
use Rattle.plan_types.specs.Coded.{code_number}
use Rattle.plan_types.specs.Machine.{Machine, is_run, course_at, kept_deed, put_inputs, input_words, fired_of, some_fired}
use Rattle.plan_types.specs.declared.built.Built.{Built}

-- what a run changes
pub record Seen : Type 0 where
  pub words : List ℕ
  pub state : List ℕ
  pub calls : List Call

abbrev pub seen_of : List ℕ → List ℕ → List Call → Seen
seen_of words state calls = record { words = words; state = state; calls = calls }

-- where rounds end: whether nothing fired any more, and what is seen then
pub record SeenEnd : Type 0 where
  pub converged : Bool
  pub seen : Seen

abbrev pub seen_end : Bool → Seen → SeenEnd
seen_end converged s = record { converged = converged; seen = s }

-- what it does not change: what the host fixes, and of each import its number, the width of its result and whether it is deemed safe
pub record Env : Type 0 where
  pub fixed : List (List ℕ)
  pub ids : List ℕ
  pub widths : List ℕ
  pub deemed : List Bool

abbrev pub env_of : List (List ℕ) → List ℕ → List ℕ → List Bool → Env
env_of fixed ids widths deemed = record { fixed = fixed; ids = ids; widths = widths; deemed = deemed }

-- the model as others see it
abbrev pub machine_of : Env → List ℕ → Seen → Machine
machine_of env last s = record {
  outside = record { words = s.words; fixed = env.fixed; state = s.state; ids = env.ids; widths = env.widths; made = None };
  last = last;
  calls = s.calls;
}

module _ (answer : Answer) (after : After) (env : Env) where
  abbrev pub reply_in : ℕ → List ℕ → List ℕ → ℕ
  reply_in import args state = reply_of (slice_index env.widths import) (answer env.fixed state (slice_index env.ids import) args)

  -- an import is called, and the call is kept where the import is not deemed safe
  abbrev pub call_in : ℕ → List ℕ → Seen → Seen
  call_in import args s = record {
    words = s.words;
    state = after env.fixed s.state (slice_index env.ids import) args;
    calls = s.calls ++ kept_deed env.deemed (called (record { import = import; args = args; reply = reply_in import args s.state }));
  }

  abbrev pub store_in : ℕ → ℕ → Seen → Seen
  store_in word value s = record { words = slice_set s.words word value; state = s.state; calls = s.calls }

  -- a run goes to its end
  abbrev pub go : Course → Seen → Seen
  go finished s = s
  go (loading word on) s = go (on (slice_index s.words word)) s
  go (storing word value on) s = go on (store_in word value s)
  go (calling import args on) s = go (on (reply_in import args s.state)) (call_in import args s)

  abbrev pub go_node : List Proc → List Ops → List Bool → Seen → Node → Seen
  go_node procs codes fired s n = if is_run fired n then go (course_at codes (code_number procs n)) s else s

  abbrev pub go_nodes : List Proc → List Ops → List Bool → List Node → Seen → Seen
  go_nodes procs codes fired nodes s = fold (go_node procs codes fired) s nodes

  -- the inputs are put, no call is kept yet, and the combinational processes settle
  abbrev pub settled_in : Built → List Number → Seen → Seen
  settled_in b inputs s = go_nodes b.design.procs b.codes [] b.settle.nodes (seen_of (put_inputs inputs (input_words b.design.ports b.layout.words.items) s.words) s.state [])

  -- rounds of the clocked nodes, of which the last is a test alone
  unfoldable pub rounds_in : Built → ℕ → List ℕ → Seen → SeenEnd
  rounds_in b zero last s = seen_end (not (some_fired (fired_of b.design.procs b.layout.words.items last s.words))) s
  rounds_in b (suc n) last s =
      if some_fired (fired_of b.design.procs b.layout.words.items last s.words)
      then rounds_in b n s.words (go_nodes b.design.procs b.codes (fired_of b.design.procs b.layout.words.items last s.words) b.clocked.nodes s)
      else seen_end true s
