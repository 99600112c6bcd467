-- What a command asks for, and the host that its design calls.
use Rattle.std.specs.Prelude.{ℕ, Bool, List, [], ◌∷◌, ◌++◌, get_or, Option, Some, None, Vec}
use Rattle.std.specs.Option.{option_map}
use Rattle.std.specs.declared.alloc.Global.{Global}
use Rattle.dpi_host.specs.declared.mode.Mode.{Mode}
use Rattle.dpi_host.specs.HostMachine.{Answer, After}
use Rattle.run_status.specs.Lines.{Text}
use Rattle.run_input.specs.Input.{Bytes}
use Rattle.sim_session.specs.declared.texts.Texts.{Texts}
use Rattle.vsim_words.specs.declared.options.Action.{Action}
use Rattle.vsim_words.specs.declared.options.Action.TheVariants.{Lint, Stim}
use Rattle.vsim_words.specs.Settings.{Settings}
use Rattle.vsim_cli.specs.declared.command.Command.{Command as CodeCommand}
use Rattle.vsim_cli.specs.declared.command.Source.{Source}
use Rattle.vsim_cli.specs.declared.command.Source.TheVariants as source

-- the files of the design, the stimulus where the design is to be run, the module at the top where one is named, which imports are deemed
-- safe, and the files of the texts
pub record Command : Type 0 where
  pub files : List Text
  pub stim : Option Text
  pub top : Option Text
  pub mode : Mode
  pub texts : Texts

-- a host: the numbers of its imports by their names, which of them answer by their arguments alone, what a call answers and leaves, and its state
pub record HostView : Type 0 where
  pub id_of : List ℕ → Option ℕ
  pub by_args : ℕ → Bool
  pub answer : Answer
  pub after : After
  pub fixed : List (List ℕ)
  pub state : List ℕ

-- ---- what settings ask for

-- the name of the stimulus, where the design is to be run
abbrev pub stim_of : Action → Option Text
stim_of Lint = None
stim_of (Stim name) = Some name

abbrev pub command_of : Settings → Command
command_of s = record { files = s.files; stim = stim_of s.action; top = s.top_module; mode = s.threads_dpi; texts = record { calls = s.calls; vcd = s.vcd } }

-- the files that are read, in their order
abbrev pub with_stim : List Text → Option Text → List Text
with_stim files None = files
with_stim files (Some name) = files ++ name ∷ []

abbrev pub names_of : Command → List Text
names_of c = with_stim c.files c.stim

abbrev pub name_or_none : Option Text → Text
name_or_none None = []
name_or_none (Some name) = name

-- the name of one of them
abbrev pub source_name : Command → Source → Text
source_name c (source.Design number) = get_or c.files number []
source_name c source.Stimulus = name_or_none c.stim

-- ---- as the code has it

abbrev pub command_by : CodeCommand → Command
command_by c = record { files = c.files.items; stim = c.stim; top = c.top; mode = c.mode; texts = c.texts }

abbrev pub host_view : (List ℕ → Option ℕ) → (ℕ → Bool) → Answer → After → List (List ℕ) → List ℕ → HostView
host_view id_of by_args answer after fixed state = record { id_of = id_of; by_args = by_args; answer = answer; after = after; fixed = fixed; state = state }

abbrev pub bytes_by : Option (Vec ℕ Global) → Option Bytes
bytes_by o = option_map (λ (v : Vec ℕ Global). v.items) o
