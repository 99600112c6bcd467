-- What a run of a compiled model does to the world, entry by entry.
use Rattle.std.specs.Prelude.{ℕ, ◌+◌, List, [], ◌∷◌, ◌++◌, Bool, if◌then◌else◌, Option, Some, None, is_some}
use Rattle.std.specs.List.{fold}
use Rattle.vs_base.specs.Number.{Number}
use Rattle.vs_world.specs.declared.world.Stream.{Stream}
use Rattle.vs_world.specs.declared.world.Stream.TheVariants.{Out, Calls, Vcd}
use Rattle.vs_world.specs.Entries.{Entry, Creates, Writes}
use Rattle.dpi_host.specs.Calls.{Call}
use Rattle.dpi_host.specs.HostMachine.{Answer, After}
use Rattle.rtl_ir.specs.declared.whole.Design.{Design}
use Rattle.plan_types.specs.declared.built.Built.{Built}
use Rattle.plan_types.specs.Machine.{Machine, evaluated, converges, kept_of, values_of}
use Rattle.vcd_out.specs.Header.{header_text}
use Rattle.vcd_out.specs.Changes.{change_text}
use Rattle.sim_session.specs.Lines.{out_line}
use Rattle.sim_session.specs.CallLines.{call_lines}
use Rattle.sim_session.specs.declared.texts.Texts.{Texts}

-- what does not change in a run: a host's answers and moves, the model, and the files of the texts that are wanted
pub record Setting : Type 0 where
  pub answer : Answer
  pub after : After
  pub built : Built
  pub texts : Texts

abbrev pub setting : Answer → After → Built → Texts → Setting
setting answer after built texts = record { answer = answer; after = after; built = built; texts = texts }

-- the machine after an eval, and after several
abbrev pub after_eval : Setting → Machine → List Number → Machine
after_eval s m inputs = evaluated s.answer s.after s.built inputs m

abbrev pub after_evals : Setting → List (List Number) → Machine → Machine
after_evals s inputs m = fold (after_eval s) m inputs

abbrev pub eval_converges : Setting → Machine → List Number → Bool
eval_converges s m inputs = converges s.answer s.after s.built inputs m

-- ---- the files

-- the file of a stream, where it has a name
abbrev pub creation : Stream → Option (List ℕ) → List Entry
creation stream (Some name) = Creates stream name ∷ []
creation stream None = []

-- the call log, and then the waveform
abbrev pub creations : Texts → List Entry
creations texts = creation Calls texts.calls ++ creation Vcd texts.vcd

-- ---- the entries of eval k

-- its line, of the values after it
abbrev pub line_entry : Design → ℕ → List Number → Entry
line_entry d k now = Writes Out (out_line d.vars d.ports k now)

-- a text, where there is any
abbrev pub some_text : Stream → List ℕ → List Entry
some_text stream [] = []
some_text stream (byte ∷ bytes) = Writes stream (byte ∷ bytes) ∷ []

-- its calls, where a call log is wanted
abbrev pub calls_entries : Bool → Design → ℕ → List Call → List Entry
calls_entries logs d k calls = if logs then some_text Calls (call_lines d.imports k calls) else []

-- the changes of the values, at the time k + 1, where a waveform is wanted
abbrev pub changes_entries : Bool → Design → ℕ → List Number → List Number → List Entry
changes_entries waves d k was now = if waves then Writes Vcd (change_text d.vars d.scopes was now (k + 1)) ∷ [] else []

-- in this order
abbrev pub besides : Texts → Design → ℕ → List Call → List Number → List Number → List Entry
besides texts d k calls was now = calls_entries (is_some texts.calls) d k calls ++ changes_entries (is_some texts.vcd) d k was now

abbrev pub all_texts : Texts → Design → ℕ → List Call → List Number → List Number → List Entry
all_texts texts d k calls was now = line_entry d k now ∷ besides texts d k calls was now

-- between two states of the machine
unfoldable pub eval_entries : Setting → ℕ → Machine → Machine → List Entry
eval_entries s k was now = all_texts s.texts s.built.design k (kept_of now) (values_of s.built was) (values_of s.built now)

-- ---- evals at these inputs, from eval k on, up to the first one that does not converge

unfoldable pub run_entries : Setting → ℕ → Machine → List (List Number) → List Entry
run_entries s k m [] = []
run_entries s k m (inputs ∷ more) = if eval_converges s m inputs then eval_entries s k m (after_eval s m inputs) ++ run_entries s (k + 1) (after_eval s m inputs) more else []

-- its number, where there is one
unfoldable pub stops_from : Setting → ℕ → Machine → List (List Number) → Option ℕ
stops_from s k m [] = None
stops_from s k m (inputs ∷ more) = if eval_converges s m inputs then stops_from s (k + 1) (after_eval s m inputs) more else Some k

-- ---- the whole

-- the header, where a waveform is wanted
abbrev pub header_entries : Bool → Design → List Entry
header_entries waves d = if waves then Writes Vcd (header_text d.vars d.scopes) ∷ [] else []

-- the header, and then the evals
abbrev pub session_writes : Setting → Machine → List (List Number) → List Entry
session_writes s m inputs = header_entries (is_some s.texts.vcd) s.built.design ++ run_entries s 0 m inputs

-- all that a run does, in order: the files are created, and then the texts are written
abbrev pub session_entries : Setting → Machine → List (List Number) → List Entry
session_entries s m inputs = creations s.texts ++ session_writes s m inputs

-- the first eval that does not converge
abbrev pub stops_at : Setting → Machine → List (List Number) → Option ℕ
stops_at s m inputs = stops_from s 0 m inputs
