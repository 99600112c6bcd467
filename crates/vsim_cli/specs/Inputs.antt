-- What is read of the files that the words name: those of the design, and then the stimulus.
use Rattle.std.specs.Prelude.{◌≡◌, ◌⊎◌, ℕ, List, Option, Some, None, IfSome, Contains, Vec, map}
use Rattle.std.proofs.Common.{inl, inr}
use Rattle.std.specs.declared.alloc.Global.{Global}
use Rattle.vs_world.specs.Outside.{Files, Told}
use Rattle.vs_world.specs.declared.whole.ReadFault.{ReadFault}
use Rattle.run_status.specs.Lines.{Text}
use Rattle.run_status.specs.Answer.{Answer, Refused, Unread}
use Rattle.run_input.specs.Input.{Bytes, NotRead, Missing, Long, file_read, all_read, WhyNot}
use Rattle.fault_text.specs.FaultText.{too_long}
use Rattle.vsim_cli.specs.Case.{Command, names_of, source_name, bytes_by}
use Rattle.vsim_cli.specs.declared.inputs.Inputs.{Inputs as CodeInputs}
use Rattle.vsim_cli.specs.declared.refusal.Refusal.{Refusal}
use Rattle.vsim_cli.specs.declared.refusal.Refusal.TheVariants as refusal

pub record Inputs : Type 0 where
  pub files : List Bytes
  pub stim : Option Bytes

-- the bytes of the stimulus, where there is one
abbrev pub some_bytes : NotRead ⊎ Bytes → NotRead ⊎ Option Bytes
some_bytes (inl not) = inl not
some_bytes (inr bytes) = inr (Some bytes)

abbrev pub stim_read : Files → Option Text → NotRead ⊎ Option Bytes
stim_read files None = inr None
stim_read files (Some name) = some_bytes (file_read name (files name))

abbrev pub both_read : NotRead ⊎ List Bytes → NotRead ⊎ Option Bytes → NotRead ⊎ Inputs
both_read (inl not) stim = inl not
both_read (inr files) (inl not) = inl not
both_read (inr files) (inr stim) = inr (record { files = files; stim = stim })

-- the bytes of all files, or the first that is not there or is too long
abbrev pub inputs_read : Files → Command → NotRead ⊎ Inputs
inputs_read files c = both_read (all_read files c.files) (stim_read files c.stim)

-- the answer where a file is not read
abbrev pub unread_answer : NotRead → Answer
unread_answer (Missing name) = Unread name
unread_answer (Long name) = Refused (too_long name)

-- ---- as the code has it

abbrev pub inputs_by : CodeInputs → Inputs
inputs_by i = record { files = map (λ (v : Vec ℕ Global). v.items) i.files.items; stim = bytes_by i.stim }

-- why the stimulus was not read, which there is
abbrev pub IsNoStimulus : ReadFault → Option Text → Told → Told → Type 0
IsNoStimulus f None before now = ⊥
IsNoStimulus f (Some name) before now = WhyNot (λ not. IfSome before.files (λ files. file_read name (files name) ≡ inl not)) f name before now

-- a named file was not read, and why
abbrev pub NotInputs : Refusal → Command → Told → Told → Type 0
NotInputs (refusal.Reading source f) c before now =
    Contains (names_of c) (source_name c source) × WhyNot (λ not. IfSome before.files (λ files. inputs_read files c ≡ inl not)) f (source_name c source) before now
NotInputs _ c before now = ⊥
