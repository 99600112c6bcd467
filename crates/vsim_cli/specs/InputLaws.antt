-- How the files of the design and the stimulus are read, and what that says of the answer.
use Rattle.std.proofs.Common.{◌≡◌, ◌⊎◌, List, [], ◌∷◌, ◌++◌, get_or, Option, Some, None, refl, sym, ap, ◌∙◌, subst, inl, inr, arith}
use Rattle.std.specs.Prelude.{IfSome, Contains}
use Rattle.std.proofs.lemmas.List.Elements.{Contains-get_or, Contains-append_left, Contains-append_right}
use Rattle.vs_world.specs.Outside.{Files, Told, Rose, IsCreatable}
use Rattle.vs_world.specs.EntryLaws.{did_none}
use Rattle.vs_world.specs.declared.world.Stream.{Stream}
use Rattle.vs_world.specs.declared.whole.ReadFault.{ReadFault}
use Rattle.vs_world.specs.declared.whole.ReadFault.TheVariants as fault
use Rattle.run_status.specs.Lines.{Text}
use Rattle.run_status.specs.Answer.{Answer, Refused, Unread, Leaves}
use Rattle.run_status.specs.Stages.{Came}
use Rattle.run_status.specs.StageLaws.{leaves_none}
use Rattle.run_input.specs.Input.{Bytes, NotRead, Missing, Long, file_read, all_read, WhyNot, Stops}
use Rattle.run_input.specs.InputLaws.{why_later}
use Rattle.run_input.specs.declared.files.Stop.{Stop}
use Rattle.fault_text.specs.FaultText.{too_long}
use Rattle.vsim_cli.specs.Case.{Command, HostView, with_stim, names_of, name_or_none, source_name}
use Rattle.vsim_cli.specs.declared.command.Source.{Source}
use Rattle.vsim_cli.specs.declared.command.Source.TheVariants as source
use Rattle.vsim_cli.specs.declared.refusal.Refusal.{Refusal}
use Rattle.vsim_cli.specs.declared.refusal.Refusal.TheVariants as refusal
use Rattle.vsim_cli.specs.Inputs.{Inputs, some_bytes, stim_read, both_read, inputs_read, unread_answer, IsNoStimulus, NotInputs}
use Rattle.vsim_cli.specs.Refusals.{ending_of}
use Rattle.vsim_cli.specs.Answers.{BytesAnswer, InputsAnswer, IsCommandAnswer}

-- ---- the reading

pub stim_none : (name : Option Text) → name ≡ None → (told : Option Files) → IfSome told (λ files. stim_read files name ≡ inr None)
stim_none name is None = tt
stim_none name is (Some files) = ap (stim_read files) is

pub stim_whole : (told : Option Files) (name : Text) (bytes : Bytes) → IfSome told (λ files. file_read name (files name) ≡ inr bytes) → IfSome told (λ files. stim_read files (Some name) ≡ inr (Some bytes))
stim_whole None name bytes read = tt
stim_whole (Some files) name bytes read = ap some_bytes read

pub stim_missed : (told : Option Files) (name : Text) (not : NotRead) → IfSome told (λ files. file_read name (files name) ≡ inl not) → IfSome told (λ files. stim_read files (Some name) ≡ inl not)
stim_missed None name not read = tt
stim_missed (Some files) name not read = ap some_bytes read

module _ (c : Command) where
  -- both were read
  pub both_whole : (told : Option Files) (files : List Bytes) (stim : Option Bytes) → IfSome told (λ world. all_read world c.files ≡ inr files) → IfSome told (λ world. stim_read world c.stim ≡ inr stim)
      → IfSome told (λ world. inputs_read world c ≡ inr (record { files = files; stim = stim }))
  both_whole None files stim first second = tt
  both_whole (Some world) files stim first second = ap (λ r. both_read r (stim_read world c.stim)) first ∙ ap (both_read (inr files)) second

  -- a file of the design was not read
  pub design_unread : (told : Option Files) (not : NotRead) → IfSome told (λ world. all_read world c.files ≡ inl not) → IfSome told (λ world. inputs_read world c ≡ inl not)
  design_unread None not is = tt
  design_unread (Some world) not is = ap (λ r. both_read r (stim_read world c.stim)) is

  -- nor was the stimulus
  pub stim_unread : (told : Option Files) (files : List Bytes) (not : NotRead) → IfSome told (λ world. all_read world c.files ≡ inr files) → IfSome told (λ world. stim_read world c.stim ≡ inl not) → IfSome told (λ world. inputs_read world c ≡ inl not)
  stim_unread None files not first second = tt
  stim_unread (Some world) files not first second = ap (λ r. both_read r (stim_read world c.stim)) first ∙ ap (both_read (inr files)) second

-- ---- why not all files were read

among_files : (files : List Text) (stim : Option Text) (name : Text) → Contains files name → Contains (with_stim files stim) name
among_files files None name among = among
among_files files (Some s) name among = Contains-append_left files (s ∷ []) name among

among_last : (files : List Text) (name : Text) → Contains (files ++ name ∷ []) name
among_last files name = Contains-append_right files (name ∷ []) name (Contains-get_or (name ∷ []) 0 [] (omega arith))

-- a file of the design
pub design_stops : (s : Stop) (c : Command) (a b : Told) → Stops s c.files a b → NotInputs (refusal.Reading (source.Design s.at) s.fault) c a b
design_stops s c a b e = (
  among_files c.files c.stim (get_or c.files s.at []) (Contains-get_or c.files s.at [] e.within),
  why_later (λ not. IfSome a.files (λ files. all_read files c.files ≡ inl not)) (λ not. IfSome a.files (λ files. inputs_read files c ≡ inl not)) s.fault (get_or c.files s.at []) a a b (design_unread c a.files) (leaves_none a) e.why,
)

-- the stimulus, after the files of the design were read
pub stim_stops : (f : ReadFault) (c : Command) (a b d : Told) (files : List Bytes) → Leaves [] a b → IfSome a.files (λ world. all_read world c.files ≡ inr files) → IsNoStimulus f c.stim b d → NotInputs (refusal.Reading source.Stimulus f) c a d
stim_stops f c a b d files left first stop = by c.stim refl stop
  where
    from : (name : Text) → c.stim ≡ Some name → (not : NotRead) → IfSome b.files (λ world. file_read name (world name) ≡ inl not) → IfSome a.files (λ world. inputs_read world c ≡ inl not)
    from name is not read =
        let here = subst (λ (told : Option Files). IfSome told (λ world. file_read name (world name) ≡ inl not)) left.files read in
        let missed = stim_missed a.files name not here in
        stim_unread c a.files files not first (subst (λ (o : Option Text). IfSome a.files (λ world. stim_read world o ≡ inl not)) (sym is) missed)

    by : (o : Option Text) → c.stim ≡ o → IsNoStimulus f o b d → NotInputs (refusal.Reading source.Stimulus f) c a d
    by None is stop = absurd stop
    by (Some name) is stop = subst (λ (o : Option Text). Contains (with_stim c.files o) (name_or_none o) × WhyNot (λ not. IfSome a.files (λ world. inputs_read world c ≡ inl not)) f (name_or_none o) a d) (sym is)
        (among_last c.files name, why_later (λ not. IfSome b.files (λ world. file_read name (world name) ≡ inl not)) (λ not. IfSome a.files (λ world. inputs_read world c ≡ inl not)) f name a b d (from name is) left stop)

-- ---- the answer

module _ (c : Command) (h : HostView) where
  -- it is that of the bytes that were read
  pub read_answer : (told : Option Files) (i : Inputs) → IfSome told (λ files. inputs_read files c ≡ inr i) → (a : Answer) → BytesAnswer c h i a → IsCommandAnswer c h told a
  read_answer None i found a is = tt
  read_answer (Some files) i found a is = subst (λ r. InputsAnswer c h r a) (sym found) is

  -- or that of the file that was not read
  missed_answer : (told : Option Files) (not : NotRead) → IfSome told (λ files. inputs_read files c ≡ inl not) → IsCommandAnswer c h told (unread_answer not)
  missed_answer None not found = tt
  missed_answer (Some files) not found = subst (λ r. InputsAnswer c h r (unread_answer not)) (sym found) refl

  module _ (table : List Text) (a b : Told) (left : Leaves [] a b) where
    failed_cause : (name : Text) → Rose a.faults b.faults ⊎ (Rose a.absent b.absent × IfSome a.files (λ files. inputs_read files c ≡ inl (Missing name))) → Rose a.faults b.faults ⊎ (Rose a.absent b.absent × IsCommandAnswer c h a.files (Unread name))
    failed_cause name (inl rose) = inl rose
    failed_cause name (inr missing) = inr (missing.0, missed_answer a.files (Missing name) missing.1)

    by_fault : (f : ReadFault) (source : Source) → Contains (names_of c) (source_name c source) → WhyNot (λ not. IfSome a.files (λ files. inputs_read files c ≡ inl not)) f (source_name c source) a b
        → Came (IsCommandAnswer c h a.files) (names_of c) (ending_of c table (refusal.Reading source f)) a b
    by_fault fault.World source among why = inl (record { name = source_name c source; among = among; text = refl; cause = failed_cause (source_name c source) why; left = left })
    by_fault fault.TooLong source among why = record { answer = Refused (too_long (source_name c source)); allowed = missed_answer a.files (Long (source_name c source)) why; quiet = refl; refusal = refl; left = left }
    by_fault fault.NoMemory source among why = left

    pub inputs_came : (r : Refusal) → NotInputs r c a b → Came (IsCommandAnswer c h a.files) (names_of c) (ending_of c table r) a b
    inputs_came (refusal.Reading source f) why = by_fault f source why.0 why.1
    inputs_came refusal.NoMemory why = absurd why
    inputs_came (refusal.Lexing f) why = absurd why
    inputs_came (refusal.Preprocessing f) why = absurd why
    inputs_came (refusal.Number at) why = absurd why
    inputs_came (refusal.Parsing f token) why = absurd why
    inputs_came (refusal.Design f) why = absurd why
    inputs_came (refusal.Model f) why = absurd why
    inputs_came (refusal.Stimulus f) why = absurd why
    inputs_came (refusal.Run f) why = absurd why

-- reading creates nothing
pub still_creatable : (s : Stream) (a b : Told) → Leaves [] a b → IsCreatable a.made s → IsCreatable b.made s
still_creatable s a b left can = subst (λ made. IsCreatable made s) (sym (left.made ∙ sym (did_none a).made)) can
