-- From the stages of a command to what the status says.
use Rattle.std.proofs.Common.{◌≡◌, List, [], Option, Some, None, refl, sym, subst, inr}
use Rattle.std.specs.Prelude.{IfSome}
use Rattle.vs_world.specs.Outside.{Told}
use Rattle.plan_types.specs.declared.built.Built.{Built}
use Rattle.run_status.specs.declared.status.Status.{Status}
use Rattle.run_status.specs.Lines.{Text}
use Rattle.run_status.specs.Answer.{Answer, Refused, Ending, Refusing, Wanting, EndsBy, Leaves, Table}
use Rattle.run_status.specs.Stages.{RefusedBy, Came, Finished}
use Rattle.run_status.specs.StageLaws.{leaves_none, refused_came, came_later, finished_later, came_ends}
use Rattle.fault_text.specs.FaultText.{usage}
use Rattle.vsim_words.specs.Settings.{Settings, settings_of}
use Rattle.vsim_cli.specs.Case.{Command, HostView, command_of, names_of}
use Rattle.vsim_cli.specs.Inputs.{Inputs, inputs_read}
use Rattle.vsim_cli.specs.InputLaws.{read_answer}
use Rattle.vsim_cli.specs.Run.{built_answer}
use Rattle.vsim_cli.specs.Answers.{CheckRefused, IsChecked, Faulty, Checked, IsCommandAnswer, SettingsAnswer, IsAnswer, named_in}
use Rattle.vsim_cli.specs.CheckLaws.{some_answer}

-- ---- after the files were read

module _ (c : Command) (h : HostView) (t0 t1 : Told) (i : Inputs) (found : IfSome t0.files (λ files. inputs_read files c ≡ inr i)) (left : Leaves [] t0 t1) where
  faulty : (line : Text) → CheckRefused c h i.files line → IsCommandAnswer c h t0.files (Refused line)
  faulty line is = read_answer c h t0.files i found (Refused line) (Faulty line is refl)

  -- the design is refused
  pub check_came : (e : Ending) → RefusedBy e (CheckRefused c h i.files) → Came (IsCommandAnswer c h t0.files) (names_of c) e t0 t1
  check_came e refused = refused_came (IsCommandAnswer c h t0.files) (names_of c) (CheckRefused c h i.files) t0 t1 faulty left e refused

  module _ (b : Built) (checked : IsChecked c h i.files b) (t2 : Told) where
    abbrev Run : Answer → Type 0
    Run a = a ≡ built_answer c h b i.stim

    run : (a : Answer) → Run a → IsCommandAnswer c h t0.files a
    run a is = read_answer c h t0.files i found a (Checked b checked is)

    -- its run ended early
    pub run_came : (e : Ending) → Came Run (names_of c) e t1 t2 → Came (IsCommandAnswer c h t0.files) (names_of c) e t0 t2
    run_came e came = came_later Run (IsCommandAnswer c h t0.files) (names_of c) run t0 t1 t2 left e came

    -- it was run whole
    pub run_finished : Finished Run t1 t2 → Finished (IsCommandAnswer c h t0.files) t0 t2
    run_finished f = finished_later Run (IsCommandAnswer c h t0.files) (names_of c) run t0 t1 t2 left f

-- ---- the words

module _ (words : List Text) (h : HostView) (s : Status) (t0 t1 : Told) where
  abbrev Words : Option Settings → Type 0
  Words o = Table (SettingsAnswer o h t0.files) s (named_in o) t0 t1

  -- they have settings
  pub settings_end : (o : Settings) → settings_of words ≡ Some o → (c : Command) → c ≡ command_of o → Table (IsCommandAnswer c h t0.files) s (names_of c) t0 t1 → Table (IsAnswer words h t0.files) s (named_in (settings_of words)) t0 t1
  settings_end o is c same t = subst Words (sym is) (subst (λ (x : Command). Table (IsCommandAnswer x h t0.files) s (names_of x) t0 t1) same t)

  -- they have none
  pub usage_ends : settings_of words ≡ None → EndsBy s (Refusing usage) t0 t1 → Table (IsAnswer words h t0.files) s (named_in (settings_of words)) t0 t1
  usage_ends none ends = subst Words (sym none)
      (came_ends (λ (a : Answer). a ≡ Refused usage) [] s t0 t0 t1 (Refusing usage) (record { answer = Refused usage; allowed = refl; quiet = refl }) (record { answer = Refused usage; allowed = refl; quiet = refl; refusal = refl; left = leaves_none t0 }) ends)

  -- memory ran out
  pub words_want : EndsBy s Wanting t0 t1 → Table (IsAnswer words h t0.files) s (named_in (settings_of words)) t0 t1
  words_want ends = came_ends (IsAnswer words h t0.files) (named_in (settings_of words)) s t0 t0 t1 Wanting (some_answer words h t0.files) (leaves_none t0) ends
