-- What a command is answered, in the one order of refusals.
use Rattle.std.specs.Prelude.{◌≡◌, ◌⊎◌, List, [], Option, Some, None, IfSome}
use Rattle.std.proofs.Common.{inl, inr}
use Rattle.vs_world.specs.Outside.{Files}
use Rattle.sv_tree.specs.declared.token.Token.{Token}
use Rattle.sv_tree.specs.declared.tree.source.SourceTree.{SourceTree}
use Rattle.sv_elab.specs.declared.scope.Scope.{Scope}
use Rattle.plan_types.specs.declared.built.Built.{Built}
use Rattle.run_status.specs.Lines.{Text}
use Rattle.run_status.specs.Answer.{Answer, Refused}
use Rattle.run_input.specs.Input.{Bytes, NotRead}
use Rattle.fault_text.specs.FaultText.{usage}
use Rattle.vsim_words.specs.Settings.{Settings, settings_of}
use Rattle.vsim_cli.specs.Case.{Command, HostView, command_of, names_of}
use Rattle.vsim_cli.specs.Inputs.{Inputs, inputs_read, unread_answer}
use Rattle.vsim_cli.specs.Front.{BytesRefused, AreActive, TokensRefused, IsTree, DesignRefused, IsLaid}
use Rattle.vsim_cli.specs.Model.{ModelRefused, IsModel}
use Rattle.vsim_cli.specs.Run.{built_answer}

-- ---- the check of a design

-- each stage's refusals, where all stages before it have passed
pub data CheckRefused (c : Command) (h : HostView) (contents : List Bytes) (line : Text) : Type 0 where
  BadBytes : BytesRefused c.files contents line → CheckRefused c h contents line
  BadTokens : (table : List Text) (ts : List Token) → AreActive contents table ts → TokensRefused c.files table ts line → CheckRefused c h contents line
  BadDesign : (table : List Text) (ts : List Token) (tree : SourceTree) → AreActive contents table ts → IsTree table ts tree → DesignRefused c.files c.top table tree line → CheckRefused c h contents line
  BadModel : (table : List Text) (ts : List Token) (tree : SourceTree) (scopes : List Scope) → AreActive contents table ts → IsTree table ts tree → IsLaid c.top table tree scopes → ModelRefused c.files c.mode h table tree scopes line → CheckRefused c h contents line

-- all stages have passed, and this is the model
pub record IsChecked (c : Command) (h : HostView) (contents : List Bytes) (b : Built) : Type 0 where
  pub table : List Text
  pub tokens : List Token
  pub tree : SourceTree
  pub scopes : List Scope
  pub active : AreActive contents table tokens
  pub parsed : IsTree table tokens tree
  pub laid : IsLaid c.top table tree scopes
  pub model : IsModel c.mode h table tree scopes b

-- ---- the whole

-- the design is refused; or it is run, where there is a stimulus
pub data BytesAnswer (c : Command) (h : HostView) (i : Inputs) (a : Answer) : Type 0 where
  Faulty : (line : Text) → CheckRefused c h i.files line → a ≡ Refused line → BytesAnswer c h i a
  Checked : (b : Built) → IsChecked c h i.files b → a ≡ built_answer c h b i.stim → BytesAnswer c h i a

-- all files are read first
abbrev pub InputsAnswer : Command → HostView → NotRead ⊎ Inputs → Answer → Type 0
InputsAnswer c h (inl not) a = a ≡ unread_answer not
InputsAnswer c h (inr i) a = BytesAnswer c h i a

abbrev pub CommandAnswer : Command → HostView → Files → Answer → Type 0
CommandAnswer c h world a = InputsAnswer c h (inputs_read world c) a

-- where the world tells its files
abbrev pub IsCommandAnswer : Command → HostView → Option Files → Answer → Type 0
IsCommandAnswer c h told a = IfSome told (λ world. CommandAnswer c h world a)

-- words without settings are refused whatever the files are
abbrev pub SettingsAnswer : Option Settings → HostView → Option Files → Answer → Type 0
SettingsAnswer None h told a = a ≡ Refused usage
SettingsAnswer (Some s) h told a = IsCommandAnswer (command_of s) h told a

-- the answer of a command line
abbrev pub IsAnswer : List Text → HostView → Option Files → Answer → Type 0
IsAnswer words h told a = SettingsAnswer (settings_of words) h told a

-- the files that the words name, in the order in which they are read
abbrev pub named_in : Option Settings → List Text
named_in None = []
named_in (Some s) = names_of (command_of s)
