-- From the fault of a stage to the line by which it refuses.
use Rattle.std.proofs.Common.{◌≡◌, ◌<◌, ◌+◌, ℕ, List, [], ◌∷◌, length, Option, Some, None, refl, sym, ap, arith, cond}
use Rattle.std.specs.Prelude.{◌≢◌, Bool, true, false, zero, suc, IfSome, Err, is_some, slice_get, slice_index_or}
use Rattle.std.specs.List.{position_from}
use Rattle.dpi_host.specs.declared.mode.Mode.{Mode}
use Rattle.sv_tree.specs.declared.names.NameId.{NameId}
use Rattle.sv_tree.specs.declared.token.Token.{Token}
use Rattle.sv_tree.specs.declared.tree.source.SourceTree.{SourceTree}
use Rattle.sv_tree.specs.Names.{IsAbsent}
use Rattle.sv_names.specs.declared.fault.DesignFault.{DesignFault}
use Rattle.sv_names.specs.declared.fault.DesignFault.TheVariants as design
use Rattle.sv_elab.specs.Faults.{Allows}
use Rattle.sv_elab.specs.declared.scope.Scope.{Scope}
use Rattle.sv_lex.specs.Number.{is_no_number}
use Rattle.sv_lex.specs.declared.file.LexFault.{LexFault}
use Rattle.sv_lex.specs.declared.file.LexFault.TheVariants as lexing
use Rattle.sv_pp.specs.Active.{reading}
use Rattle.sv_pp.specs.Answer.{FaultIs}
use Rattle.sv_pp.specs.declared.fault.PpFault.{PpFault}
use Rattle.sv_pp.specs.declared.fault.PpFault.TheVariants as preprocessing
use Rattle.parse_expr.specs.declared.fault.ParseFault.{ParseFault}
use Rattle.parse_expr.specs.declared.fault.ParseFault.TheVariants as parsing
use Rattle.sv_parse.specs.Faults as Faults
use Rattle.rtl_ir.specs.declared.whole.Design.{Design}
use Rattle.plan_types.specs.declared.built.Built.{Built}
use Rattle.model_build.specs.declared.fault.BuildFault.{BuildFault}
use Rattle.model_build.specs.declared.fault.BuildFault.TheVariants as build
use Rattle.model_build.specs.Answer.{IsFault}
use Rattle.stimulus.specs.declared.fault.StimFault.{StimFault}
use Rattle.stimulus.specs.declared.fault.StimFault.TheVariants as stim
use Rattle.stimulus.specs.Stimulus.{stim_acts, design_ports}
use Rattle.run_status.specs.Lines.{Text}
use Rattle.run_status.specs.Answer.{Refused}
use Rattle.run_status.specs.Stages.{RefusedBy}
use Rattle.run_input.specs.Input.{Bytes}
use Rattle.fault_text.specs.FaultText.{bad_number, design_text}
use Rattle.fault_text.specs.Endings.{lexing_end, preprocessing_end, parsing_end, design_end, stimulus_end}
use Rattle.vsim_cli.specs.Case.{Command, HostView}
use Rattle.vsim_cli.specs.Lexing.{AreLexed, FirstFault}
use Rattle.vsim_cli.specs.Front.{BytesRefused, Unlexed, TooMany, Faulty, AreNumbers, TokensRefused, NoNumber, Outside, NoTree, TooDeep, Asked, tops, bad_import, DesignRefused, NoSuchName, FaultyDesign, told_token}
use Rattle.vsim_cli.specs.Model.{IsFlat, uses_of, is_of_model, model_text, ModelRefused}
use Rattle.vsim_cli.specs.Refusals.{model_end}
use Rattle.vsim_cli.specs.Run.{acts_answer, bytes_answer}

-- ---- lexing and preprocessing

module _ (files : List Text) (contents : List Bytes) where
  pub lexing_refused : (f : LexFault) → FirstFault contents f → RefusedBy (lexing_end files f) (BytesRefused files contents)
  lexing_refused lexing.NoMemory first = tt
  lexing_refused lexing.TooMany first = Unlexed lexing.TooMany first refl
  lexing_refused (lexing.BadChar at) first = Unlexed (lexing.BadChar at) first refl
  lexing_refused (lexing.OpenComment at) first = Unlexed (lexing.OpenComment at) first refl
  lexing_refused (lexing.OpenString at) first = Unlexed (lexing.OpenString at) first refl

  pub preprocessing_refused : (table : List Text) (tokens : List (List Token)) → AreLexed contents table tokens → (f : PpFault) → FaultIs 1000000 f (reading table tokens) → RefusedBy (preprocessing_end files table f) (BytesRefused files contents)
  preprocessing_refused table tokens lexed preprocessing.NoMemory is = tt
  preprocessing_refused table tokens lexed preprocessing.TooMany is = TooMany table tokens lexed is refl
  preprocessing_refused table tokens lexed (preprocessing.UnknownMacro at name) is = Faulty table tokens lexed is.1 (preprocessing.UnknownMacro at name) is.0 refl
  preprocessing_refused table tokens lexed (preprocessing.MacroDepth at) is = Faulty table tokens lexed is.1 (preprocessing.MacroDepth at) is.0 refl
  preprocessing_refused table tokens lexed (preprocessing.OpenIf at) is = Faulty table tokens lexed is.1 (preprocessing.OpenIf at) is.0 refl
  preprocessing_refused table tokens lexed (preprocessing.StrayElse at) is = Faulty table tokens lexed is.1 (preprocessing.StrayElse at) is.0 refl
  preprocessing_refused table tokens lexed (preprocessing.Directive at name) is = Faulty table tokens lexed is.1 (preprocessing.Directive at name) is.0 refl

-- ---- the tree

-- the place of the first is there
pub position_within : {A : Type 0} (test : A → Bool) (n : ℕ) (xs : List A) (k : ℕ) → position_from test n xs ≡ Some k → k < n + length xs
position_within test n [] k is = cc
position_within test n (x ∷ xs) k is = by (test x) (λ later. position_within test (n + 1) xs k later) is
  where
    by : (b : Bool) → (position_from test (n + 1) xs ≡ Some k → k < n + 1 + length xs) → cond b (Some n) (position_from test (n + 1) xs) ≡ Some k → k < n + length (x ∷ xs)
    by true more is = let here : n ≡ k = cc is in omega (arith, here)
    by false more is = omega (arith, more is)

there : (ts : List Token) (k : ℕ) (d : Token) → k < length ts → slice_get ts k ≡ Some (slice_index_or ts k d)
there [] k d within = absurd (omega (arith, within))
there (t ∷ ts) zero d within = refl
there (t ∷ ts) (suc k) d within = there ts k d (omega (arith, within))

module _ (files table : List Text) (ts : List Token) where
  -- the number at this place is none
  pub number_refused : (k : ℕ) (d : Token) → position_from (is_no_number table) 0 ts ≡ Some k → TokensRefused files table ts (bad_number files (slice_index_or ts k d).at)
  number_refused k d is = NoNumber k (slice_index_or ts k d) is (there ts k d (omega (arith, position_within (is_no_number table) 0 ts k is))) refl

  pub parsing_refused : AreNumbers table ts → (f : ParseFault) → Faults.FaultIs table ts f → RefusedBy (parsing_end files table (told_token ts f) f) (TokensRefused files table ts)
  parsing_refused numbers parsing.NoMemory is = tt
  parsing_refused numbers (parsing.Construct k) is = Outside k numbers is refl
  parsing_refused numbers (parsing.Syntax k) is = NoTree k numbers is.0 is.1 refl
  parsing_refused numbers (parsing.TooDeep k) is = TooDeep k numbers is.0 is.1 refl

-- ---- the scopes

module _ (files : List Text) (top : Option Text) (table : List Text) (tree : SourceTree) where
  pub design_refused : (name : Option NameId) → Asked table top name → (f : DesignFault) → Allows (tops table tree name) (bad_import table tree) f → RefusedBy (design_end files table f) (DesignRefused files top table tree)
  design_refused name asked design.NoMemory is = tt
  design_refused name asked design.NoTop is = FaultyDesign name asked design.NoTop refl is refl
  design_refused name asked design.ManyTops is = FaultyDesign name asked design.ManyTops refl is refl
  design_refused name asked (design.Duplicate at n) is = FaultyDesign name asked (design.Duplicate at n) refl is refl
  design_refused name asked (design.UnknownModule at n) is = FaultyDesign name asked (design.UnknownModule at n) refl is refl
  design_refused name asked (design.SelfInstance at) is = FaultyDesign name asked (design.SelfInstance at) refl is refl
  design_refused name asked (design.UnknownPort at) is = FaultyDesign name asked (design.UnknownPort at) refl is refl
  design_refused name asked (design.UnknownParam at) is = FaultyDesign name asked (design.UnknownParam at) refl is refl
  design_refused name asked (design.UnknownName at n) is = FaultyDesign name asked (design.UnknownName at n) refl is refl
  design_refused name asked (design.WrongUse at n) is = FaultyDesign name asked (design.WrongUse at n) refl is refl
  design_refused name asked (design.WrongAssign at) is = FaultyDesign name asked (design.WrongAssign at) refl is refl
  design_refused name asked (design.NotConstant at) is = FaultyDesign name asked (design.NotConstant at) refl is refl
  design_refused name asked (design.BadImport at) is = FaultyDesign name asked (design.BadImport at) refl is refl
  design_refused name asked (design.TooWide at) is = FaultyDesign name asked (design.TooWide at) refl is refl
  design_refused name asked (design.BadRange at) is = FaultyDesign name asked (design.BadRange at) refl is refl
  design_refused name asked (design.BadEvent at n) is = FaultyDesign name asked (design.BadEvent at n) refl is refl
  design_refused name asked (design.LoopTurns at) is = FaultyDesign name asked (design.LoopTurns at) refl is refl
  design_refused name asked (design.TooMany kind) is = FaultyDesign name asked (design.TooMany kind) refl is refl

  -- no token has the name that is asked for
  pub absent_refused : IfSome top (IsAbsent table) → is_some top ≡ true → RefusedBy (design_end files table design.NoTop) (DesignRefused files top table tree)
  absent_refused absent some = by top refl absent some
    where
      by : (o : Option Text) → top ≡ o → IfSome o (IsAbsent table) → is_some o ≡ true → DesignRefused files top table tree (design_text files table design.NoTop)
      by None is absent some = absurd (cc some)
      by (Some text) is absent some = NoSuchName text is absent refl

-- ---- the model

module _ (files : List Text) (mode : Mode) (h : HostView) (table : List Text) (tree : SourceTree) (scopes : List Scope) (d : Design) (flat : IsFlat table tree scopes d) where
  refused : (f : BuildFault) → is_of_model f ≡ true → IsFault d (uses_of mode h d) f → ModelRefused files mode h table tree scopes (model_text files f)
  refused f kind is = record { design = d; flat = flat; fault = f; kind = kind; cause = is; text = refl }

  pub model_refused : (f : BuildFault) → IsFault d (uses_of mode h d) f → RefusedBy (model_end files f) (ModelRefused files mode h table tree scopes)
  model_refused (build.NoMemory e) is = tt
  model_refused (build.MultipleDrivers bit one two) is = refused (build.MultipleDrivers bit one two) refl is
  model_refused (build.UnknownImport name) is = refused (build.UnknownImport name) refl is
  model_refused (build.NotByArguments name) is = refused (build.NotByArguments name) refl is
  model_refused (build.TooMany kind) is = refused (build.TooMany kind) refl is
  model_refused (build.Loop places) is = refused (build.Loop places) refl is

-- ---- the stimulus

module _ (c : Command) (h : HostView) (b : Built) (bytes : Bytes) where
  abbrev Cause : Text → Type 0
  Cause line = Refused line ≡ bytes_answer c h b bytes

  by_acts : (f : StimFault) → stim_acts (design_ports b.design) bytes ≡ Err f → acts_answer c h b (Err f) ≡ bytes_answer c h b bytes
  by_acts f is = sym (ap (acts_answer c h b) is)

  pub stimulus_refused : (f : StimFault) → (f ≢ stim.NoMemory → stim_acts (design_ports b.design) bytes ≡ Err f) → RefusedBy (stimulus_end f) Cause
  stimulus_refused stim.NoMemory is = tt
  stimulus_refused (stim.BadLine line) is = by_acts (stim.BadLine line) (is (λ e. cc e))
  stimulus_refused (stim.UnknownInput line) is = by_acts (stim.UnknownInput line) (is (λ e. cc e))
  stimulus_refused (stim.ValueTooWide line) is = by_acts (stim.ValueTooWide line) (is (λ e. cc e))
  stimulus_refused (stim.TooManyEvals line) is = by_acts (stim.TooManyEvals line) (is (λ e. cc e))
