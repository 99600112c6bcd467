-- The design that the bytes of the files hold, up to its scopes; and for what a stage on the way there refuses it.
use Rattle.std.specs.Prelude.{◌≡◌, ◌≤◌, ◌<◌, ℕ, Bool, true, false, List, length, slice_get, Option, Some, None, codes}
use Rattle.std.specs.List.{position_from}
use Rattle.vs_base.specs.declared.origin.Origin.{Origin}
use Rattle.sv_tree.specs.declared.names.NameId.{NameId}
use Rattle.sv_tree.specs.Names.{IsAbsent}
use Rattle.sv_tree.specs.declared.token.Token.{Token}
use Rattle.sv_tree.specs.declared.tree.source.SourceTree.{SourceTree}
use Rattle.sv_tree.specs.Tree.{Reads, depth}
use Rattle.sv_lex.specs.Number.{is_no_number}
use Rattle.sv_lex.specs.declared.file.LexFault.{LexFault}
use Rattle.sv_pp.specs.Active.{reading}
use Rattle.sv_pp.specs.declared.fault.PpFault.{PpFault}
use Rattle.parse_expr.specs.Outside.{IsFirstOutside}
use Rattle.parse_expr.specs.declared.fault.ParseFault.{ParseFault}
use Rattle.parse_expr.specs.declared.fault.ParseFault.TheVariants as parsing
use Rattle.sv_parse.specs.Faults.{NoneOutside}
use Rattle.sv_names.specs.declared.fault.DesignFault.{DesignFault}
use Rattle.sv_names.specs.declared.fault.DesignFault.TheVariants as design
use Rattle.sv_names.specs.Candidates.{candidates}
use Rattle.sv_names.specs.Noted.{noted}
use Rattle.sv_elab.specs.Faults.{Allows}
use Rattle.sv_elab.specs.Top.{IsTop}
use Rattle.sv_elab.specs.declared.scope.Scope.{Scope}
use Rattle.run_status.specs.Lines.{Text}
use Rattle.run_input.specs.Input.{Bytes}
use Rattle.fault_text.specs.FaultText.{lexing_text, preprocessing_text, bad_number, parsing_text, design_text}
use Rattle.vsim_cli.specs.Lexing.{most_tokens, first_fault, AreLexed}

-- ---- the active tokens

-- lexing comes first, file by file, and then preprocessing
pub data BytesRefused (files : List Text) (contents : List Bytes) (line : Text) : Type 0 where
  Unlexed : (f : LexFault) → first_fault 0 contents ≡ Some f → line ≡ lexing_text files f → BytesRefused files contents line
  TooMany : (table : List Text) (tokens : List (List Token)) → AreLexed contents table tokens → most_tokens < (reading table tokens).count → line ≡ codes "too many tokens" → BytesRefused files contents line
  Faulty : (table : List Text) (tokens : List (List Token)) → AreLexed contents table tokens → (reading table tokens).count ≤ most_tokens → (f : PpFault) → (reading table tokens).fault ≡ Some f → line ≡ preprocessing_text files table f → BytesRefused files contents line

-- the tokens that preprocessing leaves
pub record AreActive (contents : List Bytes) (table : List Text) (ts : List Token) : Type 0 where
  pub tokens : List (List Token)
  pub lexed : AreLexed contents table tokens
  pub few : (reading table tokens).count ≤ most_tokens
  pub whole : (reading table tokens).fault ≡ None
  pub active : ts ≡ (reading table tokens).tokens

-- ---- the tree: numbers, what is outside the subset, syntax and depth

-- every spelling of a number is one
abbrev pub AreNumbers : List Text → List Token → Type 0
AreNumbers table ts = position_from (is_no_number table) 0 ts ≡ None

pub data TokensRefused (files : List Text) (table : List Text) (ts : List Token) (line : Text) : Type 0 where
  NoNumber : (n : ℕ) (t : Token) → position_from (is_no_number table) 0 ts ≡ Some n → slice_get ts n ≡ Some t → line ≡ bad_number files t.at → TokensRefused files table ts line
  Outside : (n : ℕ) → AreNumbers table ts → IsFirstOutside table ts n → line ≡ parsing_text files table (slice_get ts n) (parsing.Construct n) → TokensRefused files table ts line
  NoTree : (n : ℕ) → AreNumbers table ts → NoneOutside table ts → n ≤ length ts → line ≡ parsing_text files table (slice_get ts n) (parsing.Syntax n) → TokensRefused files table ts line
  TooDeep : (n : ℕ) → AreNumbers table ts → NoneOutside table ts → n ≤ length ts → line ≡ parsing_text files table (slice_get ts n) (parsing.TooDeep n) → TokensRefused files table ts line

pub record IsTree (table : List Text) (ts : List Token) (tree : SourceTree) : Type 0 where
  pub numbers : AreNumbers table ts
  pub inside : NoneOutside table ts
  pub reads : Reads table tree ts
  pub shallow : depth tree ≤ 128

-- ---- the scopes

-- the module at the top that is asked for: none, or the number of its name
abbrev pub Asked : List Text → Option Text → Option NameId → Type 0
Asked table None None = Unit {0}
Asked table (Some text) (Some name) = slice_get table name.0 ≡ Some text
Asked table None (Some name) = ⊥
Asked table (Some text) None = ⊥

-- the modules that may be the top, by their numbers among the descriptions
abbrev pub tops : List Text → SourceTree → Option NameId → List ℕ
tops table tree name = candidates (noted table tree).used tree.descriptions name

-- the place of the first bad import
abbrev pub bad_import : List Text → SourceTree → Option Origin
bad_import table tree = (noted table tree).bad

-- the first word `default` that is a second one of its `case`
abbrev pub second_default : List Text → SourceTree → Option Token
second_default table tree = (noted table tree).twice

-- a fault that is the design's; want of memory is none
abbrev pub is_of_design : DesignFault → Bool
is_of_design design.NoMemory = false
is_of_design _ = true

pub data DesignRefused (files : List Text) (top : Option Text) (table : List Text) (tree : SourceTree) (line : Text) : Type 0 where
  NoSuchName : (text : Text) → top ≡ Some text → IsAbsent table text → line ≡ design_text files table design.NoTop → DesignRefused files top table tree line
  FaultyDesign : (name : Option NameId) → Asked table top name → (f : DesignFault) → is_of_design f ≡ true → Allows (tops table tree name) (bad_import table tree) f → line ≡ design_text files table f → DesignRefused files top table tree line

-- the scopes of the design from the one module that may be the top, where nothing is refused while it is laid out
pub record IsLaid (top : Option Text) (table : List Text) (tree : SourceTree) (scopes : List Scope) : Type 0 where
  pub name : Option NameId
  pub asked : Asked table top name
  pub first : IsTop (tops table tree name) tree.descriptions scopes
  pub imports : bad_import table tree ≡ None
  pub single : second_default table tree ≡ None

-- ---- as the code finds it

-- the token that a fault tells by its number, where there is one
abbrev pub told_token : List Token → ParseFault → Option Token
told_token ts (parsing.Construct k) = slice_get ts k
told_token ts (parsing.Syntax k) = slice_get ts k
told_token ts (parsing.TooDeep k) = slice_get ts k
told_token ts parsing.NoMemory = None
