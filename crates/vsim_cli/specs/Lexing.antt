-- The tokens of all files, or the first fault of lexing, file by file.
use Rattle.std.specs.Prelude.{◌≡◌, ℕ, suc, List, [], ◌∷◌, length, Option, Some, None, if◌then◌else◌, nat_lt}
use Rattle.std.specs.Option.{option_map}
use Rattle.vs_base.specs.declared.origin.Origin.{Origin}
use Rattle.sv_tree.specs.declared.token.Token.{Token}
use Rattle.sv_lex.specs.Answer.{ShowsAll}
use Rattle.sv_lex.specs.Cut.{Cut, cut, start}
use Rattle.sv_lex.specs.declared.file.LexFault.{LexFault}
use Rattle.sv_lex.specs.declared.file.LexFault.TheVariants as fault
use Rattle.sv_lex.specs.declared.piece.Defect.{Defect}
use Rattle.sv_lex.specs.declared.piece.Defect.TheVariants as defect
use Rattle.run_status.specs.Lines.{Text}
use Rattle.run_input.specs.Input.{Bytes}

-- how many tokens a file may have, and how many may be read for all files
abbrev pub most_tokens : ℕ
most_tokens = 1000000

abbrev pub fault_at : Defect → Origin → LexFault
fault_at defect.BadChar at = fault.BadChar at
fault_at defect.OpenComment at = fault.OpenComment at
fault_at defect.OpenString at = fault.OpenString at

abbrev pub cut_fault : Option (Defect × Origin) → Option LexFault
cut_fault f = option_map (λ (d : Defect × Origin). fault_at d.0 d.1) f

-- the first fault of a file, where it has one
abbrev pub file_fault : Cut → Option LexFault
file_fault c = if nat_lt most_tokens (length c.tokens) then Some fault.TooMany else cut_fault c.fault

abbrev pub or_else : Option LexFault → Option LexFault → Option LexFault
or_else None second = second
or_else (Some first) second = Some first

-- the first fault of the files from this number on
abbrev pub first_fault : ℕ → List Bytes → Option LexFault
first_fault k [] = None
first_fault k (bytes ∷ files) = or_else (file_fault (cut (start k) bytes)) (first_fault (suc k) files)

-- the files' tokens, their spellings in the table
abbrev pub AreTokens : List Text → ℕ → List (List Token) → List Bytes → Type 0
AreTokens table k [] [] = Unit {0}
AreTokens table k [] (bytes ∷ files) = ⊥
AreTokens table k (ts ∷ tokens) [] = ⊥
AreTokens table k (ts ∷ tokens) (bytes ∷ files) = ShowsAll table ts (cut (start k) bytes).tokens × AreTokens table (suc k) tokens files

-- the files have no fault of lexing; their tokens share one table of names, and any table that has their spellings will do
pub record AreLexed (contents : List Bytes) (table : List Text) (tokens : List (List Token)) : Type 0 where
  pub whole : first_fault 0 contents ≡ None
  pub shown : AreTokens table 0 tokens contents

-- ---- as the code finds them

-- memory ran out, or this is the first fault
abbrev pub FirstFault : List Bytes → LexFault → Type 0
FirstFault files fault.NoMemory = Unit {0}
FirstFault files f = first_fault 0 files ≡ Some f
