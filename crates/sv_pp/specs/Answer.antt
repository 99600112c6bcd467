-- What the preprocessor answers, held against the reading.
use Rattle.std.specs.Prelude.{◌≡◌, ◌≤◌, ◌<◌, ℕ, List, [], ◌∷◌, length, Some, None}
use Rattle.sv_tree.specs.declared.token.Token.{Token}
use Rattle.sv_tree.specs.Tokens.{AreNamed}
use Rattle.sv_pp.specs.declared.fault.PpFault.{PpFault}
use Rattle.sv_pp.specs.declared.fault.PpFault.TheVariants as fault
use Rattle.sv_pp.specs.Directive.{Text}
use Rattle.sv_pp.specs.Reading.{Reading}

-- each file's tokens have their spellings in the table
abbrev pub AllNamed : List Text → List (List Token) → Type 0
AllNamed names [] = Unit {0}
AllNamed names (ts ∷ files) = AreNamed names ts × AllNamed names files

-- no fault, at most so many tokens read, and these are the active ones
pub record ReadsAs (most : ℕ) (tokens : List Token) (r : Reading) : Type 0 where
  pub whole : r.fault ≡ None
  pub few : r.count ≤ most
  pub tokens_are : tokens ≡ r.tokens

-- the spelling that a fault tells is in the table
abbrev pub IsSpelled : List Text → PpFault → Type 0
IsSpelled names (fault.UnknownMacro at name) = name.0 < length names
IsSpelled names (fault.Directive at name) = name.0 < length names
IsSpelled names _ = Unit {0}

-- the fault is one of the files, and not of the machine or of the limit
abbrev pub IsOfFiles : List Text → PpFault → Type 0
IsOfFiles names fault.NoMemory = ⊥
IsOfFiles names fault.TooMany = ⊥
IsOfFiles names f = IsSpelled names f

-- the fault is the reading's; where more tokens than so many are read up to it, or to the end, that is the fault
abbrev pub FaultIs : ℕ → PpFault → Reading → Type 0
FaultIs most fault.NoMemory r = Unit {0}
FaultIs most fault.TooMany r = most < r.count
FaultIs most f r = (r.fault ≡ Some f) × (r.count ≤ most)

-- what was read so far, without a fault
abbrev pub so_far : List Token → ℕ → Reading
so_far tokens count = record { tokens = tokens; count = count; fault = None }
