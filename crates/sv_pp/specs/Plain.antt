-- Tokens among which no directive stands: files of them, and the two branches of a conditional (IEEE 1800-2017 22.6).
use Rattle.std.specs.Prelude.{◌≡◌, ◌+◌, Bool, true, false, if◌then◌else◌, List, [], ◌∷◌, ◌++◌, length, None}
use Rattle.std.specs.Option.{is_some}
use Rattle.sv_tree.specs.declared.token.Token.{Token}
use Rattle.sv_pp.specs.declared.directive.Role.{Role}
use Rattle.sv_pp.specs.declared.directive.Role.TheVariants.{Ifdef, Else, Endif}
use Rattle.sv_pp.specs.Directive.{Text, role_of}
use Rattle.sv_pp.specs.Reading.{Reading, Macros, joined, text_of, named_by, is_directive, is_name}
use Rattle.sv_pp.specs.Active.{file_reading, at_start}

-- none of the tokens is a directive
abbrev pub ArePlain : List Token → Type 0
ArePlain [] = Unit {0}
ArePlain (t ∷ ts) = (is_directive t.kind ≡ false) × ArePlain ts

abbrev pub AllPlain : List (List Token) → Type 0
AllPlain [] = Unit {0}
AllPlain (ts ∷ files) = ArePlain ts × AllPlain files

-- the tokens of one file after those of the other
abbrev pub all_tokens : List (List Token) → List Token
all_tokens [] = []
all_tokens (ts ∷ files) = ts ++ all_tokens files

-- all are active, each is read once, and there is no fault
abbrev pub as_they_stand : List Token → Reading
as_they_stand ts = record { tokens = ts; count = length ts; fault = None }

-- the token is a directive of that role
pub record HasRole (names : List Text) (t : Token) (role : Role) : Type 0 where
  pub directive : is_directive t.kind ≡ true
  pub is : role_of (named_by names t) ≡ role

-- the tokens of one of the two branches are active, those of both are read, and so are the four round them
abbrev pub one_branch : Bool → List Token → List Token → Reading
one_branch is_first first second = record { tokens = if is_first then first else second; count = length first + length second + 4; fault = None }

-- of `ifdef NAME first `else second `endif, the first is active where the name is defined, and else the second, whatever follows
abbrev pub TakesOneBranch : Type 0
TakesOneBranch =
    (names : List Text) (next : Macros → Reading) (macros : Macros) (ifdef name otherwise endif : Token) (first second rest : List Token) → HasRole names ifdef Ifdef → is_name name.kind ≡ true → ArePlain first → HasRole names otherwise Else → ArePlain second
    → HasRole names endif Endif → file_reading names next 0 (at_start macros) (ifdef ∷ name ∷ (first ++ otherwise ∷ (second ++ endif ∷ rest))) ≡ joined (one_branch (is_some (macros (text_of names name))) first second) (file_reading names next 0 (at_start macros) rest)
