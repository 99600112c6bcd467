-- What the lexer answers, held against the cut.
use Rattle.std.specs.Prelude.{◌≡◌, ◌≤◌, ◌<◌, ℕ, List, [], ◌∷◌, length, slice_get, Some, None}
use Rattle.sv_tree.specs.declared.token.Token.{Token}
use Rattle.sv_lex.specs.declared.file.LexFault.{LexFault}
use Rattle.sv_lex.specs.declared.file.LexFault.TheVariants.{BadChar, OpenComment, OpenString, TooMany, NoMemory}
use Rattle.sv_lex.specs.declared.piece.Defect.TheVariants as defect
use Rattle.sv_lex.specs.Cut.{Lexed, Cut}

-- the token is this one, its text by the table
pub record Shows (names : List (List ℕ)) (t : Token) (x : Lexed) : Type 0 where
  pub kind : t.kind ≡ x.kind
  pub text : slice_get names t.name.0 ≡ Some x.text
  pub at : t.at ≡ x.at

-- the tokens are these, one by one
abbrev pub ShowsAll : List (List ℕ) → List Token → List Lexed → Type 0
ShowsAll names [] [] = Unit {0}
ShowsAll names [] (x ∷ xs) = ⊥
ShowsAll names (t ∷ ts) [] = ⊥
ShowsAll names (t ∷ ts) (x ∷ xs) = Shows names t x × ShowsAll names ts xs

-- the cut has no fault and at most so many tokens, and these are the tokens
pub record LexesTo (most : ℕ) (names : List (List ℕ)) (ts : List Token) (c : Cut) : Type 0 where
  pub whole : c.fault ≡ None
  pub few : length c.tokens ≤ most
  pub shows : ShowsAll names ts c.tokens

-- the fault is the cut's; more tokens than so many before it, or before the end, are a fault of their own
abbrev pub FaultIs : ℕ → LexFault → Cut → Type 0
FaultIs most NoMemory c = Unit {0}
FaultIs most TooMany c = most < length c.tokens
FaultIs most (BadChar at) c = (c.fault ≡ Some (defect.BadChar, at)) × (length c.tokens ≤ most)
FaultIs most (OpenComment at) c = (c.fault ≡ Some (defect.OpenComment, at)) × (length c.tokens ≤ most)
FaultIs most (OpenString at) c = (c.fault ≡ Some (defect.OpenString, at)) × (length c.tokens ≤ most)
