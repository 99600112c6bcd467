-- The cut of a file into tokens: at each place the longest one (IEEE 1800-2017 5.2 to 5.4).
use Rattle.std.specs.Prelude.{◌≤◌, ◌<◌, ℕ, zero, suc, ◌+◌, ◌-◌, Bool, true, false, ◌&&◌, if◌then◌else◌, ◌==◌, List, [], ◌∷◌, ◌++◌, take, length, Option, Some, None}
use Rattle.std.specs.Option.{is_some}
use Rattle.sv_tree.specs.declared.token.TokenKind.{TokenKind}
use Rattle.vs_base.specs.declared.origin.Origin.{Origin}
use Rattle.sv_lex.specs.declared.piece.Piece.{Piece}
use Rattle.sv_lex.specs.declared.piece.Piece.TheVariants.{Skipped, Spelled, Wrong}
use Rattle.sv_lex.specs.declared.piece.Defect.{Defect}
use Rattle.sv_lex.specs.declared.piece.Defect.TheVariants as defect
use Rattle.sv_lex.specs.Spelling.{Bytes, Spells, spelling}

-- ---- what stands at the front

-- the greatest number up to n that passes, or 0
abbrev pub greatest : (ℕ → Bool) → ℕ → ℕ
greatest p zero = 0
greatest p (suc n) = if p (suc n) then suc n else greatest p n

-- how many bytes the longest token, blank or comment at the front has, or 0 where there is none
unfoldable pub longest : Bytes → ℕ
longest z = greatest (λ n. is_some (spelling (take n z))) (length z)

-- `/*`
abbrev pub opens_comment : Bytes → Bool
opens_comment [] = false
opens_comment (b ∷ []) = false
opens_comment (b ∷ c ∷ t) = b == 47 && c == 42

-- `"`
abbrev pub opens_string : Bytes → Bool
opens_string [] = false
opens_string (b ∷ t) = b == 34

abbrev pub piece_of : Spells → ℕ → Piece
piece_of None n = Wrong defect.BadChar
piece_of (Some None) n = Skipped n
piece_of (Some (Some k)) n = Spelled k n

abbrev pub is_zero : ℕ → Bool
is_zero zero = true
is_zero (suc n) = false

-- what stands at the front, by the length of the longest; where a comment opens and none is closed, its slash is no token
abbrev pub front_by : Bytes → ℕ → Piece
front_by z zero = Wrong (if opens_string z then defect.OpenString else defect.BadChar)
front_by z (suc n) = if opens_comment z && is_zero n then Wrong defect.OpenComment else piece_of (spelling (take (suc n) z)) (suc n)

unfoldable pub front : Bytes → Piece
front z = front_by z (longest z)

-- a piece takes at least one byte, and no more than there are
abbrev pub Within : Bytes → Piece → Type 0
Within z (Wrong defect) = Unit {0}
Within z (Skipped n) = (0 < n) × (n ≤ length z)
Within z (Spelled k n) = (0 < n) × (n ≤ length z)

-- ---- the whole file

-- a token with its text, and where it stands
pub record Lexed : Type 0 where
  pub kind : TokenKind
  pub text : Bytes
  pub at : Origin

-- the tokens in order, up to the first fault or the end
pub record Cut : Type 0 where
  pub tokens : List Lexed
  pub fault : Option (Defect × Origin)

-- the place of a file's first byte
abbrev pub start : ℕ → Origin
start file = record { file = file; line = 1; col = 1 }

-- the place after a byte: lines end at a line feed
abbrev pub next : Origin → ℕ → Origin
next at b = if b == 10 then record { file = at.file; line = at.line + 1; col = 1 } else record { file = at.file; line = at.line; col = at.col + 1 }

-- the place after some bytes
abbrev pub advance : Origin → Bytes → Origin
advance at [] = at
advance at (b ∷ t) = advance (next at b) t

abbrev pub before : List Lexed → Cut → Cut
before ts c = record { tokens = ts ++ c.tokens; fault = c.fault }

abbrev pub cut_by : Piece → Origin → Bytes → (ℕ → Cut) → Cut
cut_by (Wrong defect) at z rest = record { tokens = []; fault = Some (defect, at) }
cut_by (Skipped n) at z rest = rest n
cut_by (Spelled k n) at z rest = before (record { kind = k; text = take n z; at = at } ∷ []) (rest n)

-- the cut of the bytes, after so many of them that belong to the last piece
abbrev pub cut_from : ℕ → Origin → Bytes → Cut
cut_from left at [] = record { tokens = []; fault = None }
cut_from (suc left) at (b ∷ z) = cut_from left (next at b) z
cut_from zero at (b ∷ z) = cut_by (front (b ∷ z)) at (b ∷ z) (λ n. cut_from (n - 1) (next at b) z)

-- the cut of the bytes that begin at a place; specs/CutLaws.antt has it piece by piece
unfoldable pub cut : Origin → Bytes → Cut
cut = cut_from 0
