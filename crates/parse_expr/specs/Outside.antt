-- Which tokens are outside of the subset of the language.
use Rattle.std.specs.Prelude.{◌≡◌, ◌<◌, ℕ, Bool, true, false, not, ◌&&◌, ◌||◌, if◌then◌else◌, List, [], ◌∷◌, drop, map, get_or, codes}
use Rattle.std.specs.Str.{bytes_eq}
use Rattle.sv_tree.specs.declared.token.Token.{Token}
use Rattle.sv_tree.specs.declared.token.TokenKind.{TokenKind}
use Rattle.sv_tree.specs.declared.token.TokenKind.TheVariants as kind
use Rattle.sv_tree.specs.TreeRead.{Tokens}
use Rattle.parse_expr.specs.declared.subset.TheConstants.{WORDS, MARKS, FUNCTIONS}

-- the table has the text
abbrev pub has : List (List ℕ) → List ℕ → Bool
has [] text = false
has (x ∷ xs) text = if bytes_eq x text then true else has xs text

-- the reserved words that the subset has not (IEEE 1800-2017 Annex B)
unfoldable pub words : List (List ℕ)
words = map (λ x. x.now) WORDS

-- the marks that it has not
unfoldable pub marks : List (List ℕ)
marks = map (λ x. x.now) MARKS

-- the system functions that it has
unfoldable pub functions : List (List ℕ)
functions = map (λ x. x.now) FUNCTIONS

abbrev pub is_outside_by : TokenKind → List ℕ → Bool
is_outside_by kind.Word text = has words text
is_outside_by kind.Mark text = has marks text
is_outside_by kind.System text = not (has functions text)
is_outside_by _ text = false

-- outside by its spelling alone
unfoldable pub is_outside : List (List ℕ) → Token → Bool
is_outside names t = is_outside_by t.kind (get_or names t.name.0 [])

abbrev pub is_the_by : TokenKind → List ℕ → List ℕ → Bool
is_the_by kind.Mark mark text = bytes_eq text mark
is_the_by _ mark text = false

-- it is the mark
unfoldable pub is_the : List ℕ → List (List ℕ) → Token → Bool
is_the mark names t = is_the_by t.kind mark (get_or names t.name.0 [])

abbrev pub begins_with : List ℕ → List (List ℕ) → Tokens → Bool
begins_with mark names [] = false
begins_with mark names (t ∷ ts) = is_the mark names t

-- the first token is outside by its spelling, or it is a `#` with no `(` after it
abbrev pub starts_outside : List (List ℕ) → Tokens → Bool
starts_outside names [] = false
starts_outside names (t ∷ ts) = is_outside names t || (is_the (codes "#") names t && not (begins_with (codes "(") names ts))

-- the token at a place is outside
abbrev pub outside_at : List (List ℕ) → Tokens → ℕ → Bool
outside_at names tokens k = starts_outside names (drop k tokens)

-- and it is the first one
pub record IsFirstOutside (names : List (List ℕ)) (tokens : Tokens) (k : ℕ) : Type 0 where
  pub outside : outside_at names tokens k ≡ true
  pub first : (j : ℕ) → j < k → outside_at names tokens j ≡ false
