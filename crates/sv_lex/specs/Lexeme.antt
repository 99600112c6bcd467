-- A token without its place: its kind and its text.
use Rattle.std.specs.Prelude.{ℕ, List, [], get_or}
use Rattle.sv_tree.specs.declared.token.TokenKind.{TokenKind}
use Rattle.sv_tree.specs.declared.token.Token.{Token}
use Rattle.sv_lex.specs.Cut.{Lexed}

pub record Lexeme : Type 0 where
  pub kind : TokenKind
  pub text : List ℕ

-- a token with its text by the table of names
abbrev pub spelled : List (List ℕ) → Token → Lexeme
spelled names t = record { kind = t.kind; text = get_or names t.name.0 [] }

abbrev pub lexeme_of : Lexed → Lexeme
lexeme_of x = record { kind = x.kind; text = x.text }
