-- The tokens as they are kept, and the places in them.
use Rattle.std.proofs.Common.{◌≡◌, ◌≤◌, ◌<◌, ℕ, true, ◌∙◌, zero, suc, List, [], ◌∷◌, ◌++◌, Some, None, length, map, take, drop, slice_get, get_or, ◌+◌, refl, sym, ap, arith}
use Rattle.std.proofs.lemmas.List.{map_push, take_more}
use Rattle.sv_tree.specs.declared.token.Token.{Token}
use Rattle.sv_tree.specs.declared.symbol.Symbol.{Symbol}
use Rattle.sv_tree.specs.declared.symbol.Symbol.TheVariants as symbol
use Rattle.sv_tree.specs.Spelling.{symbol_of}
use Rattle.sv_tree.specs.Symbol.{same}
use Rattle.sv_tree.specs.Tokens.{AreNamed}
use Rattle.parse_expr.specs.declared.source.Lexeme.{Lexeme}
use Rattle.parse_expr.specs.Input.{Input, first_symbol, Takes, TakesThe, symbols}
use Rattle.parse_expr.specs.Lexemes.{AreSymbols}

abbrev pub tokens_of : List Lexeme → List Token
tokens_of = map (λ l. l.token)

drop_there : (ls : List Lexeme) (at : ℕ) (l : Lexeme) → slice_get ls at ≡ Some l → drop at (tokens_of ls) ≡ l.token ∷ drop (suc at) (tokens_of ls)
drop_there [] at l h = cc
drop_there (x ∷ xs) zero l h = let e : x ≡ l = cc in ap (λ y. y.token ∷ tokens_of xs) e
drop_there (x ∷ xs) (suc n) l h = drop_there xs n l h

symbol_there : (names : List (List ℕ)) (ls : List Lexeme) (at : ℕ) (l : Lexeme) → AreSymbols names ls → slice_get ls at ≡ Some l → l.symbol ≡ symbol_of names l.token
symbol_there names [] at l known h = cc
symbol_there names (x ∷ xs) zero l known h = let e : x ≡ l = cc in let k = known.0 in cc
symbol_there names (x ∷ xs) (suc n) l known h = symbol_there names xs n l known.1 h

within : (ls : List Lexeme) (at : ℕ) (l : Lexeme) → slice_get ls at ≡ Some l → suc at ≤ length (tokens_of ls)
within [] at l h = cc
within (x ∷ xs) zero l h = omega arith
within (x ∷ xs) (suc n) l h = let e = within xs n l h in omega arith

-- what stands at a place
pub peeked : (names : List (List ℕ)) (ls : List Lexeme) (at : ℕ) (l : Lexeme) → AreSymbols names ls → slice_get ls at ≡ Some l → l.symbol ≡ first_symbol (symbol_of names) (drop at (tokens_of ls))
peeked names ls at l known h = symbol_there names ls at l known h ∙ sym (ap (first_symbol (symbol_of names)) (drop_there ls at l h))

pub ended : (names : List (List ℕ)) (ls : List Lexeme) (at : ℕ) → slice_get ls at ≡ None → symbol.Other ≡ first_symbol (symbol_of names) (drop at (tokens_of ls))
ended names [] zero h = refl
ended names [] (suc n) h = refl
ended names (x ∷ xs) zero h = cc
ended names (x ∷ xs) (suc n) h = ended names xs n h

-- it is taken
pub taken : (x : Input) (ls : List Lexeme) (at : ℕ) (l : Lexeme) → AreSymbols x.names ls → x.tokens ≡ tokens_of ls → slice_get ls at ≡ Some l → Takes x at (suc at) l.token
taken x ls at l known same_tokens h = record {
  is = ap (drop at) same_tokens ∙ drop_there ls at l h ∙ ap (λ ts. l.token ∷ drop (suc at) ts) (sym same_tokens);
  symbol = sym (ap (first_symbol (symbol_of x.names)) (ap (drop at) same_tokens ∙ drop_there ls at l h));
  forward = omega arith;
  within = omega (arith, ap length same_tokens, within ls at l h);
}

pub known_more : (names : List (List ℕ)) (ls : List Lexeme) (l : Lexeme) → AreSymbols names ls → l.symbol ≡ symbol_of names l.token → AreSymbols names (ls ++ l ∷ [])
known_more names [] l known e = (e, tt)
known_more names (x ∷ xs) l known e = (known.0, known_more names xs l known.1 e)

pub asked : (x : Input) (s : Symbol) (start end : ℕ) (t : Token) → same s (first_symbol (symbols x) (drop start x.tokens)) ≡ true → Takes x start end t → TakesThe x s start end t
asked x s start end t h takes = record { takes = takes; asked = ap (same s) takes.symbol ∙ h }

pub named_at : (names : List (List ℕ)) (ts : List Token) (i : ℕ) (d : Token) → AreNamed names ts → i < length ts → (get_or ts i d).name.0 < length names
named_at names [] i d known h = absurd (omega arith)
named_at names (x ∷ xs) zero d known h = known.0
named_at names (x ∷ xs) (suc i) d known h = named_at names xs i d known.1 (omega arith)

pub tokens_more : (ls : List Lexeme) (s : Symbol) (ts : List Token) (i : ℕ) (d : Token)
    → i < length ts → tokens_of ls ≡ take i ts → tokens_of (ls ++ record { token = get_or ts i d; symbol = s } ∷ []) ≡ take (i + 1) ts
tokens_more ls s ts i d within e = map_push (λ l. l.token) ls _ ∙ ap (λ xs. xs ++ get_or ts i d ∷ []) e ∙ sym (take_more ts i d within)
