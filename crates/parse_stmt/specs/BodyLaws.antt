-- How statements and items are made of parts that were parsed.
use Rattle.std.proofs.Common.{◌≡◌, ◌≤◌, ◌<◌, ◌+◌, ℕ, Bool, true, false, not, ◌&&◌, List, [], ◌∷◌, ◌++◌, length, drop, map, Option, Some, None, MatchOption, inl, inr, refl, sym, ap, ◌∙◌, subst, arith}
use Rattle.std.proofs.lemmas.List.{map_push, length-drop}
use Rattle.std.proofs.Math.Seq.{drop-length}
use Rattle.std.proofs.lemmas.Bool.{true≢false}
use Rattle.sv_tree.specs.declared.symbol.Symbol.{Symbol}
use Rattle.sv_tree.specs.declared.symbol.Symbol.TheVariants as symbol
use Rattle.sv_tree.specs.declared.token.Token.{Token}
use Rattle.sv_tree.specs.declared.tree.stmt.Test.{Test}
use Rattle.sv_tree.specs.Symbol.{same}
use Rattle.sv_tree.specs.SymbolLaws.{same_is}
use Rattle.sv_tree.specs.TreeExpr.{is_empty}
use Rattle.sv_tree.specs.TreeRead.{Read, one_of, token, ◌then◌, maybe, all_of}
use Rattle.sv_tree.specs.TreeWords.{label}
use Rattle.sv_tree.specs.TreeStmt.{BodyRead, plain, ending_with, texts, block, branch, if_chain, if_else_chain, test}
use Rattle.parse_expr.specs.Input.{Input, symbols, first_symbol, symbol_at, Takes, TakesThe, IsAnother}
use Rattle.parse_expr.specs.Parsed.{Parsed}
use Rattle.parse_expr.specs.ParsedLaws.{token_at, one_at, ◌and◌, deep, by, asking, absent, present, each_more}
use Rattle.parse_stmt.specs.Body.{ParsedBody}
use Rattle.parse_stmt.specs.Heads.{named_word}
use Rattle.parse_stmt.specs.declared.edges.NamedWord.{NamedWord}

-- ---- symbols

-- where one symbol stands, another does not
pub is_not : (a b s : Symbol) → same a s ≡ true → same b a ≡ false → same b s ≡ false
is_not a b s h k = subst (λ t. same b t ≡ false) (sym (same_is a s h)) k

front : (a b : Bool) → a && b ≡ true → a ≡ true
front true b h = refl
front false b h = cc

flatten : (a b c : Bool) → (a && b) && c ≡ true → a && (b && c) ≡ true
flatten true b c h = h
flatten false b c h = h

flatten_3 : (a b c d : Bool) → (a && (b && c)) && d ≡ true → a && (b && (c && d)) ≡ true
flatten_3 true b c d h = flatten b c d h
flatten_3 false b c d h = h

flatten_4 : (a b c d e : Bool) → (a && (b && (c && d))) && e ≡ true → a && (b && (c && (d && e))) ≡ true
flatten_4 true b c d e h = flatten_3 b c d e h
flatten_4 false b c d e h = h

flatten_5 : (a b c d e f : Bool) → (a && (b && (c && (d && e)))) && f ≡ true → a && (b && (c && (d && (e && f)))) ≡ true
flatten_5 true b c d e f h = flatten_4 b c d e f h
flatten_5 false b c d e f h = h

neither : (a b : Bool) → a ≡ false → b ≡ false → not a && not b ≡ true
neither a b h k = rw (h, k) refl

-- a symbol of a class is none that is not of it
pub class_not : (is : Symbol → Bool) (u s : Symbol) → is s ≡ true → is u ≡ false → same u s ≡ false
class_not is u s h k = by_test (same u s) refl
  where
    by_test : (b : Bool) → same u s ≡ b → b ≡ false
    by_test true e = absurd (true≢false (sym h ∙ ap is (same_is u s e) ∙ k))
    by_test false e = refl

not_both : (a b : Bool) → a && b ≡ false → b ≡ true → not a ≡ true
not_both true b h k = cc
not_both false b h k = refl

-- ---- places

-- a symbol of the grammar does not stand where another does, nor at the end
pub another_not : (x : Input) (s : Symbol) (a : ℕ) → same s symbol.Other ≡ false → IsAnother x s a → same s (symbol_at x a) ≡ false
another_not x s a k (inl h) = subst (λ n. same s (first_symbol (symbols x) (drop n x.tokens)) ≡ false) (sym h) (rw (drop-length x.tokens) k)
another_not x s a k (inr h) = h

module _ {x : Input} where
  pub takes_forward : {a b : ℕ} {t : Token} → Takes x a b t → a < b
  takes_forward {a} {b} h = omega (arith, length-drop a x.tokens, length-drop b x.tokens, ap length h.is, h.within)

  pub within_start : {d a b : ℕ} {p : Read} → Parsed x d a b p → a ≤ length x.tokens
  within_start h = omega (arith, h.forward, h.within)

  -- a part that begins with a token begins with its symbol
  pub first_is : {d a b : ℕ} (s : Symbol) (t : Token) (p : Read) → Parsed x d a b (token s t then p) → same s (symbol_at x a) ≡ true
  first_is s t p h =
      ap (λ ts. same s (first_symbol (symbols x) ts)) h.prints ∙ front (same s (symbols x t)) (p.shaped (symbols x)) h.shaped

  pub first_is_not : {d a b : ℕ} (s : Symbol) (t : Token) (p : Read) → Parsed x d a b (token s t then p) → (u : Symbol) → same u s ≡ false → same u (symbol_at x a) ≡ false
  first_is_not {a = a} s t p h u k = is_not s u (symbol_at x a) (first_is s t p h) k

  -- and a token of a class with its class
  pub class_first : {d a b : ℕ} (is : Symbol → Bool) (t : Token) (p : Read) → Parsed x d a b (one_of is t then p) → is (symbol_at x a) ≡ true
  class_first is t p h = ap (λ ts. is (first_symbol (symbols x) ts)) h.prints ∙ front (is (symbols x t)) (p.shaped (symbols x)) h.shaped

  -- a token that was asked for is one of a class that has it
  pub class_at : {d a b : ℕ} {s : Symbol} {t : Token} (is : Symbol → Bool) → is s ≡ true → d ≤ 128 → TakesThe x s a b t → Parsed x d a b (one_of is t)
  class_at {s = s} {t} is k shallow h = one_at is shallow (ap is (sym h.takes.symbol ∙ same_is s (symbols x t) h.asked) ∙ k) h.takes

  pub takes_not : {a b : ℕ} {s : Symbol} {t : Token} → TakesThe x s a b t → (u : Symbol) → same u s ≡ false → same u (symbol_at x a) ≡ false
  takes_not {a = a} {s = s} h u k = is_not s u (symbol_at x a) (ap (same s) (sym h.takes.symbol) ∙ h.asked) k

  -- a token that is taken where it stands, or none
  pub option_at : {d a b : ℕ} (s : Symbol) (o : Option Token) → d ≤ 128 → a ≤ length x.tokens
      → MatchOption o ((b ≡ a) × IsAnother x s a) (λ t. TakesThe x s a b t) → Parsed x d a b (maybe (token s) o)
  option_at {d} {a} {b} s None shallow within h = subst (λ n. Parsed x d a n (maybe (token s) None)) (sym h.0) (absent (token s) within)
  option_at s (Some t) shallow within h = present (token s) t (token_at shallow h)

  -- parts that stand in brackets otherwise
  pub flat : {d a b : ℕ} (p q r : Read) → Parsed x d a b ((p then q) then r) → Parsed x d a b (p then q then r)
  flat p q r h = record {
    prints = h.prints;
    shaped = flatten (p.shaped (symbols x)) (q.shaped (symbols x)) (r.shaped (symbols x)) h.shaped;
    shallow = h.shallow;
    forward = h.forward;
    within = h.within;
  }

  pub flat_3 : {d a b : ℕ} (p q r s : Read) → Parsed x d a b ((p then q then r) then s) → Parsed x d a b (p then q then r then s)
  flat_3 p q r s h = record {
    prints = h.prints;
    shaped = flatten_3 (p.shaped (symbols x)) (q.shaped (symbols x)) (r.shaped (symbols x)) (s.shaped (symbols x)) h.shaped;
    shallow = h.shallow;
    forward = h.forward;
    within = h.within;
  }

  pub flat_4 : {d a b : ℕ} (p q r s t : Read) → Parsed x d a b ((p then q then r then s) then t) → Parsed x d a b (p then q then r then s then t)
  flat_4 p q r s t h = record {
    prints = h.prints;
    shaped = flatten_4 (p.shaped (symbols x)) (q.shaped (symbols x)) (r.shaped (symbols x)) (s.shaped (symbols x)) (t.shaped (symbols x)) h.shaped;
    shallow = h.shallow;
    forward = h.forward;
    within = h.within;
  }

  pub flat_5 : {d a b : ℕ} (p q r s t u : Read) → Parsed x d a b ((p then q then r then s then t) then u) → Parsed x d a b (p then q then r then s then t then u)
  flat_5 p q r s t u h = record {
    prints = h.prints;
    shaped = flatten_5 (p.shaped (symbols x)) (q.shaped (symbols x)) (r.shaped (symbols x)) (s.shaped (symbols x)) (t.shaped (symbols x)) (u.shaped (symbols x)) h.shaped;
    shallow = h.shallow;
    forward = h.forward;
    within = h.within;
  }

-- ---- bodies

module _ {x : Input} {d a b : ℕ} where
  pub plain_body : {p : Read} → Parsed x d a b p → a < b → same symbol.If (symbol_at x a) ≡ false → ParsedBody x d a b (plain p)
  plain_body h forward first = record { text = h; forward = forward; begins = sym first; ends = refl }

  pub ending_body : (body : BodyRead) {p : Read} → Parsed x d a b p → a < b → same symbol.If (symbol_at x a) ≡ false
      → body.takes_else && same symbol.Else (symbol_at x b) ≡ false → ParsedBody x d a b (ending_with body p)
  ending_body body h forward first ends = record { text = h; forward = forward; begins = sym first; ends = ends }

  -- the same body by an equation
  pub body_by : {e f : BodyRead} → e ≡ f → ParsedBody x d a b f → ParsedBody x d a b e
  body_by is h = subst (λ r. ParsedBody x d a b r) (sym is) h

module _ {x : Input} {d e : ℕ} where
  pub block_body : {a b c f : ℕ} (opens : NamedWord) (parts : List BodyRead) (closes : NamedWord) → e ≡ d + 1
      → Parsed x e a b (named_word symbol.Begin opens) → Parsed x e b c (texts parts) → Parsed x e c f (named_word symbol.End closes) → a < f
      → ParsedBody x d a f (block opens.word opens.label parts closes.word closes.label)
  block_body opens parts closes is h k l forward =
      plain_body (deep is (flat (token symbol.Begin opens.word) (maybe label opens.label) _ (h and k and l))) forward
      (first_is_not symbol.Begin opens.word (maybe label opens.label) h symbol.If refl)

-- ---- chains of `if`

module _ {x : Input} {e : ℕ} where
  pub branch_parsed : {a b c f : ℕ} (t : Test) {body : BodyRead} {w : Token} → e ≤ 128
      → Parsed x e a b (test t) → ParsedBody x e b c body → TakesThe x symbol.Else c f w → Parsed x e a f (branch t body w)
  branch_parsed {c = c} t {body} {w} shallow head h word =
      asking (λ s. not body.takes_else) (within_start head) (not_both body.takes_else (same symbol.Else (symbol_at x c)) h.ends (ap (same symbol.Else) (sym word.takes.symbol) ∙ word.asked))
      and head and h.text and token_at shallow word

  pub chain_body : {d a b c f : ℕ} (branches : List Read) (t : Test) {body : BodyRead} → e ≡ d + 1
      → Parsed x e a b (all_of branches) → Parsed x e b c (test t) → ParsedBody x e c f body
      → same symbol.If (symbol_at x a) ≡ true → same symbol.Else (symbol_at x f) ≡ false
      → ParsedBody x d a f (if_chain branches t body)
  chain_body branches t is before head h first last = record {
    text = deep is (before and head and h.text);
    forward = omega (arith, before.forward, head.forward, h.forward);
    begins = sym first;
    ends = last;
  }

  pub chain_else_body : {d a b c : ℕ} (branches : List Read) {body : BodyRead} → e ≡ d + 1
      → Parsed x e a b (all_of branches) → ParsedBody x e b c body → is_empty branches ≡ false
      → same symbol.If (symbol_at x a) ≡ true → same symbol.If (symbol_at x b) ≡ false
      → ParsedBody x d a c (if_else_chain branches body)
  chain_else_body branches {body} is before h some first other = record {
    text = deep is (
        asking (λ s. not (is_empty branches) && not body.is_if) (within_start before) (neither (is_empty branches) body.is_if some (h.begins ∙ other))
        and before and h.text);
    forward = omega (arith, before.forward, h.forward);
    begins = sym first;
    ends = h.ends;
  }

-- ---- lists of parts

module _ {x : Input} {d a b c : ℕ} {A : Type 0} where
  pub texts_more : (f : A → BodyRead) (ys : List A) (y : A) → Parsed x d a b (texts (map f ys)) → Parsed x d b c (f y).text → Parsed x d a c (texts (map f (ys ++ y ∷ [])))
  texts_more f ys y h k = by (ap texts (map_push f ys y)) (each_more (λ r. r.text) (map f ys) (f y) h k)

  pub all_more : (f : A → Read) (ys : List A) (y : A) → Parsed x d a b (all_of (map f ys)) → Parsed x d b c (f y) → Parsed x d a c (all_of (map f (ys ++ y ∷ [])))
  all_more f ys y h k = by (ap all_of (map_push f ys y)) (each_more (λ r. r) (map f ys) (f y) h k)

pub some_more : {A : Type 0} (xs : List A) (y : A) → is_empty (xs ++ y ∷ []) ≡ false
some_more [] y = refl
some_more (x ∷ xs) y = refl
