-- How parts that were parsed make a whole that was. The rules of the grammar's forms stand on these.
use Rattle.std.proofs.Common.{◌≡◌, ◌≤◌, ℕ, suc, ◌+◌, Bool, true, false, ◌&&◌, List, [], ◌∷◌, ◌++◌, Some, None, length, drop, refl, sym, ap, ◌∙◌, subst, arith, add-one}
use Rattle.sv_tree.specs.declared.symbol.Symbol.{Symbol}
use Rattle.sv_tree.specs.declared.token.Token.{Token}
use Rattle.sv_tree.specs.TreeRead.{Tokens, Symbols, Laid, Read, any, one_of, token, ◌then◌, deeper, asks, maybe, print_each, lay_each, each_shaped, each}
use Rattle.sv_tree.specs.Tree.{deepest}
use Rattle.parse_expr.specs.Input.{Input, symbols, symbol_at, Takes, TakesThe}
use Rattle.parse_expr.specs.Parsed.{Parsed}

both_true : (a b : Bool) → a ≡ true → b ≡ true → a && b ≡ true
both_true a b h k = rw (h, k) refl

-- ---- tokens

module _ {x : Input} {d a b : ℕ} {t : Token} where
  -- a token of a class that is next
  pub one_at : (is : Symbol → Bool) → d ≤ 128 → is (symbol_at x a) ≡ true → Takes x a b t → Parsed x d a b (one_of is t)
  one_at is within asked takes = record {
    prints = takes.is;
    shaped = ap is takes.symbol ∙ asked;
    shallow = λ l h. omega arith;
    forward = omega (arith, takes.forward);
    within = takes.within;
  }

  pub any_at : d ≤ 128 → Takes x a b t → Parsed x d a b (any t)
  any_at within takes = record {
    prints = takes.is;
    shaped = refl;
    shallow = λ l h. omega arith;
    forward = omega (arith, takes.forward);
    within = takes.within;
  }

  -- the token that was asked for
  pub token_at : {s : Symbol} → d ≤ 128 → TakesThe x s a b t → Parsed x d a b (token s t)
  token_at within h = record {
    prints = h.takes.is;
    shaped = h.asked;
    shallow = λ l k. omega arith;
    forward = omega (arith, h.takes.forward);
    within = h.takes.within;
  }

-- ---- parts

module _ {x : Input} {d a b : ℕ} {p : Read} where
  -- one part after another
  infixr 20 ◌and◌
  pub ◌and◌ : {c : ℕ} {q : Read} → Parsed x d a b p → Parsed x d b c q → Parsed x d a c (p then q)
  h and k = record {
    prints = h.prints ∙ ap p.print k.prints;
    shaped = both_true (p.shaped (symbols x)) _ h.shaped k.shaped;
    shallow = λ l e. h.shallow _ (k.shallow l e);
    forward = omega (arith, h.forward, k.forward);
    within = k.within;
  }

  -- in one thing more
  pub deep : {e : ℕ} → e ≡ d + 1 → Parsed x e a b p → Parsed x d a b (deeper p)
  deep {e} is h = record {
    prints = h.prints;
    shaped = h.shaped;
    shallow = λ l k. let i : e ≡ suc d = is ∙ add-one d in subst (λ n. deepest (p.laid n l) ≤ 128) i (h.shallow l k);
    forward = h.forward;
    within = h.within;
  }

  -- the same part by an equation
  pub by : {q : Read} → q ≡ p → Parsed x d a b p → Parsed x d a b q
  by e h = subst (λ r. Parsed x d a b r) (sym e) h

all_true : (a b c : Bool) → (a && b) && c ≡ true → a && (b && c) ≡ true
all_true true true c h = h
all_true true false c h = h
all_true false b c h = h

-- three parts, grouped as they are written
pub grouped : {x : Input} {d a b : ℕ} (p q r : Read) → Parsed x d a b ((p then q) then r) → Parsed x d a b (p then q then r)
grouped {x} p q r h = record {
  prints = h.prints;
  shaped = all_true (p.shaped (symbols x)) (q.shaped (symbols x)) (r.shaped (symbols x)) h.shaped;
  shallow = h.shallow;
  forward = h.forward;
  within = h.within;
}

module _ {x : Input} {d a : ℕ} where
  -- no token, and what is asked of the parts beside it
  pub asking : (c : Symbols → Bool) → a ≤ length x.tokens → c (symbols x) ≡ true → Parsed x d a a (asks c)
  asking c within h = record { prints = refl; shaped = h; shallow = λ l k. k; forward = omega arith; within = within }

  pub absent : {A : Type 0} (f : A → Read) → a ≤ length x.tokens → Parsed x d a a (maybe f None)
  absent f within = record { prints = refl; shaped = refl; shallow = λ l k. k; forward = omega arith; within = within }

  pub each_none : {A : Type 0} (f : A → Read) → a ≤ length x.tokens → Parsed x d a a (each f [])
  each_none f within = record { prints = refl; shaped = refl; shallow = λ l k. k; forward = omega arith; within = within }

module _ {x : Input} {d a b : ℕ} where
  pub present : {A : Type 0} (f : A → Read) (y : A) → Parsed x d a b (f y) → Parsed x d a b (maybe f (Some y))
  present f y h = record { prints = h.prints; shaped = h.shaped; shallow = h.shallow; forward = h.forward; within = h.within }

-- ---- lists, to which parts come at the end

print-more : {A : Type 0} (f : A → Tokens → Tokens) (ys : List A) (y : A) (r : Tokens) → print_each f (ys ++ y ∷ []) r ≡ print_each f ys (f y r)
print-more f [] y r = refl
print-more f (z ∷ zs) y r = ap (f z) (print-more f zs y r)

lay-more : {A : Type 0} (f : A → ℕ → List Laid → List Laid) (ys : List A) (y : A) (d : ℕ) (l : List Laid) → lay_each f (ys ++ y ∷ []) d l ≡ lay_each f ys d (f y d l)
lay-more f [] y d l = refl
lay-more f (z ∷ zs) y d l = ap (f z d) (lay-more f zs y d l)

front_true : (a b : Bool) → a && b ≡ true → a ≡ true
front_true true b e = refl
front_true false b e = e

shaped-more : {A : Type 0} (f : A → Symbols → Bool) (ys : List A) (y : A) (s : Symbols) → each_shaped f ys s && f y s ≡ true → each_shaped f (ys ++ y ∷ []) s ≡ true
shaped-more f [] y s h = rw h refl
shaped-more f (z ∷ zs) y s h = shifted (f z s) (each_shaped f zs s) (f y s) h (shaped-more f zs y s)
  where
    shifted : (a b c : Bool) {e : Bool} → (a && b) && c ≡ true → (b && c ≡ true → e ≡ true) → a && e ≡ true
    shifted true b c h k = k h
    shifted false b c h k = h

module _ {x : Input} {d a b : ℕ} {A : Type 0} (f : A → Read) where
  pub each_last : (ys : List A) (y : A) → Parsed x d a b (each f ys then f y) → Parsed x d a b (each f (ys ++ y ∷ []))
  each_last ys y h = record {
    prints = h.prints ∙ sym (print-more (λ z. (f z).print) ys y (drop b x.tokens));
    shaped = shaped-more (λ z. (f z).shaped) ys y (symbols x) h.shaped;
    shallow = λ l e. subst (λ m. deepest m ≤ 128) (sym (lay-more (λ z. (f z).laid) ys y d l)) (h.shallow l e);
    forward = h.forward;
    within = h.within;
  }

  -- an empty list beside a part
  pub none_before : {c : ℕ} {p : Read} → Parsed x d a b (each f []) → Parsed x d b c p → Parsed x d a c p
  none_before h k = record {
    prints = h.prints ∙ k.prints;
    shaped = k.shaped;
    shallow = k.shallow;
    forward = omega (arith, h.forward, k.forward);
    within = k.within;
  }

  pub none_after : (p : Read) → Parsed x d a b (p then each f []) → Parsed x d a b p
  none_after p h = record {
    prints = h.prints;
    shaped = front_true (p.shaped (symbols x)) true h.shaped;
    shallow = h.shallow;
    forward = h.forward;
    within = h.within;
  }

module _ {x : Input} {d a b c : ℕ} where
  pub each_more : {A : Type 0} (f : A → Read) (ys : List A) (y : A) → Parsed x d a b (each f ys) → Parsed x d b c (f y) → Parsed x d a c (each f (ys ++ y ∷ []))
  each_more f ys y h k = each_last f ys y (h and k)
