-- The rules of types.
use Rattle.std.proofs.Common.{◌≡◌, ◌≤◌, ℕ, Bool, true, false, ◌&&◌, ◌||◌, Option, None, refl, ap, ◌∙◌, arith}
use Rattle.std.specs.Option.{is_none}
use Rattle.sv_tree.specs.declared.symbol.Symbol.{Symbol}
use Rattle.sv_tree.specs.declared.token.Token.{Token}
use Rattle.sv_tree.specs.Symbol.{is_sign, is_signable}
use Rattle.sv_tree.specs.TreeRead.{Symbols, Read, one_of, ◌then◌, asks, maybe}
use Rattle.parse_expr.specs.Input.{Input, symbols, symbol_at, Takes}
use Rattle.parse_expr.specs.Parsed.{Parsed}
use Rattle.parse_expr.specs.ParsedLaws.{one_at, ◌and◌, asking, absent}

-- the word of an import's type, which may have a sign only where the type has its width
abbrev pub import_type : (Symbol → Bool) → Token → Option Token → Read
import_type is word sign = asks (λ s. is_none sign || is_signable (s word)) then one_of is word then maybe (one_of is_sign) sign

or_true : (a : Bool) → a || true ≡ true
or_true true = refl
or_true false = refl

module _ {x : Input} {d a b : ℕ} {word : Token} (is : Symbol → Bool) where
  pub rule_unsigned : d ≤ 128 → is (symbol_at x a) ≡ true → Takes x a b word → Parsed x d a b (import_type is word None)
  rule_unsigned within next h =
      asking (λ s. is_none (let none : Option Token = None in none) || is_signable (s word)) (omega (arith, h.forward, h.within)) refl and one_at is within next h and absent (one_of is_sign) h.within

  pub rule_signed : {c : ℕ} (sign : Option Token) → d ≤ 128 → is (symbol_at x a) ≡ true → is_signable (symbol_at x a) ≡ true → Takes x a b word → Parsed x d b c (maybe (one_of is_sign) sign)
      → Parsed x d a c (import_type is word sign)
  rule_signed sign within next signable h k =
      asking (λ s. is_none sign || is_signable (s word)) (omega (arith, h.forward, h.within))
      (ap (λ y. is_none sign || y) (ap is_signable h.symbol ∙ signable) ∙ or_true (is_none sign))
      and one_at is within next h and k

-- a part without what is asked beside it
pub unasked : {x : Input} {d a b : ℕ} (c : Symbols → Bool) (p : Read) → Parsed x d a b (asks c then p) → Parsed x d a b p
unasked {x} c p h = record {
  prints = h.prints;
  shaped = rest (c (symbols x)) (p.shaped (symbols x)) h.shaped;
  shallow = h.shallow;
  forward = h.forward;
  within = h.within;
}
  where
    rest : (u v : Bool) → u && v ≡ true → v ≡ true
    rest true v e = e
    rest false v e = cc
