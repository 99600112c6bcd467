-- What the kind of a token says of its place outside of the subset.
use Rattle.std.proofs.Common.{◌≡◌, ℕ, zero, suc, false, List, [], ◌∷◌, Some, drop, slice_get, get_or, refl, sym, ap, ◌∙◌}
use Rattle.sv_tree.specs.declared.token.Token.{Token}
use Rattle.sv_tree.specs.declared.token.TokenKind.{TokenKind}
use Rattle.sv_tree.specs.declared.token.TokenKind.TheVariants as kind
use Rattle.sv_tree.specs.NameLaws.{get_or-slice_get}
use Rattle.sv_tree.specs.Tokens.{AreNamed}
use Rattle.parse_expr.specs.Outside.{is_outside_by, is_outside, is_the_by, is_the}

pub outside_by : (names : List (List ℕ)) (t : Token) (k : TokenKind) (text : List ℕ) → t.kind ≡ k → slice_get names t.name.0 ≡ Some text → is_outside_by k text ≡ is_outside names t
unfolding is_outside
outside_by names t k text is at = ap (is_outside_by k) (sym (get_or-slice_get names t.name.0 text at)) ∙ ap (λ k. is_outside_by k (get_or names t.name.0 [])) (sym is)

pub the_by : (mark : List ℕ) (names : List (List ℕ)) (t : Token) (k : TokenKind) (text : List ℕ) → t.kind ≡ k → slice_get names t.name.0 ≡ Some text → is_the_by k mark text ≡ is_the mark names t
unfolding is_the
the_by mark names t k text is at = ap (is_the_by k mark) (sym (get_or-slice_get names t.name.0 text at)) ∙ ap (λ k. is_the_by k mark (get_or names t.name.0 [])) (sym is)

pub named_drop : (names : List (List ℕ)) (ts : List Token) (k : ℕ) → AreNamed names ts → AreNamed names (drop k ts)
named_drop names ts zero h = h
named_drop names [] (suc k) h = tt
named_drop names (t ∷ ts) (suc k) h = named_drop names ts k h.1

-- a token that is no word, mark or system function
pub outside_not : (names : List (List ℕ)) (t : Token) → (t.kind ≡ kind.Word → ⊥) → (t.kind ≡ kind.System → ⊥) → (t.kind ≡ kind.Mark → ⊥) → false ≡ is_outside names t
unfolding is_outside
outside_not names t not_word not_system not_mark = by_kind t.kind not_word not_system not_mark (get_or names t.name.0 [])
  where
    by_kind : (k : TokenKind) → (k ≡ kind.Word → ⊥) → (k ≡ kind.System → ⊥) → (k ≡ kind.Mark → ⊥) → (text : List ℕ) → false ≡ is_outside_by k text
    by_kind kind.Word a b c text = absurd (a refl)
    by_kind kind.System a b c text = absurd (b refl)
    by_kind kind.Mark a b c text = absurd (c refl)
    by_kind _ a b c text = refl

pub the_not : (mark : List ℕ) (names : List (List ℕ)) (t : Token) → (t.kind ≡ kind.Mark → ⊥) → false ≡ is_the mark names t
unfolding is_the
the_not mark names t not_mark = by_kind t.kind not_mark (get_or names t.name.0 [])
  where
    by_kind : (k : TokenKind) → (k ≡ kind.Mark → ⊥) → (text : List ℕ) → false ≡ is_the_by k mark text
    by_kind kind.Mark a text = absurd (a refl)
    by_kind _ a text = refl
