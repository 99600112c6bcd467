use Rattle.std.proofs.Common.{◌≡◌, ℕ, List, [], get_or, sym, ap, ◌∙◌}
use Rattle.sv_tree.specs.declared.token.Token.{Token}
use Rattle.sv_tree.specs.declared.token.TokenKind.{TokenKind}
use Rattle.sv_tree.specs.NameLaws.{get_or-slice_get}
use Rattle.sv_tree.specs.Spelling.{found, words, marks, symbol_by, symbol_of}
use Rattle.sv_tree.proofs.symbol.symbol_of.Goals as goal

by_kind : (names : List (List ℕ)) (t : Token) (k : TokenKind) → t.kind ≡ k → symbol_by k (get_or names t.name.0 []) ≡ symbol_of names t
unfolding symbol_of
by_kind names t k is = ap (λ k. symbol_by k (get_or names t.name.0 [])) (sym is)

pub returns-in-Name : goal.returns-in-Name
returns-in-Name c = by_kind _ _ _ c.in-Name.is

pub returns-in-Word : goal.returns-in-Word
returns-in-Word c = c.word.ensures ∙ ap (found words) (sym (get_or-slice_get c.args.names.now c.args.token.name.0 c.text.result.now c.text.ensures)) ∙ by_kind _ _ _ c.in-Word.is

pub returns-in-Decimal : goal.returns-in-Decimal
returns-in-Decimal c = by_kind _ _ _ c.in-Decimal.is

pub returns-in-Based : goal.returns-in-Based
returns-in-Based c = by_kind _ _ _ c.in-Based.is

pub returns-in-Fill : goal.returns-in-Fill
returns-in-Fill c = by_kind _ _ _ c.in-Fill.is

pub returns-in-Text : goal.returns-in-Text
returns-in-Text c = by_kind _ _ _ c.in-Text.is

pub returns-in-System : goal.returns-in-System
returns-in-System c = by_kind _ _ _ c.in-System.is

pub returns-in-Directive : goal.returns-in-Directive
returns-in-Directive c = by_kind _ _ _ c.in-Directive.is

pub returns-in-Mark : goal.returns-in-Mark
returns-in-Mark c = c.mark.ensures ∙ ap (found marks) (sym (get_or-slice_get c.args.names.now c.args.token.name.0 c.text-in-Mark.result.now c.text-in-Mark.ensures)) ∙ by_kind _ _ _ c.in-Mark.is
