use Rattle.std.proofs.Common.{◌≡◌, ◌≤◌, ◌<◌, ℕ, length, ◌⊎◌, inl, inr, sym, ap, ◌∙◌, arith}
use Rattle.std.proofs.lemmas.List.{take_rest}
use Rattle.sv_lex.specs.declared.piece.Piece.TheVariants.{Skipped, Spelled}
use Rattle.sv_lex.specs.Cut.{Cut, cut, start}
use Rattle.sv_lex.specs.Answer.{FaultIs}
use Rattle.sv_lex.specs.declared.file.LexFault.{LexFault}
use Rattle.sv_lex.specs.declared.file.LexFault.TheVariants.{NoMemory, TooMany}
use Rattle.sv_lex.specs.CutLaws.{shows_named}
use Rattle.sv_lex.proofs.Whole.{going_skipped, going_spelled, going_wrong, going_end, going_many}
use Rattle.sv_lex.proofs.file.lex_up_to.Goals.{in-Skipped, in-Spelled+in_default}
use Rattle.sv_lex.proofs.file.lex_up_to.Goals as goal

pub returns-in-Wrong-clause-fault : goal.returns-in-Wrong-clause-fault
returns-in-Wrong-clause-fault c =
    let w = going_wrong _ _ _ _ _ _ _ c.loop-rest.invariant.0 c.args.most c.in-Wrong.defect (omega arith) (sym c.in-Wrong.ensures.value) c.loop-rest.invariant.1 in
    c.fault.ensures (cut (start c.args.file) c.args.bytes.now) c.args.most w.0 w.1

pub loop-rest-preserved : goal.loop-rest-preserved
loop-rest-preserved c =
    elim c.match-front.branch [
      | in-Skipped w ↦
          let is = sym w.in-Skipped.ensures.value ∙ ap Skipped (sym w.len-is) in
          let some : 0 < c.match-front.len = omega (arith, w.len-is, w.in-Skipped.ensures.within) in
          let fits : c.match-front.len ≤ length c.loop-rest.rest.now = omega (arith, w.len-is, w.in-Skipped.ensures.within) in
          rw (w.names-is, w.tokens-is, take_rest c.loop-rest.rest.now c.match-front.len)
          (going_skipped _ _ _ _ _ _ _ c.loop-rest.invariant.0 c.match-front.len some fits c.advance-at.result c.advance-at.ensures.value c.advance-at.ensures.line c.advance-at.ensures.col.1 is, c.loop-rest.invariant.1)
      | in-Spelled+in_default w ↦
          let is = sym w.in-Spelled.ensures.value ∙ ap (λ n. Spelled w.in-Spelled.kind n) (sym w.len-is) in
          let some : 0 < c.match-front.len = omega (arith, w.len-is, w.in-Spelled.ensures.within) in
          let fits : c.match-front.len ≤ length c.loop-rest.rest.now = omega (arith, w.len-is, w.in-Spelled.ensures.within) in
          let kept = rw (← w.len-is) at w.in_default.ensures.kept in
          rw (w.names-is, w.tokens-is, take_rest c.loop-rest.rest.now c.match-front.len) (
            going_spelled _ _ _ _ _ _ _ c.loop-rest.invariant.0 c.match-front.len some fits c.advance-at.result c.advance-at.ensures.value c.advance-at.ensures.line c.advance-at.ensures.col.1
                w.in-Spelled.kind w.keep.new.names w.keep.new.tokens.items kept.0 is w.in_default.ensures.grows kept.1 kept.2,
            w.in_default.ensures.room,
          )
    ]

pub returns-clause-tokens : goal.returns-clause-tokens
returns-clause-tokens c = going_end _ _ _ _ _ _ _ c.loop-rest.invariant.0 c.args.most (omega arith) c.loop-rest.invariant.1

pub returns-clause-named : goal.returns-clause-named
returns-clause-named c = shows_named _ _ _ (going_end _ _ _ _ _ _ _ c.loop-rest.invariant.0 c.args.most (omega arith) c.loop-rest.invariant.1).shows

many : (most : ℕ) (e : LexFault) (c : Cut) → (e ≡ NoMemory) ⊎ ((e ≡ TooMany) × (most < length c.tokens)) → FaultIs most e c
many most e c (inl h) = rw h tt
many most e c (inr h) = rw h.0 h.1

pub returns-in-Err-clause-fault : goal.returns-in-Err-clause-fault
returns-in-Err-clause-fault c =
    let at_most = going_many _ _ _ _ _ _ _ c.loop-rest.invariant.0 c.args.most c.in-Spelled.kind c.in-Spelled.len (omega (arith, c.in-Spelled.ensures.within)) (omega arith) (sym c.in-Spelled.ensures.value) in
    many c.args.most c.in-Err.refused (cut (start c.args.file) c.args.bytes.now) (elim c.in-Err.ensures.fault [ inl h ↦ inl h | inr h ↦ inr (h.0, at_most h.1) ])
