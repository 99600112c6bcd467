use Rattle.std.proofs.Common.{◌∙◌, sym, subst}
use Rattle.sv_lex.specs.Cut.{Within}
use Rattle.sv_lex.proofs.Marks.{front_is_scan}
use Rattle.sv_lex.specs.CutLaws.{front_within}
use Rattle.sv_lex.proofs.piece.front.Goals as goal

pub returns : goal.returns
returns c =
    let is = c.scan.ensures ∙ sym (front_is_scan c.args.bytes.now) in
    record { value = is; within = subst (Within c.args.bytes.now) (sym is) (front_within c.args.bytes.now) }
