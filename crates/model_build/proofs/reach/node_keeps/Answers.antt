use Rattle.std.proofs.Common.{◌≡◌, ℕ, List, ap, subst, ◌∙◌}
use Rattle.std.specs.Prelude.{slice_get}
use Rattle.rtl_ir.specs.declared.design.Proc.{Proc}
use Rattle.rtl_pieces.specs.declared.range.BitRange.{BitRange}
use Rattle.rtl_pieces.specs.Line.{Line, has}
use Rattle.rtl_pieces.specs.Bits.{line_in, reads, writes}
use Rattle.plan_types.specs.Coded.{code_number}
use Rattle.model_build.specs.Reaching.{CodeBy}
use Rattle.model_build.proofs.Keeping.{node_kept}
use Rattle.model_build.proofs.reach.node_keeps.Goals as goal

pub returns : goal.returns
returns c =
    λ keeps.
    let ground = c.args.ground.now in
    let design = ground.design.now in
    let number : c.number_of_code-number.result ≡ code_number design.procs c.args.node =
    c.number_of_code-number.ensures ∙ ap (λ (procs : List Proc). code_number procs c.args.node) c.as_slice-3.ensures in
    node_kept design ground.words.now ground.called.now c.as_slice.result.now c.as_slice-2.result.now c.requires.words c.requires.called ground.codes.now c.args.node
    (λ b.
    ap (λ (ranges : List BitRange). has b ranges) c.as_slice.ensures.value ∙ c.in_ok-read.ensures.same b
    ∙ ap (λ (line : Line). reads line design.procs c.proc_of-proc.result b) c.requires.line ∙ ap (λ (p : ℕ). reads (line_in design) design.procs p b) c.proc_of-proc.ensures)
    (λ b.
    ap (λ (ranges : List BitRange). has b ranges) c.as_slice-2.ensures.value ∙ c.in_ok-written.ensures.same b
    ∙ ap (λ (line : Line). writes line design.procs c.proc_of-proc.result b) c.requires.line ∙ ap (λ (p : ℕ). writes (line_in design) design.procs p b) c.proc_of-proc.ensures)
    (subst (λ (n : ℕ). CodeBy ground.words.now (line_in design) ground.called.now c.as_slice.result.now c.as_slice-2.result.now c.args.node (slice_get ground.codes.now n)) number
    (subst (λ (line : Line). CodeBy ground.words.now line ground.called.now c.as_slice.result.now c.as_slice-2.result.now c.args.node (slice_get ground.codes.now c.number_of_code-number.result)) c.requires.line
    (c.in_ok-keeps.ensures keeps)))
