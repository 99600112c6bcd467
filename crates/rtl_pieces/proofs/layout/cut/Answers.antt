use Rattle.std.proofs.Common.{◌<◌, ◌≤◌, ◌*◌, ◌∙◌, List, length, ap, sym, subst, arith}
use Rattle.std.proofs.lemmas.Result.{IfOk-weaker, IfErr-weaker}
use Rattle.std.specs.List.{All}
use Rattle.vs_base.specs.declared.limits.TheConstants.{WORD, WORDS}
use Rattle.rtl_ir.specs.declared.design.Proc.{Proc}
use Rattle.rtl_pieces.specs.declared.layout.Word.{Word}
use Rattle.rtl_pieces.specs.Line.{Line}
use Rattle.rtl_pieces.specs.Words.{words_in, pieces_in, Tiles, IsPiece}
use Rattle.rtl_pieces.proofs.Counting.{many_weaker}
use Rattle.rtl_pieces.proofs.Finding.{few_items, placed_line}
use Rattle.rtl_pieces.proofs.Tiling.{pieces_tile}
use Rattle.rtl_pieces.proofs.Uncut.{all_pieces}
use Rattle.rtl_pieces.proofs.Whole.{bits_many, short_words}
use Rattle.rtl_pieces.proofs.layout.cut.Goals as goal

pub returns-then-bits-gt-MOST_BITS-clause-many : goal.returns-then-bits-gt-MOST_BITS-clause-many
returns-then-bits-gt-MOST_BITS-clause-many c =
    let line = c.in_ok-line.line in
    let procs = c.args.design.now.procs in
    let h : 65535 * 64 < line.bits = omega (arith, c.if-bits-gt-MOST_BITS.true, c.bits.ensures) in
    subst (λ (l : Line). WORDS < length (words_in l procs)) c.in_ok-line.ensures.value
    (bits_many line procs (placed_line line c.args.design.now.vars c.args.design.now.mems c.in_ok-line.ensures.value) c.in_ok-line.ensures.near h)

pub layout_of-requires-clause-mems : goal.layout_of-requires-clause-mems
layout_of-requires-clause-mems c = few_items c.in_ok-line.line c.args.design.now.vars c.args.design.now.mems c.in_ok-line.ensures.value c.requires.mems

pub returns-clause-words : goal.returns-clause-words
returns-clause-words c =
    let line = c.in_ok-line.line in
    let procs = c.args.design.now.procs in
    IfOk-weaker c.layout_of.result _ _
    (λ layout h. h ∙ ap (λ (ps : List Proc). words_in line ps) c.as_slice.ensures ∙ ap (λ (l : Line). words_in l procs) c.in_ok-line.ensures.value)
    c.layout_of.ensures.words

pub returns-clause-many : goal.returns-clause-many
returns-clause-many c =
    let procs = c.args.design.now.procs in
    IfErr-weaker c.layout_of.result _ _
    (λ fault h. many_weaker
    (λ k. subst (λ (l : Line). WORDS < length (words_in l procs)) c.in_ok-line.ensures.value
    (subst (λ (ps : List Proc). WORDS < length (words_in c.in_ok-line.line ps)) c.as_slice.ensures k))
    fault h)
    c.layout_of.ensures.many

pub returns-clause-short : goal.returns-clause-short
returns-clause-short c =
    let procs = c.args.design.now.procs in
    IfOk-weaker c.layout_of.result _ _
    (λ layout h. subst (All (λ (word : Word). word.len ≤ WORD))
    (sym (h ∙ ap (λ (ps : List Proc). words_in c.in_ok-line.line ps) c.as_slice.ensures)) (short_words c.in_ok-line.line procs c.in_ok-line.ensures.near))
    c.layout_of.ensures.words

pub returns-clause-pieces : goal.returns-clause-pieces
returns-clause-pieces c =
    let procs = c.args.design.now.procs in
    IfOk-weaker c.layout_of.result _ _
    (λ layout h. subst (λ (l : Line). All (IsPiece l procs) (pieces_in l procs)) c.in_ok-line.ensures.value (all_pieces c.in_ok-line.line procs c.in_ok-line.ensures.near))
    c.layout_of.ensures.words

pub returns-clause-tiles : goal.returns-clause-tiles
returns-clause-tiles c =
    let line = c.in_ok-line.line in
    let procs = c.args.design.now.procs in
    IfOk-weaker c.layout_of.result _ _
    (λ layout h. subst (λ (l : Line). Tiles l 0 l.bits (pieces_in l procs)) c.in_ok-line.ensures.value
    (pieces_tile line procs (placed_line line c.args.design.now.vars c.args.design.now.mems c.in_ok-line.ensures.value) c.in_ok-line.ensures.near))
    c.layout_of.ensures.words
