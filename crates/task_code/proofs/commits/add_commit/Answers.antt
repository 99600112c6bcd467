use Rattle.std.proofs.Common.{◌≡◌, ◌∙◌, ◌++◌, [], ◌∷◌, sym, subst, take, get_or, ℕ}
use Rattle.rtl_pieces.specs.Bits.{line_in, writes}
use Rattle.rtl_pieces.specs.Line.{place_of}
use Rattle.task_eval.specs.Codes.{Ops}
use Rattle.task_code.specs.Compiled.{Each, IsCommit, clocked_from}
use Rattle.task_code.proofs.Bodies.{each_more, clocked_with, clocked_without}
use Rattle.task_code.proofs.commits.add_commit.Goals as goal

pub returns-then-not-is_clocked-clause-after : goal.returns-then-not-is_clocked-clause-after
returns-then-not-is_clocked-clause-after c =
    let procs = c.args.base.now.design.now.procs in
    let Commit : ℕ → Ops → Type 0 = λ p. IsCommit c.args.base.now.words.now (λ word. writes (line_in c.args.base.now.design.now) procs p (place_of (line_in c.args.base.now.design.now) word.holds)) in
    let is = subst (λ ps. c.index-as_slice-number.result ≡ get_or ps c.args.number c.index-as_slice-number.result) c.as_slice.ensures c.index-as_slice-number.is in
    subst (λ ns. Each Commit ns c.args.codes.now.items) (sym (clocked_without procs c.args.number c.index-as_slice-number.result c.requires.there is (sym c.is_clocked.ensures ∙ c.if-not-is_clocked.true))) c.requires.before

pub returns-clause-after : goal.returns-clause-after
returns-clause-after c =
    let procs = c.args.base.now.design.now.procs in
    let Commit : ℕ → Ops → Type 0 = λ p. IsCommit c.args.base.now.words.now (λ word. writes (line_in c.args.base.now.design.now) procs p (place_of (line_in c.args.base.now.design.now) word.holds)) in
    let is = subst (λ ps. c.index-as_slice-number.result ≡ get_or ps c.args.number c.index-as_slice-number.result) c.as_slice.ensures c.index-as_slice-number.is in
    subst (λ ns. Each Commit ns c.push.new.self.items) (sym (clocked_with procs c.args.number c.index-as_slice-number.result c.requires.there is (sym c.is_clocked.ensures ∙ c.if-not-is_clocked.false)))
    (subst (λ cs. Each Commit (clocked_from 0 (take c.args.number procs) ++ c.args.number ∷ []) cs) (sym c.in_ok-push.ensures.items)
    (each_more Commit (clocked_from 0 (take c.args.number procs)) c.args.codes.now.items c.args.number c.in_ok-code.code c.requires.before c.in_ok-code.ensures.commit))
