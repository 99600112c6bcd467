use Rattle.std.proofs.Common.{◌∙◌, ◌+◌, ap, sym, subst, take, drop, length, length-append, ℕ}
use Rattle.rtl_pieces.specs.Bits.{line_in, writes}
use Rattle.rtl_pieces.specs.Line.{place_of}
use Rattle.task_eval.specs.Codes.{Ops}
use Rattle.task_code.specs.Compiled.{Each, IsBody, IsCommit, clocked_from}
use Rattle.task_code.proofs.Bodies.{each_length, take_front, drop_front}
use Rattle.task_code.proofs.codes.codes_of.Goals as goal

pub returns-clause-count : goal.returns-clause-count
returns-clause-count c =
    let Commit : ℕ → Ops → Type 0 = λ p. IsCommit c.args.words.now (λ word. writes (line_in c.args.design.now) c.args.design.now.procs p (place_of (line_in c.args.design.now) word.holds)) in
    let bodies = each_length (IsBody c.args.words.now) c.args.design.now.procs c.in_ok-codes.codes.items c.in_ok-codes.ensures.bodies in
    let commits = each_length Commit (clocked_from 0 c.args.design.now.procs) c.in_ok-commits.commits.items c.in_ok-commits.ensures.commits in
    ap length c.in_ok-append.ensures.items ∙ length-append c.in_ok-codes.codes.items c.in_ok-commits.commits.items ∙ ap (λ n. n + length c.in_ok-commits.commits.items) bodies ∙ ap (λ n. length c.args.design.now.procs + n) commits

pub returns-clause-bodies : goal.returns-clause-bodies
returns-clause-bodies c =
    let bodies = each_length (IsBody c.args.words.now) c.args.design.now.procs c.in_ok-codes.codes.items c.in_ok-codes.ensures.bodies in
    let same = ap (take (length c.args.design.now.procs)) c.in_ok-append.ensures.items ∙ take_front c.in_ok-codes.codes.items c.in_ok-commits.commits.items (length c.args.design.now.procs) bodies in
    subst (λ cs. Each (IsBody c.args.words.now) c.args.design.now.procs cs) (sym same) c.in_ok-codes.ensures.bodies

pub returns-clause-commits : goal.returns-clause-commits
returns-clause-commits c =
    let Commit : ℕ → Ops → Type 0 = λ p. IsCommit c.args.words.now (λ word. writes (line_in c.args.design.now) c.args.design.now.procs p (place_of (line_in c.args.design.now) word.holds)) in
    let bodies = each_length (IsBody c.args.words.now) c.args.design.now.procs c.in_ok-codes.codes.items c.in_ok-codes.ensures.bodies in
    let same = ap (drop (length c.args.design.now.procs)) c.in_ok-append.ensures.items ∙ drop_front c.in_ok-codes.codes.items c.in_ok-commits.commits.items (length c.args.design.now.procs) bodies in
    subst (λ cs. Each Commit (clocked_from 0 c.args.design.now.procs) cs) (sym same) c.in_ok-commits.ensures.commits
