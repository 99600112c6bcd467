use Rattle.std.proofs.Common.{ℕ, List, map, sym, subst}
use Rattle.std.specs.Prelude.{Vec}
use Rattle.std.specs.declared.alloc.Global.{Global}
use Rattle.sv_tree.specs.declared.token.Token.{Token}
use Rattle.sv_pp.specs.Active.{reading}
use Rattle.sv_pp.specs.Answer.{AllNamed, ReadsAs, FaultIs}
use Rattle.vsim_cli.specs.LexingLaws.{all_named}
use Rattle.vsim_cli.specs.RefusalLaws.{lexing_refused, preprocessing_refused}
use Rattle.vsim_cli.proofs.front.active_tokens.Goals as goal

abbrev texts : List (Vec ℕ Global) → List (List ℕ)
texts l = map (λ (f : Vec ℕ Global). f.items) l

abbrev lists : List (Vec Token Global) → List (List Token)
lists l = map (λ (t : Vec Token Global). t.items) l

pub preprocess-requires : goal.preprocess-requires
preprocess-requires c = record { named = subst (λ (l : List (Vec Token Global)). AllNamed c.lex_files.new.names (lists l)) (sym c.deref.ensures.value) (all_named c.lex_files.new.names (lists c.in-Ok.tokens.items) (texts c.args.files.now) c.in-Ok.ensures.tokens.shown) }

pub returns-in-Err-clause-refusal : goal.returns-in-Err-clause-refusal
returns-in-Err-clause-refusal c = λ command. lexing_refused command.files (texts c.args.files.now) c.in-Err.fault c.in-Err.ensures.fault

pub returns-in-Ok-preprocess-clause-active : goal.returns-in-Ok-preprocess-clause-active
returns-in-Ok-preprocess-clause-active c =
    let names = c.lex_files.new.names in
    let tokens = lists c.in-Ok.tokens.items in
    let reads = subst (λ (l : List (Vec Token Global)). ReadsAs 1000000 c.in-Ok-preprocess.active.items (reading names (lists l))) c.deref.ensures.value c.in-Ok-preprocess.ensures.tokens in
    record { tokens = tokens; lexed = c.in-Ok.ensures.tokens; few = reads.few; whole = reads.whole; active = reads.tokens_are }

pub returns-clause-refusal : goal.returns-clause-refusal
returns-clause-refusal c = λ command.
    let names = c.lex_files.new.names in
    let tokens = lists c.in-Ok.tokens.items in
    let fault = subst (λ (l : List (Vec Token Global)). FaultIs 1000000 c.in-Err-preprocess.fault (reading names (lists l))) c.deref.ensures.value c.in-Err-preprocess.ensures.fault in
    preprocessing_refused command.files (texts c.args.files.now) names tokens c.in-Ok.ensures.tokens c.in-Err-preprocess.fault fault
