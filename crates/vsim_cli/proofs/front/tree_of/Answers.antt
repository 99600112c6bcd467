use Rattle.std.proofs.Common.{Option, sym, arith, subst}
use Rattle.sv_tree.specs.declared.token.Token.{Token}
use Rattle.sv_lex.specs.Number.{is_no_number}
use Rattle.run_status.specs.Stages.{RefusedBy}
use Rattle.fault_text.specs.Endings.{parsing_end}
use Rattle.vsim_cli.specs.Front.{TokensRefused}
use Rattle.vsim_cli.specs.RefusalLaws.{position_within, number_refused, parsing_refused}
use Rattle.vsim_cli.proofs.front.tree_of.Goals as goal

pub bounds-tokens-k : goal.bounds-tokens-k
bounds-tokens-k c = omega (arith, position_within (is_no_number c.args.names.now) 0 c.args.tokens.now c.in-Err.k c.in-Err.ensures)

pub returns-in-Err-clause-refusal : goal.returns-in-Err-clause-refusal
returns-in-Err-clause-refusal c = λ command. number_refused command.files c.args.names.now c.args.tokens.now c.in-Err.k _ c.in-Err.ensures

pub returns-in-Ok-parse-clause-tree : goal.returns-in-Ok-parse-clause-tree
returns-in-Ok-parse-clause-tree c =
    let r = c.in-Ok-parse.ensures in record { numbers = c.in-Ok.ensures; inside = r.inside; reads = r.reads; shallow = r.shallow }

pub returns-in-Err-parse-clause-refusal : goal.returns-in-Err-parse-clause-refusal
returns-in-Err-parse-clause-refusal c = λ command.
    let names = c.args.names.now in
    let tokens = c.args.tokens.now in
    let fault = c.in-Err-parse.fault in
    subst (λ (t : Option Token). RefusedBy (parsing_end command.files names t fault) (TokensRefused command.files names tokens)) (sym c.token_of.ensures) (parsing_refused command.files names tokens c.in-Ok.ensures fault c.in-Err-parse.ensures.fault)
