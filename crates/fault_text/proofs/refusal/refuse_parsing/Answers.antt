use Rattle.std.proofs.Common.{◌++◌, ℕ, List, [], sym, subst}
use Rattle.std.specs.Prelude.{codes}
use Rattle.parse_expr.specs.declared.fault.ParseFault.{ParseFault}
use Rattle.run_status.specs.Answer.{Refuses, EndsBy}
use Rattle.fault_text.specs.FaultText.{of_token}
use Rattle.fault_text.specs.Endings.{parsing_end}
use Rattle.fault_text.proofs.refusal.refuse_parsing.Goals as goal

pub returns-in-Construct : goal.returns-in-Construct
returns-in-Construct g c =
    let files = c.args.files.now in
    let a = g.W.World.told c.args.world.now in
    let b = g.W.World.told c.refuse_token.new.world in
    let told = subst (λ (t : List ℕ). Refuses c.refuse_token.result (of_token files c.args.token (codes "not in this subset: " ++ t) []) a b) c.spelling_of-spelling.ensures c.refuse_token.ensures.told in
    record { told = subst (λ (e : ParseFault). EndsBy c.refuse_token.result (parsing_end files c.args.names.now c.args.token e) a b) (sym c.in-Construct.is) told }
