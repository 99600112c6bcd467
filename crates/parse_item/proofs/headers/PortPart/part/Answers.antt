use Rattle.std.proofs.Common.{◌∙◌, ap}
use Rattle.std.proofs.lemmas.Result.{IfOk-weaker}
use Rattle.sv_tree.specs.Symbol.{is_direction}
use Rattle.parse_item.proofs.headers.PortPart.part.Goals as goal

pub port-requires-clause-within : goal.port-requires-clause-within
port-requires-clause-within c =
    (c.in_ok-direction.ensures.reads is_direction c.args.depth c.requires.deep (c.is_direction.ensures ∙ ap is_direction c.peek.ensures)).within

pub returns-clause-reads : goal.returns-clause-reads
returns-clause-reads c =
    IfOk-weaker c.port.result _ _ (λ x h. h _ (c.in_ok-direction.ensures.reads is_direction c.args.depth c.requires.deep (c.is_direction.ensures ∙ ap is_direction c.peek.ensures)))
    c.port.ensures.reads
