-- How the parts of items read that are no production of their own.
use Rattle.sv_tree.specs.declared.symbol.Symbol.TheVariants as sym
use Rattle.sv_tree.specs.declared.tree.item.Item.{Item}
use Rattle.sv_tree.specs.declared.tree.item.Item.TheVariants as item
use Rattle.sv_tree.specs.declared.tree.stmt.Stmt.{Stmt}
use Rattle.sv_tree.specs.Symbol.{is_always, is_event_mark}
use Rattle.sv_tree.specs.TreeItem.{argument, connections, event}
use Rattle.sv_tree.specs.TreeRead.{Read, one_of, token, ◌then◌, deeper, maybe, list_by, commas}
use Rattle.sv_tree.specs.TreeWords.{result_type}
use Rattle.parse_item.specs.declared.imports.Signature.{Signature}
use Rattle.parse_item.specs.declared.instances.NamedPorts.{NamedPorts}
use Rattle.parse_item.specs.declared.processes.ProcessHead.{ProcessHead}
use Rattle.parse_item.specs.declared.processes.ProcessHead.TheVariants.{Comb, Star, ParenStar, Clocked}

-- an import from its `function` on
abbrev pub signature : Signature → Read
signature x =
    token sym.Function x.function then result_type x.result then token sym.Name x.name
    then deeper (token sym.ParenOpen x.open then maybe (commas argument) x.args then token sym.ParenClose x.close)
    then token sym.Semicolon x.semicolon

-- an instance from its name on
abbrev pub named_ports : NamedPorts → Read
named_ports x = token sym.Name x.name then token sym.ParenOpen x.open then connections x.connections then token sym.ParenClose x.close then token sym.Semicolon x.semicolon

-- a process up to its statement
abbrev pub process_head : ProcessHead → Read
process_head (Comb word) = token sym.AlwaysComb word
process_head (Star word mark star) = token sym.Always word then token sym.At mark then token sym.Star star
process_head (ParenStar word mark opens star closes) =
    token sym.Always word then token sym.At mark then token sym.ParenOpen opens then token sym.Star star then token sym.ParenClose closes
process_head (Clocked word mark opens events closes) =
    one_of is_always word then token sym.At mark then token sym.ParenOpen opens then list_by is_event_mark event events then token sym.ParenClose closes

abbrev pub process_of : ProcessHead → Stmt → Item
process_of (Comb word) body = item.Comb word body
process_of (Star word mark star) body = item.Star word mark star body
process_of (ParenStar word mark opens star closes) body = item.ParenStar word mark opens star closes body
process_of (Clocked word mark opens events closes) body = item.Clocked word mark opens events closes body
