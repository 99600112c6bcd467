-- How the parts of modules read that are no production of their own.
use Rattle.std.specs.Prelude.{map, Option}
use Rattle.sv_tree.specs.declared.symbol.Symbol.TheVariants as sym
use Rattle.sv_tree.specs.declared.token.Token.{Token}
use Rattle.sv_tree.specs.declared.tree.source.Module.{Module}
use Rattle.sv_tree.specs.declared.tree.source.ParameterList.{ParameterList}
use Rattle.sv_tree.specs.Tree.{port_list}
use Rattle.sv_tree.specs.TreeItem.{item_read}
use Rattle.sv_tree.specs.TreeRead.{Read, token, ◌then◌, maybe}
use Rattle.sv_tree.specs.TreeStmt.{texts}
use Rattle.parse_stmt.specs.Heads.{named_word}
use Rattle.sv_parse.specs.declared.modules.ModuleBody.{ModuleBody}
use Rattle.sv_parse.specs.declared.modules.ModuleRest.{ModuleRest}

-- a module from its items on
abbrev pub module_body : ModuleBody → Read
module_body x = token sym.Semicolon x.semicolon then texts (map item_read x.items) then named_word sym.Endmodule x.end

-- and from its ports on
abbrev pub module_rest : ModuleRest → Read
module_rest x = maybe port_list x.ports then module_body x.body

abbrev pub whole : Token → Token → Option ParameterList → ModuleRest → Module
whole word name parameters rest = record {
  word = word;
  name = name;
  parameters = parameters;
  ports = rest.ports;
  semicolon = rest.body.semicolon;
  items = rest.body.items;
  end = rest.body.end.word;
  end_label = rest.body.end.label;
}
