-- What a whole source reads as: when a tree reads a list of tokens (IEEE 1800-2017 A.1.2, A.1.3).
use Rattle.std.specs.Prelude.{◌≡◌, ℕ, true, List, [], ◌∷◌, max, map}
use Rattle.std.specs.Option.{is_some}
use Rattle.sv_tree.specs.declared.symbol.Symbol.TheVariants as sym
use Rattle.sv_tree.specs.declared.tree.list.CommaList.{CommaList}
use Rattle.sv_tree.specs.declared.tree.source.Description.{Description}
use Rattle.sv_tree.specs.declared.tree.source.Description.TheVariants as description
use Rattle.sv_tree.specs.declared.tree.source.Module.{Module}
use Rattle.sv_tree.specs.declared.tree.source.Parameter.{Parameter}
use Rattle.sv_tree.specs.declared.tree.source.ParameterList.{ParameterList}
use Rattle.sv_tree.specs.declared.tree.source.Port.{Port}
use Rattle.sv_tree.specs.declared.tree.source.PortList.{PortList}
use Rattle.sv_tree.specs.declared.tree.source.SourceTree.{SourceTree}
use Rattle.sv_tree.specs.Symbol.{is_direction}
use Rattle.sv_tree.specs.Spelling.{symbol_of}
use Rattle.sv_tree.specs.TreeRead.{Tokens, Laid, Read, one_of, token, ◌then◌, deeper, asks, maybe, each, commas}
use Rattle.sv_tree.specs.TreeWords.{data_type, label, setting}
use Rattle.sv_tree.specs.TreeStmt.{texts}
use Rattle.sv_tree.specs.TreeItem.{import_read, item_read}

-- ---- modules

abbrev pub parameter : Parameter → Read
parameter x = maybe (token sym.Parameter) x.word then maybe data_type x.kind then setting x.setting

abbrev pub parameter_list : ParameterList → Read
parameter_list x = token sym.Hash x.hash then token sym.ParenOpen x.open then commas parameter x.list then token sym.ParenClose x.close

abbrev pub port : Port → Read
port x = maybe (one_of is_direction) x.direction then maybe data_type x.kind then token sym.Name x.name

-- the first port has its direction
abbrev pub ports : CommaList Port → Read
ports x = asks (λ s. is_some x.first.direction) then commas port x

abbrev pub port_list : PortList → Read
port_list x = token sym.ParenOpen x.open then maybe ports x.list then token sym.ParenClose x.close

abbrev pub module_read : Module → Read
module_read x =
    deeper (
    token sym.Module x.word then token sym.Name x.name then maybe parameter_list x.parameters then maybe port_list x.ports
    then token sym.Semicolon x.semicolon then texts (map item_read x.items)
    then token sym.Endmodule x.end then maybe label x.end_label)

-- ---- all files

abbrev pub read_description : Description → Read
read_description (description.Import x) = import_read x
read_description (description.Module x) = module_read x

unfoldable pub source_read : SourceTree → Read
source_read x = each read_description x.descriptions

-- the tokens of a tree, in order
unfoldable pub tokens : SourceTree → Tokens
tokens x = (source_read x).print []

-- the same, each with the number of things that it stands in
unfoldable pub laid_of : SourceTree → List Laid
laid_of x = (source_read x).laid 0 []

abbrev pub deepest : List Laid → ℕ
deepest [] = 0
deepest (t ∷ ts) = max t.1 (deepest ts)

-- the greatest number of modules, blocks, statements, generate items, parentheses, braces, brackets, argument lists and middle operands of `?:` that stand one in another
unfoldable pub depth : SourceTree → ℕ
depth x = deepest (laid_of x)

-- by a table of names: each token has the kind and spelling that its place asks, each list of operators is of one level, and each `else` stands with the nearest `if`
unfoldable pub IsShaped : List (List ℕ) → SourceTree → Type 0
IsShaped names x = (source_read x).shaped (symbol_of names) ≡ true

-- the tree reads the tokens
pub record Reads (names : List (List ℕ)) (x : SourceTree) (ts : Tokens) : Type 0 where
  pub printed : tokens x ≡ ts
  pub shaped : IsShaped names x
