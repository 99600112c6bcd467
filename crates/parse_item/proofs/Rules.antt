-- What is parsed as an item in which no item stands: a rule for each form of the grammar, from its parts to the whole.
use Rattle.std.proofs.Common.{◌≡◌, ◌≤◌, ◌<◌, ℕ, true, false, Option, refl, arith}
use Rattle.sv_tree.specs.declared.symbol.Symbol.TheVariants as symbol
use Rattle.sv_tree.specs.declared.token.Token.{Token}
use Rattle.sv_tree.specs.declared.tree.item.Assignment.{Assignment}
use Rattle.sv_tree.specs.declared.tree.item.Declaration.{Declaration}
use Rattle.sv_tree.specs.declared.tree.item.Event.{Event}
use Rattle.sv_tree.specs.declared.tree.item.Import.{Import}
use Rattle.sv_tree.specs.declared.tree.item.Item.TheVariants as item
use Rattle.sv_tree.specs.declared.tree.item.Overrides.{Overrides}
use Rattle.sv_tree.specs.declared.tree.list.CommaList.{CommaList}
use Rattle.sv_tree.specs.declared.tree.stmt.Stmt.{Stmt}
use Rattle.sv_tree.specs.declared.tree.words.DataType.{DataType}
use Rattle.sv_tree.specs.declared.tree.words.DataType.TheVariants.{Vector, Fixed, Signed, Ranged}
use Rattle.sv_tree.specs.declared.tree.words.Setting.{Setting}
use Rattle.sv_tree.specs.Symbol.{same, is_parameter, is_vector, is_fixed, is_sign, is_always, is_event_mark}
use Rattle.sv_tree.specs.TreeRead.{token, one_of, ◌then◌, maybe, commas, list_by}
use Rattle.sv_tree.specs.TreeWords.{data_type, variable_type, setting, range}
use Rattle.sv_tree.specs.TreeStmt.{stmt_read}
use Rattle.sv_tree.specs.TreeItem.{import_read, declaration, assignment, event, overrides, item_read}
use Rattle.sv_tree.specs.TreeItemLaws.{item-Empty, item-Import, item-Parameters, item-Variables, item-Assigns, item-Comb, item-Star, item-ParenStar, item-Clocked, item-Genvars, item-Instance}
use Rattle.parse_expr.specs.Input.{Input, symbol_at, Takes, TakesThe}
use Rattle.parse_expr.specs.Parsed.{Parsed}
use Rattle.parse_expr.specs.ParsedLaws.{token_at, one_at, ◌and◌}
use Rattle.parse_stmt.specs.Body.{ParsedBody}
use Rattle.parse_stmt.specs.BodyLaws.{class_not, takes_forward, first_is_not, class_first, takes_not, flat_3, flat_5, plain_body, ending_body, body_by}
use Rattle.parse_item.specs.Parts.{named_ports, process_head, process_of}
use Rattle.parse_item.specs.declared.instances.NamedPorts.{NamedPorts}
use Rattle.parse_item.specs.declared.processes.ProcessHead.{ProcessHead}
use Rattle.parse_item.specs.declared.processes.ProcessHead.TheVariants.{Comb, Star, ParenStar, Clocked}

-- the first token of a variable's type begins no `if`
variable_first : (x : Input) {d a b : ℕ} (kind : DataType) → Parsed x d a b (variable_type kind) → same symbol.If (symbol_at x a) ≡ false
variable_first x {a = a} (Vector word sign bounds) h = class_not is_vector symbol.If (symbol_at x a) (class_first is_vector word (maybe (one_of is_sign) sign then maybe range bounds) h) refl
variable_first x {a = a} (Fixed k) h = class_not is_fixed symbol.If (symbol_at x a) (class_first is_fixed k.word (maybe (one_of is_sign) k.sign) h) refl
variable_first x (Signed sign bounds) h = let e = h.shaped in cc
variable_first x (Ranged bounds) h = let e = h.shaped in cc

module _ {x : Input} {d : ℕ} where
  pub empty_item : {a b : ℕ} {t : Token} → d ≤ 128 → TakesThe x symbol.Semicolon a b t → ParsedBody x d a b (item_read (item.Empty t))
  empty_item {t = t} shallow h = body_by (item-Empty t) (plain_body (token_at shallow h) (takes_forward h.takes) (takes_not h symbol.If refl))

  pub import_item : {a b : ℕ} (i : Import) → Parsed x d a b (import_read i) → a < b → ParsedBody x d a b (item_read (item.Import i))
  import_item i h forward = body_by (item-Import i) (plain_body h forward (first_is_not symbol.Import i.word _ h symbol.If refl))

  pub parameters_item : {a b c f g : ℕ} {word semicolon : Token} (kind : Option DataType) (settings : CommaList Setting) → d ≤ 128
      → is_parameter (symbol_at x a) ≡ true → Takes x a b word → Parsed x d b c (maybe data_type kind) → Parsed x d c f (commas setting settings)
      → TakesThe x symbol.Semicolon f g semicolon → ParsedBody x d a g (item_read (item.Parameters word kind settings semicolon))
  parameters_item {a} {word = word} {semicolon} kind settings shallow is h k l s =
      body_by (item-Parameters word kind settings semicolon)
      (plain_body (one_at is_parameter shallow is h and k and l and token_at shallow s) (omega (arith, takes_forward h, k.forward, l.forward, s.takes.forward))
      (class_not is_parameter symbol.If (symbol_at x a) is refl))

  pub variables_item : {a b c f : ℕ} {semicolon : Token} (kind : DataType) (declarations : CommaList Declaration) → d ≤ 128
      → Parsed x d a b (variable_type kind) → Parsed x d b c (commas declaration declarations) → TakesThe x symbol.Semicolon c f semicolon
      → ParsedBody x d a f (item_read (item.Variables kind declarations semicolon))
  variables_item {semicolon = semicolon} kind declarations shallow h k s =
      body_by (item-Variables kind declarations semicolon)
      (plain_body (h and k and token_at shallow s) (omega (arith, h.forward, k.forward, takes_forward s.takes)) (variable_first x kind h))

  pub assigns_item : {a b c f : ℕ} {word semicolon : Token} (assignments : CommaList Assignment) → d ≤ 128
      → TakesThe x symbol.AssignWord a b word → Parsed x d b c (commas assignment assignments) → TakesThe x symbol.Semicolon c f semicolon
      → ParsedBody x d a f (item_read (item.Assigns word assignments semicolon))
  assigns_item {word = word} {semicolon} assignments shallow h k s =
      body_by (item-Assigns word assignments semicolon)
      (plain_body (token_at shallow h and k and token_at shallow s) (omega (arith, takes_forward h.takes, k.forward, s.takes.forward)) (takes_not h symbol.If refl))

  pub genvars_item : {a b c f : ℕ} {word semicolon : Token} (names : CommaList Token) → d ≤ 128
      → TakesThe x symbol.Genvar a b word → Parsed x d b c (commas (token symbol.Name) names) → TakesThe x symbol.Semicolon c f semicolon
      → ParsedBody x d a f (item_read (item.Genvars word names semicolon))
  genvars_item {word = word} {semicolon} names shallow h k s =
      body_by (item-Genvars word names semicolon)
      (plain_body (token_at shallow h and k and token_at shallow s) (omega (arith, takes_forward h.takes, k.forward, s.takes.forward)) (takes_not h symbol.If refl))

  pub instance_item : {a b c f : ℕ} {child : Token} (changes : Option Overrides) (ports : NamedPorts) → d ≤ 128
      → TakesThe x symbol.Name a b child → Parsed x d b c (maybe overrides changes) → Parsed x d c f (named_ports ports)
      → ParsedBody x d a f (item_read (item.Instance child changes ports.name ports.open ports.connections ports.close ports.semicolon))
  instance_item {child = child} changes ports shallow h k l =
      body_by (item-Instance child changes ports.name ports.open ports.connections ports.close ports.semicolon)
      (plain_body (token_at shallow h and k and l) (omega (arith, takes_forward h.takes, k.forward, l.forward)) (takes_not h symbol.If refl))

  pub process_item : {a b c : ℕ} (head : ProcessHead) (body : Stmt)
      → Parsed x d a b (process_head head) → same symbol.If (symbol_at x a) ≡ false → ParsedBody x d b c (stmt_read body)
      → ParsedBody x d a c (item_read (process_of head body))
  process_item (Comb word) body h first k =
      body_by (item-Comb word body) (ending_body (stmt_read body) (h and k.text) (omega (arith, h.forward, k.forward)) first k.ends)
  process_item (Star word mark star) body h first k =
      body_by (item-Star word mark star body)
      (ending_body (stmt_read body) (flat_3 (token symbol.Always word) (token symbol.At mark) (token symbol.Star star) (stmt_read body).text (h and k.text))
      (omega (arith, h.forward, k.forward)) first k.ends)
  process_item (ParenStar word mark opens star closes) body h first k =
      body_by (item-ParenStar word mark opens star closes body)
      (ending_body (stmt_read body)
      (flat_5 (token symbol.Always word) (token symbol.At mark) (token symbol.ParenOpen opens) (token symbol.Star star) (token symbol.ParenClose closes) (stmt_read body).text (h and k.text))
      (omega (arith, h.forward, k.forward)) first k.ends)
  process_item (Clocked word mark opens events closes) body h first k =
      body_by (item-Clocked word mark opens events closes body)
      (ending_body (stmt_read body)
      (flat_5 (one_of is_always word) (token symbol.At mark) (token symbol.ParenOpen opens) (list_by is_event_mark event events) (token symbol.ParenClose closes) (stmt_read body).text (h and k.text))
      (omega (arith, h.forward, k.forward)) first k.ends)

  pub clocked_head : {a b c f : ℕ} {word mark opens closes : Token} (events : CommaList Event) → d ≤ 128
      → Parsed x d a b (one_of is_always word then token symbol.At mark then token symbol.ParenOpen opens) → Parsed x d b c (list_by is_event_mark event events)
      → TakesThe x symbol.ParenClose c f closes → Parsed x d a f (process_head (Clocked word mark opens events closes))
  clocked_head {word = word} {mark} {opens} {closes} events shallow h k l =
      flat_3 (one_of is_always word) (token symbol.At mark) (token symbol.ParenOpen opens) (list_by is_event_mark event events then token symbol.ParenClose closes) (h and k and token_at shallow l)
