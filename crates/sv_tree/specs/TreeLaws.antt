-- The tokens of a tree with their depths are its tokens.
use Rattle.std.proofs.Common.{◌≡◌, ℕ, suc, List, [], ◌∷◌, map, Option, Some, None, refl, ap, ◌∙◌}
use Rattle.sv_tree.specs.declared.token.Token.{Token}
use Rattle.sv_tree.specs.declared.tree.expr.Args.{Args}
use Rattle.sv_tree.specs.declared.tree.expr.Args.TheOpen.{Args-F, Expr-F, Select-F, Choice-F, Step-F}
use Rattle.sv_tree.specs.declared.tree.expr.Expr.{Expr}
use Rattle.sv_tree.specs.declared.tree.expr.Select.{Select}
use Rattle.sv_tree.specs.declared.tree.expr.Step.{Step}
use Rattle.sv_tree.specs.declared.tree.item.Argument.{Argument}
use Rattle.sv_tree.specs.declared.tree.item.Assignment.{Assignment}
use Rattle.sv_tree.specs.declared.tree.item.Connected.{Connected}
use Rattle.sv_tree.specs.declared.tree.item.Connection.{Connection}
use Rattle.sv_tree.specs.declared.tree.item.Connections.{Connections}
use Rattle.sv_tree.specs.declared.tree.item.Connections.TheVariants.{Ordered, Named}
use Rattle.sv_tree.specs.declared.tree.item.Declaration.{Declaration}
use Rattle.sv_tree.specs.declared.tree.item.Dimension.{Dimension}
use Rattle.sv_tree.specs.declared.tree.item.Dimension.TheVariants.{Count, Bounds}
use Rattle.sv_tree.specs.declared.tree.item.Event.{Event}
use Rattle.sv_tree.specs.declared.tree.item.GenBlock.TheOpen.{GenBlock-F, Item-F, ItemBranch-F}
use Rattle.sv_tree.specs.declared.tree.item.Import.{Import}
use Rattle.sv_tree.specs.declared.tree.item.Initial.{Initial}
use Rattle.sv_tree.specs.declared.tree.item.Item.{Item}
use Rattle.sv_tree.specs.declared.tree.item.Linkage.{Linkage}
use Rattle.sv_tree.specs.declared.tree.item.Overrides.{Overrides}
use Rattle.sv_tree.specs.declared.tree.list.CommaList.{CommaList}
use Rattle.sv_tree.specs.declared.tree.source.Description.{Description}
use Rattle.sv_tree.specs.declared.tree.source.Description.TheVariants as description
use Rattle.sv_tree.specs.declared.tree.source.Module.{Module}
use Rattle.sv_tree.specs.declared.tree.source.Parameter.{Parameter}
use Rattle.sv_tree.specs.declared.tree.source.ParameterList.{ParameterList}
use Rattle.sv_tree.specs.declared.tree.source.Port.{Port}
use Rattle.sv_tree.specs.declared.tree.source.PortList.{PortList}
use Rattle.sv_tree.specs.declared.tree.source.SourceTree.{SourceTree}
use Rattle.sv_tree.specs.declared.tree.stmt.Arm.TheOpen.{Arm-F, Stmt-F, Branch-F}
use Rattle.sv_tree.specs.declared.tree.stmt.LoopHead.{LoopHead}
use Rattle.sv_tree.specs.declared.tree.stmt.LoopStep.{LoopStep}
use Rattle.sv_tree.specs.declared.tree.stmt.LoopStep.TheVariants.{Set, After, Before}
use Rattle.sv_tree.specs.declared.tree.stmt.Lvalue.{Lvalue}
use Rattle.sv_tree.specs.declared.tree.stmt.Lvalue.TheOpen.{Lvalue-F, LvalueStep-F}
use Rattle.sv_tree.specs.declared.tree.stmt.Stmt.{Stmt}
use Rattle.sv_tree.specs.declared.tree.stmt.Test.{Test}
use Rattle.sv_tree.specs.declared.tree.words.DataType.{DataType}
use Rattle.sv_tree.specs.declared.tree.words.DataType.TheVariants.{Vector, Fixed, Signed, Ranged}
use Rattle.sv_tree.specs.declared.tree.words.Label.{Label}
use Rattle.sv_tree.specs.declared.tree.words.Range.{Range}
use Rattle.sv_tree.specs.declared.tree.words.Setting.{Setting}
use Rattle.sv_tree.specs.declared.tree.words.WordType.{WordType}
use Rattle.sv_tree.specs.TreeRead.{Tokens, Laid, Read, Each, print_option, lay_option, print_each, lay_each}
use Rattle.sv_tree.specs.TreeExpr.{ExprRead, StepRead, read_args, read_expr, read_select, read_choice, read_step, args_read, expr, select_read, step_read, selects, steps}
use Rattle.sv_tree.specs.TreeExprInduction as exprs
use Rattle.sv_tree.specs.TreeItem.{linkage, argument, import_read, dimension, initial, declaration, assignment, event, connected, connection, connections, overrides, read_gen_block, read_item, read_item_branch, item_read}
use Rattle.sv_tree.specs.TreeItemInduction as items
use Rattle.sv_tree.specs.TreeLvalueInduction as lvalues
use Rattle.sv_tree.specs.TreeStmt.{read_lvalue, read_lvalue_step, lvalue_read, test, loop_step, stmt_loop, BodyRead, texts, read_arm, read_stmt, read_branch, stmt_read}
use Rattle.sv_tree.specs.TreeStmtInduction as stmts
use Rattle.sv_tree.specs.TreeWords.{range, word_type, data_type, label, setting}
use Rattle.sv_tree.specs.Symbol.{is_fixed}
use Rattle.sv_tree.specs.Tree.{parameter, parameter_list, port, port_list, module_read, read_description, source_read, tokens, laid_of}

-- a list without its depths
abbrev pub bare : List Laid → Tokens
bare = map (λ x. x.0)

-- what is laid has the tokens that are printed
pub record Lays (print : Tokens → Tokens) (laid : ℕ → List Laid → List Laid) : Type 0 where
  pub same : (d : ℕ) (l : List Laid) → bare (laid d l) ≡ print (bare l)

-- ---- parts

tok : (t : Token) → Lays (λ r. t ∷ r) (λ d l. (t, d) ∷ l)
tok t = record { same = λ d l. refl }

none : Lays (λ r. r) (λ d l. l)
none = record { same = λ d l. refl }

infixr 20 ◌also◌
◌also◌ : {p q : Tokens → Tokens} {f g : ℕ → List Laid → List Laid} → Lays p f → Lays q g → Lays (λ r. p (q r)) (λ d l. f d (g d l))
◌also◌ {p = p} {g = g} x y = record { same = λ d l. x.same d (g d l) ∙ ap p (y.same d l) }

down : {p : Tokens → Tokens} {f : ℕ → List Laid → List Laid} → Lays p f → Lays p (λ d. f (suc d))
down x = record { same = λ d l. x.same (suc d) l }

opt : {A : Type 0} {p : A → Tokens → Tokens} {f : A → ℕ → List Laid → List Laid} → ((x : A) → Lays (p x) (f x)) → (o : Option A) → Lays (print_option p o) (lay_option f o)
opt h None = none
opt h (Some x) = record { same = (h x).same }

every : {A : Type 0} (p : A → Tokens → Tokens) (f : A → ℕ → List Laid → List Laid) (xs : List A) → Each (λ x. Lays (p x) (f x)) xs → Lays (print_each p xs) (lay_each f xs)
every p f [] h = none
every p f (x ∷ xs) h = record { same = λ d l. h.0.same d (lay_each f xs d l) ∙ ap (p x) ((every p f xs h.1).same d l) }

each_always : {A : Type 0} {P : A → Type 0} → ((x : A) → P x) → (xs : List A) → Each P xs
each_always h [] = tt
each_always h (x ∷ xs) = (h x, each_always h xs)

each_also : {A : Type 0} {P Q : A → Type 0} → ((x : A) → P x → Q x) → (xs : List A) → Each P xs → Each Q xs
each_also h [] known = tt
each_also h (x ∷ xs) known = (h x known.0, each_also h xs known.1)

each_mapped : {A B : Type 0} (P : B → Type 0) (f : A → B) → ((x : A) → P (f x)) → (xs : List A) → Each P (map f xs)
each_mapped P f h [] = tt
each_mapped P f h (x ∷ xs) = (h x, each_mapped P f h xs)

list : {A : Type 0} {p : A → Tokens → Tokens} {f : A → ℕ → List Laid → List Laid} → ((x : A) → Lays (p x) (f x)) → (xs : List A) → Lays (print_each p xs) (lay_each f xs)
list {p = p} {f = f} h xs = every p f xs (each_always h xs)

comma_list : {A : Type 0} {p : A → Tokens → Tokens} {f : A → ℕ → List Laid → List Laid} → ((x : A) → Lays (p x) (f x)) → (l : CommaList A)
    → Lays (λ r. p l.first (print_each (λ j r. j.mark ∷ p j.item r) l.more r)) (λ d k. f l.first d (lay_each (λ j d k. (j.mark, d) ∷ f j.item d k) l.more d k))
comma_list h l = h l.first also list (λ j. tok j.mark also h j.item) l.more

-- ---- expressions

abbrev ReadLays : Read → Type 0
ReadLays a = Lays a.print a.laid

abbrev ExprLays : ExprRead → Type 0
ExprLays e = ReadLays e.text

abbrev StepLays : StepRead → Type 0
StepLays x = ReadLays x.operand.text

all : (xs : List Read) → Each ReadLays xs → Lays (print_each (λ x. x.print) xs) (lay_each (λ x. x.laid) xs)
all = every (λ x. x.print) (λ x. x.laid)

marked : (xs : List StepRead) → Each StepLays xs → Lays (print_each (λ x r. x.mark ∷ x.operand.text.print r) xs) (lay_each (λ x d l. (x.mark, d) ∷ x.operand.text.laid d l) xs)
marked xs known = every (λ x r. x.mark ∷ x.operand.text.print r) (λ x d l. (x.mark, d) ∷ x.operand.text.laid d l) xs (each_also (λ x h. tok x.mark also h) xs known)

args_lays : (x : Args-F Read ExprRead Read Read StepRead) → exprs.ArgsParts ReadLays ExprLays ReadLays ReadLays StepLays x → ReadLays (read_args x)
args_lays Args-F.Empty h = none
args_lays (Args-F.Listed first more) h = h.0 also marked more h.1

expr_lays : (x : Expr-F Read ExprRead Read Read StepRead) → exprs.ExprParts ReadLays ExprLays ReadLays ReadLays StepLays x → ExprLays (read_expr x)
expr_lays (Expr-F.Decimal t) h = tok t
expr_lays (Expr-F.Based t) h = tok t
expr_lays (Expr-F.Sized size digits) h = tok size also tok digits
expr_lays (Expr-F.Fill t) h = tok t
expr_lays (Expr-F.Name name chosen) h = tok name also all chosen h
expr_lays (Expr-F.Paren opens inner closes) h = down (tok opens also h also tok closes)
expr_lays (Expr-F.Concat opens first more closes) h = down (tok opens also h.0 also marked more h.1 also tok closes)
expr_lays (Expr-F.Repeat opens count inner_opens first more inner_closes closes) h =
    down (tok opens also h.0 also down (tok inner_opens also h.1 also marked more h.2 also tok inner_closes) also tok closes)
expr_lays (Expr-F.Call name opens args closes) h = tok name also down (tok opens also h also tok closes)
expr_lays (Expr-F.System name opens arg closes) h = tok name also down (tok opens also h also tok closes)
expr_lays (Expr-F.Prefix signs operand) h = list tok signs also h
expr_lays (Expr-F.Level first more) h = h.0 also marked more h.1
expr_lays (Expr-F.Choose choices last) h = all choices h.0 also h.1

select_lays : (x : Select-F Read ExprRead Read Read StepRead) → exprs.SelectParts ReadLays ExprLays ReadLays ReadLays StepLays x → ReadLays (read_select x)
select_lays (Select-F.Bit opens at closes) h = down (tok opens also h also tok closes)
select_lays (Select-F.Part opens from mark to closes) h = down (tok opens also h.0 also tok mark also h.1 also tok closes)

choice_lays : (x : Choice-F Read ExprRead Read Read StepRead) → exprs.ChoiceParts ReadLays ExprLays ReadLays ReadLays StepLays x → ReadLays (read_choice x)
choice_lays x h = h.0 also tok x.question also down h.1 also tok x.colon

step_lays : (x : Step-F Read ExprRead Read Read StepRead) → exprs.StepParts ReadLays ExprLays ReadLays ReadLays StepLays x → StepLays (read_step x)
step_lays x h = h

lays-expr : (x : Expr) → ReadLays (expr x)
lays-expr = exprs.expr_keeps ReadLays ExprLays ReadLays ReadLays StepLays args_lays expr_lays select_lays choice_lays step_lays

lays-args : (x : Args) → ReadLays (args_read x)
lays-args = exprs.args_keeps ReadLays ExprLays ReadLays ReadLays StepLays args_lays expr_lays select_lays choice_lays step_lays

lays-select : (x : Select) → ReadLays (select_read x)
lays-select = exprs.select_keeps ReadLays ExprLays ReadLays ReadLays StepLays args_lays expr_lays select_lays choice_lays step_lays

lays-step : (x : Step) → StepLays (step_read x)
lays-step = exprs.step_keeps ReadLays ExprLays ReadLays ReadLays StepLays args_lays expr_lays select_lays choice_lays step_lays

lays-selects : (xs : List Select) → ReadLays (selects xs)
lays-selects xs = all (map select_read xs) (each_mapped ReadLays select_read lays-select xs)

lays-steps : (xs : List Step) → ReadLays (steps xs)
lays-steps xs = marked (map step_read xs) (each_mapped StepLays step_read lays-step xs)

-- ---- types and settings

lays-range : (x : Range) → ReadLays (range x)
lays-range x = down (tok x.open also lays-expr x.left also tok x.colon also lays-expr x.right also tok x.close)

lays-word_type : (x : WordType) → ReadLays (word_type is_fixed x)
lays-word_type x = tok x.word also opt tok x.sign

lays-data_type : (x : DataType) → ReadLays (data_type x)
lays-data_type (Vector word sign bounds) = tok word also opt tok sign also opt lays-range bounds
lays-data_type (Fixed x) = lays-word_type x
lays-data_type (Signed sign bounds) = tok sign also opt lays-range bounds
lays-data_type (Ranged bounds) = lays-range bounds

lays-label : (x : Label) → ReadLays (label x)
lays-label x = tok x.colon also tok x.name

lays-setting : (x : Setting) → ReadLays (setting x)
lays-setting x = tok x.name also tok x.mark also lays-expr x.value

-- ---- statements

lvalue_lays : (x : Lvalue-F Read Read) → lvalues.LvalueParts ReadLays ReadLays x → ReadLays (read_lvalue x)
lvalue_lays (Lvalue-F.Name name chosen) h = tok name also lays-selects chosen
lvalue_lays (Lvalue-F.Concat opens first more closes) h = down (tok opens also h.0 also all more h.1 also tok closes)

lvalue_step_lays : (x : LvalueStep-F Read Read) → lvalues.LvalueStepParts ReadLays ReadLays x → ReadLays (read_lvalue_step x)
lvalue_step_lays x h = tok x.comma also h

lays-lvalue : (x : Lvalue) → ReadLays (lvalue_read x)
lays-lvalue = lvalues.lvalue_keeps ReadLays ReadLays lvalue_lays lvalue_step_lays

lays-test : (x : Test) → ReadLays (test x)
lays-test x = tok x.word also tok x.open also lays-expr x.test also tok x.close

lays-loop_step : (x : LoopStep) → ReadLays (loop_step x)
lays-loop_step (Set x) = lays-setting x
lays-loop_step (After name mark) = tok name also tok mark
lays-loop_step (Before mark name) = tok mark also tok name

lays-loop_head : (x : LoopHead) → ReadLays (stmt_loop x)
lays-loop_head x =
    tok x.word also tok x.open also opt tok x.kind also lays-setting x.start also tok x.first also lays-expr x.test also tok x.second
    also lays-loop_step x.step also tok x.close

abbrev BodyLays : BodyRead → Type 0
BodyLays x = ReadLays x.text

bodies : (xs : List BodyRead) → Each BodyLays xs → ReadLays (texts xs)
bodies = every (λ x. x.text.print) (λ x. x.text.laid)

arm_lays : (x : Arm-F Read BodyRead Read) → stmts.ArmParts ReadLays BodyLays ReadLays x → ReadLays (read_arm x)
arm_lays (Arm-F.Labels first more colon body) h = lays-expr first also lays-steps more also tok colon also h
arm_lays (Arm-F.Default word colon body) h = tok word also opt tok colon also h

stmt_lays : (x : Stmt-F Read BodyRead Read) → stmts.StmtParts ReadLays BodyLays ReadLays x → BodyLays (read_stmt x)
stmt_lays (Stmt-F.Empty t) h = down (tok t)
stmt_lays (Stmt-F.Block begin name body end end_name) h = down (tok begin also opt lays-label name also bodies body h also tok end also opt lays-label end_name)
stmt_lays (Stmt-F.If branches x body) h = down (all branches h.0 also lays-test x also h.1)
stmt_lays (Stmt-F.IfElse branches last) h = down (all branches h.0 also h.1)
stmt_lays (Stmt-F.Case word opens subject closes arms end) h =
    down (tok word also tok opens also lays-expr subject also tok closes also all arms h also tok end)
stmt_lays (Stmt-F.For head body) h = down (lays-loop_head head also h)
stmt_lays (Stmt-F.Assign target mark value semicolon) h = down (lays-lvalue target also tok mark also lays-expr value also tok semicolon)
stmt_lays (Stmt-F.Call name opens args closes semicolon) h =
    down (tok name also down (tok opens also lays-args args also tok closes) also tok semicolon)

branch_lays : (x : Branch-F Read BodyRead Read) → stmts.BranchParts ReadLays BodyLays ReadLays x → ReadLays (read_branch x)
branch_lays x h = lays-test x.test also h also tok x.else_word

lays-stmt : (x : Stmt) → BodyLays (stmt_read x)
lays-stmt = stmts.stmt_keeps ReadLays BodyLays ReadLays arm_lays stmt_lays branch_lays

-- ---- items

lays-linkage : (x : Linkage) → ReadLays (linkage x)
lays-linkage x = tok x.name also tok x.mark

lays-argument : (x : Argument) → ReadLays (argument x)
lays-argument x = opt tok x.input also lays-word_type x.kind also opt tok x.name

lays-import : (x : Import) → ReadLays (import_read x)
lays-import x =
    tok x.word also tok x.text also opt tok x.manner also opt lays-linkage x.linkage also tok x.function also lays-word_type x.result also tok x.name
    also down (tok x.open also opt (comma_list lays-argument) x.args also tok x.close) also tok x.semicolon

lays-dimension : (x : Dimension) → ReadLays (dimension x)
lays-dimension (Count opens count closes) = down (tok opens also lays-expr count also tok closes)
lays-dimension (Bounds bounds) = lays-range bounds

lays-initial : (x : Initial) → ReadLays (initial x)
lays-initial x = tok x.mark also lays-expr x.value

lays-declaration : (x : Declaration) → ReadLays (declaration x)
lays-declaration x = tok x.name also opt lays-dimension x.dimension also opt lays-initial x.value

lays-assignment : (x : Assignment) → ReadLays (assignment x)
lays-assignment x = lays-lvalue x.target also tok x.mark also lays-expr x.value

lays-event : (x : Event) → ReadLays (event x)
lays-event x = tok x.edge also tok x.name

lays-connected : (x : Connected) → ReadLays (connected x)
lays-connected x = tok x.open also opt lays-expr x.value also tok x.close

lays-connection : (x : Connection) → ReadLays (connection x)
lays-connection x = tok x.dot also tok x.name also opt lays-connected x.value

lays-connections : (x : Connections) → ReadLays (connections x)
lays-connections (Ordered args) = lays-args args
lays-connections (Named connected_by_name) = comma_list lays-connection connected_by_name

lays-overrides : (x : Overrides) → ReadLays (overrides x)
lays-overrides x = tok x.hash also tok x.open also lays-connections x.connections also tok x.close

item_lays : (x : Item-F BodyRead BodyRead Read) → items.ItemParts BodyLays BodyLays ReadLays x → BodyLays (read_item x)
item_lays (Item-F.Empty t) h = tok t
item_lays (Item-F.Import x) h = lays-import x
item_lays (Item-F.Parameters word kind settings semicolon) h = tok word also opt lays-data_type kind also comma_list lays-setting settings also tok semicolon
item_lays (Item-F.Variables kind declarations semicolon) h = lays-data_type kind also comma_list lays-declaration declarations also tok semicolon
item_lays (Item-F.Assigns word assignments semicolon) h = tok word also comma_list lays-assignment assignments also tok semicolon
item_lays (Item-F.Comb word body) h = tok word also lays-stmt body
item_lays (Item-F.Star word at star body) h = tok word also tok at also tok star also lays-stmt body
item_lays (Item-F.ParenStar word at opens star closes body) h = tok word also tok at also tok opens also tok star also tok closes also lays-stmt body
item_lays (Item-F.Clocked word at opens events closes body) h =
    tok word also tok at also tok opens also comma_list lays-event events also tok closes also lays-stmt body
item_lays (Item-F.Genvars word names semicolon) h = tok word also comma_list tok names also tok semicolon
item_lays (Item-F.Generate word parts end) h = down (tok word also bodies parts h also tok end)
item_lays (Item-F.For head body) h = down (lays-loop_head head also h)
item_lays (Item-F.If branches x body) h = down (all branches h.0 also lays-test x also h.1)
item_lays (Item-F.IfElse branches last) h = down (all branches h.0 also h.1)
item_lays (Item-F.Instance child changes name opens joins closes semicolon) h =
    tok child also opt lays-overrides changes also tok name also tok opens also lays-connections joins also tok closes also tok semicolon

gen_block_lays : (x : GenBlock-F BodyRead BodyRead Read) → items.GenBlockParts BodyLays BodyLays ReadLays x → BodyLays (read_gen_block x)
gen_block_lays (GenBlock-F.Item x) h = h
gen_block_lays (GenBlock-F.Block begin name parts end end_name) h = down (tok begin also opt lays-label name also bodies parts h also tok end also opt lays-label end_name)

item_branch_lays : (x : ItemBranch-F BodyRead BodyRead Read) → items.ItemBranchParts BodyLays BodyLays ReadLays x → ReadLays (read_item_branch x)
item_branch_lays x h = lays-test x.test also h also tok x.else_word

lays-item : (x : Item) → BodyLays (item_read x)
lays-item = items.item_keeps BodyLays BodyLays ReadLays gen_block_lays item_lays item_branch_lays

-- ---- the whole

lays-parameter : (x : Parameter) → ReadLays (parameter x)
lays-parameter x = opt tok x.word also opt lays-data_type x.kind also lays-setting x.setting

lays-parameter_list : (x : ParameterList) → ReadLays (parameter_list x)
lays-parameter_list x = tok x.hash also tok x.open also comma_list lays-parameter x.list also tok x.close

lays-port : (x : Port) → ReadLays (port x)
lays-port x = opt tok x.direction also opt lays-data_type x.kind also tok x.name

lays-port_list : (x : PortList) → ReadLays (port_list x)
lays-port_list x = tok x.open also opt (comma_list lays-port) x.list also tok x.close

lays-module : (x : Module) → ReadLays (module_read x)
lays-module x =
    down (
    tok x.word also tok x.name also opt lays-parameter_list x.parameters also opt lays-port_list x.ports also tok x.semicolon
    also bodies (map item_read x.items) (each_mapped BodyLays item_read lays-item x.items) also tok x.end also opt lays-label x.end_label)

lays-description : (x : Description) → ReadLays (read_description x)
lays-description (description.Import x) = lays-import x
lays-description (description.Module x) = lays-module x

-- the tokens that stand with their depths are the tree's tokens
pub map-laid_of : (x : SourceTree) → map (λ t. t.0) (laid_of x) ≡ tokens x
unfolding laid_of tokens source_read
map-laid_of x = (list lays-description x.descriptions).same 0 []
