-- The rule of each form of an expression: from its parts, which were parsed, to the whole.
use Rattle.std.proofs.Common.{◌≡◌, ◌≤◌, ℕ, ◌+◌, Bool, true, false, not, ◌&&◌, ◌==◌, nat_le, eq-eqb, List, [], ◌∷◌, ◌++◌, map, length, refl, sym, ap, ◌∙◌, subst, arith}
use Rattle.std.proofs.lemmas.Bool.{eqb-true}
use Rattle.std.proofs.lemmas.Bool.Decides.{nat_tests}
use Rattle.std.proofs.lemmas.List.{map_push}
use Rattle.sv_tree.specs.declared.symbol.Symbol.TheVariants as symbol
use Rattle.sv_tree.specs.declared.token.Token.{Token}
use Rattle.sv_tree.specs.declared.tree.expr.Expr.{Expr}
use Rattle.sv_tree.specs.declared.tree.expr.Args.{Args}
use Rattle.sv_tree.specs.declared.tree.expr.Choice.{Choice, roll-Choice}
use Rattle.sv_tree.specs.declared.tree.expr.Select.{Select}
use Rattle.sv_tree.specs.declared.tree.expr.Step.{Step, roll-Step}
use Rattle.sv_tree.specs.declared.tree.expr.Expr.TheVariants as expression
use Rattle.sv_tree.specs.declared.tree.expr.Args.TheVariants as arguments
use Rattle.sv_tree.specs.declared.tree.expr.Select.TheVariants as selected
use Rattle.sv_tree.specs.Symbol.{level_of, is_prefix, is_part}
use Rattle.sv_tree.specs.TreeRead.{Symbols, Read, any, one_of, token, ◌then◌, deeper, asks, each, all_of}
use Rattle.sv_tree.specs.TreeExpr.{ExprRead, StepRead, is_empty, are_level, is_level, listed, primary, args_read, expr_read, select_read, choice_read, step_read, expr, selects, steps}
use Rattle.sv_tree.specs.TreeExprLaws.{args-Empty, args-Listed, expr-Decimal, expr-Based, expr-Sized, expr-Fill, expr-Name, expr-Paren, expr-Concat, expr-Repeat, expr-Call, expr-System, expr-Prefix, expr-Level, expr-Choose, select-Bit, select-Part, choice-roll, step-roll}
use Rattle.parse_expr.specs.Input.{Input, symbols, symbol_at, Takes, TakesThe}
use Rattle.parse_expr.specs.Made.{prefixed, levelled, chosen, Closes, ClosesTwice}
use Rattle.parse_expr.specs.Parsed.{Parsed, ParsedExpr, ParsedSteps}
use Rattle.parse_expr.specs.ParsedLaws.{one_at, any_at, token_at, ◌and◌, deep, by, grouped, asking, each_more, each_last, none_before, none_after}

module _ {x : Input} {d a b : ℕ} where
  -- an expression of this form, by its equation
  as_primary : (e : Expr) {p : Read} → expr_read e ≡ primary p → Parsed x d a b p → ParsedExpr x d a b 0 (expr_read e)
  as_primary e is h = subst (λ r. ParsedExpr x d a b 0 r) (sym is) (record { text = h; binds = refl })

-- ---- literals

module _ {x : Input} {d a b : ℕ} {t : Token} where
  pub rule_decimal : d ≤ 128 → TakesThe x symbol.Decimal a b t → ParsedExpr x d a b 0 (expr_read (expression.Decimal t))
  rule_decimal within h = as_primary _ (expr-Decimal t) (token_at within h)

  pub rule_based : d ≤ 128 → TakesThe x symbol.Based a b t → ParsedExpr x d a b 0 (expr_read (expression.Based t))
  rule_based within h = as_primary _ (expr-Based t) (token_at within h)

  pub rule_fill : d ≤ 128 → TakesThe x symbol.Fill a b t → ParsedExpr x d a b 0 (expr_read (expression.Fill t))
  rule_fill within h = as_primary _ (expr-Fill t) (token_at within h)

  pub rule_sized : {c : ℕ} {u : Token} → d ≤ 128 → TakesThe x symbol.Decimal a b t → TakesThe x symbol.Based b c u → ParsedExpr x d a c 0 (expr_read (expression.Sized t u))
  rule_sized {u = u} within h k = as_primary _ (expr-Sized t u) (token_at within h and token_at within k)

-- ---- primaries

module _ {x : Input} {d a b c : ℕ} where
  pub rule_name : {name : Token} (chosen : List Select) → d ≤ 128 → TakesThe x symbol.Name a b name → Parsed x d b c (selects chosen) → ParsedExpr x d a c 0 (expr_read (expression.Name name chosen))
  rule_name {name} chosen within h k = as_primary _ (expr-Name name chosen) (token_at within h and k)

module _ {x : Input} {d a b c e : ℕ} {opening : Token} where
  pub rule_paren : (inner made : Expr)
      → d + 1 ≤ 128 → TakesThe x symbol.ParenOpen a b opening → Parsed x (d + 1) b c (expr inner) → Closes x symbol.ParenClose c e (λ t. expression.Paren opening inner t) made
      → ParsedExpr x d a e 0 (expr_read made)
  rule_paren inner made within h k m =
      as_primary made (ap expr_read m.is ∙ expr-Paren opening inner m.close) (deep refl (token_at within h and k and token_at within m.takes))

  pub rule_concat : (first : Expr) (more : List Step) (made : Expr)
      → d + 1 ≤ 128 → TakesThe x symbol.BraceOpen a b opening → Parsed x (d + 1) b c (expr first then steps more)
      → Closes x symbol.BraceClose c e (λ t. expression.Concat opening first more t) made → ParsedExpr x d a e 0 (expr_read made)
  rule_concat first more made within h k m =
      as_primary made (ap expr_read m.is ∙ expr-Concat opening first more m.close)
      (deep refl (token_at within h and grouped (expr first) (steps more) (token symbol.BraceClose m.close) (k and token_at within m.takes)))

  pub rule_bit : (at : Expr) (made : Select)
      → d + 1 ≤ 128 → TakesThe x symbol.BracketOpen a b opening → Parsed x (d + 1) b c (expr at) → Closes x symbol.BracketClose c e (λ t. selected.Bit opening at t) made
      → Parsed x d a e (select_read made)
  rule_bit at made within h k m = by (ap select_read m.is ∙ select-Bit opening at m.close) (deep refl (token_at within h and k and token_at within m.takes))

  pub rule_part : {f g : ℕ} {mark : Token} (from to : Expr) (made : Select)
      → d + 1 ≤ 128 → TakesThe x symbol.BracketOpen a b opening → Parsed x (d + 1) b c (expr from) → is_part (symbol_at x c) ≡ true → Takes x c e mark
      → Parsed x (d + 1) e f (expr to) → Closes x symbol.BracketClose f g (λ t. selected.Part opening from mark to t) made → Parsed x d a g (select_read made)
  rule_part {mark = mark} from to made within h k part i n m =
      by (ap select_read m.is ∙ select-Part opening from mark to m.close)
      (deep refl (token_at within h and k and one_at is_part within part i and n and token_at within m.takes))

module _ {x : Input} {d a b c e f : ℕ} {name opening : Token} where
  pub rule_system : (arg made : Expr)
      → d + 1 ≤ 128 → TakesThe x symbol.System a b name → TakesThe x symbol.ParenOpen b c opening → Parsed x (d + 1) c e (expr arg)
      → Closes x symbol.ParenClose e f (λ t. expression.System name opening arg t) made → ParsedExpr x d a f 0 (expr_read made)
  rule_system arg made within h i k m =
      as_primary made (ap expr_read m.is ∙ expr-System name opening arg m.close)
      (token_at (omega arith) h and deep refl (token_at within i and k and token_at within m.takes))

  pub rule_call : (args : Args) (made : Expr)
      → d + 1 ≤ 128 → TakesThe x symbol.Name a b name → TakesThe x symbol.ParenOpen b c opening → Parsed x (d + 1) c e (args_read args)
      → Closes x symbol.ParenClose e f (λ t. expression.Call name opening args t) made → ParsedExpr x d a f 0 (expr_read made)
  rule_call args made within h i k m =
      as_primary made (ap expr_read m.is ∙ expr-Call name opening args m.close)
      (token_at (omega arith) h and deep refl (token_at within i and k and token_at within m.takes))

module _ {x : Input} {d a : ℕ} where
  pub rule_no_args : a ≤ length x.tokens → Parsed x d a a (args_read arguments.Empty)
  rule_no_args within = by args-Empty (asking (λ s. true) within refl)

module _ {x : Input} {d a b : ℕ} where
  pub rule_args : (first : Expr) (more : List Step) → Parsed x d a b (expr first then steps more) → Parsed x d a b (args_read (arguments.Listed first more))
  rule_args first more h = by (args-Listed first more) h

-- where only one expression stands in the braces so far
single : {x : Input} {d a b : ℕ} (first : Expr) (more : List Step) → more ≡ [] → Parsed x d a b (expr first then steps more) → Parsed x d a b (expr first)
single {x} {d} {a} {b} first more none h =
    none_after (λ (s : StepRead). token symbol.Comma s.mark then s.operand.text) (expr first) (subst (λ l. Parsed x d a b (expr first then listed (map step_read l))) none h)

module _ {x : Input} {d a b c e f g : ℕ} {opening inner_opening : Token} where
  pub rule_repeat : (count first : Expr) (none more : List Step) (made : Expr)
      → d + 2 ≤ 128 → none ≡ [] → TakesThe x symbol.BraceOpen a b opening → Parsed x (d + 1) b c (expr count then steps none) → TakesThe x symbol.BraceOpen c e inner_opening
      → Parsed x (d + 2) e f (expr first then steps more) → ClosesTwice x symbol.BraceClose f g (λ s t. expression.Repeat opening count inner_opening first more s t) made
      → ParsedExpr x d a g 0 (expr_read made)
  rule_repeat count first none more made within empty h k i n m =
      let outer : d + 1 ≤ 128 = omega arith in
      let inner : d + 2 ≡ d + 1 + 1 = omega arith in
      as_primary made (ap expr_read m.is ∙ expr-Repeat opening count inner_opening first more m.inner m.close)
      (deep refl (
      token_at outer h and single count none empty k
      and deep inner (token_at within i and grouped (expr first) (steps more) (token symbol.BraceClose m.inner) (n and token_at within m.takes_inner))
      and token_at outer m.takes))

-- ---- lists

module _ {x : Input} {d a b c e : ℕ} {mark : Token} where
  pub rule_steps : (more : List Step) (operand : Expr) → d ≤ 128 → Parsed x d a b (steps more) → TakesThe x symbol.Comma b c mark → Parsed x d c e (expr operand)
      → Parsed x d a e (steps (more ++ roll-Step (record { mark = mark; operand = operand }) ∷ []))
  rule_steps more operand within h k n =
      by (ap listed (map_push step_read more _ ∙ ap (λ s. map step_read more ++ s ∷ []) (step-roll mark operand)))
      (each_more (λ s. token symbol.Comma s.mark then s.operand.text) (map step_read more) (record { mark = mark; operand = expr_read operand }) h (token_at within k and n))

module _ {x : Input} {d a b c : ℕ} where
  pub rule_selects : (chosen : List Select) (one : Select) → Parsed x d a b (selects chosen) → Parsed x d b c (select_read one) → Parsed x d a c (selects (chosen ++ one ∷ []))
  rule_selects chosen one h k = by (ap all_of (map_push select_read chosen one)) (each_more (λ p. p) (map select_read chosen) (select_read one) h k)

  pub rule_prefixes : (marks : List Token) (mark : Token) → d ≤ 128 → Parsed x d a b (each (one_of is_prefix) marks) → is_prefix (symbol_at x b) ≡ true → Takes x b c mark
      → Parsed x d a c (each (one_of is_prefix) (marks ++ mark ∷ []))
  rule_prefixes marks mark within h is k = each_more (one_of is_prefix) marks mark h (one_at is_prefix within is k)

-- ---- operators

and_true : (a b : Bool) → a ≡ true → b ≡ true → a && b ≡ true
and_true a b h k = rw (h, k) refl

looser : (a b : ℕ) → nat_le a b ≡ true → nat_le a (b + 1) ≡ true
looser a b h = grind (arith, nat_tests)

module _ {x : Input} {d a b c : ℕ} where
  -- prefix operators before a primary
  pub rule_prefixed : (marks : List Token) (operand made : Expr) → made ≡ prefixed marks operand → Parsed x d a b (each (one_of is_prefix) marks) → ParsedExpr x d b c 0 (expr_read operand)
      → ParsedExpr x d a c 1 (expr_read made)
  rule_prefixed marks operand made is h k = subst (λ e. ParsedExpr x d a c 1 (expr_read e)) (sym is) (cases marks h)
    where
      cases : (marks : List Token) → Parsed x d a b (each (one_of is_prefix) marks) → ParsedExpr x d a c 1 (expr_read (prefixed marks operand))
      cases [] h = record { text = none_before (one_of is_prefix) h k.text; binds = looser _ 0 k.binds }
      cases (t ∷ ts) h =
          subst (λ r. ParsedExpr x d a c 1 r) (sym (expr-Prefix (t ∷ ts) operand)) (record {
            text = asking (λ s. not (is_empty (t ∷ ts)) && nat_le ((expr_read operand).rank s) 0) (omega (arith, h.forward, h.within)) k.binds and h and k.text;
            binds = refl;
          })

are_level-more : (s : Symbols) (n : ℕ) (xs : List StepRead) (y : StepRead)
    → are_level s n xs ≡ true → level_of (s y.mark) == n ≡ true → nat_le (y.operand.rank s) n ≡ true → are_level s n (xs ++ y ∷ []) ≡ true
are_level-more s n [] y h i k = rw (i, k) refl
are_level-more s n (z ∷ zs) y h i k = shifted (level_of (s z.mark) == n && nat_le (z.operand.rank s) n) (are_level s n zs) h (λ rest. are_level-more s n zs y rest i k)
  where
    shifted : (a b : Bool) {e : Bool} → a && b ≡ true → (b ≡ true → e ≡ true) → a && e ≡ true
    shifted true b h k = k h
    shifted false b h k = h

module _ {x : Input} {d a b c e n : ℕ} {mark : Token} where
  pub rule_operator : (more : List Step) (operand : Expr) → d ≤ 128 → ParsedSteps x d a b n (map step_read more) → level_of (symbol_at x b) ≡ n → Takes x b c mark → ParsedExpr x d c e n (expr_read operand)
      → ParsedSteps x d a e n (map step_read (more ++ roll-Step (record { mark = mark; operand = operand }) ∷ []))
  rule_operator more operand within h is i k =
      subst (λ l. ParsedSteps x d a e n l) (sym (map_push step_read more _ ∙ ap (λ s. map step_read more ++ s ∷ []) (step-roll mark operand))) (record {
        text = each_more (λ s. any s.mark then s.operand.text) (map step_read more) (record { mark = mark; operand = expr_read operand }) h.text (any_at within i and k.text);
        are = are_level-more (symbols x) n (map step_read more) (record { mark = mark; operand = expr_read operand }) h.are (eq-eqb _ _ (ap level_of i.symbol ∙ is)) k.binds;
      })

first_is : (s : Symbols) (n : ℕ) (x : StepRead) (xs : List StepRead) → are_level s n (x ∷ xs) ≡ true → level_of (s x.mark) ≡ n
first_is s n x xs h = eqb-true (level_of (s x.mark)) n (front (level_of (s x.mark) == n) _ _ h)
  where
    front : (a b c : Bool) → (a && b) && c ≡ true → a ≡ true
    front true b c e = refl
    front false b c e = e

is_level-from : (s : Symbols) (n : ℕ) (first : ExprRead) (x : StepRead) (xs : List StepRead)
    → 1 ≤ n → nat_le (first.rank s) n ≡ true → are_level s n (x ∷ xs) ≡ true → is_level first (x ∷ xs) s ≡ true
is_level-from s n first x xs positive h k =
    let e = first_is s n x xs k in
    subst (λ m. (nat_le 1 m && nat_le (first.rank s) m) && are_level s m (x ∷ xs) ≡ true) (sym e)
    (and_true (nat_le 1 n && nat_le (first.rank s) n) _ (and_true (nat_le 1 n) _ (grind (arith, nat_tests)) h) k)

module _ {x : Input} {d a b c n : ℕ} where
  pub rule_levelled : (first : Expr) (more : List Step) (made : Expr) → made ≡ levelled first more → 1 ≤ n → ParsedExpr x d a b n (expr_read first) → ParsedSteps x d b c n (map step_read more)
      → ParsedExpr x d a c (n + 1) (expr_read made)
  rule_levelled first more made is positive h k = subst (λ e. ParsedExpr x d a c (n + 1) (expr_read e)) (sym is) (cases more k)
    where
      cases : (more : List Step) → ParsedSteps x d b c n (map step_read more) → ParsedExpr x d a c (n + 1) (expr_read (levelled first more))
      cases [] k = record { text = none_after (λ (s : StepRead). any s.mark then s.operand.text) (expr first) (h.text and k.text); binds = looser _ n h.binds }
      cases (y ∷ ys) k =
          subst (λ r. ParsedExpr x d a c (n + 1) r) (sym (expr-Level first (y ∷ ys))) (record {
            text = asking (is_level (expr_read first) (map step_read (y ∷ ys))) (omega (arith, h.text.forward, h.text.within))
                (is_level-from (symbols x) n (expr_read first) (step_read y) (map step_read ys) positive h.binds k.are)
                and h.text and k.text;
            binds = let e = first_is (symbols x) n (step_read y) (map step_read ys) k.are in rw e (grind (arith, nat_tests));
          })

-- ---- chains of `?:`

-- tests with their values, and the operand after them
pub record Tested (x : Input) (d start end : ℕ) (choices : List Choice) (last : Expr) : Type 0 where
  pub text : Parsed x d start end (all_of (map choice_read choices) then expr last)
  pub binds : nat_le ((expr_read last).rank (symbols x)) 11 ≡ true

pub tested_none : {x : Input} {d a b : ℕ} (last : Expr) → ParsedExpr x d a b 11 (expr_read last) → Tested x d a b [] last
tested_none last h = record { text = h.text; binds = h.binds }

regrouped : {x : Input} {d a b : ℕ} (p q r : Read) (c : Symbols → Bool) → c (symbols x) ≡ true → Parsed x d a b ((p then q) then r) → Parsed x d a b (p then asks c then q then r)
regrouped {x} p q r c asked h = record {
  prints = h.prints;
  shaped = rw asked (grouped p q r h).shaped;
  shallow = h.shallow;
  forward = h.forward;
  within = h.within;
}

module _ {x : Input} {d a b c e f g : ℕ} {question : Token} where
  pub rule_choice : (choices : List Choice) (test value next : Expr) (made : Choice)
      → d + 1 ≤ 128 → Tested x d a b choices test → TakesThe x symbol.Question b c question → Parsed x (d + 1) c e (expr value)
      → Closes x symbol.Colon e f (λ t. roll-Choice (record { test = test; question = question; value = value; colon = t })) made → ParsedExpr x d f g 11 (expr_read next)
      → Tested x d a g (choices ++ made ∷ []) next
  rule_choice choices test value next made within h i k m n = record {
    text = by (ap (λ l. all_of l then expr next) (map_push choice_read choices made ∙ ap (λ y. map choice_read choices ++ y ∷ []) (ap choice_read m.is ∙ choice-roll test question value m.close))) (
        each_last (λ p. p) (map choice_read choices) _ (
        regrouped (all_of (map choice_read choices)) (expr test) (token symbol.Question question then deeper (expr value) then token symbol.Colon m.close) (λ s. nat_le ((expr_read test).rank s) 11) h.binds (
        h.text and token_at (omega arith) i and deep refl k and token_at (omega arith) m.takes))
        and n.text);
    binds = n.binds;
  }

module _ {x : Input} {d a b : ℕ} where
  pub rule_chosen : (choices : List Choice) (last made : Expr) → made ≡ chosen choices last → Tested x d a b choices last → Parsed x d a b (expr made)
  rule_chosen choices last made is h = subst (λ e. Parsed x d a b (expr e)) (sym is) (cases choices h)
    where
      cases : (choices : List Choice) → Tested x d a b choices last → Parsed x d a b (expr (chosen choices last))
      cases [] h = h.text
      cases (y ∷ ys) h =
          by (ap (λ r. r.text) (expr-Choose (y ∷ ys) last))
          (asking (λ s. not (is_empty (map choice_read (y ∷ ys))) && nat_le ((expr_read last).rank s) 11) (omega (arith, h.text.forward, h.text.within)) h.binds and h.text)
