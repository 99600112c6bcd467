-- Operators before an operand: from the innermost on, each at the width that it finds.
use Rattle.std.proofs.Common.{◌≡◌, ◌<◌, ℕ, suc, ◌+◌, ◌-◌, ◌^◌, Bool, true, false, ◌⊎◌, inl, inr, List, [], ◌∷◌, map, length, take, drop, get_or, refl, sym, ap, ◌∙◌, arith}
use Rattle.vs_base.specs.declared.types.ValueType.{ValueType}
use Rattle.std.specs.Prelude.{not, ◌==◌, count_ones}
use Rattle.std.proofs.Math.Nat.{mod-mod, mod-eq_of_lt}
use Rattle.std.proofs.Math.Seq.{drop-cons}
use Rattle.vs_base.specs.Number.{Number, kept}
use Rattle.vs_base.specs.NumberLaws.{same_number}
use Rattle.vs_base.specs.Operators.{truth, inverted, holds_true}
use Rattle.sv_tree.specs.declared.token.Token.{Token}
use Rattle.sv_tree.specs.declared.symbol.Symbol.{Symbol}
use Rattle.sv_tree.specs.declared.symbol.Symbol.TheVariants as sym
use Rattle.vs_base.specs.Types.{in_context}
use Rattle.sv_expr.specs.Bound.{bit}
use Rattle.sv_expr.specs.Operator.{is_reduction, prefixed}
use Rattle.sv_expr.specs.Meaning.{Meaning, alone, prefix_kind, prefix_value}
use Rattle.sv_expr.specs.Walk.{prefixed_all, plain_count}

-- ---- one operator

pub prefixed-width : (s : Symbol) (n : Number) → is_reduction s ≡ false → (prefixed s n).width ≡ n.width
prefixed-width sym.Bang n h = absurd (cc)
prefixed-width sym.Amp n h = absurd (cc)
prefixed-width sym.TildeAmp n h = absurd (cc)
prefixed-width sym.Pipe n h = absurd (cc)
prefixed-width sym.TildePipe n h = absurd (cc)
prefixed-width sym.Caret n h = absurd (cc)
prefixed-width sym.TildeCaret n h = absurd (cc)
prefixed-width sym.CaretTilde n h = absurd (cc)
prefixed-width _ n h = refl

truth_bit : (b : Bool) → in_context (truth b) bit ≡ truth b
truth_bit true = refl
truth_bit false = refl

untruth_bit : (b : Bool) → in_context (inverted (truth b)) bit ≡ inverted (truth b)
untruth_bit true = refl
untruth_bit false = refl

odd_bit : (x : ℕ) → in_context (kept 1 x) bit ≡ kept 1 x
odd_bit x = same_number 1 (mod-mod x 2)

unodd_bit : (x : ℕ) → in_context (inverted (kept 1 x)) bit ≡ inverted (kept 1 x)
unodd_bit x = same_number 1 (mod-eq_of_lt (omega arith))

-- a reduction gives one bit
reduced_bit : (s : Symbol) (n : Number) → is_reduction s ≡ true → in_context (prefixed s n) bit ≡ prefixed s n
reduced_bit sym.Bang n h = truth_bit (not (holds_true n))
reduced_bit sym.Amp n h = truth_bit (n.value == 2 ^ n.width - 1)
reduced_bit sym.TildeAmp n h = untruth_bit (n.value == 2 ^ n.width - 1)
reduced_bit sym.Pipe n h = truth_bit (not (n.value == 0))
reduced_bit sym.TildePipe n h = untruth_bit (not (n.value == 0))
reduced_bit sym.Caret n h = odd_bit (count_ones n.value)
reduced_bit sym.TildeCaret n h = unodd_bit (count_ones n.value)
reduced_bit sym.CaretTilde n h = unodd_bit (count_ones n.value)
reduced_bit _ n h = absurd (cc)

-- ---- operators taken alone, and in a context

which : (b : Bool) → (b ≡ true) ⊎ (b ≡ false)
which true = inl refl
which false = inr refl

alone_is : (symbols : List Symbol) (m : Meaning) → prefix_value symbols m (prefix_kind symbols m.typed.kind) ≡ prefixed_all symbols (alone m)
alone_is [] m = refl
alone_is (s ∷ more) m = by (which (is_reduction s)) (alone_is more m)
  where
    by : (is_reduction s ≡ true) ⊎ (is_reduction s ≡ false) → prefix_value more m (prefix_kind more m.typed.kind) ≡ prefixed_all more (alone m) → prefix_value (s ∷ more) m (prefix_kind (s ∷ more) m.typed.kind) ≡ prefixed_all (s ∷ more) (alone m)
    by (inl e) rest = rw e (reduced_bit s (prefix_value more m (prefix_kind more m.typed.kind)) e ∙ ap (prefixed s) rest)
    by (inr e) rest = rw e (ap (prefixed s) rest)

module _ (symbols : Token → Symbol) where
  -- operators that all go with the context
  pub plain_is : (marks : List Token) (m : Meaning) (context : ValueType) → plain_count symbols marks ≡ length marks → prefix_value (map symbols marks) m context ≡ prefixed_all (map symbols marks) (m.value context)
  plain_is [] m context h = refl
  plain_is (t ∷ more) m context h = by (which (is_reduction (symbols t))) h (plain_is more m context)
    where
      by : (is_reduction (symbols t) ≡ true) ⊎ (is_reduction (symbols t) ≡ false) → plain_count symbols (t ∷ more) ≡ length (t ∷ more)
          → (plain_count symbols more ≡ length more → prefix_value (map symbols more) m context ≡ prefixed_all (map symbols more) (m.value context))
          → prefix_value (map symbols (t ∷ more)) m context ≡ prefixed_all (map symbols (t ∷ more)) (m.value context)
      by (inl e) all rest = absurd (let none : 0 ≡ suc (length more) = rw e at all in omega arith)
      by (inr e) all rest = (let same : suc (plain_count symbols more) ≡ suc (length more) = rw e at all in rw e (ap (prefixed (symbols t)) (rest (omega arith))))

  -- the operators from the first one on that takes its operand alone, and those before it
  pub split_is : (marks : List Token) (m : Meaning) (context : ValueType) → plain_count symbols marks < length marks
      → prefix_value (map symbols marks) m context
      ≡ prefixed_all (map symbols (take (plain_count symbols marks) marks)) (in_context (prefixed_all (map symbols (drop (plain_count symbols marks) marks)) (alone m)) context)
  split_is [] m context h = absurd (omega arith)
  split_is (t ∷ more) m context h = by (which (is_reduction (symbols t))) h (split_is more m context)
    where
      by : (is_reduction (symbols t) ≡ true) ⊎ (is_reduction (symbols t) ≡ false) → plain_count symbols (t ∷ more) < length (t ∷ more)
          → (plain_count symbols more < length more → prefix_value (map symbols more) m context
          ≡ prefixed_all (map symbols (take (plain_count symbols more) more)) (in_context (prefixed_all (map symbols (drop (plain_count symbols more) more)) (alone m)) context))
          → prefix_value (map symbols (t ∷ more)) m context
          ≡ prefixed_all (map symbols (take (plain_count symbols (t ∷ more)) (t ∷ more))) (in_context (prefixed_all (map symbols (drop (plain_count symbols (t ∷ more)) (t ∷ more))) (alone m)) context)
      by (inl e) some rest = rw e (ap (λ (n : Number). in_context (prefixed (symbols t) n) context) (alone_is (map symbols more) m))
      by (inr e) some rest = (let less : suc (plain_count symbols more) < suc (length more) = rw e at some in rw e (ap (prefixed (symbols t)) (rest (omega arith))))

  -- the operators that go with the context keep the width
  pub plain_width : (marks : List Token) (n : Number) → (prefixed_all (map symbols (take (plain_count symbols marks) marks)) n).width ≡ n.width
  plain_width [] n = refl
  plain_width (t ∷ more) n = by (which (is_reduction (symbols t))) (plain_width more n)
    where
      by : (is_reduction (symbols t) ≡ true) ⊎ (is_reduction (symbols t) ≡ false) → (prefixed_all (map symbols (take (plain_count symbols more) more)) n).width ≡ n.width
          → (prefixed_all (map symbols (take (plain_count symbols (t ∷ more)) (t ∷ more))) n).width ≡ n.width
      by (inl e) rest = rw e refl
      by (inr e) rest = rw e (prefixed-width (symbols t) (prefixed_all (map symbols (take (plain_count symbols more) more)) n) e ∙ rest)

  pub all_width : (marks : List Token) (n : Number) → plain_count symbols marks ≡ length marks → (prefixed_all (map symbols marks) n).width ≡ n.width
  all_width marks n all =
      let whole : take (plain_count symbols marks) marks ≡ marks = ap (λ (k : ℕ). take k marks) all ∙ take_all marks in
      ap (λ (ts : List Token). (prefixed_all (map symbols ts) n).width) (sym whole) ∙ plain_width marks n
    where
      take_all : (ts : List Token) → take (length ts) ts ≡ ts
      take_all [] = refl
      take_all (t ∷ ts) = ap (λ (us : List Token). t ∷ us) (take_all ts)

  -- one operator further out
  pub next_out : (marks : List Token) (i : ℕ) (d : Token) (n : Number) → i < length marks
      → prefixed (symbols (get_or marks (length marks - 1 - i) d)) (prefixed_all (map symbols (drop (length marks - i) marks)) n) ≡ prefixed_all (map symbols (drop (length marks - (i + 1)) marks)) n
  next_out marks i d n less =
      let at : length marks - (i + 1) ≡ length marks - 1 - i = omega arith in
      let up : suc (length marks - 1 - i) ≡ length marks - i = omega arith in
      let cons : drop (length marks - 1 - i) marks ≡ get_or marks (length marks - 1 - i) d ∷ drop (suc (length marks - 1 - i)) marks = drop-cons marks (length marks - 1 - i) d (omega arith) in
      sym (
      ap (λ (k : ℕ). prefixed_all (map symbols (drop k marks)) n) at
      ∙ ap (λ (ts : List Token). prefixed_all (map symbols ts) n) cons
      ∙ ap (λ (k : ℕ). prefixed (symbols (get_or marks (length marks - 1 - i) d)) (prefixed_all (map symbols (drop k marks)) n)) up)
