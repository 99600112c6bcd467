-- A code that keeps to what the ranges of its process reach touches only what its node may.
use Rattle.std.proofs.Common.{◌≡◌, ℕ, zero, suc, ◌+◌, ◌-◌, ◌*◌, ◌<◌, ◌==◌, ◌⊎◌, Bool, true, false, ◌&&◌, ◌||◌, List, [], ◌∷◌, Option, Some, None, refl, sym, ap, subst, ◌∙◌, arith, inl, inr}
use Rattle.std.specs.Prelude.{nat_lt, slice_get}
use Rattle.std.specs.List.{list_all}
use Rattle.std.proofs.lemmas.Bool.{and_parts, and_from, eqb-true, ltb-true, or_cases, or_left, or_right}
use Rattle.rtl_ir.specs.declared.whole.Design.{Design}
use Rattle.rtl_pieces.specs.declared.layout.Word.{Word}
use Rattle.rtl_pieces.specs.declared.range.BitRange.{BitRange}
use Rattle.rtl_pieces.specs.Line.{Line, has}
use Rattle.rtl_pieces.specs.Bits.{line_in, reads, writes}
use Rattle.proc_calls.specs.Calls.{is_called}
use Rattle.plan_graph.specs.declared.node.Node.{Node}
use Rattle.plan_graph.specs.declared.node.Node.TheVariants as node
use Rattle.task_eval.specs.Codes.{Ops}
use Rattle.task_eval.specs.declared.index.Elements.{Elements}
use Rattle.task_eval.specs.declared.op.Op.{Op}
use Rattle.task_eval.specs.declared.op.Op.TheVariants as op
use Rattle.plan_types.specs.Coded.{code_number}
use Rattle.plan_types.specs.Cuts.{IsCut}
use Rattle.plan_types.specs.Touches.{Touch, named, written, shadowed, touch_of, all_below, op_keeps, code_keeps, keeps_to_its_own}
use Rattle.model_build.specs.Reaching as by
use Rattle.model_build.specs.Reaching.{proc_of, spans, plain_reached}
use Rattle.model_build.proofs.Reaching.{plain_on, shadow_on}
use Rattle.model_build.proofs.Spanning.{spanned}

below_under : (p q : ℕ → Bool) (n : ℕ) → ((k : ℕ) → p k ≡ true → q k ≡ true) → all_below p n ≡ true → all_below q n ≡ true
below_under p q zero on all = refl
below_under p q (suc n) on all =
    let parts = and_parts (p n) (all_below p n) all in
    and_from (q n) (all_below q n) (on n parts.0) (below_under p q n on parts.1)

below_from : (q : ℕ → Bool) (n : ℕ) → ((k : ℕ) → k < n → q k ≡ true) → all_below q n ≡ true
below_from q zero each = refl
below_from q (suc n) each = and_from (q n) (all_below q n) (each n (omega arith)) (below_from q n (λ k less. each k (omega (arith, less))))

-- one of listed elements that pass a test has the same words
found : (q : Elements → Bool) (listed : List Elements) (e : Elements) → list_all q listed ≡ true → by.is_listed listed e ≡ true → (f : Elements) × (q f ≡ true) × (by.is_same e f ≡ true)
found q [] e all is = absurd (let g : false ≡ true = is in cc)
found q (f ∷ more) e all is = by_cases (λ rest. found q more e (and_parts (q f) (list_all q more) all).1 rest) (or_cases (by.is_same e f) (by.is_listed more e) is)
  where
    by_cases : (by.is_listed more e ≡ true → (g : Elements) × (q g ≡ true) × (by.is_same e g ≡ true)) → (by.is_same e f ≡ true) ⊎ (by.is_listed more e ≡ true) → (g : Elements) × (q g ≡ true) × (by.is_same e g ≡ true)
    by_cases others (inl same) = (f, (and_parts (q f) (list_all q more) all).0, same)
    by_cases others (inr rest) = others rest

same_words : (passes : ℕ → Bool) (e f : Elements) → by.is_same e f ≡ true → all_below (λ k. passes (f.base + k * f.stride)) f.count ≡ true → all_below (λ k. passes (e.base + k * e.stride)) e.count ≡ true
same_words passes e f same all =
    let outer = and_parts (f.base == e.base && f.stride == e.stride) (f.count == e.count) same in
    let inner = and_parts (f.base == e.base) (f.stride == e.stride) outer.0 in
    subst (λ count. all_below (λ k. passes (e.base + k * e.stride)) count ≡ true) (eqb-true f.count e.count outer.1)
    (subst (λ stride. all_below (λ k. passes (e.base + k * stride)) f.count ≡ true) (eqb-true f.stride e.stride inner.1)
    (subst (λ base. all_below (λ k. passes (base + k * f.stride)) f.count ≡ true) (eqb-true f.base e.base inner.0) all))

-- what may be touched by one may be by another, where elements are tested so
record Under (t u : Touch) (all_by : Elements → Bool) : Type 0 where
  pub loads : (w : ℕ) → t.loads w ≡ true → u.loads w ≡ true
  pub loads_all : (e : Elements) → all_by e ≡ true → all_below (λ k. u.loads (e.base + k * e.stride)) e.count ≡ true
  pub stores : (w : ℕ) → t.stores w ≡ true → u.stores w ≡ true
  pub calls : (import : ℕ) → t.calls import ≡ true → u.calls import ≡ true

module _ (design : Design) (words : List Word) (called : List Bool) (read write : List BitRange) (cut : IsCut design words) (known : (k : ℕ) → by.called_by called k ≡ true → is_called design.procs k ≡ true) where
  abbrev line : Line
  line = line_in design

  module _ (p : ℕ) (same_read : (b : ℕ) → has b read ≡ reads (line_in design) design.procs p b) (same_write : (b : ℕ) → has b write ≡ writes (line_in design) design.procs p b) where
    abbrev names : ℕ → Bool
    names b = reads (line_in design) design.procs p b || writes (line_in design) design.procs p b

    from_read : (b : ℕ) → has b read ≡ true → names b ≡ true
    from_read b h = or_left (reads line design.procs p b) (writes line design.procs p b) (sym (same_read b) ∙ h)

    from_write : (b : ℕ) → has b write ≡ true → names b ≡ true
    from_write b h = or_right (reads line design.procs p b) (writes line design.procs p b) (sym (same_write b) ∙ h)

    named_on : (w : ℕ) → by.named_by words line called read write w ≡ true → named design words p w ≡ true
    named_on w is = by_cases (or_cases (plain_reached line read (slice_get words w)) (plain_reached line write (slice_get words w)) is)
      where
        by_cases : (plain_reached line read (slice_get words w) ≡ true) ⊎ (plain_reached line write (slice_get words w) ≡ true) → named design words p w ≡ true
        by_cases (inl e) = plain_on line read names from_read (slice_get words w) e
        by_cases (inr e) = plain_on line write names from_write (slice_get words w) e

    written_on : (w : ℕ) → by.written_by words line called read write w ≡ true → written design words p w ≡ true
    written_on w is = plain_on line write (writes line design.procs p) (λ b h. sym (same_write b) ∙ h) (slice_get words w) is

    shadowed_on : (w : ℕ) → by.shadowed_by words line called read write w ≡ true → shadowed design words p w ≡ true
    shadowed_on w is = shadow_on line write (writes line design.procs p) (λ b h. sym (same_write b) ∙ h) (slice_get words w) is

    body_on : (w : ℕ) → (by.named_by words line called read write w || by.shadowed_by words line called read write w) ≡ true → (named design words p w || shadowed design words p w) ≡ true
    body_on w is = by_cases (or_cases (by.named_by words line called read write w) (by.shadowed_by words line called read write w) is)
      where
        by_cases : (by.named_by words line called read write w ≡ true) ⊎ (by.shadowed_by words line called read write w ≡ true) → (named design words p w || shadowed design words p w) ≡ true
        by_cases (inl e) = or_left (named design words p w) (shadowed design words p w) (named_on w e)
        by_cases (inr e) = or_right (named design words p w) (shadowed design words p w) (shadowed_on w e)

    -- elements that one range spans are all named
    all_named : (e : Elements) → by.elements_by words line called read write e ≡ true → (k : ℕ) → k < e.count → named design words p (e.base + k * e.stride) ≡ true
    all_named e is k less =
        let parts = and_parts (nat_lt 0 e.base) (spans line read (slice_get words e.base) (slice_get words (e.base + (e.count - 1) * e.stride)) || spans line write (slice_get words e.base) (slice_get words (e.base + (e.count - 1) * e.stride))) is in
        by_cases (ltb-true 0 e.base parts.0) (or_cases (spans line read (slice_get words e.base) (slice_get words (e.base + (e.count - 1) * e.stride))) (spans line write (slice_get words e.base) (slice_get words (e.base + (e.count - 1) * e.stride))) parts.1)
      where
        by_cases : 0 < e.base → (spans line read (slice_get words e.base) (slice_get words (e.base + (e.count - 1) * e.stride)) ≡ true) ⊎ (spans line write (slice_get words e.base) (slice_get words (e.base + (e.count - 1) * e.stride)) ≡ true) → named design words p (e.base + k * e.stride) ≡ true
        by_cases some (inl s) = spanned design words cut read names from_read e some s k less
        by_cases some (inr s) = spanned design words cut write names from_write e some s k less

    comb_all : (e : Elements) → by.loads_all_by words line called read write (node.Comb p) e ≡ true → all_below (λ k. named design words p (e.base + k * e.stride)) e.count ≡ true
    comb_all e is = by_cases (or_cases (by.elements_by words line called read write e) (all_below (λ k. by.named_by words line called read write (e.base + k * e.stride)) e.count) is)
      where
        by_cases : (by.elements_by words line called read write e ≡ true) ⊎ (all_below (λ k. by.named_by words line called read write (e.base + k * e.stride)) e.count ≡ true) → all_below (λ k. named design words p (e.base + k * e.stride)) e.count ≡ true
        by_cases (inl s) = below_from (λ k. named design words p (e.base + k * e.stride)) e.count (all_named e s)
        by_cases (inr s) = below_under (λ k. by.named_by words line called read write (e.base + k * e.stride)) (λ k. named design words p (e.base + k * e.stride)) e.count (λ k h. named_on (e.base + k * e.stride) h) s

    body_all : (e : Elements) → by.loads_all_by words line called read write (node.Body p) e ≡ true → all_below (λ k. named design words p (e.base + k * e.stride) || shadowed design words p (e.base + k * e.stride)) e.count ≡ true
    body_all e is = by_cases (or_cases (by.elements_by words line called read write e) (all_below (λ k. by.named_by words line called read write (e.base + k * e.stride) || by.shadowed_by words line called read write (e.base + k * e.stride)) e.count) is)
      where
        by_cases : (by.elements_by words line called read write e ≡ true) ⊎ (all_below (λ k. by.named_by words line called read write (e.base + k * e.stride) || by.shadowed_by words line called read write (e.base + k * e.stride)) e.count ≡ true)
            → all_below (λ k. named design words p (e.base + k * e.stride) || shadowed design words p (e.base + k * e.stride)) e.count ≡ true
        by_cases (inl s) =
            below_from (λ k. named design words p (e.base + k * e.stride) || shadowed design words p (e.base + k * e.stride)) e.count
            (λ k less. or_left (named design words p (e.base + k * e.stride)) (shadowed design words p (e.base + k * e.stride)) (all_named e s k less))
        by_cases (inr s) =
            below_under (λ k. by.named_by words line called read write (e.base + k * e.stride) || by.shadowed_by words line called read write (e.base + k * e.stride))
            (λ k. named design words p (e.base + k * e.stride) || shadowed design words p (e.base + k * e.stride)) e.count (λ k h. body_on (e.base + k * e.stride) h) s

    commit_all : (e : Elements) → by.loads_all_by words line called read write (node.Commit p) e ≡ true → all_below (λ k. shadowed design words p (e.base + k * e.stride)) e.count ≡ true
    commit_all e is = below_under (λ k. by.shadowed_by words line called read write (e.base + k * e.stride)) (λ k. shadowed design words p (e.base + k * e.stride)) e.count (λ k h. shadowed_on (e.base + k * e.stride) h) is

  under : (n : Node) → ((b : ℕ) → has b read ≡ reads (line_in design) design.procs (proc_of n) b) → ((b : ℕ) → has b write ≡ writes (line_in design) design.procs (proc_of n) b)
      → Under (by.touch_by words (line_in design) called read write n) (touch_of design words n) (by.loads_all_by words (line_in design) called read write n)
  under (node.Comb p) r w = record { loads = named_on p r w; loads_all = comb_all p r w; stores = written_on p r w; calls = known }
  under (node.Body p) r w = record { loads = body_on p r w; loads_all = body_all p r w; stores = shadowed_on p r w; calls = known }
  under (node.Commit p) r w = record { loads = shadowed_on p r w; loads_all = commit_all p r w; stores = written_on p r w; calls = λ import is. is }

  module _ (n : Node) (u : Under (by.touch_by words (line_in design) called read write n) (touch_of design words n) (by.loads_all_by words (line_in design) called read write n)) (loaded stored : List Elements)
      (all_loaded : list_all (by.loads_all_by words (line_in design) called read write n) loaded ≡ true) (all_stored : list_all (by.stores_all_by words (line_in design) called read write n) stored ≡ true) where
    op_kept : (o : Op) → by.op_by words line called read write n loaded stored o ≡ true → op_keeps (touch_of design words n) o ≡ true
    op_kept (op.Push x) h = refl
    op_kept (op.Load word width) h = u.loads word h
    op_kept (op.LoadAt e width) h =
        let f = found (by.loads_all_by words line called read write n) loaded e all_loaded h in
        same_words (touch_of design words n).loads e f.0 f.2 (u.loads_all f.0 f.1)
    op_kept (op.Store word width) h = u.stores word h
    op_kept (op.StoreAt e width) h =
        let f = found (by.stores_all_by words line called read write n) stored e all_stored h in
        same_words (touch_of design words n).stores e f.0 f.2
        (below_under (λ k. (by.touch_by words line called read write n).stores (f.0.base + k * f.0.stride)) (λ k. (touch_of design words n).stores (f.0.base + k * f.0.stride)) f.0.count (λ k is. u.stores (f.0.base + k * f.0.stride) is) f.1)
    op_kept (op.Slice at width) h = refl
    op_kept (op.SliceAt i width) h = refl
    op_kept (op.Place at) h = refl
    op_kept (op.PlaceAt i) h = refl
    op_kept (op.Extend width signed) h = refl
    op_kept (op.One o) h = refl
    op_kept (op.Two o width signed) h = refl
    op_kept (op.Join high low) h = refl
    op_kept (op.Repeat times width) h = refl
    op_kept (op.Pick below) h = refl
    op_kept op.Drop h = refl
    op_kept (op.Skip k) h = refl
    op_kept (op.SkipIfZero k) h = refl
    op_kept (op.SkipIfTrue k) h = refl
    op_kept (op.Call import count width) h = u.calls import h

    ops_kept : (ops : List Op) → list_all (by.op_by words line called read write n loaded stored) ops ≡ true → list_all (op_keeps (touch_of design words n)) ops ≡ true
    ops_kept [] h = refl
    ops_kept (o ∷ more) h =
        let parts = and_parts (by.op_by words line called read write n loaded stored o) (list_all (by.op_by words line called read write n loaded stored) more) h in
        and_from (op_keeps (touch_of design words n) o) (list_all (op_keeps (touch_of design words n)) more) (op_kept o parts.0) (ops_kept more parts.1)

  code_kept : (n : Node) → Under (by.touch_by words (line_in design) called read write n) (touch_of design words n) (by.loads_all_by words (line_in design) called read write n)
      → (code : Option Ops) → by.CodeBy words (line_in design) called read write n code → code_keeps (touch_of design words n) code ≡ true
  code_kept n u (Some code) h =
      let both = and_parts (list_all (by.loads_all_by words line called read write n) h.0 && list_all (by.stores_all_by words line called read write n) h.1) (list_all (by.op_by words line called read write n h.0 h.1) code.ops) h.2 in
      let each = and_parts (list_all (by.loads_all_by words line called read write n) h.0) (list_all (by.stores_all_by words line called read write n) h.1) both.0 in
      ops_kept n u h.0 h.1 each.0 each.1 code.ops both.1
  code_kept n u None h = refl

  pub node_kept : (codes : List Ops) (n : Node) → ((b : ℕ) → has b read ≡ reads (line_in design) design.procs (proc_of n) b) → ((b : ℕ) → has b write ≡ writes (line_in design) design.procs (proc_of n) b)
      → by.CodeBy words (line_in design) called read write n (slice_get codes (code_number design.procs n)) → keeps_to_its_own design words codes n ≡ true
  node_kept codes n r w is = code_kept n (under n r w) (slice_get codes (code_number design.procs n)) is

-- one number less is left
pub below_step : (p : ℕ → Bool) (n m : ℕ) → n ≡ suc m → p m ≡ true → all_below p n ≡ all_below p m
below_step p n m e is = ap (λ k. all_below p k) e ∙ ap (λ (t : Bool). t && all_below p m) is
