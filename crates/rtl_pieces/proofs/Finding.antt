-- The item that a place of the line belongs to.
use Rattle.std.proofs.Common.{◌≡◌, ℕ, zero, suc, ◌+◌, ◌-◌, ◌*◌, ◌<◌, ◌≤◌, Bool, true, false, leb, ltb, eqb, List, [], ◌∷◌, ◌++◌, length, length-append, get_or, Some, refl, sym, ap, ◌∙◌, subst, arith, inl, inr}
use Rattle.std.specs.Prelude.{if◌then◌else◌, slice_get}
use Rattle.std.specs.List.Sorted.{IsPartitionedBy, IsPartitionPoint}
use Rattle.std.proofs.lemmas.List.Sorted.{IsPartitionedBy-leb}
use Rattle.std.proofs.lemmas.Option.{slice_get_read}
use Rattle.std.proofs.lemmas.Bool.{and_parts, eqb-true, leb-true, leb-false, ltb-true, ltb-false, cases_lt}
use Rattle.rtl_pieces.specs.declared.item.Item.{Item}
use Rattle.rtl_ir.specs.declared.design.Var.{Var}
use Rattle.rtl_ir.specs.declared.design.Mem.{Mem}
use Rattle.rtl_pieces.specs.declared.bit.BitRef.{BitRef}
use Rattle.rtl_pieces.specs.Line.{Line, var_items, mem_items, items_of, line_of, size_of, end_of, stand_behind, Placed, first_bit, items_in}
use Rattle.rtl_pieces.proofs.Tiling.{in_vars, in_mems, line_placed}

abbrev first_of : Item → ℕ
first_of item = item.first

-- they begin no earlier than where the line does
above : (first : ℕ) (items : List Item) (i : ℕ) (d : Item) → stand_behind first items ≡ true → i < length items → first ≤ (get_or items i d).first
above first [] i d h k = absurd (omega arith)
above first (item ∷ more) zero d h k =
    let parts = and_parts (eqb item.first first) (stand_behind (first + size_of item) more) h in
    let e : item.first ≡ first = eqb-true item.first first parts.0 in
    omega arith
above first (item ∷ more) (suc i) d h k =
    let parts = and_parts (eqb item.first first) (stand_behind (first + size_of item) more) h in
    let s : first + size_of item ≤ (get_or more i d).first = above (first + size_of item) more i d parts.1 (omega arith) in
    omega arith

rising_from : (first : ℕ) (items : List Item) → stand_behind first items ≡ true → (i j : ℕ) (d : Item) → i ≤ j → j < length items → (get_or items i d).first ≤ (get_or items j d).first
rising_from first [] h i j d k l = absurd (omega arith)
rising_from first (item ∷ more) h zero zero d k l = omega arith
rising_from first (item ∷ more) h zero (suc j) d k l =
    let parts = and_parts (eqb item.first first) (stand_behind (first + size_of item) more) h in
    let e : item.first ≡ first = eqb-true item.first first parts.0 in
    let s : first + size_of item ≤ (get_or more j d).first = above (first + size_of item) more j d parts.1 (omega arith) in
    omega arith
rising_from first (item ∷ more) h (suc i) zero d k l = absurd (omega arith)
rising_from first (item ∷ more) h (suc i) (suc j) d k l =
    let parts = and_parts (eqb item.first first) (stand_behind (first + size_of item) more) h in
    rising_from (first + size_of item) more parts.1 i j d (omega arith) (omega arith)

pub parted : (items : List Item) (place : ℕ) → stand_behind 0 items ≡ true → IsPartitionedBy (λ item. leb item.first place) items
parted items place h = IsPartitionedBy-leb first_of items place (rising_from 0 items h)

-- the next begins where one ends, and the line ends where the last does
next_of : (first : ℕ) (items : List Item) (i : ℕ) (d : Item) → stand_behind first items ≡ true → suc i < length items → (get_or items (suc i) d).first ≡ (get_or items i d).first + size_of (get_or items i d)
next_of first [] i d h k = absurd (omega arith)
next_of first (item ∷ []) i d h k = absurd (omega arith)
next_of first (item ∷ next ∷ more) zero d h k =
    let parts = and_parts (eqb item.first first) (stand_behind (first + size_of item) (next ∷ more)) h in
    let others = and_parts (eqb next.first (first + size_of item)) (stand_behind (first + size_of item + size_of next) more) parts.1 in
    eqb-true next.first (first + size_of item) others.0 ∙ sym (ap (λ (n : ℕ). n + size_of item) (eqb-true item.first first parts.0))
next_of first (item ∷ next ∷ more) (suc i) d h k =
    let parts = and_parts (eqb item.first first) (stand_behind (first + size_of item) (next ∷ more)) h in
    next_of (first + size_of item) (next ∷ more) i d parts.1 (omega arith)

last_of : (first : ℕ) (items : List Item) (i : ℕ) (d : Item) → stand_behind first items ≡ true → suc i ≡ length items → end_of first items ≡ (get_or items i d).first + size_of (get_or items i d)
last_of first [] i d h e = absurd (omega arith)
last_of first (item ∷ []) zero d h e =
    let parts = and_parts (eqb item.first first) (stand_behind (first + size_of item) []) h in
    sym (ap (λ (n : ℕ). n + size_of item) (eqb-true item.first first parts.0))
last_of first (item ∷ []) (suc i) d h e = absurd (omega arith)
last_of first (item ∷ next ∷ more) zero d h e = absurd (omega arith)
last_of first (item ∷ next ∷ more) (suc i) d h e =
    let parts = and_parts (eqb item.first first) (stand_behind (first + size_of item) (next ∷ more)) h in
    last_of (first + size_of item) (next ∷ more) i d parts.1 (omega arith)

-- some begins at or before a place that is in the line
some_before : (items : List Item) (point place : ℕ) → stand_behind 0 items ≡ true → place < end_of 0 items
    → IsPartitionPoint (λ item. leb item.first place ≡ true) (λ item. leb item.first place ≡ false) items point → 0 < point
some_before [] point place h k p = absurd (omega arith)
some_before (item ∷ more) zero place h k p =
    let parts = and_parts (eqb item.first 0) (stand_behind (0 + size_of item) more) h in
    let e : item.first ≡ 0 = eqb-true item.first 0 parts.0 in
    let f : place < item.first = leb-false item.first place (p.1 0 item (omega arith) (omega arith)) in
    absurd (omega arith)
some_before (item ∷ more) (suc n) place h k p = omega arith

pub record Found (number place : ℕ) (it : Item) : Type 0 where
  pub from : it.first ≤ place
  pub to : place < it.first + size_of it

pub parted_in : (line : Line) (items : List Item) (place : ℕ) → items ≡ line.items → Placed line → IsPartitionedBy (λ item. leb item.first place) items
parted_in line items place same placed = subst (λ (its : List Item). IsPartitionedBy (λ item. leb item.first place) its) (sym same) (parted line.items place placed.behind)

pub found : (line : Line) (items : List Item) (point place : ℕ) (it : Item) → items ≡ line.items → Placed line → place < line.bits → point ≤ length items
    → IsPartitionPoint (λ item. leb item.first place ≡ true) (λ item. leb item.first place ≡ false) items point
    → (number : ℕ) → number ≡ point - 1 → it ≡ get_or items number it → Found number place it
found line items point place it same placed inside bound p number e is =
    let behind : stand_behind 0 items ≡ true = ap (stand_behind 0) same ∙ placed.behind in
    let there : place < end_of 0 items = subst (λ (n : ℕ). place < n) (placed.bits ∙ sym (ap (end_of 0) same)) inside in
    let some : 0 < point = some_before items point place behind there p in
    let here : number < point = omega arith in
    record {
      from = subst (λ (i : Item). i.first ≤ place) (sym is) (leb-true (get_or items number it).first place (p.0 number it (omega arith) here));
      to = subst (λ (i : Item). place < i.first + size_of i) (sym is) (elim (cases_lt (suc number) (length items)) [
        | inl more ↦
            (let next : place < (get_or items (suc number) it).first = leb-false (get_or items (suc number) it).first place (p.1 (suc number) it (omega arith) more) in
            subst (λ (n : ℕ). place < n) (next_of 0 items number it behind more) next)
        | inr last ↦ subst (λ (n : ℕ). place < n) (last_of 0 items number it behind (omega arith)) there
      ]);
    }

-- ---- the item that the bit at a place names

lowest_item : (line : Line) (number : ℕ) (it : Item) (t : Bool) (lowest : BitRef) → t ≡ ltb number line.vars → slice_get line.items number ≡ Some it
    → lowest ≡ (if t then record { mem = false; item = number; element = 0; bit = 0 } else record { mem = true; item = number - line.vars; element = 0; bit = 0 })
    → items_in line lowest.mem lowest.item ≡ it
lowest_item line number it true lowest e at is = ap (λ (b : BitRef). items_in line b.mem b.item) is ∙ in_vars line number it at (ltb-true number line.vars (sym e))
lowest_item line number it false lowest e at is = ap (λ (b : BitRef). items_in line b.mem b.item) is ∙ in_mems line number it at (ltb-false number line.vars (sym e))

pub same_item : (line : Line) (items : List Item) (number : ℕ) (it : Item) (lowest bit : BitRef) → items ≡ line.items → true ≡ ltb number (length items) → it ≡ get_or items number it
    → lowest ≡ first_bit line number → bit.mem ≡ lowest.mem → bit.item ≡ lowest.item → items_in line bit.mem bit.item ≡ it
same_item line items number it lowest bit same within is low mem item =
    let at : slice_get line.items number ≡ Some it = sym (ap (λ (its : List Item). slice_get its number) same) ∙ slice_get_read items (length items) number it refl (ltb-true number (length items) (sym within)) is in
    ap (λ (m : Bool). items_in line m bit.item) mem ∙ ap (λ (k : ℕ). items_in line lowest.mem k) item
    ∙ lowest_item line number it (ltb number line.vars) lowest refl at low

-- ---- the line of a design, as it is made

end_more : (first : ℕ) (xs ys : List Item) → end_of first (xs ++ ys) ≡ end_of (end_of first xs) ys
end_more first [] ys = refl
end_more first (item ∷ more) ys = end_more (first + size_of item) more ys

pub new_line : (vars : List Var) (mems : List Mem) (none some all : List Item) (first bits count : ℕ) → none ≡ [] → some ≡ none ++ var_items 0 vars → first ≡ end_of 0 (var_items 0 vars)
    → all ≡ some ++ mem_items first mems → bits ≡ end_of first (mem_items first mems) → count ≡ length vars
    → ◌≡◌ {A = Line} (record { items = all; vars = count; bits = bits }) (line_of vars mems)
new_line vars mems none some all first bits count a b d e f g =
    let items : all ≡ items_of vars mems =
    e ∙ ap (λ (its : List Item). its ++ mem_items first mems) (b ∙ ap (λ (its : List Item). its ++ var_items 0 vars) a) ∙ ap (λ (n : ℕ). var_items 0 vars ++ mem_items n mems) d in
    let ends : bits ≡ end_of 0 (items_of vars mems) =
    f ∙ ap (λ (n : ℕ). end_of n (mem_items n mems)) d ∙ sym (end_more 0 (var_items 0 vars) (mem_items (end_of 0 (var_items 0 vars)) mems)) in
    let one : ◌≡◌ {A = Line} (record { items = all; vars = count; bits = bits }) (record { items = items_of vars mems; vars = count; bits = bits }) = ap (λ (its : List Item). record { items = its; vars = count; bits = bits }) items in
    let two : ◌≡◌ {A = Line} (record { items = items_of vars mems; vars = count; bits = bits }) (record { items = items_of vars mems; vars = length vars; bits = bits }) = ap (λ (n : ℕ). record { items = items_of vars mems; vars = n; bits = bits }) g in
    one ∙ two ∙ ap (λ (n : ℕ). record { items = items_of vars mems; vars = length vars; bits = n }) ends

vars_length : (first : ℕ) (vars : List Var) → length (var_items first vars) ≡ length vars
vars_length first [] = refl
vars_length first (v ∷ more) = ap suc (vars_length (first + v.width) more)

mems_length : (first : ℕ) (mems : List Mem) → length (mem_items first mems) ≡ length mems
mems_length first [] = refl
mems_length first (m ∷ more) = ap suc (mems_length (first + m.count * m.width) more)

pub few_items : (line : Line) (vars : List Var) (mems : List Mem) → line ≡ line_of vars mems → length mems < 4294967296 → length line.items < line.vars + 4294967296
few_items line vars mems e h =
    let a = ap (λ (l : Line). length l.items) e in
    let b = ap (λ (l : Line). l.vars) e in
    omega (arith, length-append (var_items 0 vars) (mem_items (end_of 0 (var_items 0 vars)) mems), vars_length 0 vars, mems_length (end_of 0 (var_items 0 vars)) mems)

pub placed_line : (line : Line) (vars : List Var) (mems : List Mem) → line ≡ line_of vars mems → Placed line
placed_line line vars mems e = subst Placed (sym e) (line_placed vars mems)
