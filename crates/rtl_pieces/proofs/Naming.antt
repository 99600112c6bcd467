-- The bits of a name at a constant address, and a select with a constant index.
use Rattle.std.proofs.Common.{◌≡◌, ℕ, ◌+◌, ◌-◌, ◌*◌, ◌<◌, min, Bool, true, false, Option, Some, None, ℤ, pos, negsuc, refl, sym, ap, ◌∙◌, arith, inl, inr}
use Rattle.std.specs.Prelude.{◌^◌, ◌≤ℤ◌, ◌+ℤ◌, ◌-ℤ◌, if◌then◌else◌, nat_lt}
use Rattle.std.specs.Option.{option_map}
use Rattle.std.proofs.lemmas.Int.{ints}
use Rattle.std.proofs.lemmas.Bool.{cases_lt, le-ltb, cond-false}
use Rattle.rtl_ir.specs.declared.expr.Target.{Target, out-Target}
use Rattle.rtl_ir.specs.declared.expr.Select.{Select, out-Select}
use Rattle.rtl_pieces.specs.declared.item.Item.{Item}
use Rattle.rtl_pieces.specs.declared.item.Part.{Part}
use Rattle.rtl_pieces.specs.declared.range.BitRange.{BitRange}
use Rattle.rtl_pieces.specs.Named.{nothing, whole_item, clipped, lowest_bit, part_of, part_at, named_bits, capped, capped_part}
use Rattle.rtl_pieces.specs.Reads.{by_part, by_select, by_address, address_in, bits_by, part, part_by, expr_constant, select_part, target_bits}
use Rattle.rtl_pieces.specs.ReadsLaws.{bits_is, part_is}

-- ---- what is farther away names no bit

above_all : (item : Item) (part : Option Part) (x : ℤ) → pos item.elements ≤ℤ x → part_at item x part ≡ nothing
above_all item part (pos n) h = cond-false (nat_lt n item.elements) (part_of item n part) nothing (le-ltb n item.elements (omega (arith, ints)))
above_all item part (negsuc n) h = refl

below_all : (item : Item) (part : Option Part) (x : ℤ) → x ≤ℤ negsuc 0 → part_at item x part ≡ nothing
below_all item part (pos n) h = absurd (omega (arith, ints))
below_all item part (negsuc n) h = refl

-- how far the numbers of an item may go
pub record Fits (item : Item) : Type 0 where
  pub elements : item.elements < 2 ^ 32
  pub width : item.width < 2 ^ 32
  pub lsb : item.lsb < 2 ^ 32
  pub least : negsuc (2 ^ 63) ≤ℤ item.low
  pub most : item.low ≤ℤ pos (2 ^ 63)

far_address : (item : Item) (part : Option Part) (at : ℤ) → Fits item → part_at item (capped at -ℤ item.low) part ≡ part_at item (at -ℤ item.low) part
far_address item part (pos n) fits = elim (cases_lt (2 ^ 64) n) [
  | inl far ↦
      (let least = fits.least in let most = fits.most in let few = fits.elements in
      above_all item part (pos (min n (2 ^ 64)) -ℤ item.low) (omega (arith, ints)) ∙ sym (above_all item part (pos n -ℤ item.low) (omega (arith, ints))))
  | inr near ↦ (let e : min n (2 ^ 64) ≡ n = omega arith in ap (λ (m : ℕ). part_at item (pos m -ℤ item.low) part) e)
]
far_address item part (negsuc n) fits = elim (cases_lt (2 ^ 64) n) [
  | inl far ↦
      (let least = fits.least in let most = fits.most in let few = fits.elements in
      below_all item part (negsuc (min n (2 ^ 64)) -ℤ item.low) (omega (arith, ints)) ∙ sym (below_all item part (negsuc n -ℤ item.low) (omega (arith, ints))))
  | inr near ↦ (let e : min n (2 ^ 64) ≡ n = omega arith in ap (λ (m : ℕ). part_at item (negsuc m -ℤ item.low) part) e)
]

range : ℕ → ℕ → BitRange
range from to = record { from = from; to = to }

past : (first width : ℕ) (x : ℤ) (count : ℕ) → pos width ≤ℤ x → clipped first width x count ≡ range (first + width) (first + width)
unfolding range
past first width (pos n) count h =
    let a : min n width ≡ width = omega (arith, ints) in
    let b : min (n + count) width ≡ width = omega (arith, ints) in
    ap (λ (m : ℕ). range (first + m) (first + min (n + count) width)) a ∙ ap (λ (m : ℕ). range (first + width) (first + m)) b
past first width (negsuc n) count h = absurd (omega (arith, ints))

before : (first width : ℕ) (x : ℤ) (count : ℕ) → x ≤ℤ negsuc count → clipped first width x count ≡ range first (first + 0)
unfolding range
before first width (pos n) count h = absurd (omega (arith, ints))
before first width (negsuc n) count h =
    let a : min (count - (n + 1)) width ≡ 0 = omega (arith, ints) in
    ap (λ (m : ℕ). range first (first + m)) a

far_bits : (item : Item) (first : ℕ) (at : ℤ) (width : ℕ) (down : Bool) → Fits item → width < 2 ^ 32
    → clipped first item.width (lowest_bit item (part (capped at) width down)) width ≡ clipped first item.width (lowest_bit item (part at width down)) width
far_bits item first (pos n) width down fits few = elim (cases_lt (2 ^ 64) n) [
  | inl far ↦
      (let w = fits.width in let l = fits.lsb in
      past first item.width (lowest_bit item (part (pos (min n (2 ^ 64))) width down)) width (high (min n (2 ^ 64)) down (omega arith)) ∙ sym (past first item.width (lowest_bit item (part (pos n) width down)) width (high n down (omega arith))))
  | inr near ↦ (let e : min n (2 ^ 64) ≡ n = omega arith in ap (λ (m : ℕ). clipped first item.width (lowest_bit item (part (pos m) width down)) width) e)
] where
  high : (m : ℕ) (d : Bool) → 2 ^ 64 - 1 < m → pos item.width ≤ℤ lowest_bit item (part (pos m) width d)
  high m true h = let w = fits.width in let l = fits.lsb in omega (arith, ints)
  high m false h = let w = fits.width in let l = fits.lsb in omega (arith, ints)
far_bits item first (negsuc n) width down fits few = elim (cases_lt (2 ^ 64) n) [
  | inl far ↦
      (let w = fits.width in let l = fits.lsb in
      before first item.width (lowest_bit item (part (negsuc (min n (2 ^ 64))) width down)) width (low (min n (2 ^ 64)) down (omega arith)) ∙ sym (before first item.width (lowest_bit item (part (negsuc n) width down)) width (low n down (omega arith))))
  | inr near ↦ (let e : min n (2 ^ 64) ≡ n = omega arith in ap (λ (m : ℕ). clipped first item.width (lowest_bit item (part (negsuc m) width down)) width) e)
] where
  low : (m : ℕ) (d : Bool) → 2 ^ 64 - 1 < m → lowest_bit item (part (negsuc m) width d) ≤ℤ negsuc width
  low m true h = let l = fits.lsb in omega (arith, ints)
  low m false h = let l = fits.lsb in omega (arith, ints)

far_part : (item : Item) (p : Part) (x : ℤ) → Fits item → p.width < 2 ^ 32 → part_at item x (Some (capped_part p)) ≡ part_at item x (Some p)
far_part item p (pos n) fits few =
    ap (λ (r : BitRange). if nat_lt n item.elements then r else nothing) (far_bits item (item.first + n * item.width) p.at p.width p.down fits few)
far_part item p (negsuc n) fits few = refl

pub far_element : (item : Item) (address at : ℤ) → address ≡ capped at → Fits item → named_bits item address None ≡ named_bits item at None
far_element item address at e fits = ap (λ (a : ℤ). named_bits item a None) e ∙ far_address item None at fits

pub far_select : (item : Item) (address at : ℤ) (p : Part) (taken : Option Part) → address ≡ capped at → Some p ≡ option_map capped_part taken → p.width < 2 ^ 32 → Fits item
    → named_bits item address (Some p) ≡ by_part item at taken
far_select item address at p (Some q) e f few fits =
    let s : p ≡ capped_part q = grind arith in
    let k : q.width < 2 ^ 32 = omega (arith, ap (λ (x : Part). x.width) s) in
    ap (λ (a : ℤ). named_bits item a (Some p)) e ∙ ap (λ (x : Part). named_bits item (capped at) (Some x)) s
    ∙ far_part item q (capped at -ℤ item.low) fits k ∙ far_address item (Some q) at fits
far_select item address at p None e f few fits = absurd (grind arith)

pub no_select : (item : Item) (at : ℤ) (taken : Option Part) → None ≡ option_map capped_part taken → whole_item item ≡ by_part item at taken
no_select item at (Some q) e = absurd (grind arith)
no_select item at None e = refl

-- ---- names and selects

module _ (item : Bool → ℕ → Item) where
  by_capped : (it : Item) (select : Option (Option Part)) (result : BitRange) (address : ℤ) (found : Option ℤ) → Some address ≡ option_map capped found
      → ((at : ℤ) → address ≡ capped at → result ≡ by_select it at select) → result ≡ by_address it found select
  by_capped it select result address (Some at) e h = h at (grind arith)
  by_capped it select result address None e h = absurd (grind arith)

  by_none : (it : Item) (select : Option (Option Part)) (found : Option ℤ) → None ≡ option_map capped found → whole_item it ≡ by_address it found select
  by_none it select (Some at) e = absurd (grind arith)
  by_none it select None e = refl

  named_at : (t : Target) (it : Item) (result : BitRange) → it ≡ item (out-Target t).mem (out-Target t).item → (out-Target t).whole ≡ false
      → result ≡ by_address it (address_in it (option_map (expr_constant item) (out-Target t).element)) (option_map (select_part item) (out-Target t).select)
      → result ≡ target_bits item t
  named_at t it result same whole e =
      let there = item (out-Target t).mem (out-Target t).item in
      let element = option_map (expr_constant item) (out-Target t).element in
      let select = option_map (select_part item) (out-Target t).select in
      e ∙ ap (λ (i : Item). by_address i (address_in i element) select) same
      ∙ sym (ap (λ (w : Bool). bits_by there w element select) whole)
      ∙ sym (bits_is item t)

  pub target_at : (t : Target) (it : Item) (address : ℤ) (result : BitRange) → it ≡ item (out-Target t).mem (out-Target t).item → (out-Target t).whole ≡ false
      → Some address ≡ option_map capped (address_in it (option_map (expr_constant item) (out-Target t).element))
      → ((at : ℤ) → address ≡ capped at → result ≡ by_select it at (option_map (select_part item) (out-Target t).select))
      → result ≡ target_bits item t
  target_at t it address result same whole e h =
      named_at t it result same whole
      (by_capped it (option_map (select_part item) (out-Target t).select) result address (address_in it (option_map (expr_constant item) (out-Target t).element)) e h)

  pub target_anywhere : (t : Target) (it : Item) → it ≡ item (out-Target t).mem (out-Target t).item → (out-Target t).whole ≡ false
      → None ≡ option_map capped (address_in it (option_map (expr_constant item) (out-Target t).element)) → whole_item it ≡ target_bits item t
  target_anywhere t it same whole e =
      named_at t it (whole_item it) same whole
      (by_none it (option_map (select_part item) (out-Target t).select) (address_in it (option_map (expr_constant item) (out-Target t).element)) e)

  part_of_capped : (at : ℤ) (width : ℕ) (down : Bool) (found : Option ℤ) → Some at ≡ option_map capped found → Some (part at width down) ≡ option_map capped_part (part_by found width down)
  part_of_capped at width down (Some x) e = let s : at ≡ capped x = grind arith in ap (λ (a : ℤ). Some (part a width down)) s
  part_of_capped at width down None e = absurd (grind arith)

  pub part_at_constant : (s : Select) (at : ℤ) (width : ℕ) → Some at ≡ option_map capped (expr_constant item (out-Select s).at) → width ≡ (out-Select s).width
      → Some (part at width (out-Select s).down) ≡ option_map capped_part (select_part item s)
  part_at_constant s at width e f =
      ap (λ (w : ℕ). Some (part at w (out-Select s).down)) f
      ∙ part_of_capped at (out-Select s).width (out-Select s).down (expr_constant item (out-Select s).at) e ∙ sym (ap (option_map capped_part) (part_is item s))

  pub part_of_none : (s : Select) → None ≡ option_map capped (expr_constant item (out-Select s).at) → None ≡ option_map capped_part (select_part item s)
  part_of_none s e = none_of (expr_constant item (out-Select s).at) e ∙ sym (ap (option_map capped_part) (part_is item s)) where
    none_of : (found : Option ℤ) → None ≡ option_map capped found → None ≡ option_map capped_part (part_by found (out-Select s).width (out-Select s).down)
    none_of (Some x) e = absurd (grind arith)
    none_of None e = refl
