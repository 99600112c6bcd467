-- Types and contexts of expressions (IEEE 1800-2017 11.6.1, 11.8.1 and 11.8.2).
use Rattle.std.specs.Prelude.{◌≡◌, ℕ, ◌<◌, ◌≤◌, ◌^◌, max, true, ◌&&◌}
use Rattle.std.proofs.Common.{ap, sym, ◌∙◌, arith}
use Rattle.std.proofs.Math.Bool.{and_self, and_comm, and_assoc}
use Rattle.vs_base.specs.declared.types.ValueType.{ValueType}
use Rattle.vs_base.specs.Number.{Number, extended}
use Rattle.vs_base.specs.NumberLaws.{extended-same}

-- the type of an operator on two operands in one context: the greater width, and signed where both are
abbrev pub wider : ValueType → ValueType → ValueType
wider a b = record { width = max a.width b.width; signed = a.signed && b.signed }

-- the type of a decimal number without a size
abbrev pub decimal_type : ValueType
decimal_type = record { width = 32; signed = true }

-- the context of a right side that is assigned to so many bits: the greater width, and the right side's sign
abbrev pub assigned_in : ValueType → ℕ → ValueType
assigned_in a width = record { width = max a.width width; signed = a.signed }

-- the value of an operand in a context
abbrev pub in_context : Number → ValueType → Number
in_context n t = extended n t.width t.signed

-- `wider` looks at neither the order, the grouping nor the number of its operands, so a list of them has one type

pub wider-self : (a : ValueType) → wider a a ≡ a
wider-self a =
    let w : max a.width a.width ≡ a.width = omega arith in
    let signed : (a.signed && a.signed) ≡ a.signed = and_self a.signed in
    λ i. record { width = w i; signed = signed i }

pub wider_comm : (a b : ValueType) → wider a b ≡ wider b a
wider_comm a b =
    let w : max a.width b.width ≡ max b.width a.width = omega arith in
    let signed : (a.signed && b.signed) ≡ (b.signed && a.signed) = and_comm a.signed b.signed in
    λ i. record { width = w i; signed = signed i }

pub wider_assoc : (a b d : ValueType) → wider (wider a b) d ≡ wider a (wider b d)
wider_assoc a b d =
    let w : max (max a.width b.width) d.width ≡ max a.width (max b.width d.width) = omega arith in
    let signed : (a.signed && b.signed && d.signed) ≡ (a.signed && (b.signed && d.signed)) = and_assoc a.signed b.signed d.signed in
    λ i. record { width = w i; signed = signed i }

-- an assignment to no more bits leaves the type of the right side
pub assigned_in-narrow : (a : ValueType) (width : ℕ) → width ≤ a.width → assigned_in a width ≡ a
assigned_in-narrow a width h =
    let w : max a.width width ≡ a.width = omega arith in
    λ i. record { width = w i; signed = a.signed }

-- in the context of its own width a value stays
pub in_context-same : (n : Number) (t : ValueType) → n.value < 2 ^ n.width → n.width ≡ t.width → in_context n t ≡ n
in_context-same n t fits same = ap (λ (w : ℕ). extended n w t.signed) (sym same) ∙ extended-same n t.signed fits
