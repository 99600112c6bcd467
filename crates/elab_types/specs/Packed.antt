-- The types of declarations (IEEE 1800-2017 6.8, 6.9, 7.4.1).
use Rattle.std.specs.Prelude.{ℕ, Bool, false, if◌then◌else◌, Option, Some, None, ◌^◌, ℤ, pos, ◌+ℤ◌, ◌-ℤ◌, int_lt, int_le}
use Rattle.vs_base.specs.declared.types.ValueType.{ValueType}
use Rattle.vs_base.specs.declared.origin.Origin.{Origin}
use Rattle.vs_base.specs.declared.limits.TheConstants.{WIDTH}
use Rattle.sv_tree.specs.declared.tree.words.DataType.{DataType}
use Rattle.sv_tree.specs.declared.tree.words.DataType.TheVariants.{Vector, Fixed, Signed, Ranged}
use Rattle.sv_tree.specs.declared.tree.words.Range.{Range}
use Rattle.sv_expr.specs.declared.fault.WalkFault.{WalkFault}
use Rattle.sv_expr.specs.declared.fault.WalkFault.TheVariants.{TooWide, BadRange}
use Rattle.sv_expr.specs.Bound.{◌before◌, whole_part}
use Rattle.sv_expr.specs.Environment.{Environment}
use Rattle.sv_expr.specs.Meaning.{FirstFault, OwnReadingOf}
use Rattle.elab_types.specs.declared.kinds.Packed.{Packed}
use Rattle.elab_types.specs.Word.{has_sign, is_signed, word_kind}

-- a type and the declared index of its lowest bit
pub record Shape : Type 0 where
  pub kind : ValueType
  pub lsb : ℕ

abbrev pub shape : Packed → Shape
shape p = record { kind = p.kind; lsb = p.lsb }

abbrev pub one_bit : Bool → Shape
one_bit signed = record { kind = record { width = 1; signed = signed }; lsb = 0 }

-- ---- `[l:r]`

abbrev pub bits : ℤ → ℤ → ℤ
bits left right = (left -ℤ right) +ℤ pos 1

-- a range runs down, to an index that a declaration may have
abbrev pub ends_fault : Origin → ℤ → ℤ → Option WalkFault
ends_fault at left right =
    if int_lt left right then Some (BadRange at)
    else (if int_lt right (pos 0) then Some (BadRange at)
    else (if int_le (pos (2 ^ 32)) right then Some (BadRange at)
    else (if int_lt (pos WIDTH) (bits left right) then Some (TooWide at) else None)))

abbrev pub of_ends : ℤ → ℤ → Bool → Shape
of_ends left right signed = record { kind = record { width = whole_part (bits left right); signed = signed }; lsb = whole_part right }

module _ (env : Environment) where
  abbrev pub range_fault : Range → Option WalkFault
  range_fault r = FirstFault env r.left before FirstFault env r.right before ends_fault r.open.at (OwnReadingOf env r.left) (OwnReadingOf env r.right)

  abbrev pub ranged : Range → Bool → Shape
  ranged r signed = of_ends (OwnReadingOf env r.left) (OwnReadingOf env r.right) signed

  -- ---- without a range one bit

  abbrev pub fault_if : Option Range → Option WalkFault
  fault_if None = None
  fault_if (Some r) = range_fault r

  abbrev pub ranged_if : Option Range → Bool → Shape
  ranged_if None signed = one_bit signed
  ranged_if (Some r) signed = ranged r signed

  -- ---- a type

  abbrev pub packed_of : DataType → Shape
  packed_of (Vector word sign range) = ranged_if range (has_sign env.texts sign)
  packed_of (Fixed word) = record { kind = word_kind env.texts word; lsb = 0 }
  packed_of (Signed sign range) = ranged_if range (is_signed env.texts sign)
  packed_of (Ranged range) = ranged range false

  abbrev pub fault_of : DataType → Option WalkFault
  fault_of (Vector word sign range) = fault_if range
  fault_of (Fixed word) = None
  fault_of (Signed sign range) = fault_if range
  fault_of (Ranged range) = range_fault range
