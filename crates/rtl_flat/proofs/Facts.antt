-- The facts that stand in the type of a constant's value are told in one way.
use Rattle.std.proofs.Common.{◌≡◌, ◌≤◌, ap, ◌∙◌}
use Rattle.std.proofs.Props.{props}
use Rattle.vs_base.specs.declared.limits.TheConstants.{WIDTH}
use Rattle.vs_base.specs.declared.types.ValueType.{ValueType}
use Rattle.vs_base.specs.Number.{Number}
use Rattle.sv_expr.specs.declared.scope.Fixed.{Fixed}

abbrev fixed : (kind : ValueType) (value : Number) → 1 ≤ kind.width → kind.width ≤ WIDTH → value.width ≡ kind.width → Fixed
fixed kind value some most same = record { kind = kind; value = value; some = some; most = most; same_width = same }

pub same_fixed : (kind : ValueType) (value : Number) (a b : 1 ≤ kind.width) (c d : kind.width ≤ WIDTH) (e f : value.width ≡ kind.width)
    → fixed kind value a c e ≡ fixed kind value b d f
same_fixed kind value a b c d e f =
    let some : IsProp (1 ≤ kind.width) = hlevel props in
    let most : IsProp (kind.width ≤ WIDTH) = hlevel props in
    let same : IsProp (value.width ≡ kind.width) = hlevel props in
    ap (λ x. fixed kind value x c e) (some a b) ∙ ap (λ x. fixed kind value b x e) (most c d) ∙ ap (λ x. fixed kind value b d x) (same e f)
