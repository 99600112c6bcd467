use Rattle.std.proofs.Common.{ℕ, ◌≡◌, ◌*◌, ◌^◌, pos, ◌<ℤ◌, rules, ap, sym, ◌∙◌, w64}
use Rattle.std.specs.Int.RustNames.{unsigned_abs}
use Rattle.std.proofs.lemmas.Int.{to_z-of_z}
use Rattle.vs_base.specs.Number.{Number, kept, sliced}
use Rattle.vs_base.specs.NumberLaws.{kept-kept}
use Rattle.vs_base.specs.NumberLaws.{sliced-below}
use Rattle.vs_base.proofs.bits.Bits.slice.Goals as goal

pub returns-then-at-lt0 : goal.returns-then-at-lt0
returns-then-at-lt0 c =
    let n : Number = record { width = c.self.inside.width; value = c.self.inside.value } in
    let below : c.args.at <ℤ pos 0 = search rules in
    let distance : c.unsigned_abs.result ≡ unsigned_abs c.args.at =
    c.unsigned_abs.ensures.value ∙ ap unsigned_abs (to_z-of_z w64 c.args.at c.ranges.at) in
    c.new.ensures ∙ ap (kept c.args.width) c.up.ensures
    ∙ kept-kept 128 c.args.width _ c.requires.most
    ∙ ap (λ (k : ℕ). kept c.args.width (c.self.inside.value * 2 ^ k)) distance
    ∙ sym (sliced-below n c.args.at c.args.width below)
    ∙ ap (λ (m : Number). sliced m c.args.at c.args.width) c.self.view_is
