use Rattle.std.proofs.Common.{ℕ, ◌≡◌, ◌+◌, ◌*◌, ◌/◌, ◌%◌, ◌^◌, ap, ◌∙◌}
use Rattle.vs_base.specs.Number.{Number, kept, overwritten}
use Rattle.vs_base.proofs.NumberLemmas.{kept-word_sums}
use Rattle.vs_base.proofs.bits.Bits.overwrite.Goals as goal

pub returns : goal.returns
returns c =
    let w = c.self.inside.width in
    let v = c.self.inside.value in
    let part : Number = record { width = c.args.length; value = c.args.part } in
    let top = c.args.at + c.args.length in
    let above : c.up-above.result ≡ v / 2 ^ top * 2 ^ top % 2 ^ 128 =
    c.up-above.ensures ∙ ap (λ (n : ℕ). n * 2 ^ top % 2 ^ 128) c.down.ensures in
    c.new.ensures
    ∙ ap (λ (n : ℕ). kept w (((n + c.up.result) % 2 ^ 128 + c.up-above.result) % 2 ^ 128)) c.low-below.ensures
    ∙ ap (λ (n : ℕ). kept w (((v % 2 ^ c.args.at + n) % 2 ^ 128 + c.up-above.result) % 2 ^ 128)) c.up.ensures
    ∙ ap (λ (n : ℕ). kept w (((v % 2 ^ c.args.at + c.args.part * 2 ^ c.args.at % 2 ^ 128) % 2 ^ 128 + n) % 2 ^ 128)) above
    ∙ kept-word_sums w (v % 2 ^ c.args.at) (c.args.part * 2 ^ c.args.at) (v / 2 ^ top * 2 ^ top) c.self.invariant.most
    ∙ ap (λ (m : Number). overwritten m c.args.at part) c.self.view_is
