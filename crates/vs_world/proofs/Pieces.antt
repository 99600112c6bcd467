-- What one write appends, of a text that is written in pieces.
use Rattle.std.proofs.Common.{◌≡◌, ℕ, ◌+◌, ◌-◌, ◌≤◌, List, length, take, drop, Option, sym, ap, ◌∙◌, arith, length-drop}
use Rattle.std.specs.Option.{option_map}
use Rattle.std.proofs.lemmas.List.{take_all}
use Rattle.std.proofs.Math.Seq.{take-add}
use Rattle.vs_world.specs.declared.world.Stream.{Stream}
use Rattle.vs_world.specs.Outside.{Written, appended}
use Rattle.vs_world.specs.StreamLaws.{told-twice}

-- n more bytes, after the first `at`
pub told-more : (s : Stream) (bytes : List ℕ) (at n : ℕ) (told : Option Written) → n ≤ length bytes - at
    → option_map (appended s (take n (take (length bytes - at) (drop at bytes)))) (option_map (appended s (take at bytes)) told) ≡ option_map (appended s (take (at + n) bytes)) told
told-more s bytes at n told h =
    let rest : take n (take (length bytes - at) (drop at bytes)) ≡ take n (drop at bytes) = ap (take n) (take_all (length bytes - at) (drop at bytes) (omega (arith, length-drop at bytes))) in
    ap (λ (l : List ℕ). option_map (appended s l) (option_map (appended s (take at bytes)) told)) rest
    ∙ told-twice s (take at bytes) (take n (drop at bytes)) told
    ∙ ap (λ (l : List ℕ). option_map (appended s l) told) (sym (take-add at n bytes))
