-- The lines of a change, one by one, and the room that they take.
use Rattle.std.proofs.Common.{◌≡◌, ℕ, suc, ◌+◌, ◌-◌, ◌≤◌, List, [], ◌∷◌, ◌++◌, length, get_or, take, drop, sym, ◌∙◌, ap, arith, append_assoc}
use Rattle.std.specs.Prelude.{Option, slice_get}
use Rattle.std.specs.Option.{option_map}
use Rattle.std.proofs.lemmas.Option.{slice_get-map}
use Rattle.vs_base.specs.Number.{Number}
use Rattle.vcd_out.specs.Changes.{widths_of, change_line, changes, room_at, rooms}
use Rattle.vcd_out.proofs.Tails.{tail_is}

pub one_fewer : (rest : List ℕ) → 1 ≤ length rest → length rest ≡ 1 + length (take (length rest - 1) (drop 1 rest))
one_fewer [] one = absurd (omega arith)
one_fewer (v ∷ more) one = let e = ap length (tail_is v more) in omega arith

pub change_added : (old new : List Number) (k : ℕ) (rest text text' whole : List ℕ) (was now : Option Number) → 1 ≤ length rest
    → was ≡ slice_get old (get_or rest 0 0) → now ≡ slice_get new (get_or rest 0 0) → text' ≡ text ++ change_line k was now
    → text ++ changes old new k rest ≡ whole → text' ++ changes old new (k + 1) (take (length rest - 1) (drop 1 rest)) ≡ whole
change_added old new k [] text text' whole was now one is_was is_now is_text e = absurd (omega arith)
change_added old new k (v ∷ more) text text' whole was now one is_was is_now is_text e =
    let next : k + 1 ≡ suc k = omega arith in
    (λ i. is_text i ++ changes old new (next i) (tail_is v more i))
    ∙ append_assoc text (change_line k was now) (changes old new (suc k) more)
    ∙ (λ i. text ++ (change_line k (is_was i) (is_now i) ++ changes old new (suc k) more))
    ∙ e

pub room_left : (new : List Number) (rest : List ℕ) (now : Option Number) → 1 ≤ length rest → now ≡ slice_get new (get_or rest 0 0)
    → rooms (widths_of new) rest ≡ room_at (option_map (λ n. n.width) now) + rooms (widths_of new) (take (length rest - 1) (drop 1 rest))
room_left new [] now one is_now = absurd (omega arith)
room_left new (v ∷ more) now one is_now =
    (λ i. room_at ((slice_get-map (λ (n : Number). n.width) new v ∙ ap (option_map (λ (n : Number). n.width)) (sym is_now)) i) + rooms (widths_of new) (sym (tail_is v more) i))
