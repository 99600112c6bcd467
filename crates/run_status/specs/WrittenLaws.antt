-- Writing in pieces.
use Rattle.std.proofs.Common.{◌≡◌, ℕ, ◌+◌, ◌<◌, List, [], ◌∷◌, ◌++◌, length, take, drop, get_or, sym, ap, ◌∙◌, append_assoc}
use Rattle.std.specs.Option.{option_map}
use Rattle.std.specs.Borrow.{Bor}
use Rattle.std.proofs.lemmas.List.{append-nil, take-append-drop, take_more}
use Rattle.std.proofs.lemmas.Grind.{flat_map-append}
use Rattle.vs_world.specs.declared.world.Stream.{Stream}
use Rattle.vs_world.specs.Outside.{Told, appended}
use Rattle.vs_world.specs.StreamLaws.{then_piece}
use Rattle.run_status.specs.Written.{IsPrefix, Said, joined}

pub IsPrefix-whole : (xs : List ℕ) → IsPrefix xs xs
IsPrefix-whole xs = ([], append-nil xs)

joined_more : (pieces : List (Bor (List ℕ))) (i : ℕ) (d : Bor (List ℕ)) → i < length pieces → joined (take (i + 1) pieces) ≡ joined (take i pieces) ++ (get_or pieces i d).now
joined_more pieces i d h =
    ap joined (take_more pieces i d h) ∙ flat_map-append (λ (q : Bor (List ℕ)). q.now) (take i pieces) (get_or pieces i d ∷ [])
    ∙ ap (λ (l : List ℕ). joined (take i pieces) ++ l) (append-nil (get_or pieces i d).now)

-- pieces of which one was cut short
pub cut_pieces : (s : Stream) (pieces : List (Bor (List ℕ))) (i n : ℕ) (d : Bor (List ℕ)) (a b c : Told) → i < length pieces
    → b.written ≡ option_map (appended s (joined (take i pieces))) a.written → c.written ≡ option_map (appended s (take n (get_or pieces i d).now)) b.written → Said s (joined pieces) a c
cut_pieces s pieces i n d a b c h first second =
    let piece = (get_or pieces i d).now in
    let done = joined (take i pieces) in
    let rest = joined (drop (i + 1) pieces) in
    let whole : joined pieces ≡ (done ++ piece) ++ rest =
    ap joined (sym (take-append-drop (i + 1) pieces)) ∙ flat_map-append (λ (q : Bor (List ℕ)). q.now) (take (i + 1) pieces) (drop (i + 1) pieces) ∙ ap (λ (l : List ℕ). l ++ rest) (joined_more pieces i d h) in
    record {
      part = done ++ take n piece;
      front = (
        drop n piece ++ rest,
        append_assoc done (take n piece) (drop n piece ++ rest)
            ∙ ap (λ (l : List ℕ). done ++ l) (sym (append_assoc (take n piece) (drop n piece) rest) ∙ ap (λ (l : List ℕ). l ++ rest) (take-append-drop n piece))
            ∙ sym (append_assoc done piece rest) ∙ sym whole,
      );
      same = then_piece s done (take n piece) a.written b.written c.written first second;
    }
