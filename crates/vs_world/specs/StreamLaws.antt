-- Laws of appending to a stream, for what is written in pieces.
use Rattle.std.proofs.Common.{◌≡◌, ℕ, List, [], ◌++◌, Option, Some, None, refl, sym, ap, ◌∙◌, append_assoc}
use Rattle.std.specs.Option.{option_map}
use Rattle.std.proofs.lemmas.List.{append-nil}
use Rattle.vs_world.specs.declared.world.Stream.{Stream}
use Rattle.vs_world.specs.declared.world.Stream.TheVariants.{Out, Errors, Calls, Vcd}
use Rattle.vs_world.specs.Outside.{Written, appended}

-- nothing more
pub appended-nil : (s : Stream) (w : Written) → appended s [] w ≡ w
appended-nil Out w = ap (λ (l : List ℕ). record w { out = l }) (append-nil w.out)
appended-nil Errors w = ap (λ (l : List ℕ). record w { errors = l }) (append-nil w.errors)
appended-nil Calls w = ap (λ (l : List ℕ). record w { calls = l }) (append-nil w.calls)
appended-nil Vcd w = ap (λ (l : List ℕ). record w { vcd = l }) (append-nil w.vcd)

-- one piece and another
pub appended-twice : (s : Stream) (a b : List ℕ) (w : Written) → appended s b (appended s a w) ≡ appended s (a ++ b) w
appended-twice Out a b w = ap (λ (l : List ℕ). record w { out = l }) (append_assoc w.out a b)
appended-twice Errors a b w = ap (λ (l : List ℕ). record w { errors = l }) (append_assoc w.errors a b)
appended-twice Calls a b w = ap (λ (l : List ℕ). record w { calls = l }) (append_assoc w.calls a b)
appended-twice Vcd a b w = ap (λ (l : List ℕ). record w { vcd = l }) (append_assoc w.vcd a b)

-- the same where a world may not tell what was written
pub told-nil : (s : Stream) (told : Option Written) → told ≡ option_map (appended s []) told
told-nil s None = refl
told-nil s (Some w) = ap Some (sym (appended-nil s w))

pub told-twice : (s : Stream) (a b : List ℕ) (told : Option Written) → option_map (appended s b) (option_map (appended s a) told) ≡ option_map (appended s (a ++ b)) told
told-twice s a b None = refl
told-twice s a b (Some w) = ap Some (appended-twice s a b w)

-- one piece more, after what a call wrote before
pub then_piece : (s : Stream) (done piece : List ℕ) (told told1 told2 : Option Written)
    → told1 ≡ option_map (appended s done) told → told2 ≡ option_map (appended s piece) told1 → told2 ≡ option_map (appended s (done ++ piece)) told
then_piece s done piece told told1 told2 first second = second ∙ ap (option_map (appended s piece)) first ∙ told-twice s done piece told
