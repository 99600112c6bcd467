-- What calls write to one stream of a world, in pieces.
use Rattle.std.specs.Prelude.{◌≡◌, ℕ, List, ◌++◌}
use Rattle.std.specs.Option.{option_map}
use Rattle.std.specs.List.{flat_map}
use Rattle.std.specs.Borrow.{Bor}
use Rattle.vs_world.specs.declared.world.Stream.{Stream}
use Rattle.vs_world.specs.Outside.{Told, appended}

abbrev pub IsPrefix : List ℕ → List ℕ → Type 0
IsPrefix front whole = (rest : List ℕ) × (front ++ rest ≡ whole)

-- a front of these bytes was appended to the stream
pub record Said (stream : Stream) (bytes : List ℕ) (before now : Told) : Type 0 where
  pub part : List ℕ
  pub front : IsPrefix part bytes
  pub same : now.written ≡ option_map (appended stream part) before.written

-- the bytes of pieces, one after another
abbrev pub joined : List (Bor (List ℕ)) → List ℕ
joined pieces = flat_map (λ p. p.now) pieces
