-- The ranges of one process.
use Rattle.std.proofs.Common.{◌≡◌, ℕ, ◌||◌, ◌&&◌, eqb, List, [], ◌∷◌, map, ap, ◌∙◌}
use Rattle.rtl_pieces.specs.declared.range.BitRange.{BitRange}
use Rattle.rtl_pieces.specs.Line.{inside, has}
use Rattle.rtl_pieces.specs.Owned.{owned_by, of_process}
use Rattle.rtl_pieces.proofs.Merging.{and_or, and_none}

-- the ranges of a process have the bits that it writes, and no other process has them
pub owned_by_one : (p q b : ℕ) (ranges : List BitRange) → owned_by q b (map (of_process p) ranges) ≡ (eqb p q && has b ranges)
owned_by_one p q b [] = and_none (eqb p q)
owned_by_one p q b (r ∷ more) = ap (λ x. (eqb p q && inside b r) || x) (owned_by_one p q b more) ∙ and_or (eqb p q) (inside b r) (has b more)
