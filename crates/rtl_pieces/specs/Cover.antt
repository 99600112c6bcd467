-- Where the words of a layout begin in the line of bits.
use Rattle.std.specs.Prelude.{ℕ, ◌+◌, if◌then◌else◌, List, [], ◌∷◌}
use Rattle.rtl_pieces.specs.declared.layout.Word.{Word}

-- how many bits stand before each word up to the first shadow, and how many up to there
abbrev pub places_of : ℕ → List Word → List ℕ
places_of before [] = before ∷ []
places_of before (word ∷ more) = if word.shadow then before ∷ [] else before ∷ places_of (before + word.len) more
