-- The pieces into which a text is cut.
use Rattle.std.specs.Prelude.{◌≡◌, ◌<◌, ℕ, [], ◌∷◌, length, Bool, not, ◌==◌, if◌then◌else◌}
use Rattle.stimulus.specs.StimulusText.{Text, without_returns, lines_of, words_of, is_space}

abbrev pub is_inside : ℕ → Bool
is_inside c = not (is_space c)

abbrev pub is_in_line : ℕ → Bool
is_in_line c = not (c == 10)

-- without a carriage return at the end
abbrev pub without_last_return : Text → Text
without_last_return [] = []
without_last_return (c ∷ []) = if c == 13 then [] else c ∷ []
without_last_return (c ∷ d ∷ cs) = c ∷ without_last_return (d ∷ cs)

-- the text has this word first, and then the words of the rest
pub record IsFirstWord (text word rest : Text) : Type 0 where
  pub words : words_of text ≡ word ∷ words_of rest
  pub some : 0 < length word

-- the text has this line first, and then the lines of the rest
pub record IsFirstLine (text line rest : Text) : Type 0 where
  pub lines : lines_of (without_returns text) ≡ line ∷ lines_of (without_returns rest)
  pub shorter : length rest < length text
