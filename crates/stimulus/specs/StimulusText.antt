-- The text of a stimulus: its lines, the words of a line, and the numbers that words write.
use Rattle.std.specs.Prelude.{ℕ, ◌+◌, ◌-◌, ◌*◌, List, [], ◌∷◌, length, Bool, false, not, ◌&&◌, ◌||◌, ◌==◌, if◌then◌else◌, nat_le, fold}
use Rattle.std.specs.List.{list_all}

abbrev pub Text : Type 0
Text = List ℕ

-- ---- lines and words

-- a carriage return right before a line feed is dropped
abbrev pub without_returns : Text → Text
without_returns [] = []
without_returns (c ∷ []) = c ∷ []
without_returns (c ∷ d ∷ cs) = if (c == 13) && (d == 10) then without_returns (d ∷ cs) else c ∷ without_returns (d ∷ cs)

abbrev pub onto_first : ℕ → List Text → List Text
onto_first c [] = (c ∷ []) ∷ []
onto_first c (t ∷ ts) = (c ∷ t) ∷ ts

-- lines end at a line feed, and the last one may lack it
abbrev pub lines_of : Text → List Text
lines_of [] = []
lines_of (c ∷ cs) = if c == 10 then [] ∷ lines_of cs else onto_first c (lines_of cs)

abbrev pub is_space : ℕ → Bool
is_space c = (c == 32) || (c == 9)

abbrev pub begins_word : Text → Bool
begins_word [] = false
begins_word (c ∷ cs) = not (is_space c)

-- words are separated by spaces and tabs
abbrev pub words_of : Text → List Text
words_of [] = []
words_of (c ∷ cs) = if is_space c then words_of cs else (if begins_word cs then onto_first c (words_of cs) else (c ∷ []) ∷ words_of cs)

-- the first byte is #
abbrev pub begins_comment : Text → Bool
begins_comment [] = false
begins_comment (c ∷ cs) = c == 35

-- ---- numbers

abbrev pub is_digit : ℕ → Bool
is_digit c = nat_le 48 c && nat_le c 57

abbrev pub is_hex_digit : ℕ → Bool
is_hex_digit c = is_digit c || (nat_le 65 c && nat_le c 70) || (nat_le 97 c && nat_le c 102)

abbrev pub hex_digit_value : ℕ → ℕ
hex_digit_value c = if nat_le c 57 then c - 48 else (if nat_le c 70 then c - 55 else c - 87)

-- 1 to 32 hexadecimal digits of either case
abbrev pub is_hex : Text → Bool
is_hex text = nat_le 1 (length text) && nat_le (length text) 32 && list_all is_hex_digit text

abbrev pub hex_value : Text → ℕ
hex_value text = fold (λ n c. n * 16 + hex_digit_value c) 0 text

-- 1 to 7 decimal digits
abbrev pub is_count : Text → Bool
is_count text = nat_le 1 (length text) && nat_le (length text) 7 && list_all is_digit text

abbrev pub count_value : Text → ℕ
count_value text = fold (λ n c. n * 10 + (c - 48)) 0 text
