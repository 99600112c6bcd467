-- Processes by the ranges of words that they read and write, and the edges between them.
use Rattle.std.proofs.Common.{◌≡◌, ℕ, List, [], ◌∷◌, true, false, refl}
use Rattle.plan_graph.specs.declared.node.Edge.{Edge}
use Rattle.logic_graph.specs.declared.ranges.WordRange.{WordRange}
use Rattle.logic_graph.specs.declared.ranges.Touched.{Touched}
use Rattle.logic_graph.specs.Reading.{has_word, meets, meet_somewhere, edges_of}

abbrev edge : ℕ → ℕ → Edge
edge i j = record { from = i; to = j }

abbrev words : ℕ → ℕ → WordRange
words first end = record { first = first; end = end }

abbrev process : List WordRange → List WordRange → Touched
process reads writes = record { reads = reads; writes = writes }

first_word : has_word 1 (words 1 3) ≡ true
first_word = refl

not_the_word_at_the_end : has_word 3 (words 1 3) ≡ false
not_the_word_at_the_end = refl

one_word_in_both : meets (words 1 3) (words 2 9) ≡ true
one_word_in_both = refl

side_by_side : meets (words 1 3) (words 3 9) ≡ false
side_by_side = refl

none_in_an_empty_range : meets (words 4 4) (words 1 9) ≡ false
none_in_an_empty_range = refl

in_the_second_range : meet_somewhere (words 8 9 ∷ []) (words 1 3 ∷ words 7 9 ∷ []) ≡ true
in_the_second_range = refl

chain : edges_of (process [] (words 1 3 ∷ []) ∷ process (words 2 3 ∷ []) (words 3 4 ∷ []) ∷ process (words 1 9 ∷ []) [] ∷ []) ≡ edge 0 1 ∷ edge 0 2 ∷ edge 1 2 ∷ []
chain = refl

-- two words in common make one edge
once : edges_of (process (words 5 7 ∷ []) [] ∷ process [] (words 5 6 ∷ words 6 7 ∷ []) ∷ []) ≡ edge 1 0 ∷ []
once = refl

-- a process does not wait for itself
not_to_itself : edges_of (process (words 1 2 ∷ []) (words 1 2 ∷ []) ∷ []) ≡ []
not_to_itself = refl

-- one writes bits of a variable of which the other reads others: the words differ
other_words_of_one_variable : edges_of (process (words 2 3 ∷ []) (words 1 2 ∷ []) ∷ process (words 1 2 ∷ []) (words 3 4 ∷ []) ∷ []) ≡ edge 0 1 ∷ []
other_words_of_one_variable = refl

a_loop : edges_of (process (words 2 3 ∷ []) (words 1 2 ∷ []) ∷ process (words 1 2 ∷ []) (words 2 3 ∷ []) ∷ []) ≡ edge 0 1 ∷ edge 1 0 ∷ []
a_loop = refl
