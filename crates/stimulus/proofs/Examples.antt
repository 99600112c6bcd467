-- Small examples of the definitions.
use Rattle.std.proofs.Common.{◌≡◌, List, [], ◌∷◌, ◌++◌, true, false, refl}
use Rattle.std.specs.Prelude.{Ok, Err, codes}
use Rattle.vs_base.specs.Number.{kept}
use Rattle.vs_base.specs.declared.act.Act.TheVariants.{Set, Eval, Clock}
use Rattle.stimulus.specs.declared.fault.StimFault.TheVariants.{BadLine, UnknownInput, ValueTooWide, TooManyEvals}
use Rattle.stimulus.specs.StimulusText.{without_returns, lines_of, words_of, is_hex, hex_value, is_count, count_value}
use Rattle.stimulus.specs.Stimulus.{StimPort, stim_acts}

-- a carriage return is dropped before a line feed, and kept elsewhere
lines : lines_of (without_returns (97 ∷ 13 ∷ 13 ∷ 10 ∷ 10 ∷ 98 ∷ 13 ∷ [])) ≡ (97 ∷ 13 ∷ []) ∷ [] ∷ (98 ∷ 13 ∷ []) ∷ []
lines = refl

words : words_of (9 ∷ codes "set" ++ 9 ∷ codes "a  0F ") ≡ codes "set" ∷ codes "a" ∷ codes "0F" ∷ []
words = refl

numbers : (hex_value (codes "0aF") ≡ 175) × (is_hex (codes "0aF") ≡ true) × (is_hex (codes "g") ≡ false) × (is_hex [] ≡ false)
numbers = (refl, refl, refl, refl)

-- 32 digits, and one more
digits : (is_hex (codes "ffffffffffffffffffffffffffffffff") ≡ true) × (is_hex (codes "0ffffffffffffffffffffffffffffffff") ≡ false)
digits = (refl, refl)

counts : (count_value (codes "0012") ≡ 12) × (is_count (codes "9999999") ≡ true) × (is_count (codes "00000001") ≡ false) × (is_count (codes "1a") ≡ false)
counts = (refl, refl, refl, refl)

-- output y, input a of 8 bits, input c of 1 bit
ports : List StimPort
ports = record { name = codes "y"; width = 8; input = false } ∷ record { name = codes "a"; width = 8; input = true } ∷ record { name = codes "c"; width = 1; input = true } ∷ []

acts : stim_acts ports (codes "set a Fe" ++ 13 ∷ 10 ∷ codes "#eval" ++ 10 ∷ 10 ∷ codes " clock c 3" ++ 10 ∷ codes "eval") ≡ Ok (Set 1 (kept 8 254) ∷ Clock 2 3 ∷ Eval ∷ [])
unfolding ports stim_acts
acts = refl

bad : (stim_acts ports (codes "tick") ≡ Err (BadLine 1)) × (stim_acts ports (codes "eval" ++ 13 ∷ []) ≡ Err (BadLine 1)) × (stim_acts ports (10 ∷ codes "eval #") ≡ Err (BadLine 2))
unfolding ports stim_acts
bad = (refl, refl, refl)

-- y is no input; a bad number comes before an unknown name
unknown : (stim_acts ports (codes "set y 1") ≡ Err (UnknownInput 1)) × (stim_acts ports (codes "clock b 0") ≡ Err (UnknownInput 1)) × (stim_acts ports (codes "set b g") ≡ Err (BadLine 1))
unfolding ports stim_acts
unknown = (refl, refl, refl)

-- the first faulty line counts
wide : (stim_acts ports (codes "set a 0ff") ≡ Ok (Set 1 (kept 8 255) ∷ [])) × (stim_acts ports (codes "set a 100" ++ 10 ∷ codes "tick") ≡ Err (ValueTooWide 1))
unfolding ports stim_acts
wide = (refl, refl)

-- a clock of 0 turns does nothing; 1,000,000 evals are the most
many : (stim_acts ports (codes "clock c 0") ≡ Ok (Clock 2 0 ∷ [])) × (stim_acts ports (codes "clock a 500000") ≡ Ok (Clock 1 500000 ∷ []))
    × (stim_acts ports (codes "clock a 500000" ++ 10 ∷ codes "eval") ≡ Err (TooManyEvals 2))
unfolding ports stim_acts
many = (refl, refl, refl)
