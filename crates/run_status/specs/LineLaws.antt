-- A line that is written in pieces: whole, or begun.
use Rattle.std.proofs.Common.{◌≡◌, ℕ, ◌+◌, ◌<◌, List, [], ◌∷◌, ◌++◌, length, take, drop, get_or, sym, ap, ◌∙◌, subst, append_assoc}
use Rattle.std.specs.List.{flat_map}
use Rattle.std.proofs.lemmas.List.{append-nil, take-append-drop, take_more}
use Rattle.std.proofs.lemmas.Grind.{flat_map-append}
use Rattle.std.specs.Option.{option_map}
use Rattle.vs_world.specs.declared.world.Stream.{Stream}
use Rattle.vs_world.specs.declared.world.Stream.TheVariants.{Errors}
use Rattle.vs_world.specs.Outside.{Told, appended, Rose, OnlyWrites}
use Rattle.vs_world.specs.StreamLaws.{then_piece}
use Rattle.vs_world.specs.Entries.{Did}
use Rattle.vs_world.specs.EntryLaws.{did_write}
use Rattle.run_status.specs.Written.{Said}
use Rattle.run_status.specs.Lines.{Text}
use Rattle.run_status.specs.Answer.{error_line, on_errors, CutShort}

-- ---- the bytes of a line

module _ (bytes : List ℕ) (text : Text) (is : bytes ≡ error_line text) (a b : Told) (only : OnlyWrites a b) where
  -- they were all written
  pub line_whole : b.written ≡ option_map (appended Errors bytes) a.written → Did (on_errors (error_line text)) a b
  line_whole same = subst (λ (l : List ℕ). Did (on_errors l) a b) is (did_write Errors bytes a b same only)

  -- a front of them was written
  pub line_cut : Said Errors bytes a b → Rose a.faults b.faults → CutShort text a b
  line_cut said rose = record { part = said.part; front = (said.front.0, said.front.1 ∙ is); did = did_write Errors said.part a b said.same only; rose = rose }

-- ---- texts that were begun, when they are parts of a longer one

-- the first part was begun
pub said_first : (s : Stream) (x y : List ℕ) (a b : Told) → Said s x a b → Said s (x ++ y) a b
said_first s x y a b said = record {
  part = said.part;
  front = (said.front.0 ++ y, sym (append_assoc said.part said.front.0 y) ∙ ap (λ (l : List ℕ). l ++ y) said.front.1);
  same = said.same;
}

-- the first part is whole, and the second was begun
pub said_second : (s : Stream) (x y : List ℕ) (a b c : Told) → b.written ≡ option_map (appended s x) a.written → Said s y b c → Said s (x ++ y) a c
said_second s x y a b c first said = record {
  part = x ++ said.part;
  front = (said.front.0, append_assoc x said.part said.front.0 ∙ ap (λ (l : List ℕ). x ++ l) said.front.1);
  same = then_piece s x said.part a.written b.written c.written first said.same;
}

-- ---- the texts of things, one after another

module _ {X : Type 0} (text : X → List ℕ) (xs : List X) (i : ℕ) (d : X) (within : i < length xs) where
  texts_more : flat_map text (take (i + 1) xs) ≡ flat_map text (take i xs) ++ text (get_or xs i d)
  texts_more = ap (flat_map text) (take_more xs i d within) ∙ flat_map-append text (take i xs) (get_or xs i d ∷ []) ∙ ap (λ (l : List ℕ). flat_map text (take i xs) ++ l) (append-nil (text (get_or xs i d)))

  texts_whole : (flat_map text (take i xs) ++ text (get_or xs i d)) ++ flat_map text (drop (i + 1) xs) ≡ flat_map text xs
  texts_whole = ap (λ (l : List ℕ). l ++ flat_map text (drop (i + 1) xs)) (sym texts_more) ∙ sym (flat_map-append text (take (i + 1) xs) (drop (i + 1) xs)) ∙ ap (flat_map text) (take-append-drop (i + 1) xs)

  -- those before a place are whole, and that of the place was begun
  pub texts_cut : (s : Stream) (a b c : Told) → b.written ≡ option_map (appended s (flat_map text (take i xs))) a.written → Said s (text (get_or xs i d)) b c → Said s (flat_map text xs) a c
  texts_cut s a b c first said =
      let more = said_second s (flat_map text (take i xs)) (text (get_or xs i d)) a b c first said in
      subst (λ (l : List ℕ). Said s l a c) texts_whole (said_first s _ (flat_map text (drop (i + 1) xs)) a c more)
