-- Commits: what is put before the copies of the words after it.
use Rattle.std.proofs.Common.{◌≡◌, ℕ, zero, suc, ◌+◌, ◌<◌, Bool, true, false, ◌&&◌, List, [], ◌∷◌, length, drop, get_or, refl, sym, ap, subst, arith, ◌∙◌}
use Rattle.std.proofs.lemmas.Bool.{true≢false}
use Rattle.std.proofs.lemmas.List.{drop_more}
use Rattle.task_eval.specs.declared.op.Op.{Op}
use Rattle.rtl_pieces.specs.declared.layout.Word.{Word}
use Rattle.task_code.specs.Compiled.{Copied, CopiedWhere, CopiesFrom}

-- the words from a number on are its word and those after it
drop_on : (words : List Word) (n : ℕ) (w : Word) → n < length words → w ≡ get_or words n w → drop n words ≡ w ∷ drop (n + 1) words
drop_on words n w h e = drop_more words n w h ∙ ap (λ v. v ∷ drop (n + 1) words) (sym e)

copied_map : (words : List Word) (n : ℕ) (w : Word) (P Q : List Op → Type 0) (ops : List Op) → ((rest : List Op) → P rest → Q rest) → Copied words n w P ops → Copied words n w Q ops
copied_map words n w P Q ops f c = (c.0, c.1, c.2, c.3, f c.1 c.4)

module _ (words : List Word) (written : Word → Bool) where
  on : (b : Bool) (n : ℕ) (w : Word) (ops : List Op) → n < length words → w ≡ get_or words n w → (w.shadow && written w) ≡ b
      → CopiedWhere b words n w (CopiesFrom words written (n + 1) (drop (n + 1) words)) ops → CopiesFrom words written n (drop n words) ops
  on b n w ops h e is c =
      let next : n + 1 ≡ suc n = omega arith in
      let here : CopiesFrom words written n (w ∷ drop (n + 1) words) ops =
      subst (λ b. CopiedWhere b words n w (CopiesFrom words written (suc n) (drop (n + 1) words)) ops) (sym is)
      (subst (λ k. CopiedWhere b words n w (CopiesFrom words written k (drop (n + 1) words)) ops) next c) in
      subst (λ ws. CopiesFrom words written n ws ops) (sym (drop_on words n w h e)) here

  -- a shadow is copied
  pub copies_shadow : (n : ℕ) (w : Word) (before ops : List Op) → n < length words → w ≡ get_or words n w → (w.shadow && written w) ≡ true
      → CopiesFrom words written (n + 1) (drop (n + 1) words) before → Copied words n w (λ rest. rest ≡ before) ops → CopiesFrom words written n (drop n words) ops
  copies_shadow n w before ops h e is after c =
      on true n w ops h e is (copied_map words n w (λ rest. rest ≡ before) (CopiesFrom words written (n + 1) (drop (n + 1) words)) ops (λ rest same. subst (CopiesFrom words written (n + 1) (drop (n + 1) words)) (sym same) after) c)

  -- another word is not
  pub copies_other : (n : ℕ) (w : Word) (ops : List Op) → n < length words → w ≡ get_or words n w → (w.shadow && written w) ≡ false
      → CopiesFrom words written (n + 1) (drop (n + 1) words) ops → CopiesFrom words written n (drop n words) ops
  copies_other n w ops h e is after = on false n w ops h e is after

  -- after the last word nothing is copied
  pub copies_none : (n : ℕ) (ops : List Op) → n ≡ length words → ops ≡ [] → CopiesFrom words written n (drop n words) ops
  copies_none n ops e none = subst (λ ws. CopiesFrom words written n ws ops) (sym (drop_end words n e)) none
    where
      drop_end : (ws : List Word) (n : ℕ) → n ≡ length ws → drop n ws ≡ []
      drop_end [] zero e = refl
      drop_end [] (suc n) e = refl
      drop_end (w ∷ more) zero e = absurd (omega (arith, e))
      drop_end (w ∷ more) (suc n) e = drop_end more n (omega (arith, e))

-- sets of bits that are the same have the same copies
pub copies_same : (words : List Word) (f g : Word → Bool) (n : ℕ) (ws : List Word) (ops : List Op) → ((w : Word) → f w ≡ g w) → CopiesFrom words f n ws ops → CopiesFrom words g n ws ops
copies_same words f g n [] ops same c = c
copies_same words f g n (w ∷ more) ops same c = by_case (w.shadow && f w) (w.shadow && g w) (ap (λ b. w.shadow && b) (same w)) (λ rest. copies_same words f g (suc n) more rest same) c
  where
    by_case : (a b : Bool) → a ≡ b → ((rest : List Op) → CopiesFrom words f (suc n) more rest → CopiesFrom words g (suc n) more rest)
        → CopiedWhere a words n w (CopiesFrom words f (suc n) more) ops → CopiedWhere b words n w (CopiesFrom words g (suc n) more) ops
    by_case true true e next c = copied_map words n w (CopiesFrom words f (suc n) more) (CopiesFrom words g (suc n) more) ops next c
    by_case false false e next c = next ops c
    by_case true false e next c = absurd (true≢false e)
    by_case false true e next c = absurd (true≢false (sym e))
