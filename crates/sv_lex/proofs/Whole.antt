-- What the loop over a file keeps, and what follows at each way out of it.
use Rattle.std.proofs.Common.{◌≡◌, ◌≤◌, ◌<◌, ℕ, ◌+◌, List, [], ◌∷◌, ◌++◌, length, take, drop, Some, None, sym, ap, ◌∙◌, arith, subst, append_assoc, length-drop, append-nil, length-append, length-take-le}
use Rattle.sv_tree.specs.declared.token.Token.{Token}
use Rattle.sv_tree.specs.declared.token.TokenKind.{TokenKind}
use Rattle.sv_tree.specs.Names.{Grows}
use Rattle.sv_tree.specs.NameLaws.{grows_further}
use Rattle.vs_base.specs.declared.origin.Origin.{Origin}
use Rattle.sv_lex.specs.declared.piece.Piece.TheVariants.{Skipped, Spelled, Wrong}
use Rattle.sv_lex.specs.declared.piece.Defect.{Defect}
use Rattle.sv_lex.specs.Spelling.{Bytes}
use Rattle.sv_lex.specs.Cut.{front, Lexed, Cut, before, cut, advance}
use Rattle.sv_lex.specs.Answer.{Shows, ShowsAll, LexesTo}
use Rattle.sv_lex.specs.CutLaws.{cut_skipped, cut_spelled, cut_wrong, cut_nil, shows_grown, shows_length}

shows_pushed : (names : List (List ℕ)) (ts : List Token) (xs : List Lexed) (t : Token) (x : Lexed) → ShowsAll names ts xs → Shows names t x → ShowsAll names (ts ++ t ∷ []) (xs ++ x ∷ [])
shows_pushed names [] [] t x h s = (s, tt)
shows_pushed names [] (y ∷ xs) t x h s = absurd h
shows_pushed names (u ∷ ts) [] t x h s = absurd h
shows_pushed names (u ∷ ts) (y ∷ xs) t x h s = (h.0, shows_pushed names ts xs t x h.1 s)

-- what the loop over a file keeps
pub record Going (whole : Cut) (total : ℕ) (old names : List (List ℕ)) (tokens : List Token) (at : Origin) (rest : Bytes) : Type 0 where
  pub grows : Grows old names
  pub done : List Lexed
  pub shows : ShowsAll names tokens done
  pub cut_is : before done (cut at rest) ≡ whole
  pub line : at.line + length rest ≤ total + 1
  pub col : at.col + length rest ≤ total + 1

module _ (whole : Cut) (total : ℕ) (old names : List (List ℕ)) (tokens : List Token) (at : Origin) (rest : Bytes) (g : Going whole total old names tokens at rest)
    (n : ℕ) (some : 0 < n) (fits : n ≤ length rest)
    (after : Origin) (moved : after ≡ advance at (take n rest)) (line : after.line ≤ at.line + length (take n rest)) (col : after.col ≤ at.col + length (take n rest)) where
  pub going_skipped : front rest ≡ Skipped n → Going whole total old names tokens after (drop n rest)
  going_skipped h = record {
    grows = g.grows;
    done = g.done;
    shows = g.shows;
    cut_is = rw moved (ap (before g.done) (sym (cut_skipped at rest n some (omega arith) h)) ∙ g.cut_is);
    line = omega (arith, g.line, length-drop n rest, length-take-le n rest fits);
    col = omega (arith, g.col, length-drop n rest, length-take-le n rest fits);
  }

  pub going_spelled : (k : TokenKind) (names' : List (List ℕ)) (tokens' : List Token) (t : Token) → front rest ≡ Spelled k n → Grows names names' → tokens' ≡ tokens ++ t ∷ []
      → Shows names' t (record { kind = k; text = take n rest; at = at }) → Going whole total old names' tokens' after (drop n rest)
  going_spelled k names' tokens' t h more kept shown = record {
    grows = grows_further old names names' g.grows more;
    done = g.done ++ record { kind = k; text = take n rest; at = at } ∷ [];
    shows = rw kept (shows_pushed names' tokens g.done t (record { kind = k; text = take n rest; at = at }) (shows_grown names names' more tokens g.done g.shows) shown);
    cut_is = rw moved (before_both g.done (record { kind = k; text = take n rest; at = at } ∷ []) (cut (advance at (take n rest)) (drop n rest)) ∙ ap (before g.done) (sym (cut_spelled at rest k n some (omega arith) h)) ∙ g.cut_is);
    line = omega (arith, g.line, length-drop n rest, length-take-le n rest fits);
    col = omega (arith, g.col, length-drop n rest, length-take-le n rest fits);
  }
    where
      before_both : (a b : List Lexed) (c : Cut) → before (a ++ b) c ≡ before a (before b c)
      before_both a b c = ap (λ ts. record { tokens = ts; fault = c.fault }) (append_assoc a b c.tokens)

module _ (whole : Cut) (total : ℕ) (old names : List (List ℕ)) (tokens : List Token) (at : Origin) (rest : Bytes) (g : Going whole total old names tokens at rest) where
  count : length g.done ≡ length tokens
  count = sym (shows_length names tokens g.done g.shows)

  pub going_wrong : (most : ℕ) (d : Defect) → 0 < length rest → front rest ≡ Wrong d → length tokens ≤ most → (whole.fault ≡ Some (d, at)) × (length whole.tokens ≤ most)
  going_wrong most d s h few =
      let is : before g.done (record { tokens = []; fault = Some (d, at) }) ≡ whole = ap (before g.done) (sym (cut_wrong at rest d s h)) ∙ g.cut_is in
      let len : length whole.tokens ≡ length (g.done ++ []) = sym (ap (λ c. length c.tokens) is) in
      (sym (ap (λ c. c.fault) is), omega (arith, len, length-append g.done [], count, few))

  pub going_end : (most : ℕ) → length rest ≡ 0 → length tokens ≤ most → LexesTo most names tokens whole
  going_end most s few =
      let is : before g.done (record { tokens = []; fault = None }) ≡ whole = ap (before g.done) (sym (cut_nil at rest s)) ∙ g.cut_is in
      let all : g.done ≡ whole.tokens = sym (append-nil g.done) ∙ ap (λ c. c.tokens) is in
      record { whole = sym (ap (λ c. c.fault) is); few = omega (arith, ap length all, count, few); shows = subst (ShowsAll names tokens) all g.shows }

  pub going_many : (most : ℕ) (k : TokenKind) (n : ℕ) → 0 < n → 0 < length rest → front rest ≡ Spelled k n → most ≤ length tokens → most < length whole.tokens
  going_many most k n some s h many =
      let x : Lexed = record { kind = k; text = take n rest; at = at } in
      let is : before g.done (before (x ∷ []) (cut (advance at (take n rest)) (drop n rest))) ≡ whole = ap (before g.done) (sym (cut_spelled at rest k n some s h)) ∙ g.cut_is in
      let len : length whole.tokens ≡ length (g.done ++ x ∷ (cut (advance at (take n rest)) (drop n rest)).tokens) = sym (ap (λ c. length c.tokens) is) in
      omega (arith, len, length-append g.done (x ∷ (cut (advance at (take n rest)) (drop n rest)).tokens), count, many)
