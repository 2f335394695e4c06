-- Which bytes have a line at their front, whichever lines there are.
use Rattle.std.proofs.Common.{◌≡◌, ◌≢◌, ℕ, suc, ◌≤◌, ◌+◌, List, ◌∷◌, ◌++◌, length, refl, sym, ap, ◌∙◌, arith, append_assoc, length-append}
use Rattle.engine_common.specs.Cuts.{Lacks, IsCut}
use Rattle.engine_common.specs.Founds.{HasNoLine}
use Rattle.engine_common.proofs.CutLemmas.{Same, no_cut, one_cut}
use Rattle.engine_common.proofs.Texts.{behind_text, cut_more, HasText}

-- lines of words without a newline, each with what follows its words' newline
module _ {Line : Type 0} (Fits : Line → Type 0) (front body : Line → List ℕ) (lacks : (line : Line) → Fits line → Lacks 10 (front line)) where
  abbrev HasNone : List ℕ → Type 0
  HasNone = HasNoLine Fits (λ line. front line ++ (10 ∷ body line))

  pub head_cut : (line : Line) (rest : List ℕ) → Fits line → IsCut 10 ((front line ++ (10 ∷ body line)) ++ rest) (front line) (body line ++ rest)
  head_cut line rest ok = record { whole = append_assoc (front line) (10 ∷ body line) rest; first = lacks line ok }

  -- the words before the first newline are those of any line there
  pub one_head : (bytes head after : List ℕ) (line : Line) (rest : List ℕ) → IsCut 10 bytes head after → Fits line → bytes ≡ (front line ++ (10 ∷ body line)) ++ rest → Same head after (front line) (body line ++ rest)
  one_head bytes head after line rest cut ok is = one_cut 10 bytes head after (front line) (body line ++ rest) cut (rw is (head_cut line rest ok))

  pub no_line_yet : (bytes : List ℕ) → Lacks 10 bytes → HasNone bytes
  no_line_yet bytes none line rest ok is = no_cut 10 bytes (front line) (body line ++ rest) none (rw is (head_cut line rest ok))

  -- words that are no line's
  pub bad_head : (bytes head after : List ℕ) → IsCut 10 bytes head after → ((line : Line) → Fits line → head ≢ front line) → (more : List ℕ) → HasNone (bytes ++ more)
  bad_head bytes head after cut none more line rest ok is = none line ok (one_head (bytes ++ more) head (after ++ more) line rest (cut_more bytes head after more cut) ok is).front

  -- words with a text of so many bytes after them, in whichever line they are
  module _ (own : List ℕ) (own_lacks : Lacks 10 own) (len : ℕ) (text_of : (after : List ℕ) (line : Line) (rest : List ℕ) → Fits line → own ≡ front line → after ≡ body line ++ rest → HasText after rest len) where
    text_there : (after : List ℕ) (line : Line) (rest : List ℕ) → Fits line → own ++ (10 ∷ after) ≡ (front line ++ (10 ∷ body line)) ++ rest → HasText after rest len
    text_there after line rest ok is =
        let same = one_head (own ++ (10 ∷ after)) own after line rest (record { whole = refl; first = own_lacks }) ok is in
        text_of after line rest ok same.front same.back

    pub short_text : (after : List ℕ) → length after ≤ len → HasNone (own ++ (10 ∷ after))
    short_text after short line rest ok is =
        let t = text_there after line rest ok is in
        let total : length after ≡ length t.text + suc (length rest) = ap length t.whole ∙ length-append t.text (10 ∷ rest) in
        omega (arith, total, t.long, short)

    pub bad_end : (after text rest : List ℕ) (e : ℕ) → length text ≡ len → after ≡ text ++ (e ∷ rest) → e ≢ 10 → (more : List ℕ) → HasNone ((own ++ (10 ∷ after)) ++ more)
    bad_end after text rest e long whole wrong more line later ok is =
        let t = text_there (after ++ more) line later ok (sym (append_assoc own (10 ∷ after) more) ∙ is) in
        wrong (behind_text text t.text (rest ++ more) later e (long ∙ sym t.long) (sym (append_assoc text (e ∷ rest) more) ∙ (ap (λ xs. xs ++ more) (sym whole) ∙ t.whole)))
