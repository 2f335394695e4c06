-- A frame's line, cut into its words.
use Rattle.std.proofs.Common.{◌≡◌, ℕ, List, ◌∷◌, ◌++◌, length, decimal, refl, sym, ◌∙◌, arith, append_assoc}
use Rattle.engine_page.specs.Framed.{FramedCommand, frame, Fits, HasNoFrame}
use Rattle.engine_common.specs.Cuts.{Lacks}
use Rattle.engine_page.specs.Words.{Words, HasWords}
use Rattle.engine_common.proofs.CutLemmas.{lacks-append, lacks-cons}
use Rattle.engine_page.proofs.WordLemmas.{one_words}
use Rattle.engine_common.proofs.CutLemmas.{lacks-decimal}

abbrev line : FramedCommand → List ℕ
line e = decimal e.ticket.editor ++ (32 ∷ (decimal e.ticket.number ++ (32 ∷ decimal (length e.text))))

frame_line : (e : FramedCommand) (rest : List ℕ) → frame e ++ rest ≡ line e ++ (10 ∷ (e.text ++ rest))
frame_line e rest = simp append_assoc

lacks-line : (e : FramedCommand) → Fits e → Lacks 10 (line e)
lacks-line e ok =
    lacks-append 10 (decimal e.ticket.editor) _ (lacks-decimal 10 e.ticket.editor (omega arith) (omega arith))
    (lacks-cons 10 32 _ (omega arith) (lacks-append 10 (decimal e.ticket.number) _ (lacks-decimal 10 e.ticket.number (omega arith) (omega arith))
    (lacks-cons 10 32 _ (omega arith) (lacks-decimal 10 (length e.text) (omega arith) (omega arith)))))

abbrev pub framed_words : FramedCommand → List ℕ → Words
framed_words e rest = record { editor = decimal e.ticket.editor; number = decimal e.ticket.number; length_word = decimal (length e.text); after = e.text ++ rest }

-- a frame at the front has these words
pub frame_has_words : (e : FramedCommand) (rest : List ℕ) → Fits e → HasWords (frame e ++ rest) (framed_words e rest)
frame_has_words e rest ok = record {
  line = line e;
  others = decimal e.ticket.number ++ (32 ∷ decimal (length e.text));
  ends = record { whole = frame_line e rest; first = lacks-line e ok };
  first = record { whole = refl; first = lacks-decimal 32 e.ticket.editor (omega arith) (omega arith) };
  second = record { whole = refl; first = lacks-decimal 32 e.ticket.number (omega arith) (omega arith) };
}

-- the words at the front are those of any frame there
pub words_are : (bytes : List ℕ) (w : Words) (e : FramedCommand) (rest : List ℕ) → HasWords bytes w → Fits e → bytes ≡ frame e ++ rest → w ≡ framed_words e rest
words_are bytes w e rest words ok is = one_words bytes w (framed_words e rest) words (rw is (frame_has_words e rest ok))

pub no_words : (bytes : List ℕ) → ((w : Words) → ¬ HasWords bytes w) → HasNoFrame bytes
no_words bytes none e rest ok is = none (framed_words e rest) (rw is (frame_has_words e rest ok))

-- the words are a framed command's, so its frame is at the front
pub frame_from_words : (bytes : List ℕ) (w : Words) (e : FramedCommand) (rest : List ℕ) → HasWords bytes w → w.editor ≡ decimal e.ticket.editor → w.number ≡ decimal e.ticket.number
    → w.length_word ≡ decimal (length e.text) → w.after ≡ e.text ++ rest → bytes ≡ frame e ++ rest
frame_from_words bytes w e rest words editor number len after =
    words.ends.whole ∙ rw (words.first.whole, words.second.whole, editor, number, len, after) (sym (frame_line e rest))
