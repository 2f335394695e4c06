-- Which bytes have a line of a script at their front.
use Rattle.std.proofs.Common.{◌≡◌, ◌≢◌, ℕ, ◌<◌, ◌≤◌, ◌^◌, List, [], ◌∷◌, ◌++◌, length, codes, decimal, refl, sym, ap, ap₂, ◌∙◌, arith, append_assoc}
use Rattle.std.proofs.lemmas.Fmt.{decimal_injective}
use Rattle.std.proofs.lemmas.List.{append_cancel_left}
use Rattle.site_ids.specs.Ids.{IsNode}
use Rattle.site_ids.specs.declared.Ticket.{Ticket}
use Rattle.engine_common.specs.Cuts.{IsCut, Lacks}
use Rattle.engine_common.specs.Founds.{HasNoLine, GetsNoLine}
use Rattle.engine_common.specs.Submissions.{joined}
use Rattle.engine_script.specs.Laws.{OneScriptLine}
use Rattle.engine_script.specs.Script.{Line, post_line, get_line, turns_line, drive_line, post_words, words, body, spelled, FitsPost, Fits}
use Rattle.engine_common.proofs.CutLemmas.{lacks-decimal}
use Rattle.engine_common.proofs.LineLemmas.{same_submission, number_cut, one_word}
use Rattle.engine_common.proofs.Lines as lines
use Rattle.engine_common.proofs.Texts.{lacks-last, lacks-number, lacks-behind, begins_so, HasText}
use Rattle.engine_common.proofs.Texts.{one_text}

-- ---- no newline stands in the words of a line

lacks-post : (p : ℕ) (ticket : Ticket) (len : ℕ) → FitsPost p ticket len → Lacks 10 (joined (post_words p ticket len))
lacks-post p ticket len ok =
    lacks-behind (codes "post ") _ refl (lacks-number p _ (omega arith) (lacks-number ticket.editor _ (omega arith) (lacks-number ticket.number _ (omega arith) (lacks-last len (omega arith)))))

lacks-words : (line : Line) → Fits line → Lacks 10 (joined (words line))
lacks-words (post_line p ticket text) ok = lacks-post p ticket (length text) ok
lacks-words (get_line p target) ok = lacks-behind (codes "get ") _ refl (lacks-number p _ (omega arith) ok.1.no_newline)
lacks-words (turns_line k) ok = lacks-behind (codes "turns ") _ refl (lacks-last k (omega arith))
lacks-words (drive_line p k) ok = lacks-behind (codes "drive ") _ refl (lacks-number p _ (omega arith) (lacks-last k (omega arith)))

-- ---- which line is at the front

pub no_line_yet : (bytes : List ℕ) → Lacks 10 bytes → HasNoLine Fits spelled bytes
no_line_yet bytes none = lines.no_line_yet Fits (λ line. joined (words line)) body lacks-words bytes none

-- words that are no line's
abbrev pub IsNoLine : List ℕ → Type 0
IsNoLine head = (line : Line) → Fits line → body line ≡ [] → head ≢ joined (words line)

abbrev pub IsNoPost : List ℕ → Type 0
IsNoPost head = (p : ℕ) (ticket : Ticket) (len : ℕ) → FitsPost p ticket len → head ≢ joined (post_words p ticket len)

of_neither : (head : List ℕ) (line : Line) → IsNoLine head → IsNoPost head → Fits line → head ≢ joined (words line)
of_neither head (post_line p ticket text) plain post ok e = post p ticket (length text) ok e
of_neither head (get_line p target) plain post ok e = plain (get_line p target) ok refl e
of_neither head (turns_line k) plain post ok e = plain (turns_line k) ok refl e
of_neither head (drive_line p k) plain post ok e = plain (drive_line p k) ok refl e

pub bad_head : (bytes head after : List ℕ) → IsCut 10 bytes head after → IsNoLine head → IsNoPost head → GetsNoLine Fits spelled bytes
bad_head bytes head after cut plain post = lines.bad_head Fits (λ line. joined (words line)) body lacks-words bytes head after cut (λ line. of_neither head line plain post)

-- ---- posts

-- the numbers of one post
pub record SamePost (p q : ℕ) (t u : Ticket) (len n : ℕ) : Type 0 where
  pub node_is : p ≡ q
  pub editor_is : t.editor ≡ u.editor
  pub number_is : t.number ≡ u.number
  pub length_is : len ≡ n

-- of two submissions in the range of a schedule's
pub one_post : (p q : ℕ) (t u : Ticket) (len n : ℕ) → IsNode 9 p → t.editor < 2 ^ 32 → t.number < 2 ^ 64 → len ≤ 1000000 → FitsPost q u n → joined (post_words p t len) ≡ joined (post_words q u n) → SamePost p q t u len n
one_post p q t u len n hp editor number hl hq is =
    let same = same_submission (codes "post ") (joined (post_words p t len)) (decimal p) _ (decimal t.editor) _ (decimal t.number) (decimal len) q u n (lacks-decimal 32 p (omega arith) (omega arith)) ((omega arith, omega arith), hq.1, hq.2, omega arith) refl is (number_cut t.editor _ (omega arith)) (number_cut t.number (decimal len) (omega arith)) in
    record {
      node_is = decimal_injective p q (omega arith) (omega arith) same.node_is;
      editor_is = decimal_injective t.editor u.editor (omega arith) (omega arith) same.editor_is;
      number_is = decimal_injective t.number u.number (omega arith) (omega arith) same.number_is;
      length_is = decimal_injective len n (omega arith) (omega arith) same.length_is;
    }

text_of : (p : ℕ) (ticket : Ticket) (len : ℕ) (after : List ℕ) (line : Line) (rest : List ℕ) → FitsPost p ticket len → Fits line → joined (post_words p ticket len) ≡ joined (words line) → after ≡ body line ++ rest → HasText after rest len
text_of p ticket len after (post_line q u text) rest hp ok is whole =
    let same = one_post p q ticket u len (length text) (omega arith, omega arith) hp.1 hp.2 (omega arith) ok is in
    record { text = text; long = sym same.length_is; whole = whole ∙ append_assoc text (10 ∷ []) rest }
text_of p ticket len after (get_line q target) rest hp ok is whole = let starts = begins_so _ _ is in absurd (omega (arith, starts.0, starts.1))
text_of p ticket len after (turns_line k) rest hp ok is whole = let starts = begins_so _ _ is in absurd (omega (arith, starts.0, starts.1))
text_of p ticket len after (drive_line q k) rest hp ok is whole = let starts = begins_so _ _ is in absurd (omega (arith, starts.0, starts.1))

pub short_text : (p : ℕ) (ticket : Ticket) (len : ℕ) (after : List ℕ) → FitsPost p ticket len → length after ≤ len → HasNoLine Fits spelled (joined (post_words p ticket len) ++ (10 ∷ after))
short_text p ticket len after hp = lines.short_text Fits (λ line. joined (words line)) body lacks-words (joined (post_words p ticket len)) (lacks-post p ticket len hp) len (λ after line rest. text_of p ticket len after line rest hp) after

pub bad_end : (p : ℕ) (ticket : Ticket) (len : ℕ) (after text rest : List ℕ) (e : ℕ) → FitsPost p ticket len → length text ≡ len → after ≡ text ++ (e ∷ rest) → e ≢ 10 → GetsNoLine Fits spelled (joined (post_words p ticket len) ++ (10 ∷ after))
bad_end p ticket len after text rest e hp = lines.bad_end Fits (λ line. joined (words line)) body lacks-words (joined (post_words p ticket len)) (lacks-post p ticket len hp) len (λ after line rest. text_of p ticket len after line rest hp) after text rest e

-- ---- no two lines spell the same bytes

-- two lines of the same words, and what follows them
abbrev pub IsOne : Line → Line → List ℕ → List ℕ → Type 0
IsOne l m rest others = (l ≡ m) × (rest ≡ others)

same_line : (l m : Line) (rest others : List ℕ) → Fits l → Fits m → joined (words l) ≡ joined (words m) → body l ++ rest ≡ body m ++ others → IsOne l m rest others
same_line (post_line p t x) (post_line q u y) rest others hl hm e more =
    let same = one_post p q t u (length x) (length y) (omega arith, omega arith) hl.1 hl.2 (omega arith) hm e in
    let text = one_text x y (10 ∷ rest) (10 ∷ others) same.length_is (sym (append_assoc x (10 ∷ []) rest) ∙ (more ∙ append_assoc y (10 ∷ []) others)) in
    let node = same.node_is in
    let editor = same.editor_is in
    let number = same.number_is in
    let texts = text.0 in
    ((λ k. post_line (node k) (record { editor = editor k; number = number k }) (texts k)), append_cancel_left (10 ∷ []) rest others text.1)
same_line (post_line p t x) (get_line q target) rest others hl hm e more = let starts = begins_so _ _ e in absurd (omega (arith, starts.0, starts.1))
same_line (post_line p t x) (turns_line k) rest others hl hm e more = let starts = begins_so _ _ e in absurd (omega (arith, starts.0, starts.1))
same_line (post_line p t x) (drive_line q k) rest others hl hm e more = let starts = begins_so _ _ e in absurd (omega (arith, starts.0, starts.1))
same_line (get_line p target) (post_line q u y) rest others hl hm e more = let starts = begins_so _ _ e in absurd (omega (arith, starts.0, starts.1))
same_line (get_line p target) (get_line q other) rest others hl hm e more =
    let same = one_word (codes "get ") (joined (words (get_line p target))) (decimal p) target q other (lacks-decimal 32 p (omega arith) (omega arith)) refl (omega arith) e in
    (ap₂ get_line (decimal_injective p q (omega arith) (omega arith) same.front) same.back, more)
same_line (get_line p target) (turns_line k) rest others hl hm e more = let starts = begins_so _ _ e in absurd (omega (arith, starts.0, starts.1))
same_line (get_line p target) (drive_line q k) rest others hl hm e more = let starts = begins_so _ _ e in absurd (omega (arith, starts.0, starts.1))
same_line (turns_line j) (post_line q u y) rest others hl hm e more = let starts = begins_so _ _ e in absurd (omega (arith, starts.0, starts.1))
same_line (turns_line j) (get_line q target) rest others hl hm e more = let starts = begins_so _ _ e in absurd (omega (arith, starts.0, starts.1))
same_line (turns_line j) (turns_line k) rest others hl hm e more = (ap turns_line (decimal_injective j k (omega arith) (omega arith) (append_cancel_left (codes "turns ") (decimal j) (decimal k) e)), more)
same_line (turns_line j) (drive_line q k) rest others hl hm e more = let starts = begins_so _ _ e in absurd (omega (arith, starts.0, starts.1))
same_line (drive_line p j) (post_line q u y) rest others hl hm e more = let starts = begins_so _ _ e in absurd (omega (arith, starts.0, starts.1))
same_line (drive_line p j) (get_line q target) rest others hl hm e more = let starts = begins_so _ _ e in absurd (omega (arith, starts.0, starts.1))
same_line (drive_line p j) (turns_line k) rest others hl hm e more = let starts = begins_so _ _ e in absurd (omega (arith, starts.0, starts.1))
same_line (drive_line p j) (drive_line q k) rest others hl hm e more =
    let same = one_word (codes "drive ") (joined (words (drive_line p j))) (decimal p) (decimal j) q (decimal k) (lacks-decimal 32 p (omega arith) (omega arith)) refl (omega arith) e in
    (ap₂ drive_line (decimal_injective p q (omega arith) (omega arith) same.front) (decimal_injective j k (omega arith) (omega arith) same.back), more)

pub one_script_line : OneScriptLine
one_script_line l m rest others hl hm is =
    let cut = lines.head_cut Fits (λ line. joined (words line)) body lacks-words l rest hl in
    let same = lines.one_head Fits (λ line. joined (words line)) body lacks-words (spelled l ++ rest) (joined (words l)) (body l ++ rest) m others cut hm is in
    same_line l m rest others hl hm same.front same.back
