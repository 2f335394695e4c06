-- Which bytes have a line of a schedule at their front.
use Rattle.std.proofs.Common.{◌≡◌, ◌≢◌, ℕ, ◌≤◌, List, [], ◌∷◌, ◌++◌, length, codes, decimal, refl, sym, ap, ◌∙◌, arith, append_assoc}
use Rattle.std.proofs.lemmas.Fmt.{decimal_injective}
use Rattle.site_ids.specs.Ids.{IsNode}
use Rattle.site_ids.specs.declared.Ticket.{Ticket}
use Rattle.engine_common.specs.Cuts.{Lacks, IsCut}
use Rattle.engine_schedule.specs.Schedule.{Line, submit_line, tick_line, widen_line, ask_line, tell_line, keep_line, restart_line, replace_line, deliver_line, arm_line, crash_line, settle_line, quiet_line, show_line, get_line, trace_line, submit_words, words, body, spelled, Fits, spelled_nodes}
use Rattle.engine_common.specs.Founds.{HasNoLine, GetsNoLine}
use Rattle.engine_common.specs.Submissions.{joined, FitsSubmission}
use Rattle.engine_common.proofs.CutLemmas.{no_cut, one_cut}
use Rattle.engine_common.proofs.CutLemmas.{lacks-decimal}
use Rattle.engine_common.proofs.LineLemmas.{same_submission, number_cut}
use Rattle.engine_common.proofs.Lines as lines
use Rattle.engine_common.proofs.Texts.{lacks-codes, lacks-last, lacks-number, lacks-behind, begins_so, cut_more, HasText}

-- ---- no newline stands in the words of a line

lacks-submission : (p : ℕ) (ticket : Ticket) (len : ℕ) → FitsSubmission p ticket len → Lacks 10 (joined (submit_words p ticket len))
lacks-submission p ticket len ok =
    lacks-behind (codes "submit ") _ refl (lacks-number p _ (omega arith) (lacks-number ticket.editor _ (omega arith) (lacks-number ticket.number _ (omega arith) (lacks-last len (omega arith)))))

pub lacks-words : (line : Line) → Fits line → Lacks 10 (joined (words line))
lacks-words (submit_line p ticket text) ok = lacks-submission p ticket (length text) ok
lacks-words (tick_line p) ok = lacks-behind (codes "tick ") _ refl (lacks-last p (omega arith))
lacks-words (widen_line p) ok = lacks-behind (codes "widen ") _ refl (lacks-last p (omega arith))
lacks-words (ask_line p) ok = lacks-behind (codes "ask ") _ refl (lacks-last p (omega arith))
lacks-words (tell_line p first) ok = lacks-behind (codes "tell ") _ refl (lacks-number p _ (omega arith) (lacks-last first (omega arith)))
lacks-words (keep_line p first) ok = lacks-behind (codes "keep ") _ refl (lacks-number p _ (omega arith) (lacks-last first (omega arith)))
lacks-words (restart_line p) ok = lacks-behind (codes "restart ") _ refl (lacks-last p (omega arith))
lacks-words (replace_line p floor) ok = lacks-behind (codes "replace ") _ refl (lacks-number p _ (omega arith) (lacks-last floor (omega arith)))
lacks-words (deliver_line p index) ok = lacks-behind (codes "deliver ") _ refl (lacks-number p _ (omega arith) (lacks-last index (omega arith)))
lacks-words (arm_line p calls) ok = lacks-behind (codes "arm ") _ refl (lacks-number p _ (omega arith) (lacks-last calls (omega arith)))
lacks-words (crash_line p choice) ok = lacks-behind (codes "crash ") _ refl (lacks-number p _ (omega arith) (lacks-last choice (omega arith)))
lacks-words settle_line ok = lacks-codes 10 (codes "settle") refl
lacks-words (quiet_line p) ok = lacks-behind (codes "quiet ") _ refl (lacks-last p (omega arith))
lacks-words (show_line p) ok = lacks-behind (codes "show ") _ refl (lacks-last p (omega arith))
lacks-words (get_line p n path) ok = lacks-behind (codes "get ") _ refl (lacks-number p _ (omega arith) (lacks-number n _ (omega arith) ok.2.no_newline))
lacks-words trace_line ok = lacks-codes 10 (codes "trace") refl

-- ---- which line is at the front

pub no_line_yet : (bytes : List ℕ) → Lacks 10 bytes → HasNoLine Fits spelled bytes
no_line_yet bytes none = lines.no_line_yet Fits (λ line. joined (words line)) body lacks-words bytes none

-- words that are no line's
abbrev pub IsNoLine : List ℕ → Type 0
IsNoLine head = (line : Line) → Fits line → body line ≡ [] → head ≢ joined (words line)

abbrev pub IsNoSubmission : List ℕ → Type 0
IsNoSubmission head = (p : ℕ) (ticket : Ticket) (len : ℕ) → FitsSubmission p ticket len → head ≢ joined (submit_words p ticket len)

of_neither : (head : List ℕ) (line : Line) → IsNoLine head → IsNoSubmission head → Fits line → head ≢ joined (words line)
of_neither head (submit_line p ticket text) plain submission ok e = submission p ticket (length text) ok e
of_neither head (tick_line p) plain submission ok e = plain (tick_line p) ok refl e
of_neither head (widen_line p) plain submission ok e = plain (widen_line p) ok refl e
of_neither head (ask_line p) plain submission ok e = plain (ask_line p) ok refl e
of_neither head (tell_line p first) plain submission ok e = plain (tell_line p first) ok refl e
of_neither head (keep_line p first) plain submission ok e = plain (keep_line p first) ok refl e
of_neither head (restart_line p) plain submission ok e = plain (restart_line p) ok refl e
of_neither head (replace_line p floor) plain submission ok e = plain (replace_line p floor) ok refl e
of_neither head (deliver_line p index) plain submission ok e = plain (deliver_line p index) ok refl e
of_neither head (arm_line p calls) plain submission ok e = plain (arm_line p calls) ok refl e
of_neither head (crash_line p choice) plain submission ok e = plain (crash_line p choice) ok refl e
of_neither head settle_line plain submission ok e = plain settle_line ok refl e
of_neither head (quiet_line p) plain submission ok e = plain (quiet_line p) ok refl e
of_neither head (show_line p) plain submission ok e = plain (show_line p) ok refl e
of_neither head (get_line p n path) plain submission ok e = plain (get_line p n path) ok refl e
of_neither head trace_line plain submission ok e = plain trace_line ok refl e

pub bad_head : (bytes head after : List ℕ) → IsCut 10 bytes head after → IsNoLine head → IsNoSubmission head → GetsNoLine Fits spelled bytes
bad_head bytes head after cut plain submission = lines.bad_head Fits (λ line. joined (words line)) body lacks-words bytes head after cut (λ line. of_neither head line plain submission)

pub plain_whole : (bytes head after : List ℕ) (line : Line) → IsCut 10 bytes head after → body line ≡ [] → head ≡ joined (words line) → bytes ≡ spelled line ++ after
plain_whole bytes head after line cut bare is =
    cut.whole ∙ (ap (λ h. h ++ (10 ∷ after)) is ∙ sym (append_assoc (joined (words line)) (10 ∷ body line) after ∙ ap (λ t. joined (words line) ++ (10 ∷ (t ++ after))) bare))

-- ---- submissions

pub one_length : (p q : ℕ) (t u : Ticket) (len n : ℕ) → FitsSubmission p t len → FitsSubmission q u n → joined (submit_words p t len) ≡ joined (submit_words q u n) → len ≡ n
one_length p q t u len n hp hq is =
    let same = same_submission (codes "submit ") (joined (submit_words p t len)) (decimal p) _ (decimal t.editor) _ (decimal t.number) (decimal len) q u n (lacks-decimal 32 p (omega arith) (omega arith)) hq refl is (number_cut t.editor _ (omega arith)) (number_cut t.number (decimal len) (omega arith)) in
    decimal_injective len n (omega arith) (omega arith) same.length_is

text_of : (p : ℕ) (ticket : Ticket) (len : ℕ) (after : List ℕ) (line : Line) (rest : List ℕ) → FitsSubmission p ticket len → Fits line → joined (submit_words p ticket len) ≡ joined (words line) → after ≡ body line ++ rest → HasText after rest len
text_of p ticket len after (submit_line q u text) rest hp ok is whole = record { text = text; long = sym (one_length p q ticket u len (length text) hp ok is); whole = whole ∙ append_assoc text (10 ∷ []) rest }
text_of p ticket len after (tick_line q) rest hp ok is whole = let starts = begins_so _ _ is in absurd (omega (arith, starts.0, starts.1))
text_of p ticket len after (widen_line q) rest hp ok is whole = let starts = begins_so _ _ is in absurd (omega (arith, starts.0, starts.1))
text_of p ticket len after (ask_line q) rest hp ok is whole = let starts = begins_so _ _ is in absurd (omega (arith, starts.0, starts.1))
text_of p ticket len after (tell_line q i) rest hp ok is whole = let starts = begins_so _ _ is in absurd (omega (arith, starts.0, starts.1))
text_of p ticket len after (keep_line q i) rest hp ok is whole = let starts = begins_so _ _ is in absurd (omega (arith, starts.0, starts.1))
text_of p ticket len after (replace_line q i) rest hp ok is whole = let starts = begins_so _ _ is in absurd (omega (arith, starts.0, starts.1))
text_of p ticket len after (restart_line q) rest hp ok is whole = let starts = begins_so _ _ is in absurd (omega (arith, starts.0, starts.1))
text_of p ticket len after (deliver_line q index) rest hp ok is whole = let starts = begins_so _ _ is in absurd (omega (arith, starts.0, starts.1))
text_of p ticket len after (arm_line q calls) rest hp ok is whole = let starts = begins_so _ _ is in absurd (omega (arith, starts.0, starts.1))
text_of p ticket len after (crash_line q choice) rest hp ok is whole = let starts = begins_so _ _ is in absurd (omega (arith, starts.0, starts.1))
text_of p ticket len after settle_line rest hp ok is whole = let starts = begins_so _ _ is in absurd (omega (arith, starts.0, starts.1))
text_of p ticket len after (quiet_line q) rest hp ok is whole = let starts = begins_so _ _ is in absurd (omega (arith, starts.0, starts.1))
text_of p ticket len after (show_line q) rest hp ok is whole = let starts = begins_so _ _ is in absurd (omega (arith, starts.0, starts.1))
text_of p ticket len after (get_line q n path) rest hp ok is whole = let starts = begins_so _ _ is in absurd (omega (arith, starts.0, starts.1))
text_of p ticket len after trace_line rest hp ok is whole = let starts = begins_so _ _ is in absurd (omega (arith, starts.0, starts.1))

pub short_text : (p : ℕ) (ticket : Ticket) (len : ℕ) (after : List ℕ) → FitsSubmission p ticket len → length after ≤ len → HasNoLine Fits spelled (joined (submit_words p ticket len) ++ (10 ∷ after))
short_text p ticket len after hp = lines.short_text Fits (λ line. joined (words line)) body lacks-words (joined (submit_words p ticket len)) (lacks-submission p ticket len hp) len (λ after line rest. text_of p ticket len after line rest hp) after

pub bad_end : (p : ℕ) (ticket : Ticket) (len : ℕ) (after text rest : List ℕ) (e : ℕ) → FitsSubmission p ticket len → length text ≡ len → after ≡ text ++ (e ∷ rest) → e ≢ 10 → GetsNoLine Fits spelled (joined (submit_words p ticket len) ++ (10 ∷ after))
bad_end p ticket len after text rest e hp = lines.bad_end Fits (λ line. joined (words line)) body lacks-words (joined (submit_words p ticket len)) (lacks-submission p ticket len hp) len (λ after line rest. text_of p ticket len after line rest hp) after text rest e

-- ---- the first line

nodes_cut : (n : ℕ) (rest : List ℕ) → IsNode 9 n → IsCut 10 (spelled_nodes n ++ rest) (codes "nodes " ++ decimal n) rest
nodes_cut n rest ok = record { whole = ap (λ t. codes "nodes " ++ t) (append_assoc (decimal n) (10 ∷ []) rest); first = lacks-behind (codes "nodes ") _ refl (lacks-last n (omega arith)) }

pub no_nodes_yet : (bytes : List ℕ) → Lacks 10 bytes → HasNoLine (IsNode 9) spelled_nodes bytes
no_nodes_yet bytes none n rest ok is = no_cut 10 bytes (codes "nodes " ++ decimal n) rest none (rw is (nodes_cut n rest ok))

pub bad_nodes : (bytes head after : List ℕ) → IsCut 10 bytes head after → ((n : ℕ) → IsNode 9 n → head ≢ codes "nodes " ++ decimal n) → GetsNoLine (IsNode 9) spelled_nodes bytes
bad_nodes bytes head after cut none more n rest ok is =
    none n ok (one_cut 10 (bytes ++ more) head (after ++ more) (codes "nodes " ++ decimal n) rest (cut_more bytes head after more cut) (rw is (nodes_cut n rest ok))).front

pub nodes_whole : (bytes head after : List ℕ) (n : ℕ) → IsCut 10 bytes head after → head ≡ codes "nodes " ++ decimal n → bytes ≡ spelled_nodes n ++ after
nodes_whole bytes head after n cut is = cut.whole ∙ (ap (λ h. h ++ (10 ∷ after)) is ∙ ap (λ t. codes "nodes " ++ t) (sym (append_assoc (decimal n) (10 ∷ []) after)))
