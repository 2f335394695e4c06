-- No two lines spell the same bytes.
use Rattle.std.proofs.Common.{◌≡◌, ℕ, ◌<◌, ◌^◌, List, [], ◌∷◌, ◌++◌, length, get_or, codes, decimal, refl, sym, ap, ap₂, ◌∙◌, arith, append_assoc}
use Rattle.std.proofs.lemmas.Fmt.{decimal_injective}
use Rattle.std.proofs.lemmas.List.{append_cancel_left}
use Rattle.site_ids.specs.Ids.{IsNode}
use Rattle.engine_schedule.specs.Schedule.{Line, submit_line, tick_line, widen_line, ask_line, tell_line, keep_line, restart_line, replace_line, deliver_line, arm_line, crash_line, settle_line, quiet_line, show_line, get_line, trace_line, words, body, spelled, Fits}
use Rattle.engine_common.specs.Submissions.{joined}
use Rattle.engine_schedule.specs.Laws.{OneLine}
use Rattle.engine_common.proofs.CutLemmas.{lacks-decimal}
use Rattle.engine_common.proofs.LineLemmas.{one_word, one_number_cut, number_cut, same_submission}
use Rattle.engine_common.proofs.Lines as lines
use Rattle.engine_schedule.proofs.ScheduleLemmas.{lacks-words}
use Rattle.engine_common.proofs.Texts.{begins_so}
use Rattle.engine_common.proofs.Texts.{one_text}

-- two lines of the same words, and what follows them
abbrev pub IsOne : Line → Line → List ℕ → List ℕ → Type 0
IsOne l m rest others = (l ≡ m) × (rest ≡ others)

-- two words that begin alike may part at their third letter
third_same : (xs ys : List ℕ) → xs ≡ ys → get_or xs 2 0 ≡ get_or ys 2 0
third_same xs ys e = ap (λ zs. get_or zs 2 0) e

one_node : (make : ℕ → Line) (front : List ℕ) (p q : ℕ) (rest others : List ℕ) → IsNode 9 p → IsNode 9 q → front ++ decimal p ≡ front ++ decimal q → rest ≡ others → IsOne (make p) (make q) rest others
one_node make front p q rest others hp hq e more = (ap make (decimal_injective p q (omega arith) (omega arith) (append_cancel_left front (decimal p) (decimal q) e)), more)

one_pair : (make : ℕ → ℕ → Line) (front : List ℕ) (p i q j : ℕ) (rest others : List ℕ) → IsNode 9 p → IsNode 9 q → i < 2 ^ 64 → j < 2 ^ 64 → front ++ (decimal p ++ (32 ∷ decimal i)) ≡ front ++ (decimal q ++ (32 ∷ decimal j)) → rest ≡ others
    → IsOne (make p i) (make q j) rest others
one_pair make front p i q j rest others hp hq hi hj e more =
    let same = one_word front (front ++ (decimal p ++ (32 ∷ decimal i))) (decimal p) (decimal i) q (decimal j) (lacks-decimal 32 p (omega arith) (omega arith)) refl (omega arith) e in
    (ap₂ make (decimal_injective p q (omega arith) (omega arith) same.front) (decimal_injective i j hi hj same.back), more)

same_line : (l m : Line) (rest others : List ℕ) → Fits l → Fits m → joined (words l) ≡ joined (words m) → body l ++ rest ≡ body m ++ others → IsOne l m rest others
same_line (submit_line p t x) (submit_line p' t' x') rest others hl hm e more =
    let same = same_submission (codes "submit ") (joined (words (submit_line p t x))) (decimal p) _ (decimal t.editor) _ (decimal t.number) (decimal (length x)) p' t' (length x') (lacks-decimal 32 p (omega arith) (omega arith)) hm refl e (number_cut t.editor _ (omega arith)) (number_cut t.number (decimal (length x)) (omega arith)) in
    let node = decimal_injective p p' (omega arith) (omega arith) same.node_is in
    let editor = decimal_injective t.editor t'.editor (omega arith) (omega arith) same.editor_is in
    let number = decimal_injective t.number t'.number (omega arith) (omega arith) same.number_is in
    let len = decimal_injective (length x) (length x') (omega arith) (omega arith) same.length_is in
    let parts = one_text x x' (10 ∷ rest) (10 ∷ others) len (sym (append_assoc x (10 ∷ []) rest) ∙ (more ∙ append_assoc x' (10 ∷ []) others)) in
    let text = parts.0 in
    let ends : 10 ∷ rest ≡ 10 ∷ others = parts.1 in
    ((λ k. submit_line (node k) (record { editor = editor k; number = number k }) (text k)), append_cancel_left (10 ∷ []) rest others ends)
same_line (submit_line p t x) (tick_line p') rest others hl hm e more = let starts = begins_so _ _ e in absurd (omega (arith, starts.0, starts.1))
same_line (submit_line p t x) (widen_line p') rest others hl hm e more = let starts = begins_so _ _ e in absurd (omega (arith, starts.0, starts.1))
same_line (submit_line p t x) (ask_line p') rest others hl hm e more = let starts = begins_so _ _ e in absurd (omega (arith, starts.0, starts.1))
same_line (submit_line p t x) (tell_line p' i') rest others hl hm e more = let starts = begins_so _ _ e in absurd (omega (arith, starts.0, starts.1))
same_line (submit_line p t x) (keep_line p' i') rest others hl hm e more = let starts = begins_so _ _ e in absurd (omega (arith, starts.0, starts.1))
same_line (submit_line p t x) (restart_line p') rest others hl hm e more = let starts = begins_so _ _ e in absurd (omega (arith, starts.0, starts.1))
same_line (submit_line p t x) (replace_line p' i') rest others hl hm e more = let starts = begins_so _ _ e in absurd (omega (arith, starts.0, starts.1))
same_line (submit_line p t x) (deliver_line p' i') rest others hl hm e more = let starts = begins_so _ _ e in absurd (omega (arith, starts.0, starts.1))
same_line (submit_line p t x) (arm_line p' i') rest others hl hm e more = let starts = begins_so _ _ e in absurd (omega (arith, starts.0, starts.1))
same_line (submit_line p t x) (crash_line p' i') rest others hl hm e more = let starts = begins_so _ _ e in absurd (omega (arith, starts.0, starts.1))
same_line (submit_line p t x) settle_line rest others hl hm e more = let starts = begins_so _ _ e in absurd (omega (arith, starts.0, starts.1))
same_line (submit_line p t x) (quiet_line p') rest others hl hm e more = let starts = begins_so _ _ e in absurd (omega (arith, starts.0, starts.1))
same_line (submit_line p t x) (show_line p') rest others hl hm e more = let starts = begins_so _ _ e in absurd (omega (arith, starts.0, starts.1))
same_line (submit_line p t x) (get_line p' n' path') rest others hl hm e more = let starts = begins_so _ _ e in absurd (omega (arith, starts.0, starts.1))
same_line (submit_line p t x) trace_line rest others hl hm e more = let starts = begins_so _ _ e in absurd (omega (arith, starts.0, starts.1))
same_line (tick_line p) (submit_line p' t' x') rest others hl hm e more = let starts = begins_so _ _ e in absurd (omega (arith, starts.0, starts.1))
same_line (tick_line p) (tick_line p') rest others hl hm e more = one_node tick_line (codes "tick ") p p' rest others hl hm e more
same_line (tick_line p) (widen_line p') rest others hl hm e more = let starts = begins_so _ _ e in absurd (omega (arith, starts.0, starts.1))
same_line (tick_line p) (ask_line p') rest others hl hm e more = let starts = begins_so _ _ e in absurd (omega (arith, starts.0, starts.1))
same_line (tick_line p) (tell_line p' i') rest others hl hm e more = let starts = begins_so _ _ e in absurd (omega (arith, starts.0, starts.1))
same_line (tick_line p) (keep_line p' i') rest others hl hm e more = let starts = begins_so _ _ e in absurd (omega (arith, starts.0, starts.1))
same_line (tick_line p) (restart_line p') rest others hl hm e more = let starts = begins_so _ _ e in absurd (omega (arith, starts.0, starts.1))
same_line (tick_line p) (replace_line p' i') rest others hl hm e more = let starts = begins_so _ _ e in absurd (omega (arith, starts.0, starts.1))
same_line (tick_line p) (deliver_line p' i') rest others hl hm e more = let starts = begins_so _ _ e in absurd (omega (arith, starts.0, starts.1))
same_line (tick_line p) (arm_line p' i') rest others hl hm e more = let starts = begins_so _ _ e in absurd (omega (arith, starts.0, starts.1))
same_line (tick_line p) (crash_line p' i') rest others hl hm e more = let starts = begins_so _ _ e in absurd (omega (arith, starts.0, starts.1))
same_line (tick_line p) settle_line rest others hl hm e more = let starts = begins_so _ _ e in absurd (omega (arith, starts.0, starts.1))
same_line (tick_line p) (quiet_line p') rest others hl hm e more = let starts = begins_so _ _ e in absurd (omega (arith, starts.0, starts.1))
same_line (tick_line p) (show_line p') rest others hl hm e more = let starts = begins_so _ _ e in absurd (omega (arith, starts.0, starts.1))
same_line (tick_line p) (get_line p' n' path') rest others hl hm e more = let starts = begins_so _ _ e in absurd (omega (arith, starts.0, starts.1))
same_line (tick_line p) trace_line rest others hl hm e more = let starts = begins_so _ _ e in absurd (omega (arith, starts.0, starts.1))
same_line (widen_line p) (submit_line p' t' x') rest others hl hm e more = let starts = begins_so _ _ e in absurd (omega (arith, starts.0, starts.1))
same_line (widen_line p) (tick_line p') rest others hl hm e more = let starts = begins_so _ _ e in absurd (omega (arith, starts.0, starts.1))
same_line (widen_line p) (widen_line p') rest others hl hm e more = one_node widen_line (codes "widen ") p p' rest others hl hm e more
same_line (widen_line p) (ask_line p') rest others hl hm e more = let starts = begins_so _ _ e in absurd (omega (arith, starts.0, starts.1))
same_line (widen_line p) (tell_line p' i') rest others hl hm e more = let starts = begins_so _ _ e in absurd (omega (arith, starts.0, starts.1))
same_line (widen_line p) (keep_line p' i') rest others hl hm e more = let starts = begins_so _ _ e in absurd (omega (arith, starts.0, starts.1))
same_line (widen_line p) (restart_line p') rest others hl hm e more = let starts = begins_so _ _ e in absurd (omega (arith, starts.0, starts.1))
same_line (widen_line p) (replace_line p' i') rest others hl hm e more = let starts = begins_so _ _ e in absurd (omega (arith, starts.0, starts.1))
same_line (widen_line p) (deliver_line p' i') rest others hl hm e more = let starts = begins_so _ _ e in absurd (omega (arith, starts.0, starts.1))
same_line (widen_line p) (arm_line p' i') rest others hl hm e more = let starts = begins_so _ _ e in absurd (omega (arith, starts.0, starts.1))
same_line (widen_line p) (crash_line p' i') rest others hl hm e more = let starts = begins_so _ _ e in absurd (omega (arith, starts.0, starts.1))
same_line (widen_line p) settle_line rest others hl hm e more = let starts = begins_so _ _ e in absurd (omega (arith, starts.0, starts.1))
same_line (widen_line p) (quiet_line p') rest others hl hm e more = let starts = begins_so _ _ e in absurd (omega (arith, starts.0, starts.1))
same_line (widen_line p) (show_line p') rest others hl hm e more = let starts = begins_so _ _ e in absurd (omega (arith, starts.0, starts.1))
same_line (widen_line p) (get_line p' n' path') rest others hl hm e more = let starts = begins_so _ _ e in absurd (omega (arith, starts.0, starts.1))
same_line (widen_line p) trace_line rest others hl hm e more = let starts = begins_so _ _ e in absurd (omega (arith, starts.0, starts.1))
same_line (ask_line p) (submit_line p' t' x') rest others hl hm e more = let starts = begins_so _ _ e in absurd (omega (arith, starts.0, starts.1))
same_line (ask_line p) (tick_line p') rest others hl hm e more = let starts = begins_so _ _ e in absurd (omega (arith, starts.0, starts.1))
same_line (ask_line p) (widen_line p') rest others hl hm e more = let starts = begins_so _ _ e in absurd (omega (arith, starts.0, starts.1))
same_line (ask_line p) (ask_line p') rest others hl hm e more = one_node ask_line (codes "ask ") p p' rest others hl hm e more
same_line (ask_line p) (tell_line p' i') rest others hl hm e more = let starts = begins_so _ _ e in absurd (omega (arith, starts.0, starts.1))
same_line (ask_line p) (keep_line p' i') rest others hl hm e more = let starts = begins_so _ _ e in absurd (omega (arith, starts.0, starts.1))
same_line (ask_line p) (restart_line p') rest others hl hm e more = let starts = begins_so _ _ e in absurd (omega (arith, starts.0, starts.1))
same_line (ask_line p) (replace_line p' i') rest others hl hm e more = let starts = begins_so _ _ e in absurd (omega (arith, starts.0, starts.1))
same_line (ask_line p) (deliver_line p' i') rest others hl hm e more = let starts = begins_so _ _ e in absurd (omega (arith, starts.0, starts.1))
same_line (ask_line p) (arm_line p' i') rest others hl hm e more = let starts = begins_so _ _ e in absurd (omega (arith, starts.0, starts.1))
same_line (ask_line p) (crash_line p' i') rest others hl hm e more = let starts = begins_so _ _ e in absurd (omega (arith, starts.0, starts.1))
same_line (ask_line p) settle_line rest others hl hm e more = let starts = begins_so _ _ e in absurd (omega (arith, starts.0, starts.1))
same_line (ask_line p) (quiet_line p') rest others hl hm e more = let starts = begins_so _ _ e in absurd (omega (arith, starts.0, starts.1))
same_line (ask_line p) (show_line p') rest others hl hm e more = let starts = begins_so _ _ e in absurd (omega (arith, starts.0, starts.1))
same_line (ask_line p) (get_line p' n' path') rest others hl hm e more = let starts = begins_so _ _ e in absurd (omega (arith, starts.0, starts.1))
same_line (ask_line p) trace_line rest others hl hm e more = let starts = begins_so _ _ e in absurd (omega (arith, starts.0, starts.1))
same_line (tell_line p i) (submit_line p' t' x') rest others hl hm e more = let starts = begins_so _ _ e in absurd (omega (arith, starts.0, starts.1))
same_line (tell_line p i) (tick_line p') rest others hl hm e more = let starts = begins_so _ _ e in absurd (omega (arith, starts.0, starts.1))
same_line (tell_line p i) (widen_line p') rest others hl hm e more = let starts = begins_so _ _ e in absurd (omega (arith, starts.0, starts.1))
same_line (tell_line p i) (ask_line p') rest others hl hm e more = let starts = begins_so _ _ e in absurd (omega (arith, starts.0, starts.1))
same_line (tell_line p i) (tell_line p' i') rest others hl hm e more = one_pair tell_line (codes "tell ") p i p' i' rest others hl.0 hm.0 (omega arith) (omega arith) e more
same_line (tell_line p i) (keep_line p' i') rest others hl hm e more = let starts = begins_so _ _ e in absurd (omega (arith, starts.0, starts.1))
same_line (tell_line p i) (restart_line p') rest others hl hm e more = let starts = begins_so _ _ e in absurd (omega (arith, starts.0, starts.1))
same_line (tell_line p i) (replace_line p' i') rest others hl hm e more = let starts = begins_so _ _ e in absurd (omega (arith, starts.0, starts.1))
same_line (tell_line p i) (deliver_line p' i') rest others hl hm e more = let starts = begins_so _ _ e in absurd (omega (arith, starts.0, starts.1))
same_line (tell_line p i) (arm_line p' i') rest others hl hm e more = let starts = begins_so _ _ e in absurd (omega (arith, starts.0, starts.1))
same_line (tell_line p i) (crash_line p' i') rest others hl hm e more = let starts = begins_so _ _ e in absurd (omega (arith, starts.0, starts.1))
same_line (tell_line p i) settle_line rest others hl hm e more = let starts = begins_so _ _ e in absurd (omega (arith, starts.0, starts.1))
same_line (tell_line p i) (quiet_line p') rest others hl hm e more = let starts = begins_so _ _ e in absurd (omega (arith, starts.0, starts.1))
same_line (tell_line p i) (show_line p') rest others hl hm e more = let starts = begins_so _ _ e in absurd (omega (arith, starts.0, starts.1))
same_line (tell_line p i) (get_line p' n' path') rest others hl hm e more = let starts = begins_so _ _ e in absurd (omega (arith, starts.0, starts.1))
same_line (tell_line p i) trace_line rest others hl hm e more = let starts = begins_so _ _ e in absurd (omega (arith, starts.0, starts.1))
same_line (keep_line p i) (submit_line p' t' x') rest others hl hm e more = let starts = begins_so _ _ e in absurd (omega (arith, starts.0, starts.1))
same_line (keep_line p i) (tick_line p') rest others hl hm e more = let starts = begins_so _ _ e in absurd (omega (arith, starts.0, starts.1))
same_line (keep_line p i) (widen_line p') rest others hl hm e more = let starts = begins_so _ _ e in absurd (omega (arith, starts.0, starts.1))
same_line (keep_line p i) (ask_line p') rest others hl hm e more = let starts = begins_so _ _ e in absurd (omega (arith, starts.0, starts.1))
same_line (keep_line p i) (tell_line p' i') rest others hl hm e more = let starts = begins_so _ _ e in absurd (omega (arith, starts.0, starts.1))
same_line (keep_line p i) (keep_line p' i') rest others hl hm e more = one_pair keep_line (codes "keep ") p i p' i' rest others hl.0 hm.0 (omega arith) (omega arith) e more
same_line (keep_line p i) (restart_line p') rest others hl hm e more = let starts = begins_so _ _ e in absurd (omega (arith, starts.0, starts.1))
same_line (keep_line p i) (replace_line p' i') rest others hl hm e more = let starts = begins_so _ _ e in absurd (omega (arith, starts.0, starts.1))
same_line (keep_line p i) (deliver_line p' i') rest others hl hm e more = let starts = begins_so _ _ e in absurd (omega (arith, starts.0, starts.1))
same_line (keep_line p i) (arm_line p' i') rest others hl hm e more = let starts = begins_so _ _ e in absurd (omega (arith, starts.0, starts.1))
same_line (keep_line p i) (crash_line p' i') rest others hl hm e more = let starts = begins_so _ _ e in absurd (omega (arith, starts.0, starts.1))
same_line (keep_line p i) settle_line rest others hl hm e more = let starts = begins_so _ _ e in absurd (omega (arith, starts.0, starts.1))
same_line (keep_line p i) (quiet_line p') rest others hl hm e more = let starts = begins_so _ _ e in absurd (omega (arith, starts.0, starts.1))
same_line (keep_line p i) (show_line p') rest others hl hm e more = let starts = begins_so _ _ e in absurd (omega (arith, starts.0, starts.1))
same_line (keep_line p i) (get_line p' n' path') rest others hl hm e more = let starts = begins_so _ _ e in absurd (omega (arith, starts.0, starts.1))
same_line (keep_line p i) trace_line rest others hl hm e more = let starts = begins_so _ _ e in absurd (omega (arith, starts.0, starts.1))
same_line (restart_line p) (submit_line p' t' x') rest others hl hm e more = let starts = begins_so _ _ e in absurd (omega (arith, starts.0, starts.1))
same_line (restart_line p) (tick_line p') rest others hl hm e more = let starts = begins_so _ _ e in absurd (omega (arith, starts.0, starts.1))
same_line (restart_line p) (widen_line p') rest others hl hm e more = let starts = begins_so _ _ e in absurd (omega (arith, starts.0, starts.1))
same_line (restart_line p) (ask_line p') rest others hl hm e more = let starts = begins_so _ _ e in absurd (omega (arith, starts.0, starts.1))
same_line (restart_line p) (tell_line p' i') rest others hl hm e more = let starts = begins_so _ _ e in absurd (omega (arith, starts.0, starts.1))
same_line (restart_line p) (keep_line p' i') rest others hl hm e more = let starts = begins_so _ _ e in absurd (omega (arith, starts.0, starts.1))
same_line (restart_line p) (restart_line p') rest others hl hm e more = one_node restart_line (codes "restart ") p p' rest others hl hm e more
same_line (restart_line p) (replace_line p' i') rest others hl hm e more = absurd (omega (arith, third_same _ _ e))
same_line (restart_line p) (deliver_line p' i') rest others hl hm e more = let starts = begins_so _ _ e in absurd (omega (arith, starts.0, starts.1))
same_line (restart_line p) (arm_line p' i') rest others hl hm e more = let starts = begins_so _ _ e in absurd (omega (arith, starts.0, starts.1))
same_line (restart_line p) (crash_line p' i') rest others hl hm e more = let starts = begins_so _ _ e in absurd (omega (arith, starts.0, starts.1))
same_line (restart_line p) settle_line rest others hl hm e more = let starts = begins_so _ _ e in absurd (omega (arith, starts.0, starts.1))
same_line (restart_line p) (quiet_line p') rest others hl hm e more = let starts = begins_so _ _ e in absurd (omega (arith, starts.0, starts.1))
same_line (restart_line p) (show_line p') rest others hl hm e more = let starts = begins_so _ _ e in absurd (omega (arith, starts.0, starts.1))
same_line (restart_line p) (get_line p' n' path') rest others hl hm e more = let starts = begins_so _ _ e in absurd (omega (arith, starts.0, starts.1))
same_line (restart_line p) trace_line rest others hl hm e more = let starts = begins_so _ _ e in absurd (omega (arith, starts.0, starts.1))
same_line (replace_line p i) (submit_line p' t' x') rest others hl hm e more = let starts = begins_so _ _ e in absurd (omega (arith, starts.0, starts.1))
same_line (replace_line p i) (tick_line p') rest others hl hm e more = let starts = begins_so _ _ e in absurd (omega (arith, starts.0, starts.1))
same_line (replace_line p i) (widen_line p') rest others hl hm e more = let starts = begins_so _ _ e in absurd (omega (arith, starts.0, starts.1))
same_line (replace_line p i) (ask_line p') rest others hl hm e more = let starts = begins_so _ _ e in absurd (omega (arith, starts.0, starts.1))
same_line (replace_line p i) (tell_line p' i') rest others hl hm e more = let starts = begins_so _ _ e in absurd (omega (arith, starts.0, starts.1))
same_line (replace_line p i) (keep_line p' i') rest others hl hm e more = let starts = begins_so _ _ e in absurd (omega (arith, starts.0, starts.1))
same_line (replace_line p i) (restart_line p') rest others hl hm e more = absurd (omega (arith, third_same _ _ e))
same_line (replace_line p i) (replace_line p' i') rest others hl hm e more = one_pair replace_line (codes "replace ") p i p' i' rest others hl.0 hm.0 (omega arith) (omega arith) e more
same_line (replace_line p i) (deliver_line p' i') rest others hl hm e more = let starts = begins_so _ _ e in absurd (omega (arith, starts.0, starts.1))
same_line (replace_line p i) (arm_line p' i') rest others hl hm e more = let starts = begins_so _ _ e in absurd (omega (arith, starts.0, starts.1))
same_line (replace_line p i) (crash_line p' i') rest others hl hm e more = let starts = begins_so _ _ e in absurd (omega (arith, starts.0, starts.1))
same_line (replace_line p i) settle_line rest others hl hm e more = let starts = begins_so _ _ e in absurd (omega (arith, starts.0, starts.1))
same_line (replace_line p i) (quiet_line p') rest others hl hm e more = let starts = begins_so _ _ e in absurd (omega (arith, starts.0, starts.1))
same_line (replace_line p i) (show_line p') rest others hl hm e more = let starts = begins_so _ _ e in absurd (omega (arith, starts.0, starts.1))
same_line (replace_line p i) (get_line p' n' path') rest others hl hm e more = let starts = begins_so _ _ e in absurd (omega (arith, starts.0, starts.1))
same_line (replace_line p i) trace_line rest others hl hm e more = let starts = begins_so _ _ e in absurd (omega (arith, starts.0, starts.1))
same_line (deliver_line p i) (submit_line p' t' x') rest others hl hm e more = let starts = begins_so _ _ e in absurd (omega (arith, starts.0, starts.1))
same_line (deliver_line p i) (tick_line p') rest others hl hm e more = let starts = begins_so _ _ e in absurd (omega (arith, starts.0, starts.1))
same_line (deliver_line p i) (widen_line p') rest others hl hm e more = let starts = begins_so _ _ e in absurd (omega (arith, starts.0, starts.1))
same_line (deliver_line p i) (ask_line p') rest others hl hm e more = let starts = begins_so _ _ e in absurd (omega (arith, starts.0, starts.1))
same_line (deliver_line p i) (tell_line p' i') rest others hl hm e more = let starts = begins_so _ _ e in absurd (omega (arith, starts.0, starts.1))
same_line (deliver_line p i) (keep_line p' i') rest others hl hm e more = let starts = begins_so _ _ e in absurd (omega (arith, starts.0, starts.1))
same_line (deliver_line p i) (restart_line p') rest others hl hm e more = let starts = begins_so _ _ e in absurd (omega (arith, starts.0, starts.1))
same_line (deliver_line p i) (replace_line p' i') rest others hl hm e more = let starts = begins_so _ _ e in absurd (omega (arith, starts.0, starts.1))
same_line (deliver_line p i) (deliver_line p' i') rest others hl hm e more = one_pair deliver_line (codes "deliver ") p i p' i' rest others hl.0 hm.0 (omega arith) (omega arith) e more
same_line (deliver_line p i) (arm_line p' i') rest others hl hm e more = let starts = begins_so _ _ e in absurd (omega (arith, starts.0, starts.1))
same_line (deliver_line p i) (crash_line p' i') rest others hl hm e more = let starts = begins_so _ _ e in absurd (omega (arith, starts.0, starts.1))
same_line (deliver_line p i) settle_line rest others hl hm e more = let starts = begins_so _ _ e in absurd (omega (arith, starts.0, starts.1))
same_line (deliver_line p i) (quiet_line p') rest others hl hm e more = let starts = begins_so _ _ e in absurd (omega (arith, starts.0, starts.1))
same_line (deliver_line p i) (show_line p') rest others hl hm e more = let starts = begins_so _ _ e in absurd (omega (arith, starts.0, starts.1))
same_line (deliver_line p i) (get_line p' n' path') rest others hl hm e more = let starts = begins_so _ _ e in absurd (omega (arith, starts.0, starts.1))
same_line (deliver_line p i) trace_line rest others hl hm e more = let starts = begins_so _ _ e in absurd (omega (arith, starts.0, starts.1))
same_line (arm_line p i) (submit_line p' t' x') rest others hl hm e more = let starts = begins_so _ _ e in absurd (omega (arith, starts.0, starts.1))
same_line (arm_line p i) (tick_line p') rest others hl hm e more = let starts = begins_so _ _ e in absurd (omega (arith, starts.0, starts.1))
same_line (arm_line p i) (widen_line p') rest others hl hm e more = let starts = begins_so _ _ e in absurd (omega (arith, starts.0, starts.1))
same_line (arm_line p i) (ask_line p') rest others hl hm e more = let starts = begins_so _ _ e in absurd (omega (arith, starts.0, starts.1))
same_line (arm_line p i) (tell_line p' i') rest others hl hm e more = let starts = begins_so _ _ e in absurd (omega (arith, starts.0, starts.1))
same_line (arm_line p i) (keep_line p' i') rest others hl hm e more = let starts = begins_so _ _ e in absurd (omega (arith, starts.0, starts.1))
same_line (arm_line p i) (restart_line p') rest others hl hm e more = let starts = begins_so _ _ e in absurd (omega (arith, starts.0, starts.1))
same_line (arm_line p i) (replace_line p' i') rest others hl hm e more = let starts = begins_so _ _ e in absurd (omega (arith, starts.0, starts.1))
same_line (arm_line p i) (deliver_line p' i') rest others hl hm e more = let starts = begins_so _ _ e in absurd (omega (arith, starts.0, starts.1))
same_line (arm_line p i) (arm_line p' i') rest others hl hm e more = one_pair arm_line (codes "arm ") p i p' i' rest others hl.0 hm.0 (omega arith) (omega arith) e more
same_line (arm_line p i) (crash_line p' i') rest others hl hm e more = let starts = begins_so _ _ e in absurd (omega (arith, starts.0, starts.1))
same_line (arm_line p i) settle_line rest others hl hm e more = let starts = begins_so _ _ e in absurd (omega (arith, starts.0, starts.1))
same_line (arm_line p i) (quiet_line p') rest others hl hm e more = let starts = begins_so _ _ e in absurd (omega (arith, starts.0, starts.1))
same_line (arm_line p i) (show_line p') rest others hl hm e more = let starts = begins_so _ _ e in absurd (omega (arith, starts.0, starts.1))
same_line (arm_line p i) (get_line p' n' path') rest others hl hm e more = let starts = begins_so _ _ e in absurd (omega (arith, starts.0, starts.1))
same_line (arm_line p i) trace_line rest others hl hm e more = let starts = begins_so _ _ e in absurd (omega (arith, starts.0, starts.1))
same_line (crash_line p i) (submit_line p' t' x') rest others hl hm e more = let starts = begins_so _ _ e in absurd (omega (arith, starts.0, starts.1))
same_line (crash_line p i) (tick_line p') rest others hl hm e more = let starts = begins_so _ _ e in absurd (omega (arith, starts.0, starts.1))
same_line (crash_line p i) (widen_line p') rest others hl hm e more = let starts = begins_so _ _ e in absurd (omega (arith, starts.0, starts.1))
same_line (crash_line p i) (ask_line p') rest others hl hm e more = let starts = begins_so _ _ e in absurd (omega (arith, starts.0, starts.1))
same_line (crash_line p i) (tell_line p' i') rest others hl hm e more = let starts = begins_so _ _ e in absurd (omega (arith, starts.0, starts.1))
same_line (crash_line p i) (keep_line p' i') rest others hl hm e more = let starts = begins_so _ _ e in absurd (omega (arith, starts.0, starts.1))
same_line (crash_line p i) (restart_line p') rest others hl hm e more = let starts = begins_so _ _ e in absurd (omega (arith, starts.0, starts.1))
same_line (crash_line p i) (replace_line p' i') rest others hl hm e more = let starts = begins_so _ _ e in absurd (omega (arith, starts.0, starts.1))
same_line (crash_line p i) (deliver_line p' i') rest others hl hm e more = let starts = begins_so _ _ e in absurd (omega (arith, starts.0, starts.1))
same_line (crash_line p i) (arm_line p' i') rest others hl hm e more = let starts = begins_so _ _ e in absurd (omega (arith, starts.0, starts.1))
same_line (crash_line p i) (crash_line p' i') rest others hl hm e more = one_pair crash_line (codes "crash ") p i p' i' rest others hl.0 hm.0 (omega arith) (omega arith) e more
same_line (crash_line p i) settle_line rest others hl hm e more = let starts = begins_so _ _ e in absurd (omega (arith, starts.0, starts.1))
same_line (crash_line p i) (quiet_line p') rest others hl hm e more = let starts = begins_so _ _ e in absurd (omega (arith, starts.0, starts.1))
same_line (crash_line p i) (show_line p') rest others hl hm e more = let starts = begins_so _ _ e in absurd (omega (arith, starts.0, starts.1))
same_line (crash_line p i) (get_line p' n' path') rest others hl hm e more = let starts = begins_so _ _ e in absurd (omega (arith, starts.0, starts.1))
same_line (crash_line p i) trace_line rest others hl hm e more = let starts = begins_so _ _ e in absurd (omega (arith, starts.0, starts.1))
same_line settle_line (submit_line p' t' x') rest others hl hm e more = let starts = begins_so _ _ e in absurd (omega (arith, starts.0, starts.1))
same_line settle_line (tick_line p') rest others hl hm e more = let starts = begins_so _ _ e in absurd (omega (arith, starts.0, starts.1))
same_line settle_line (widen_line p') rest others hl hm e more = let starts = begins_so _ _ e in absurd (omega (arith, starts.0, starts.1))
same_line settle_line (ask_line p') rest others hl hm e more = let starts = begins_so _ _ e in absurd (omega (arith, starts.0, starts.1))
same_line settle_line (tell_line p' i') rest others hl hm e more = let starts = begins_so _ _ e in absurd (omega (arith, starts.0, starts.1))
same_line settle_line (keep_line p' i') rest others hl hm e more = let starts = begins_so _ _ e in absurd (omega (arith, starts.0, starts.1))
same_line settle_line (restart_line p') rest others hl hm e more = let starts = begins_so _ _ e in absurd (omega (arith, starts.0, starts.1))
same_line settle_line (replace_line p' i') rest others hl hm e more = let starts = begins_so _ _ e in absurd (omega (arith, starts.0, starts.1))
same_line settle_line (deliver_line p' i') rest others hl hm e more = let starts = begins_so _ _ e in absurd (omega (arith, starts.0, starts.1))
same_line settle_line (arm_line p' i') rest others hl hm e more = let starts = begins_so _ _ e in absurd (omega (arith, starts.0, starts.1))
same_line settle_line (crash_line p' i') rest others hl hm e more = let starts = begins_so _ _ e in absurd (omega (arith, starts.0, starts.1))
same_line settle_line settle_line rest others hl hm e more = (refl, more)
same_line settle_line (quiet_line p') rest others hl hm e more = let starts = begins_so _ _ e in absurd (omega (arith, starts.0, starts.1))
same_line settle_line (show_line p') rest others hl hm e more = let starts = begins_so _ _ e in absurd (omega (arith, starts.0, starts.1))
same_line settle_line (get_line p' n' path') rest others hl hm e more = let starts = begins_so _ _ e in absurd (omega (arith, starts.0, starts.1))
same_line settle_line trace_line rest others hl hm e more = let starts = begins_so _ _ e in absurd (omega (arith, starts.0, starts.1))
same_line (quiet_line p) (submit_line p' t' x') rest others hl hm e more = let starts = begins_so _ _ e in absurd (omega (arith, starts.0, starts.1))
same_line (quiet_line p) (tick_line p') rest others hl hm e more = let starts = begins_so _ _ e in absurd (omega (arith, starts.0, starts.1))
same_line (quiet_line p) (widen_line p') rest others hl hm e more = let starts = begins_so _ _ e in absurd (omega (arith, starts.0, starts.1))
same_line (quiet_line p) (ask_line p') rest others hl hm e more = let starts = begins_so _ _ e in absurd (omega (arith, starts.0, starts.1))
same_line (quiet_line p) (tell_line p' i') rest others hl hm e more = let starts = begins_so _ _ e in absurd (omega (arith, starts.0, starts.1))
same_line (quiet_line p) (keep_line p' i') rest others hl hm e more = let starts = begins_so _ _ e in absurd (omega (arith, starts.0, starts.1))
same_line (quiet_line p) (restart_line p') rest others hl hm e more = let starts = begins_so _ _ e in absurd (omega (arith, starts.0, starts.1))
same_line (quiet_line p) (replace_line p' i') rest others hl hm e more = let starts = begins_so _ _ e in absurd (omega (arith, starts.0, starts.1))
same_line (quiet_line p) (deliver_line p' i') rest others hl hm e more = let starts = begins_so _ _ e in absurd (omega (arith, starts.0, starts.1))
same_line (quiet_line p) (arm_line p' i') rest others hl hm e more = let starts = begins_so _ _ e in absurd (omega (arith, starts.0, starts.1))
same_line (quiet_line p) (crash_line p' i') rest others hl hm e more = let starts = begins_so _ _ e in absurd (omega (arith, starts.0, starts.1))
same_line (quiet_line p) settle_line rest others hl hm e more = let starts = begins_so _ _ e in absurd (omega (arith, starts.0, starts.1))
same_line (quiet_line p) (quiet_line p') rest others hl hm e more = one_node quiet_line (codes "quiet ") p p' rest others hl hm e more
same_line (quiet_line p) (show_line p') rest others hl hm e more = let starts = begins_so _ _ e in absurd (omega (arith, starts.0, starts.1))
same_line (quiet_line p) (get_line p' n' path') rest others hl hm e more = let starts = begins_so _ _ e in absurd (omega (arith, starts.0, starts.1))
same_line (quiet_line p) trace_line rest others hl hm e more = let starts = begins_so _ _ e in absurd (omega (arith, starts.0, starts.1))
same_line (show_line p) (submit_line p' t' x') rest others hl hm e more = let starts = begins_so _ _ e in absurd (omega (arith, starts.0, starts.1))
same_line (show_line p) (tick_line p') rest others hl hm e more = let starts = begins_so _ _ e in absurd (omega (arith, starts.0, starts.1))
same_line (show_line p) (widen_line p') rest others hl hm e more = let starts = begins_so _ _ e in absurd (omega (arith, starts.0, starts.1))
same_line (show_line p) (ask_line p') rest others hl hm e more = let starts = begins_so _ _ e in absurd (omega (arith, starts.0, starts.1))
same_line (show_line p) (tell_line p' i') rest others hl hm e more = let starts = begins_so _ _ e in absurd (omega (arith, starts.0, starts.1))
same_line (show_line p) (keep_line p' i') rest others hl hm e more = let starts = begins_so _ _ e in absurd (omega (arith, starts.0, starts.1))
same_line (show_line p) (restart_line p') rest others hl hm e more = let starts = begins_so _ _ e in absurd (omega (arith, starts.0, starts.1))
same_line (show_line p) (replace_line p' i') rest others hl hm e more = let starts = begins_so _ _ e in absurd (omega (arith, starts.0, starts.1))
same_line (show_line p) (deliver_line p' i') rest others hl hm e more = let starts = begins_so _ _ e in absurd (omega (arith, starts.0, starts.1))
same_line (show_line p) (arm_line p' i') rest others hl hm e more = let starts = begins_so _ _ e in absurd (omega (arith, starts.0, starts.1))
same_line (show_line p) (crash_line p' i') rest others hl hm e more = let starts = begins_so _ _ e in absurd (omega (arith, starts.0, starts.1))
same_line (show_line p) settle_line rest others hl hm e more = let starts = begins_so _ _ e in absurd (omega (arith, starts.0, starts.1))
same_line (show_line p) (quiet_line p') rest others hl hm e more = let starts = begins_so _ _ e in absurd (omega (arith, starts.0, starts.1))
same_line (show_line p) (show_line p') rest others hl hm e more = one_node show_line (codes "show ") p p' rest others hl hm e more
same_line (show_line p) (get_line p' n' path') rest others hl hm e more = let starts = begins_so _ _ e in absurd (omega (arith, starts.0, starts.1))
same_line (show_line p) trace_line rest others hl hm e more = let starts = begins_so _ _ e in absurd (omega (arith, starts.0, starts.1))
same_line (get_line p n path) (submit_line p' t' x') rest others hl hm e more = let starts = begins_so _ _ e in absurd (omega (arith, starts.0, starts.1))
same_line (get_line p n path) (tick_line p') rest others hl hm e more = let starts = begins_so _ _ e in absurd (omega (arith, starts.0, starts.1))
same_line (get_line p n path) (widen_line p') rest others hl hm e more = let starts = begins_so _ _ e in absurd (omega (arith, starts.0, starts.1))
same_line (get_line p n path) (ask_line p') rest others hl hm e more = let starts = begins_so _ _ e in absurd (omega (arith, starts.0, starts.1))
same_line (get_line p n path) (tell_line p' i') rest others hl hm e more = let starts = begins_so _ _ e in absurd (omega (arith, starts.0, starts.1))
same_line (get_line p n path) (keep_line p' i') rest others hl hm e more = let starts = begins_so _ _ e in absurd (omega (arith, starts.0, starts.1))
same_line (get_line p n path) (restart_line p') rest others hl hm e more = let starts = begins_so _ _ e in absurd (omega (arith, starts.0, starts.1))
same_line (get_line p n path) (replace_line p' i') rest others hl hm e more = let starts = begins_so _ _ e in absurd (omega (arith, starts.0, starts.1))
same_line (get_line p n path) (deliver_line p' i') rest others hl hm e more = let starts = begins_so _ _ e in absurd (omega (arith, starts.0, starts.1))
same_line (get_line p n path) (arm_line p' i') rest others hl hm e more = let starts = begins_so _ _ e in absurd (omega (arith, starts.0, starts.1))
same_line (get_line p n path) (crash_line p' i') rest others hl hm e more = let starts = begins_so _ _ e in absurd (omega (arith, starts.0, starts.1))
same_line (get_line p n path) settle_line rest others hl hm e more = let starts = begins_so _ _ e in absurd (omega (arith, starts.0, starts.1))
same_line (get_line p n path) (quiet_line p') rest others hl hm e more = let starts = begins_so _ _ e in absurd (omega (arith, starts.0, starts.1))
same_line (get_line p n path) (show_line p') rest others hl hm e more = let starts = begins_so _ _ e in absurd (omega (arith, starts.0, starts.1))
same_line (get_line p n path) (get_line p' n' path') rest others hl hm e more =
    let first = one_word (codes "get ") (joined (words (get_line p n path))) (decimal p) (decimal n ++ (32 ∷ path)) p' (decimal n' ++ (32 ∷ path')) (lacks-decimal 32 p (omega arith) (omega arith)) refl (omega arith) e in
    let second = one_number_cut (decimal n ++ (32 ∷ path)) (decimal n) path n' path' (number_cut n path (omega arith)) (omega arith) first.back in
    let node = decimal_injective p p' (omega arith) (omega arith) first.front in
    let release = decimal_injective n n' (omega arith) (omega arith) second.front in
    let text = second.back in
    ((λ k. get_line (node k) (release k) (text k)), more)
same_line (get_line p n path) trace_line rest others hl hm e more = let starts = begins_so _ _ e in absurd (omega (arith, starts.0, starts.1))
same_line trace_line (submit_line p' t' x') rest others hl hm e more = let starts = begins_so _ _ e in absurd (omega (arith, starts.0, starts.1))
same_line trace_line (tick_line p') rest others hl hm e more = let starts = begins_so _ _ e in absurd (omega (arith, starts.0, starts.1))
same_line trace_line (widen_line p') rest others hl hm e more = let starts = begins_so _ _ e in absurd (omega (arith, starts.0, starts.1))
same_line trace_line (ask_line p') rest others hl hm e more = let starts = begins_so _ _ e in absurd (omega (arith, starts.0, starts.1))
same_line trace_line (tell_line p' i') rest others hl hm e more = let starts = begins_so _ _ e in absurd (omega (arith, starts.0, starts.1))
same_line trace_line (keep_line p' i') rest others hl hm e more = let starts = begins_so _ _ e in absurd (omega (arith, starts.0, starts.1))
same_line trace_line (restart_line p') rest others hl hm e more = let starts = begins_so _ _ e in absurd (omega (arith, starts.0, starts.1))
same_line trace_line (replace_line p' i') rest others hl hm e more = let starts = begins_so _ _ e in absurd (omega (arith, starts.0, starts.1))
same_line trace_line (deliver_line p' i') rest others hl hm e more = let starts = begins_so _ _ e in absurd (omega (arith, starts.0, starts.1))
same_line trace_line (arm_line p' i') rest others hl hm e more = let starts = begins_so _ _ e in absurd (omega (arith, starts.0, starts.1))
same_line trace_line (crash_line p' i') rest others hl hm e more = let starts = begins_so _ _ e in absurd (omega (arith, starts.0, starts.1))
same_line trace_line settle_line rest others hl hm e more = let starts = begins_so _ _ e in absurd (omega (arith, starts.0, starts.1))
same_line trace_line (quiet_line p') rest others hl hm e more = let starts = begins_so _ _ e in absurd (omega (arith, starts.0, starts.1))
same_line trace_line (show_line p') rest others hl hm e more = let starts = begins_so _ _ e in absurd (omega (arith, starts.0, starts.1))
same_line trace_line (get_line p' n' path') rest others hl hm e more = let starts = begins_so _ _ e in absurd (omega (arith, starts.0, starts.1))
same_line trace_line trace_line rest others hl hm e more = (refl, more)

pub one_line : OneLine
one_line l m rest others hl hm is =
    let cut = lines.head_cut Fits (λ line. joined (words line)) body lacks-words l rest hl in
    let same = lines.one_head Fits (λ line. joined (words line)) body lacks-words (spelled l ++ rest) (joined (words l)) (body l ++ rest) m others cut hm is in
    same_line l m rest others hl hm same.front same.back
