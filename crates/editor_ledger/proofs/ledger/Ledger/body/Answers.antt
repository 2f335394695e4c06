use Rattle.std.proofs.Common.{◌≡◌, ℕ, List, ◌++◌, string_bytes, ap, ◌∙◌, append_assoc}
use Rattle.std.specs.List.{flat_map}
use Rattle.editor_ledger.specs.Spelling.{front_lines, released_line, message_entry, kept_entry, past_entry, sent_entry}
use Rattle.editor_ledger.proofs.ledger.Ledger.body.Goals as goal

one_after_the_other : (front log messages kept past sent first second third fourth fifth : List ℕ)
    → first ≡ front ++ log → second ≡ first ++ messages → third ≡ second ++ kept → fourth ≡ third ++ past → fifth ≡ fourth ++ sent
    → fifth ≡ front ++ (log ++ (messages ++ (kept ++ (past ++ sent))))
one_after_the_other front log messages kept past sent first second third fourth fifth one two three four five =
    five ∙ ap (λ t. t ++ sent) (four ∙ ap (λ t. t ++ past) (three ∙ ap (λ t. t ++ kept) (two ∙ ap (λ t. t ++ messages) one))) ∙ simp append_assoc

front : (e e' n n' l l' : ℕ) → e ≡ e' → n ≡ n' → l ≡ l' → front_lines e n l ≡ front_lines e' n' l'
front e e' n n' l l' same_e same_n same_l = ap (λ (k : ℕ). front_lines k n l) same_e ∙ ap (λ (k : ℕ). front_lines e' k l) same_n ∙ ap (λ (k : ℕ). front_lines e' n' k) same_l

pub returns : goal.returns
returns c =
    let begun : string_bytes c.in_ok-text.text ≡ front_lines c.args.self.now.editor c.args.self.now.next c.args.self.now.last_release =
    c.in_ok-text.ensures ∙ front _ _ _ _ _ _ c.editor.ensures c.next.ensures c.last_release.ensures in
    let log : c.as_str.result.now ≡ flat_map released_line c.args.self.now.log = c.as_str.ensures.value ∙ c.in_ok-log_lines.ensures ∙ ap (flat_map released_line) c.log.ensures in
    let messages : c.as_str-2.result.now ≡ flat_map message_entry c.args.self.now.messages = c.as_str-2.ensures.value ∙ c.in_ok-message_entries.ensures ∙ ap (flat_map message_entry) c.messages.ensures in
    let kept : c.as_str-3.result.now ≡ flat_map kept_entry c.args.self.now.kept = c.as_str-3.ensures.value ∙ c.in_ok-kept_entries.ensures ∙ ap (flat_map kept_entry) c.kept.ensures in
    let past : c.as_str-4.result.now ≡ flat_map past_entry c.args.self.now.past = c.as_str-4.ensures.value ∙ c.in_ok-past_entries.ensures ∙ ap (flat_map past_entry) c.past.ensures in
    let sent : c.as_str-5.result.now ≡ flat_map sent_entry c.args.self.now.sent = c.as_str-5.ensures.value ∙ c.in_ok-sent_entries.ensures ∙ ap (flat_map sent_entry) c.sent.ensures in
    one_after_the_other (front_lines c.args.self.now.editor c.args.self.now.next c.args.self.now.last_release)
    (flat_map released_line c.args.self.now.log) (flat_map message_entry c.args.self.now.messages) (flat_map kept_entry c.args.self.now.kept)
    (flat_map past_entry c.args.self.now.past) (flat_map sent_entry c.args.self.now.sent)
    (string_bytes c.push_str.new.self) (string_bytes c.push_str-2.new.self) (string_bytes c.push_str-3.new.self) (string_bytes c.push_str-4.new.self) (string_bytes c.push_str-5.new.self)
    (c.in_ok-push_str.ensures.bytes ∙ ap (λ t. t ++ c.as_str.result.now) begun ∙ ap (λ t. front_lines c.args.self.now.editor c.args.self.now.next c.args.self.now.last_release ++ t) log)
    (c.in_ok-push_str-2.ensures.bytes ∙ ap (λ t. string_bytes c.push_str.new.self ++ t) messages)
    (c.in_ok-push_str-3.ensures.bytes ∙ ap (λ t. string_bytes c.push_str-2.new.self ++ t) kept)
    (c.in_ok-push_str-4.ensures.bytes ∙ ap (λ t. string_bytes c.push_str-3.new.self ++ t) past)
    (c.in_ok-push_str-5.ensures.bytes ∙ ap (λ t. string_bytes c.push_str-4.new.self ++ t) sent)
