-- Histories, entry by entry.
use Rattle.std.proofs.Common.{◌≡◌, ℕ, ◌+◌, ◌<◌, List, [], ◌∷◌, ◌++◌, length, get_or, take, drop, sym, ◌∙◌, ap, subst, arith, ◌^◌}
use Rattle.std.proofs.lemmas.List.{take-append-drop, map-append, map_more, drop_more}
use Rattle.durable.specs.Entries.{Entry, Round, Promised, PromisedSpan, Voted, Learned, Floor}
use Rattle.durable.specs.Histories.{IsInRange, MayFollow, IsHistory}
use Rattle.durable.specs.Spelling.{payload}
use Rattle.durable.proofs.Push.{history-push}
use Rattle.test_record.specs.declared.entry.Entry.{Entry as Value}
use Rattle.test_record.specs.Meaning.{meaning, meanings}

-- where an entry stands in a list
pub cut_at : (entries : List Value) (i : ℕ) (e : Value) → i < length entries → get_or entries i e ≡ e → meanings entries ≡ meanings (take i entries) ++ meaning e ∷ meanings (drop (i + 1) entries)
cut_at entries i e within is =
    ap meanings (sym (take-append-drop i entries)) ∙ map-append meaning (take i entries) (drop i entries)
    ∙ ap (λ (l : List Value). meanings (take i entries) ++ meanings l) (drop_more entries i e within ∙ ap (λ (x : Value). x ∷ drop (i + 1) entries) is)

pub may_follow : (n : ℕ) (entries : List Value) (i : ℕ) (e : Value) → i < length entries → get_or entries i e ≡ e → IsHistory n (meanings entries) → MayFollow n (meanings (take i entries)) (meaning e)
may_follow n entries i e within is history = history (meanings (take i entries)) (meaning e) (meanings (drop (i + 1) entries)) (cut_at entries i e within is)

-- the first entries, with one more
pub taken_more : (entries : List Value) (i : ℕ) (e : Value) → i < length entries → get_or entries i e ≡ e → meanings (take (i + 1) entries) ≡ meanings (take i entries) ++ meaning e ∷ []
taken_more entries i e within is = map_more meaning entries i e within ∙ ap (λ (x : Value). meanings (take i entries) ++ meaning x ∷ []) is

pub one_more : (n : ℕ) (entries : List Value) (i : ℕ) (e : Value) → i < length entries → get_or entries i e ≡ e → MayFollow n (meanings (take i entries)) (meaning e) → IsHistory n (meanings (take i entries))
    → IsHistory n (meanings (take (i + 1) entries))
one_more n entries i e within is follows history =
    subst (λ (l : List Entry). IsHistory n l) (sym (taken_more entries i e within is)) (history-push n (meanings (take i entries)) (meaning e) history follows)

-- an entry of a history has a payload whose length four bytes spell
pub payload_fits : (n : ℕ) (entries : List Value) (i : ℕ) (e : Value) → i < length entries → get_or entries i e ≡ e → IsHistory n (meanings entries) → length (payload (meaning e)) < 2 ^ 32
payload_fits n entries i e within is history = in_four_bytes n (meaning e) (may_follow n entries i e within is history).in_range
  where
    in_four_bytes : (n : ℕ) (e : Entry) → IsInRange n e → length (payload e) < 2 ^ 32
    in_four_bytes n (Round r) in_range = omega arith
    in_four_bytes n (Promised i b) in_range = omega arith
    in_four_bytes n (PromisedSpan i k b) in_range = omega arith
    in_four_bytes n (Voted i b v) in_range = omega (arith, in_range.2)
    in_four_bytes n (Learned i v) in_range = omega (arith, in_range.1)
    in_four_bytes n (Floor f) in_range = omega arith
