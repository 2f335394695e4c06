-- What an append makes of the items of which a file is laid.
use Rattle.std.proofs.Common.{◌≡◌, ◌≢◌, inl, inr, ⊎_elim, ℕ, ◌+◌, ◌<◌, List, [], ◌∷◌, ◌++◌, Some, length, get_or, take, drop, refl, sym, ◌∙◌, ap, subst, arith, length-append, append_assoc, take-append-drop}
use Rattle.std.proofs.lemmas.List.{take_at, drop_at, drop_more, append-nil}
use Rattle.durable.specs.Append.{IsClosedAt, IsOpenAt, IsAppendedOrNot}
use Rattle.durable.specs.Batches.{behind_gates}
use Rattle.durable.specs.Entries.{Entry}
use Rattle.durable.specs.Histories.{MayFollow}
use Rattle.durable.specs.Items.{Item, Put, Batch, IsLog, item_blocks}
use Rattle.durable.specs.Keeping.{IsFound}
use Rattle.durable.specs.Spelling.{head, payload, behind_gate}
use Rattle.durable.specs.Standing.{StandsFor, IsLaid}
use Rattle.durable.proofs.Logs.{entries-push, item_blocks-append, log-put}
use Rattle.byteorder.specs.Endian.{big_bytes}

head_size : (node cluster : ℕ) → length (head node cluster) ≡ 10
head_size node cluster = refl

-- an entry's bytes after a gate are those of it as an item
pub behind_one : (entry : Entry) → behind_gates (Put entry ∷ []) ≡ behind_gate entry
behind_one entry =
    let front : List ℕ = big_bytes 4 (length (payload entry)) ++ payload entry in
    ap (λ (l : List ℕ). l ++ 0 ∷ []) (append-nil front) ∙ append_assoc (big_bytes 4 (length (payload entry))) (payload entry) (0 ∷ [])

gate_and_rest : (more : List Item) → more ≢ [] → 1 ∷ behind_gates more ≡ item_blocks more ++ 0 ∷ []
gate_and_rest [] some = absurd (some refl)
gate_and_rest (Put e ∷ more) some = refl
gate_and_rest (Batch es ∷ more) some = refl

module _ (node cluster gate : ℕ) (file : List ℕ) (items : List Item) (laid : IsLaid node cluster file items) (at_gate : gate ≡ 10 + length (item_blocks items)) where
  abbrev front : List ℕ
  front = head node cluster ++ item_blocks items

  pub front_size : length front ≡ gate
  front_size = omega (arith, at_gate, length-append (head node cluster) (item_blocks items), head_size node cluster)

  layout : file ≡ front ++ laid.gate ∷ laid.rest
  layout = laid.layout

  pub file_front : take gate file ≡ front
  file_front = ap (λ (l : List ℕ). take gate l) layout ∙ take_at front (laid.gate ∷ laid.rest) gate front_size

  file_back : drop gate file ≡ laid.gate ∷ laid.rest
  file_back = ap (λ (l : List ℕ). drop gate l) layout ∙ drop_at front (laid.gate ∷ laid.rest) gate front_size

  file_size : gate < length file
  file_size = omega (arith, ap length layout, length-append front (laid.gate ∷ laid.rest), front_size)

  -- the file is closed at its gate
  pub closed_there : IsClosedAt gate file file
  closed_there =
      let split = drop_more file gate 0 file_size in
      record {
        front = refl;
        there = file_size;
        closed = λ one. laid.closed (sym (ap (λ (l : List ℕ). get_or l 0 0) (sym split ∙ file_back)) ∙ one);
      }

  -- what has the same front and a closed gate is laid of the same items
  pub still_laid : (left : List ℕ) → IsClosedAt gate file left → IsLaid node cluster left items
  still_laid left closed = record {
    log = laid.log;
    gate = get_or left gate 0;
    rest = drop (gate + 1) left;
    closed = closed.closed;
    layout = sym (take-append-drop gate left) ∙ ap (λ (l : List ℕ). l ++ drop gate left) (closed.front ∙ file_front) ∙ ap (λ (l : List ℕ). front ++ l) (drop_more left gate 0 closed.there);
  }

  -- the main lemma: what has more items after an open gate is laid of all of them
  pub more_laid : (more : List Item) (left : List ℕ) → more ≢ [] → IsLog cluster (items ++ more) → IsOpenAt gate file (behind_gates more) left → IsLaid node cluster left (items ++ more)
  more_laid more left some log opened = record {
    log = log;
    gate = 0;
    rest = opened.rest;
    closed = λ one. omega (arith, one);
    layout = sym (take-append-drop gate left)
        ∙ ap (λ (l : List ℕ). l ++ drop gate left) (opened.front ∙ file_front)
        ∙ ap (λ (l : List ℕ). front ++ l) (opened.behind ∙ ap (λ (l : List ℕ). l ++ opened.rest) (gate_and_rest more some) ∙ append_assoc (item_blocks more) (0 ∷ []) opened.rest)
        ∙ append_assoc (head node cluster) (item_blocks items) (item_blocks more ++ 0 ∷ opened.rest)
        ∙ ap (λ (l : List ℕ). head node cluster ++ l) (sym (append_assoc (item_blocks items) (item_blocks more) (0 ∷ opened.rest)) ∙ ap (λ (l : List ℕ). l ++ 0 ∷ opened.rest) (sym (item_blocks-append items more)));
  }

-- the same of the entries for which a file stands
module _ (node cluster gate : ℕ) (file : List ℕ) (entries : List Entry) (stands : StandsFor node cluster file entries) (at_gate : gate ≡ 10 + length (item_blocks stands.items)) where
  pub still_stands : (left : List ℕ) → IsClosedAt gate file left → StandsFor node cluster left entries
  still_stands left closed = record { items = stands.items; laid = still_laid node cluster gate file stands.items stands.laid at_gate left closed; same = stands.same }

  pub entry_log : (entry : Entry) → MayFollow cluster entries entry → IsLog cluster (stands.items ++ Put entry ∷ [])
  entry_log entry follows = log-put cluster stands.items entry stands.laid.log (subst (λ (es : List Entry). MayFollow cluster es entry) (sym stands.same) follows)

  -- what has the entry after an open gate stands for one entry more
  abbrev pub then_stands : (entry : Entry) (left : List ℕ) → MayFollow cluster entries entry → IsOpenAt gate file (behind_gate entry) left → StandsFor node cluster left (entries ++ entry ∷ [])
  then_stands entry left follows opened =
      let some : Put entry ∷ [] ≢ [] = λ none. omega (arith, ap length none) in
      record {
        items = stands.items ++ Put entry ∷ [];
        laid = more_laid node cluster gate file stands.items stands.laid at_gate (Put entry ∷ []) left some (entry_log entry follows)
            (subst (λ (b : List ℕ). IsOpenAt gate file b left) (sym (behind_one entry)) opened);
        same = entries-push stands.items (Put entry) ∙ ap (λ (es : List Entry). es ++ entry ∷ []) stands.same;
      }

  -- so after an append, whole or not, it stands for the entries with one more or without
  pub with_or_without : (entry : Entry) (left : List ℕ) → MayFollow cluster entries entry → IsAppendedOrNot gate file (behind_gate entry) left → IsFound node cluster entries (Some entry) left
  with_or_without entry left follows appended = ⊎_elim (λ closed. (entries, inl refl, still_stands left closed)) (λ opened. (entries ++ entry ∷ [], inr refl, then_stands entry left follows opened)) appended
