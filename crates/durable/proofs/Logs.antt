-- Items, and the entries of them.
use Rattle.std.proofs.Common.{◌≡◌, ℕ, List, [], ◌∷◌, ◌++◌, length, refl, sym, ◌∙◌, ap, subst, arith, length-append, length-take, append_assoc}
use Rattle.std.proofs.lemmas.List.{append-nil}
use Rattle.md5.specs.Md5.{md5}
use Rattle.md5.proofs.StandardFacts.{length-md5}
use Rattle.durable.specs.Entries.{Entry}
use Rattle.durable.specs.Histories.{IsInRange, MayFollow, IsHistory}
use Rattle.durable.specs.Items.{Item, Put, Batch, IsWhole, AreWhole, IsLog, entries_in, entries_of, puts, item_block, item_blocks, sum_of}
use Rattle.durable.specs.Spelling.{block, blocks}
use Rattle.durable.proofs.Push.{history-push, history-none}

pub blocks-push : (entries : List Entry) (entry : Entry) → blocks (entries ++ entry ∷ []) ≡ blocks entries ++ block entry
blocks-push [] entry = append-nil (block entry)
blocks-push (first ∷ entries) entry = ap (λ (l : List ℕ). block first ++ l) (blocks-push entries entry) ∙ sym (append_assoc (block first) (blocks entries) (block entry))

pub blocks-append : (a b : List Entry) → blocks (a ++ b) ≡ blocks a ++ blocks b
blocks-append [] b = refl
blocks-append (e ∷ a) b = ap (λ (l : List ℕ). block e ++ l) (blocks-append a b) ∙ sym (append_assoc (block e) (blocks a) (blocks b))

pub entries-append : (a b : List Item) → entries_of (a ++ b) ≡ entries_of a ++ entries_of b
entries-append [] b = refl
entries-append (x ∷ a) b = ap (λ (l : List Entry). entries_in x ++ l) (entries-append a b) ∙ sym (append_assoc (entries_in x) (entries_of a) (entries_of b))

pub entries-push : (items : List Item) (item : Item) → entries_of (items ++ item ∷ []) ≡ entries_of items ++ entries_in item
entries-push items item = entries-append items (item ∷ []) ∙ ap (λ (l : List Entry). entries_of items ++ l) (append-nil (entries_in item))

pub entries-puts : (es : List Entry) → entries_of (puts es) ≡ es
entries-puts [] = refl
entries-puts (e ∷ es) = ap (λ (l : List Entry). e ∷ l) (entries-puts es)

pub item_blocks-append : (a b : List Item) → item_blocks (a ++ b) ≡ item_blocks a ++ item_blocks b
item_blocks-append [] b = refl
item_blocks-append (x ∷ a) b = ap (λ (l : List ℕ). item_block x ++ l) (item_blocks-append a b) ∙ sym (append_assoc (item_block x) (item_blocks a) (item_blocks b))

pub item_blocks-push : (items : List Item) (item : Item) → item_blocks (items ++ item ∷ []) ≡ item_blocks items ++ item_block item
item_blocks-push items item = item_blocks-append items (item ∷ []) ∙ ap (λ (l : List ℕ). item_blocks items ++ l) (append-nil (item_block item))

pub item_blocks-puts : (es : List Entry) → item_blocks (puts es) ≡ blocks es
item_blocks-puts [] = refl
item_blocks-puts (e ∷ es) = ap (λ (l : List ℕ). block e ++ l) (item_blocks-puts es)

pub sum_size : (bytes : List ℕ) → length (sum_of bytes) ≡ 8
sum_size bytes = omega (arith, length-take 8 (md5 bytes), length-md5 bytes)

-- ---- logs

pub whole-append : (a b : List Item) → AreWhole a → AreWhole b → AreWhole (a ++ b)
whole-append [] b wa wb = wb
whole-append (x ∷ a) b wa wb = (wa.0, whole-append a b wa.1 wb)

pub whole-after : (a b : List Item) → AreWhole (a ++ b) → AreWhole b
whole-after [] b w = w
whole-after (x ∷ a) b w = whole-after a b w.1

pub whole-puts : (es : List Entry) → AreWhole (puts es)
whole-puts [] = tt
whole-puts (e ∷ es) = (tt, whole-puts es)

pub log-none : (cluster : ℕ) → IsLog cluster []
log-none cluster = record { whole = tt; history = history-none cluster }

-- an item more, whose entries may follow those before them
pub log-push : (cluster : ℕ) (items : List Item) (item : Item) → IsLog cluster items → IsWhole item → IsHistory cluster (entries_of items ++ entries_in item) → IsLog cluster (items ++ item ∷ [])
log-push cluster items item log whole history = record {
  whole = whole-append items (item ∷ []) log.whole (whole, tt);
  history = subst (λ (l : List Entry). IsHistory cluster l) (sym (entries-push items item)) history;
}

-- an entry more
pub log-put : (cluster : ℕ) (items : List Item) (entry : Entry) → IsLog cluster items → MayFollow cluster (entries_of items) entry → IsLog cluster (items ++ Put entry ∷ [])
log-put cluster items entry log follows = log-push cluster items (Put entry) log tt (history-push cluster (entries_of items) entry log.history follows)

-- items more, as they are
pub log-append : (cluster : ℕ) (items more : List Item) → IsLog cluster items → AreWhole more → IsHistory cluster (entries_of items ++ entries_of more) → IsLog cluster (items ++ more)
log-append cluster items more log whole history = record {
  whole = whole-append items more log.whole whole;
  history = subst (λ (l : List Entry). IsHistory cluster l) (sym (entries-append items more)) history;
}

-- each entry is in its ranges
abbrev pub AllInRange : ℕ → List Entry → Type 0
AllInRange cluster [] = Unit {0}
AllInRange cluster (e ∷ es) = IsInRange cluster e × AllInRange cluster es

pub history_in_range : (cluster : ℕ) (earlier es : List Entry) → IsHistory cluster (earlier ++ es) → AllInRange cluster es
history_in_range cluster earlier [] h = tt
history_in_range cluster earlier (e ∷ es) h = (
  (h earlier e es refl).in_range,
  history_in_range cluster (earlier ++ e ∷ []) es (let P : List Entry → Type 0 = λ l. IsHistory cluster l in subst P (sym (append_assoc earlier (e ∷ []) es)) h),
)

pub range-before : (cluster : ℕ) (a b : List Entry) → AllInRange cluster (a ++ b) → AllInRange cluster a
range-before cluster [] b r = tt
range-before cluster (e ∷ a) b r = (r.0, range-before cluster a b r.1)

pub range-after : (cluster : ℕ) (a b : List Entry) → AllInRange cluster (a ++ b) → AllInRange cluster b
range-after cluster [] b r = r
range-after cluster (e ∷ a) b r = range-after cluster a b r.1

-- an item is whole, with its entries in their ranges
abbrev pub IsItem : ℕ → Item → Type 0
IsItem cluster item = IsWhole item × AllInRange cluster (entries_in item)

abbrev pub AreItems : ℕ → List Item → Type 0
AreItems cluster [] = Unit {0}
AreItems cluster (item ∷ items) = IsItem cluster item × AreItems cluster items

are_items : (cluster : ℕ) (items : List Item) → AreWhole items → AllInRange cluster (entries_of items) → AreItems cluster items
are_items cluster [] w r = tt
are_items cluster (x ∷ items) w r = ((w.0, range-before cluster (entries_in x) (entries_of items) r), are_items cluster items w.1 (range-after cluster (entries_in x) (entries_of items) r))

-- what goes on in a log is items
pub log_items : (cluster : ℕ) (earlier items : List Item) → IsLog cluster (earlier ++ items) → AreItems cluster items
log_items cluster earlier items log =
    let history : IsHistory cluster (entries_of earlier ++ entries_of items) = subst (λ (l : List Entry). IsHistory cluster l) (entries-append earlier items) log.history in
    are_items cluster items (whole-after earlier items log.whole) (history_in_range cluster (entries_of earlier) (entries_of items) history)

none_among : (es : List Entry) (rest : List Entry) → es ++ rest ≡ [] → es ≡ []
none_among [] rest none = refl
none_among (e ∷ es) rest none = absurd (omega (arith, ap length none))

-- items without entries are none
pub none_logged : (items : List Item) → AreWhole items → entries_of items ≡ [] → items ≡ []
none_logged [] w none = refl
none_logged (Put e ∷ items) w none = absurd (omega (arith, ap length none))
none_logged (Batch es ∷ items) w none = absurd (w.0.0 (none_among es (entries_of items) none))

pub none_spelled : (items : List Item) → length (item_blocks items) ≡ 0 → items ≡ []
none_spelled [] is = refl
none_spelled (Put e ∷ items) is = absurd (omega (arith, is, length-append (block e) (item_blocks items)))
none_spelled (Batch es ∷ items) is = absurd (omega (arith, is, length-append (item_block (Batch es)) (item_blocks items)))
