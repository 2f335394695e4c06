-- A text spells one ledger at most.
use Rattle.std.proofs.Common.{◌≡◌, ℕ, ◌<◌, ◌≤◌, List, [], ◌∷◌, ◌++◌, length, take, drop, Bool, true, false, eqb, codes, Some, All, decimal, refl, sym, ap, ◌∙◌, append_assoc, arith}
use Rattle.std.specs.List.{flat_map}
use Rattle.std.specs.Char.{digit_value}
use Rattle.std.specs.Str.Parse.{AllDigits, digits_value}
use Rattle.std.proofs.lemmas.Fmt.{decimal_is_IsNumeral}
use Rattle.std.proofs.lemmas.List.{take_at, drop_at}
use Rattle.std.proofs.lemmas.List.Elements.{All-head, All-tail}
use Rattle.command.specs.Cuts.{cut_at}
use Rattle.editor_ledger.specs.Books.{Given, Book}
use Rattle.editor_ledger.specs.Laws.{SpellsOne}
use Rattle.editor_ledger.specs.Sizes.{Fits, FitsReleased, FitsText, FitsGiven, FitsBook}
use Rattle.editor_ledger.specs.Spelling.{front_lines, released_word, released_line, kept_entry, numbered_entry, sent_entry}
use Rattle.editor_ledger.specs.Spelling.{past_entry, message_entry, body, last_line, spelled}
use Rattle.editor_ledger.specs.declared.released.Released.{Released}
use Rattle.editor_ledger.proofs.Words.{lacks, cut_it}

-- ---- numbers

other_byte : (c b : ℕ) → digit_value b < 10 → 10 ≤ digit_value c → eqb b c ≡ false
other_byte c b digit none = by_cases (eqb b c) refl
  where
    by_cases : (t : Bool) → eqb b c ≡ t → t ≡ false
    by_cases false is = refl
    by_cases true is =
        let same : b ≡ c = grind (arith, is) in
        let value : digit_value b ≡ digit_value c = ap digit_value same in
        absurd (omega (arith, value, digit, none))

digits_lack : (c : ℕ) (bs : List ℕ) → 10 ≤ digit_value c → AllDigits 10 bs → lacks c bs ≡ true
digits_lack c [] none all = refl
digits_lack c (b ∷ bs) none all = rw (other_byte c b all.0 none) (digits_lack c bs none all.1)

pub decimal_lacks : (c n : ℕ) → 10 ≤ digit_value c → Fits n → lacks c (decimal n) ≡ true
decimal_lacks c n none fits = digits_lack c (decimal n) none (decimal_is_IsNumeral n fits).0.1

decimals : (m n : ℕ) → Fits m → Fits n → decimal m ≡ decimal n → m ≡ n
decimals m n first second is = sym (decimal_is_IsNumeral m first).1 ∙ ap (digits_value 10) is ∙ (decimal_is_IsNumeral n second).1

pub pairs : (p q : List ℕ × List ℕ) → Some p ≡ Some q → p ≡ q
pairs p q is = cc

number_then : (c m n : ℕ) (xs ys : List ℕ) → 10 ≤ digit_value c → Fits m → Fits n → decimal m ++ (c ∷ xs) ≡ decimal n ++ (c ∷ ys) → (m ≡ n) × (xs ≡ ys)
number_then c m n xs ys none first second is =
    let cuts = sym (cut_it c (decimal m) xs (decimal_lacks c m none first)) ∙ ap (cut_at c) is ∙ cut_it c (decimal n) ys (decimal_lacks c n none second) in
    let parts = pairs (decimal m, xs) (decimal n, ys) cuts in
    (decimals m n first second (ap (λ (p : List ℕ × List ℕ). p.0) parts), ap (λ (p : List ℕ × List ℕ). p.1) parts)

-- texts of one length
same_front : (t u xs ys : List ℕ) → length t ≡ length u → t ++ xs ≡ u ++ ys → (t ≡ u) × (xs ≡ ys)
same_front t u xs ys long is = (
  sym (take_at t xs (length t) refl) ∙ ap (take (length t)) is ∙ take_at u ys (length t) (sym long),
  sym (drop_at t xs (length t) refl) ∙ ap (drop (length t)) is ∙ drop_at u ys (length t) (sym long),
)

-- ---- lines and entries

pub newline : 10 ≤ digit_value 10
newline = omega arith

pub space : 10 ≤ digit_value 32
space = omega arith

pub same_released : (a b : Released) → a.exact ≡ b.exact → a.release ≡ b.release → a.time ≡ b.time → a.commands ≡ b.commands
    → a ≡ b
same_released a b exact release time commands =
    ap (λ (t : Bool). record a { exact = t }) exact
    ∙ ap (λ (n : ℕ). record a { exact = b.exact; release = n }) release
    ∙ ap (λ (n : ℕ). record b { time = n; commands = a.commands }) time
    ∙ ap (λ (n : ℕ). record b { commands = n }) commands

-- the byte after `released`
ninth : List ℕ → Bool
ninth [] = false
ninth (x ∷ xs) = eqb x 32

words_one : (p q : Bool) (xs ys : List ℕ) → released_word p ++ xs ≡ released_word q ++ ys → (p ≡ q) × (xs ≡ ys)
unfolding ninth
words_one true true xs ys is = (refl, ap (drop 9) is)
words_one false false xs ys is = (refl, ap (drop 12) is)
words_one true false xs ys is = let never : true ≡ false = ap (λ t. ninth (drop 8 t)) is in absurd (cc)
words_one false true xs ys is = let never : false ≡ true = ap (λ t. ninth (drop 8 t)) is in absurd (cc)

released_one : (a b : Released) (xs ys : List ℕ) → FitsReleased a → FitsReleased b → released_line a ++ xs ≡ released_line b ++ ys → (a ≡ b) × (xs ≡ ys)
released_one a b xs ys first second is =
    let last_a : List ℕ = decimal a.commands ++ (10 ∷ []) in
    let last_b : List ℕ = decimal b.commands ++ (10 ∷ []) in
    let numbers_a : List ℕ = decimal a.release ++ (32 ∷ (decimal a.time ++ (32 ∷ last_a))) in
    let numbers_b : List ℕ = decimal b.release ++ (32 ∷ (decimal b.time ++ (32 ∷ last_b))) in
    let word = words_one a.exact b.exact (numbers_a ++ xs) (numbers_b ++ ys)
    (sym (append_assoc (released_word a.exact) numbers_a xs) ∙ is ∙ append_assoc (released_word b.exact) numbers_b ys) in
    let release = number_then 32 a.release b.release ((decimal a.time ++ (32 ∷ last_a)) ++ xs) ((decimal b.time ++ (32 ∷ last_b)) ++ ys) space first.0 second.0
    (sym (append_assoc (decimal a.release) (32 ∷ (decimal a.time ++ (32 ∷ last_a))) xs) ∙ word.1 ∙ append_assoc (decimal b.release) (32 ∷ (decimal b.time ++ (32 ∷ last_b))) ys) in
    let time = number_then 32 a.time b.time (last_a ++ xs) (last_b ++ ys) space first.1 second.1
    (sym (append_assoc (decimal a.time) (32 ∷ last_a) xs) ∙ release.1 ∙ append_assoc (decimal b.time) (32 ∷ last_b) ys) in
    let commands = number_then 10 a.commands b.commands xs ys newline first.2 second.2
    (sym (append_assoc (decimal a.commands) (10 ∷ []) xs) ∙ time.1 ∙ append_assoc (decimal b.commands) (10 ∷ []) ys) in
    (same_released a b word.0 release.0 time.0 commands.0, commands.1)

-- a text of a length that is known, and the newline after it
text_then : (t u xs ys : List ℕ) → length t ≡ length u → (t ++ (10 ∷ [])) ++ xs ≡ (u ++ (10 ∷ [])) ++ ys → (t ≡ u) × (xs ≡ ys)
text_then t u xs ys long is =
    let fronts = same_front t u (10 ∷ xs) (10 ∷ ys) long (sym (append_assoc t (10 ∷ []) xs) ∙ is ∙ append_assoc u (10 ∷ []) ys) in
    (fronts.0, ap (drop 1) fronts.1)

kept_one : (t u xs ys : List ℕ) → FitsText t → FitsText u → kept_entry t ++ xs ≡ kept_entry u ++ ys → (t ≡ u) × (xs ≡ ys)
kept_one t u xs ys first second is =
    let long = number_then 10 (length t) (length u) ((t ++ (10 ∷ [])) ++ xs) ((u ++ (10 ∷ [])) ++ ys) newline first second
    (sym (append_assoc (decimal (length t)) (10 ∷ (t ++ (10 ∷ []))) xs) ∙ ap (drop 4) is ∙ append_assoc (decimal (length u)) (10 ∷ (u ++ (10 ∷ []))) ys) in
    text_then t u xs ys long.0 long.1

entry_one : (word : List ℕ) (g h : Given) (xs ys : List ℕ) → FitsGiven g → FitsGiven h → numbered_entry word g ++ xs ≡ numbered_entry word h ++ ys → (g ≡ h) × (xs ≡ ys)
entry_one word g h xs ys first second is =
    let last_g : List ℕ = decimal (length g.text) ++ (10 ∷ (g.text ++ (10 ∷ []))) in
    let last_h : List ℕ = decimal (length h.text) ++ (10 ∷ (h.text ++ (10 ∷ []))) in
    let tail_g : List ℕ = 32 ∷ (decimal g.number ++ (32 ∷ last_g)) in
    let tail_h : List ℕ = 32 ∷ (decimal h.number ++ (32 ∷ last_h)) in
    let tails : word ++ (tail_g ++ xs) ≡ word ++ (tail_h ++ ys) = sym (append_assoc word tail_g xs) ∙ is ∙ append_assoc word tail_h ys in
    let behind = same_front word word (tail_g ++ xs) (tail_h ++ ys) refl tails in
    let number = number_then 32 g.number h.number (last_g ++ xs) (last_h ++ ys) space first.0 second.0
    (sym (append_assoc (decimal g.number) (32 ∷ last_g) xs) ∙ ap (drop 1) behind.1 ∙ append_assoc (decimal h.number) (32 ∷ last_h) ys) in
    let long = number_then 10 (length g.text) (length h.text) ((g.text ++ (10 ∷ [])) ++ xs) ((h.text ++ (10 ∷ [])) ++ ys) newline first.1 second.1
    (sym (append_assoc (decimal (length g.text)) (10 ∷ (g.text ++ (10 ∷ []))) xs) ∙ number.1 ∙ append_assoc (decimal (length h.text)) (10 ∷ (h.text ++ (10 ∷ []))) ys) in
    let text = text_then g.text h.text xs ys long.0 long.1 in
    (ap (λ (n : ℕ). record g { number = n }) number.0 ∙ ap (λ (t : List ℕ). record h { text = t }) text.0, text.1)

-- ---- sections

-- the list begins with the byte
abbrev pub starts : ℕ → List ℕ → Bool
starts b [] = false
starts b (x ∷ xs) = eqb x b

-- entries that begin with a byte of their own, before what doesn't
section : {A : Type 0} (f : A → List ℕ) (P : A → Type 0) (b : ℕ) → ((a : A) (xs : List ℕ) → starts b (f a ++ xs) ≡ true)
    → ((a c : A) (xs ys : List ℕ) → P a → P c → f a ++ xs ≡ f c ++ ys → (a ≡ c) × (xs ≡ ys))
    → (more cs : List A) (xs ys : List ℕ) → All P more → All P cs → starts b xs ≡ false → starts b ys ≡ false → flat_map f more ++ xs ≡ flat_map f cs ++ ys → (more ≡ cs) × (xs ≡ ys)
section f P b lead one [] [] xs ys first second absent none is = (refl, is)
section f P b lead one [] (c ∷ cs) xs ys first second absent none is =
    let yes : starts b xs ≡ true = ap (starts b) (is ∙ append_assoc (f c) (flat_map f cs) ys) ∙ lead c (flat_map f cs ++ ys) in
    absurd (cc)
section f P b lead one (a ∷ more) [] xs ys first second absent none is =
    let yes : starts b ys ≡ true = ap (starts b) (sym is ∙ append_assoc (f a) (flat_map f more) xs) ∙ lead a (flat_map f more ++ xs) in
    absurd (cc)
section f P b lead one (a ∷ more) (c ∷ cs) xs ys first second absent none is =
    let head = one a c (flat_map f more ++ xs) (flat_map f cs ++ ys) (All-head P a more first) (All-head P c cs second)
    (sym (append_assoc (f a) (flat_map f more) xs) ∙ is ∙ append_assoc (f c) (flat_map f cs) ys) in
    let rest = section f P b lead one more cs xs ys (All-tail P a more first) (All-tail P c cs second) absent none head.1 in
    (ap (λ x. x ∷ more) head.0 ∙ ap (λ zs. c ∷ zs) rest.0, rest.1)

-- the sections behind those of releases, of messages, of kept texts
abbrev pub sent_part : Book → List ℕ
sent_part book = flat_map sent_entry book.sent ++ last_line (body book)

abbrev pub past_part : Book → List ℕ
past_part book = flat_map past_entry book.past ++ sent_part book

abbrev pub kept_part : Book → List ℕ
kept_part book = flat_map kept_entry book.kept ++ past_part book

abbrev pub message_part : Book → List ℕ
message_part book = flat_map message_entry book.messages ++ kept_part book

abbrev pub log_part : Book → List ℕ
log_part book = flat_map released_line book.log ++ message_part book

no_past : (text : List ℕ) (sent : List Given) → starts 119 (flat_map sent_entry sent ++ last_line text) ≡ false
no_past text [] = refl
no_past text (g ∷ sent) = refl

no_kept : (text : List ℕ) (past sent : List Given)
    → starts 104 (flat_map past_entry past ++ (flat_map sent_entry sent ++ last_line text)) ≡ false
no_kept text [] [] = refl
no_kept text [] (g ∷ sent) = refl
no_kept text (g ∷ past) sent = refl

no_message : (text : List ℕ) (kept : List (List ℕ)) (past sent : List Given)
    → starts 116 (flat_map kept_entry kept ++ (flat_map past_entry past ++ (flat_map sent_entry sent ++ last_line text))) ≡ false
no_message text [] [] [] = refl
no_message text [] [] (g ∷ sent) = refl
no_message text [] (g ∷ past) sent = refl
no_message text (t ∷ kept) past sent = refl

no_released : (text : List ℕ) (messages : List Given) (kept : List (List ℕ)) (past sent : List Given)
    → starts 114 (flat_map message_entry messages ++ (flat_map kept_entry kept ++ (flat_map past_entry past ++ (flat_map sent_entry sent ++ last_line text)))) ≡ false
no_released text [] [] [] [] = refl
no_released text [] [] [] (g ∷ sent) = refl
no_released text [] [] (g ∷ past) sent = refl
no_released text [] (t ∷ kept) past sent = refl
no_released text (g ∷ messages) kept past sent = refl

-- a file is its front lines, and then its parts one after the other
in_parts : (front log messages kept past sent end : List ℕ)
    → (front ++ (log ++ (messages ++ (kept ++ (past ++ sent))))) ++ end ≡ front ++ (log ++ (messages ++ (kept ++ (past ++ (sent ++ end)))))
in_parts front log messages kept past sent end = simp append_assoc

pub parted : (book : Book) → spelled book ≡ front_lines book.editor book.next book.last_release ++ log_part book
parted book = in_parts (front_lines book.editor book.next book.last_release) (flat_map released_line book.log)
    (flat_map message_entry book.messages) (flat_map kept_entry book.kept) (flat_map past_entry book.past)
    (flat_map sent_entry book.sent) (last_line (body book))

released_first : (exact : Bool) (numbers xs : List ℕ) → starts 114 ((released_word exact ++ numbers) ++ xs) ≡ true
released_first true numbers xs = refl
released_first false numbers xs = refl

record SameFront (book other : Book) : Type 0 where
  editor : book.editor ≡ other.editor
  next : book.next ≡ other.next
  last_release : book.last_release ≡ other.last_release
  rest : log_part book ≡ log_part other

fronts : (book other : Book) → FitsBook book → FitsBook other → spelled book ≡ spelled other → SameFront book other
fronts book other first second spell =
    let is : front_lines book.editor book.next book.last_release ++ log_part book
    ≡ front_lines other.editor other.next other.last_release ++ log_part other = sym (parted book) ∙ spell ∙ parted other in
    let rest_a : List ℕ = log_part book in
    let rest_b : List ℕ = log_part other in
    let last_a : List ℕ = decimal book.last_release ++ (10 ∷ []) in
    let last_b : List ℕ = decimal other.last_release ++ (10 ∷ []) in
    let next_a : List ℕ = decimal book.next ++ (codes "\nlast_release " ++ last_a) in
    let next_b : List ℕ = decimal other.next ++ (codes "\nlast_release " ++ last_b) in
    let editor = number_then 10 book.editor other.editor ((codes "next " ++ next_a) ++ rest_a) ((codes "next " ++ next_b) ++ rest_b) newline first.editor second.editor
    (sym (append_assoc (decimal book.editor) (codes "\nnext " ++ next_a) rest_a) ∙ ap (drop 19) is ∙ append_assoc (decimal other.editor) (codes "\nnext " ++ next_b) rest_b) in
    let next = number_then 10 book.next other.next ((codes "last_release " ++ last_a) ++ rest_a) ((codes "last_release " ++ last_b) ++ rest_b) newline first.next second.next
    (sym (append_assoc (decimal book.next) (codes "\nlast_release " ++ last_a) rest_a) ∙ ap (drop 5) editor.1 ∙ append_assoc (decimal other.next) (codes "\nlast_release " ++ last_b) rest_b) in
    let last = number_then 10 book.last_release other.last_release rest_a rest_b newline first.last_release second.last_release
    (sym (append_assoc (decimal book.last_release) (10 ∷ []) rest_a) ∙ ap (drop 13) next.1 ∙ append_assoc (decimal other.last_release) (10 ∷ []) rest_b) in
    record { editor = editor.0; next = next.0; last_release = last.0; rest = last.1 }

same_book : (book other : Book) → book.editor ≡ other.editor → book.next ≡ other.next → book.last_release ≡ other.last_release
    → book.log ≡ other.log → book.messages ≡ other.messages → book.kept ≡ other.kept → book.past ≡ other.past → book.sent ≡ other.sent → book ≡ other
same_book book other editor next last_release log messages kept past sent =
    ap (λ (n : ℕ). record book { editor = n }) editor
    ∙ ap (λ (n : ℕ). record book { editor = other.editor; next = n }) next
    ∙ ap (λ (n : ℕ). record book { editor = other.editor; next = other.next; last_release = n }) last_release
    ∙ ap (λ (rs : List Released). record other { log = rs; messages = book.messages; kept = book.kept; past = book.past; sent = book.sent }) log
    ∙ ap (λ (gs : List Given). record other { messages = gs; kept = book.kept; past = book.past; sent = book.sent }) messages
    ∙ ap (λ (ts : List (List ℕ)). record other { kept = ts; past = book.past; sent = book.sent }) kept
    ∙ ap (λ (gs : List Given). record other { past = gs; sent = book.sent }) past
    ∙ ap (λ (gs : List Given). record other { sent = gs }) sent

pub spells_one : SpellsOne
spells_one book other first second is =
    let front = fronts book other first second is in
    let log = section released_line FitsReleased 114 (λ a xs. released_first a.exact _ xs) released_one book.log other.log (message_part book) (message_part other)
    first.log second.log (no_released (body book) book.messages book.kept book.past book.sent)
    (no_released (body other) other.messages other.kept other.past other.sent) front.rest in
    let messages = section message_entry FitsGiven 116 (λ g xs. refl) (entry_one (codes "told")) book.messages other.messages (kept_part book) (kept_part other)
    first.messages second.messages (no_message (body book) book.kept book.past book.sent) (no_message (body other) other.kept other.past other.sent) log.1 in
    let kept = section kept_entry FitsText 104 (λ t xs. refl) kept_one book.kept other.kept (past_part book) (past_part other)
    first.kept second.kept (no_kept (body book) book.past book.sent) (no_kept (body other) other.past other.sent) messages.1 in
    let past = section past_entry FitsGiven 119 (λ g xs. refl) (entry_one (codes "was")) book.past other.past (sent_part book) (sent_part other)
    first.past second.past (no_past (body book) book.sent) (no_past (body other) other.sent) kept.1 in
    let sent = section sent_entry FitsGiven 115 (λ g xs. refl) (entry_one (codes "sent")) book.sent other.sent (last_line (body book)) (last_line (body other))
    first.sent second.sent refl refl past.1 in
    same_book book other front.editor front.next front.last_release log.0 messages.0 kept.0 past.0 sent.0
