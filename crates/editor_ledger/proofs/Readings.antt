-- What stands at the front of a text is what is read there.
use Rattle.std.proofs.Common.{◌≡◌, ◌≢◌, ℕ, ◌<◌, ◌≤◌, List, [], ◌∷◌, ◌++◌, length, get_or, true, Bool, false, true≢false, cond, codes, All, map, Option, Some, None, option_map, is_some, ◌+◌, decimal, refl, sym, ap, subst, ◌∙◌, append_assoc, append-nil, Result, Ok, Err, MatchResult, length-append, arith}
use Rattle.std.specs.List.{flat_map, fold}
use Rattle.editor_ledger.specs.Firsts.{Lent}
use Rattle.std.specs.Result.{IsErrAnd, IfErr}
use Rattle.std.specs.Str.{IsCharBoundary}
use Rattle.std.proofs.lemmas.List.Elements.{All-append, All-map, All-nil}
use Rattle.std.proofs.lemmas.Str.{IsCharBoundary-before_ascii}
use Rattle.command.specs.Cuts.{after_front, cut_at}
use Rattle.command.proofs.CutLemmas.{after_front-append}
use Rattle.editor_ledger.specs.Books.{Given, Book, fresh}
use Rattle.editor_ledger.specs.Entries.{Item, released, told, has, was, sent, FitsItem, item_text, entered}
use Rattle.editor_ledger.specs.Sizes.{FitsReleased, FitsBook}
use Rattle.editor_ledger.specs.Spelling.{released_word, released_numbers, counted_text, numbered_text, released_line}
use Rattle.editor_ledger.specs.Spelling.{front_lines, kept_entry, message_entry, past_entry, body, last_line}
use Rattle.editor_ledger.specs.declared.released.Released.{Released}
use Rattle.editor_ledger.proofs.Words.{lacks, cut_it}
use Rattle.editor_ledger.proofs.Spellings.{pairs, starts, log_part}

-- ---- fronts and cuts

nothing : {A : Type 0} (x : A) → None ≡ Some x → ⊥
nothing x never = cc

pub front_is : (p text rest more : List ℕ) → Some rest ≡ after_front p text → text ≡ p ++ more → rest ≡ more
front_is p text rest more found is =
    let same : Some rest ≡ Some more = found ∙ ap (after_front p) is ∙ after_front-append p more in
    cc

pub front_there : (p text more : List ℕ) → None ≡ after_front p text → text ≡ p ++ more → ⊥
front_there p text more none is = nothing more (none ∙ ap (after_front p) is ∙ after_front-append p more)

pub cut_there : (c : ℕ) (xs ys text : List ℕ) → lacks c xs ≡ true → text ≡ xs ++ (c ∷ ys) → None ≡ cut_at c text → ⊥
cut_there c xs ys text clean is none = nothing (xs, ys) (none ∙ ap (cut_at c) is ∙ cut_it c xs ys clean)

pub cut_so : (c : ℕ) (xs ys text x y : List ℕ) → lacks c xs ≡ true → text ≡ xs ++ (c ∷ ys) → Some (x, y) ≡ cut_at c text → (x ≡ xs) × (y ≡ ys)
cut_so c xs ys text x y clean is found =
    let parts = pairs (x, y) (xs, ys) (found ∙ ap (cut_at c) is ∙ cut_it c xs ys clean) in
    (ap (λ (p : List ℕ × List ℕ). p.0) parts, ap (λ (p : List ℕ × List ℕ). p.1) parts)

-- ---- a text and the newline after it

ends_at : (t more : List ℕ) → get_or (t ++ (10 ∷ more)) (length t) 0 ≡ 10
ends_at [] more = refl
ends_at (x ∷ t) more = ends_at t more

longer : (t more : List ℕ) → length t < length (t ++ (10 ∷ more))
longer [] more = omega arith
longer (x ∷ t) more = omega (arith, longer t more)

pub boundary : (t more bs : List ℕ) (n : ℕ) → n ≡ length t → bs ≡ t ++ (10 ∷ more) → IsCharBoundary bs n
boundary t more bs n long is =
    rw (long, is) (IsCharBoundary-before_ascii (t ++ (10 ∷ more)) (length t) (longer t more) (let ends = ends_at t more in omega (arith, ends)))

-- ---- what follows a text

pub released_then : (r : Released) (more : List ℕ)
    → released_numbers r ++ more ≡ decimal r.release ++ (32 ∷ (decimal r.time ++ (32 ∷ (decimal r.commands ++ (10 ∷ more)))))
released_then r more = simp append_assoc

pub counted_then : (t more : List ℕ) → counted_text t ++ more ≡ decimal (length t) ++ (10 ∷ (t ++ (10 ∷ more)))
counted_then t more = simp append_assoc

pub numbered_then : (g : Given) (more : List ℕ) → numbered_text g ++ more ≡ decimal g.number ++ (32 ∷ (counted_text g.text ++ more))
numbered_then g more = append_assoc (decimal g.number) (32 ∷ counted_text g.text) more

-- ---- an entry's first word

abbrev pub released_by : Bool → List ℕ
released_by exact = codes "released" ++ cond exact [] (codes "_by")

abbrev pub word_of : Item → List ℕ
word_of (released r) = released_by r.exact
word_of (told g) = codes "told"
word_of (has t) = codes "has"
word_of (was g) = codes "was"
word_of (sent g) = codes "sent"

abbrev pub rest_of : Item → List ℕ
rest_of (released r) = released_numbers r
rest_of (told g) = numbered_text g
rest_of (has t) = counted_text t
rest_of (was g) = numbered_text g
rest_of (sent g) = numbered_text g

released_cut : (exact : Bool) (xs more : List ℕ) → (released_word exact ++ xs) ++ more ≡ released_by exact ++ (32 ∷ (xs ++ more))
released_cut true xs more = refl
released_cut false xs more = refl

pub item_cut : (item : Item) (more : List ℕ) → item_text item ++ more ≡ word_of item ++ (32 ∷ (rest_of item ++ more))
item_cut (released r) more = released_cut r.exact (released_numbers r) more
item_cut (told g) more = refl
item_cut (has t) more = refl
item_cut (was g) more = refl
item_cut (sent g) more = refl

released_clean : (exact : Bool) → lacks 32 (released_by exact) ≡ true
released_clean true = refl
released_clean false = refl

pub item_clean : (item : Item) → lacks 32 (word_of item) ≡ true
item_clean (released r) = released_clean r.exact
item_clean (told g) = refl
item_clean (has t) = refl
item_clean (was g) = refl
item_clean (sent g) = refl

pub told_only : (item : Item) → word_of item ≡ codes "told" → (g : Given) × (item ≡ told g)
told_only (released r) is = absurd (true≢false (sym (ap (starts 116) is)))
told_only (told g) is = (g, refl)
told_only (has t) is = absurd (true≢false (sym (ap (starts 116) is)))
told_only (was g) is = absurd (true≢false (sym (ap (starts 116) is)))
told_only (sent g) is = absurd (true≢false (sym (ap (starts 116) is)))

pub has_only : (item : Item) → word_of item ≡ codes "has" → (t : List ℕ) × (item ≡ has t)
has_only (released r) is = absurd (true≢false (sym (ap (starts 104) is)))
has_only (told g) is = absurd (true≢false (sym (ap (starts 104) is)))
has_only (has t) is = (t, refl)
has_only (was g) is = absurd (true≢false (sym (ap (starts 104) is)))
has_only (sent g) is = absurd (true≢false (sym (ap (starts 104) is)))

pub was_only : (item : Item) → word_of item ≡ codes "was" → (g : Given) × (item ≡ was g)
was_only (released r) is = absurd (true≢false (sym (ap (starts 119) is)))
was_only (told g) is = absurd (true≢false (sym (ap (starts 119) is)))
was_only (has t) is = absurd (true≢false (sym (ap (starts 119) is)))
was_only (was g) is = (g, refl)
was_only (sent g) is = absurd (true≢false (sym (ap (starts 119) is)))

pub sent_only : (item : Item) → word_of item ≡ codes "sent" → (g : Given) × (item ≡ sent g)
sent_only (released r) is = absurd (true≢false (sym (ap (starts 115) is)))
sent_only (told g) is = absurd (true≢false (sym (ap (starts 115) is)))
sent_only (has t) is = absurd (true≢false (sym (ap (starts 115) is)))
sent_only (was g) is = absurd (true≢false (sym (ap (starts 115) is)))
sent_only (sent g) is = (g, refl)

same_exact : (p q : Bool) → released_by p ≡ released_by q → p ≡ q
same_exact true true is = refl
same_exact true false is = absurd (cc)
same_exact false true is = absurd (cc)
same_exact false false is = refl

released_only : (exact : Bool) (item : Item) → word_of item ≡ released_by exact → (r : Released) × (item ≡ released r) × (r.exact ≡ exact)
released_only exact (released r) is = (r, refl, same_exact r.exact exact is)
released_only exact (told g) is = absurd (true≢false (sym (ap (starts 114) is)))
released_only exact (has t) is = absurd (true≢false (sym (ap (starts 114) is)))
released_only exact (was g) is = absurd (true≢false (sym (ap (starts 114) is)))
released_only exact (sent g) is = absurd (true≢false (sym (ap (starts 114) is)))

word_is : (text word rest : List ℕ) (item : Item) (more : List ℕ) → Some (word, rest) ≡ cut_at 32 text → text ≡ item_text item ++ more
    → (word ≡ word_of item) × (rest ≡ rest_of item ++ more)
word_is text word rest item more found is =
    cut_so 32 (word_of item) (rest_of item ++ more) text word rest (item_clean item) (is ∙ item_cut item more) found

pub no_cut : (text : List ℕ) (item : Item) (more : List ℕ) → None ≡ cut_at 32 text → text ≡ item_text item ++ more → ⊥
no_cut text item more none is =
    cut_there 32 (word_of item) (rest_of item ++ more) text (item_clean item) (is ∙ item_cut item more) none

pub released_arm : (exact : Bool) (text word rest : List ℕ) (item : Item) (more : List ℕ) → Some (word, rest) ≡ cut_at 32 text
    → word ≡ released_by exact → FitsItem item → text ≡ item_text item ++ more
    → (r : Released) × (item ≡ released r) × (r.exact ≡ exact) × FitsReleased r × (rest ≡ released_numbers r ++ more)
released_arm exact text word rest item more found same fits is =
    let parts = word_is text word rest item more found is in
    let one = released_only exact item (sym parts.0 ∙ same) in
    (one.0, one.1, one.2, subst FitsItem one.1 fits, parts.1 ∙ ap (λ i. rest_of i ++ more) one.1)

pub arm : {A : Type 0} (k : A → Item) (w : List ℕ) → ((item : Item) → word_of item ≡ w → (a : A) × (item ≡ k a))
    → (text word rest : List ℕ) (item : Item) (more : List ℕ) → Some (word, rest) ≡ cut_at 32 text
    → word ≡ w → FitsItem item → text ≡ item_text item ++ more
    → (a : A) × (item ≡ k a) × FitsItem (k a) × (rest ≡ rest_of (k a) ++ more)
arm k w only text word rest item more found same fits is =
    let parts = word_is text word rest item more found is in
    let one = only item (sym parts.0 ∙ same) in
    (one.0, one.1, subst FitsItem one.1 fits, parts.1 ∙ ap (λ i. rest_of i ++ more) one.1)

no_release : (exact : Bool) (w : List ℕ) → w ≡ released_by exact → w ≢ codes "released" → w ≢ codes "released_by" → ⊥
no_release true w is n o = n is
no_release false w is n o = o is

-- no other word begins an entry
pub no_arm : (text w rest : List ℕ) (item : Item) (more : List ℕ) → Some (w, rest) ≡ cut_at 32 text → text ≡ item_text item ++ more
    → w ≢ codes "released" → w ≢ codes "released_by" → w ≢ codes "has" → w ≢ codes "told" → w ≢ codes "was" → w ≢ codes "sent" → ⊥
no_arm text w rest (released r) more found is a b c d e f = no_release r.exact w (word_is text w rest (released r) more found is).0 a b
no_arm text w rest (told g) more found is a b c d e f = d (word_is text w rest (told g) more found is).0
no_arm text w rest (has t) more found is a b c d e f = c (word_is text w rest (has t) more found is).0
no_arm text w rest (was g) more found is a b c d e f = e (word_is text w rest (was g) more found is).0
no_arm text w rest (sent g) more found is a b c d e f = f (word_is text w rest (sent g) more found is).0

pub given_is : (n : ℕ) (t : List ℕ) (g : Given) → n ≡ g.number → t ≡ g.text → record { number = n; text = t } ≡ g
given_is n t g number text =
    ap (λ (k : ℕ). let h : Given = record { number = k; text = t } in h) number
    ∙ ap (λ (u : List ℕ). record g { text = u }) text

-- ---- the entries of a ledger

abbrev pub items_of : Book → List Item
items_of book =
    map released book.log
    ++ (map told book.messages ++ (map has book.kept ++ (map was book.past ++ (map sent book.sent ++ []))))

run : {A : Type 0} (k : A → Item) (xs : List A) (rest : List Item) (end : List ℕ)
    → flat_map item_text (map k xs ++ rest) ++ end ≡ flat_map (λ a. item_text (k a)) xs ++ (flat_map item_text rest ++ end)
run k [] rest end = refl
run k (x ∷ xs) rest end =
    append_assoc (item_text (k x)) (flat_map item_text (map k xs ++ rest)) end
    ∙ ap (λ t. item_text (k x) ++ t) (run k xs rest end)
    ∙ sym (append_assoc (item_text (k x)) (flat_map (λ a. item_text (k a)) xs) (flat_map item_text rest ++ end))

pub items_spelled : (book : Book) → log_part book ≡ flat_map item_text (items_of book) ++ last_line (body book)
items_spelled book =
    let end : List ℕ = last_line (body book) in
    sym (run released book.log _ end
    ∙ ap (λ t. flat_map released_line book.log ++ t) (run told book.messages _ end
    ∙ ap (λ t. flat_map message_entry book.messages ++ t) (run has book.kept _ end
    ∙ ap (λ t. flat_map kept_entry book.kept ++ t) (run was book.past _ end
    ∙ ap (λ t. flat_map past_entry book.past ++ t) (run sent book.sent [] end)))))

pub items_fit : (book : Book) → FitsBook book → All FitsItem (items_of book)
items_fit book fits =
    All-append FitsItem _ _ (All-map FitsItem released book.log fits.log)
    (All-append FitsItem _ _ (All-map FitsItem told book.messages fits.messages)
    (All-append FitsItem _ _ (All-map FitsItem has book.kept fits.kept)
    (All-append FitsItem _ _ (All-map FitsItem was book.past fits.past)
    (All-append FitsItem _ _ (All-map FitsItem sent book.sent fits.sent) (All-nil FitsItem)))))

gather : {A : Type 0} (k : A → Item) (put : List A → Book) → ((xs : List A) (x : A) → entered (put xs) (k x) ≡ put (xs ++ x ∷ []))
    → (xs ys : List A) (rest : List Item) → fold entered (put xs) (map k ys ++ rest) ≡ fold entered (put (xs ++ ys)) rest
gather k put step xs [] rest = ap (λ zs. fold entered (put zs) rest) (sym (append-nil xs))
gather k put step xs (y ∷ ys) rest =
    ap (λ b. fold entered b (map k ys ++ rest)) (step xs y)
    ∙ gather k put step (xs ++ y ∷ []) ys rest
    ∙ ap (λ zs. fold entered (put zs) rest) (append_assoc xs (y ∷ []) ys)

-- the ledger that only its front lines speak of
abbrev pub front_book : ℕ → ℕ → ℕ → Book
front_book editor next last_release = record (fresh editor) { next = next; last_release = last_release }

pub items_entered : (book : Book) → fold entered (front_book book.editor book.next book.last_release) (items_of book) ≡ book
items_entered book =
    let front : Book = front_book book.editor book.next book.last_release in
    gather released (λ rs. record front { log = rs }) (λ xs x. refl) [] book.log _
    ∙ gather told (λ gs. record front { log = book.log; messages = gs }) (λ xs x. refl) [] book.messages _
    ∙ gather has (λ ts. record front { log = book.log; messages = book.messages; kept = ts }) (λ xs x. refl) [] book.kept _
    ∙ gather was (λ gs. record book { past = gs; sent = [] }) (λ xs x. refl) [] book.past _
    ∙ gather sent (λ gs. record book { sent = gs }) (λ xs x. refl) [] book.sent []

-- ---- front lines

pub front_then : (editor next last_release : ℕ) (more : List ℕ)
    → front_lines editor next last_release ++ more
    ≡ codes "published 2\n"
    ++ (codes "editor " ++ (decimal editor
    ++ (10 ∷ (codes "next " ++ (decimal next ++ (10 ∷ (codes "last_release " ++ (decimal last_release ++ (10 ∷ more)))))))))
front_then editor next last_release more =
    let last : List ℕ = codes "\nlast_release " ++ (decimal last_release ++ (10 ∷ [])) in
    let rest : List ℕ = codes "\nnext " ++ (decimal next ++ last) in
    ap (λ (t : List ℕ). codes "published 2\neditor " ++ t) (append_assoc (decimal editor) rest more
    ∙ ap (λ (t : List ℕ). decimal editor ++ (codes "\nnext " ++ t)) (append_assoc (decimal next) last more
    ∙ ap (λ (t : List ℕ). decimal next ++ (codes "\nlast_release " ++ t)) (append_assoc (decimal last_release) (10 ∷ []) more)))

-- ---- what is left of the entries

-- the rest of the text is of these entries, and they make of the one ledger what all make of the other
pub record Left (start book : Book) (items : List Item) (more rest : List ℕ) (n long : ℕ) : Type 0 where
  pub left : List Item
  pub fits : All FitsItem left
  pub text : rest ≡ flat_map item_text left ++ (codes "end " ++ more)
  pub whole : fold entered book left ≡ fold entered start items
  pub short : length rest + n ≤ long

no_end : (item : Item) (more : List ℕ) → after_front (codes "end ") (item_text item ++ more) ≡ None
no_end (released r) more = ap (after_front (codes "end ")) (released_cut r.exact (released_numbers r) more)
no_end (told g) more = refl
no_end (has t) more = refl
no_end (was g) more = refl
no_end (sent g) more = refl

-- at the last line no entry is left
pub none_left : (left : List Item) (more rest : List ℕ) (o : Option Lent) → rest ≡ flat_map item_text left ++ (codes "end " ++ more)
    → option_map (λ b. b.now) o ≡ after_front (codes "end ") rest → is_some o ≡ true → left ≡ []
none_left [] more rest o is found ends = refl
none_left (item ∷ left) more rest None is found ends = absurd (true≢false (sym ends))
none_left (item ∷ left) more rest (Some front) is found ends =
    let none : after_front (codes "end ") rest ≡ None =
    ap (after_front (codes "end ")) (is ∙ append_assoc (item_text item) (flat_map item_text left) (codes "end " ++ more)) ∙ no_end item _ in
    absurd (nothing front.now (sym (found ∙ none)))

-- before another line an entry is left
pub one_left : (left : List Item) (more rest : List ℕ) (o : Option Lent) → rest ≡ flat_map item_text left ++ (codes "end " ++ more)
    → option_map (λ b. b.now) o ≡ after_front (codes "end ") rest → is_some o ≡ false
    → (item : Item) × (later : List Item) × (left ≡ item ∷ later) × (rest ≡ item_text item ++ (flat_map item_text later ++ (codes "end " ++ more)))
one_left left more rest (Some front) is found goes = absurd (true≢false goes)
one_left [] more rest None is found goes = absurd (front_there (codes "end ") rest more found is)
one_left (item ∷ left) more rest None is found goes =
    (item, left, refl, is ∙ append_assoc (item_text item) (flat_map item_text left) (codes "end " ++ more))

pub some_text : (left : List Item) (more rest : List ℕ) → rest ≡ flat_map item_text left ++ (codes "end " ++ more) → 0 < length rest
some_text left more rest is =
    let whole = ap length is ∙ length-append (flat_map item_text left) (codes "end " ++ more) in
    let end = length-append (codes "end ") more in
    omega (arith, whole, end)

pub is_shorter : (item : Item) (more : List ℕ) → length more < length (item_text item ++ more)
is_shorter item more =
    let whole = ap length (item_cut item more) ∙ length-append (word_of item) (32 ∷ (rest_of item ++ more)) in
    let rest = length-append (rest_of item) more in
    omega (arith, whole, rest)

-- ---- faults handed on

pub fails : {T E : Type 0} {P Q : E → Type 0} (r : Result T E) → IsErrAnd r P → ((e : E) → P e → Q e) → IfErr r Q
fails (Ok x) is then = tt
fails (Err e) is then = then e is

pub only_fails : {T E : Type 0} (R : T → Type 0) {P Q : E → Type 0} (r : Result T E) → IsErrAnd r P → ((e : E) → P e → Q e) → MatchResult r R Q
only_fails R (Ok x) is then = absurd is
only_fails R (Err e) is then = then e is
