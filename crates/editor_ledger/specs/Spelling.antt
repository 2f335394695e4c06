-- A ledger as the text of a file.
use Rattle.std.specs.Prelude.{ℕ, List, [], ◌∷◌, ◌++◌, length, codes, decimal, Bool, true, false}
use Rattle.std.specs.List.{flat_map}
use Rattle.hex.specs.Hex.{encode_lower}
use Rattle.sha2.specs.Sha256.{sha256}
use Rattle.editor_ledger.specs.Books.{Given, Book}
use Rattle.editor_ledger.specs.declared.released.Released.{Released}

-- of a release with that number, or of one up to it
abbrev pub released_word : Bool → List ℕ
released_word true = codes "released "
released_word false = codes "released_by "

abbrev pub released_numbers : Released → List ℕ
released_numbers r = decimal r.release ++ (32 ∷ (decimal r.time ++ (32 ∷ (decimal r.commands ++ (10 ∷ [])))))

abbrev pub released_line : Released → List ℕ
released_line r = released_word r.exact ++ released_numbers r

-- a text after its length, and a newline
abbrev pub counted_text : List ℕ → List ℕ
counted_text text = decimal (length text) ++ (10 ∷ (text ++ (10 ∷ [])))

abbrev pub kept_entry : List ℕ → List ℕ
kept_entry text = codes "has " ++ counted_text text

-- a text after a number and its length
abbrev pub numbered_text : Given → List ℕ
numbered_text g = decimal g.number ++ (32 ∷ counted_text g.text)

abbrev pub numbered_entry : List ℕ → Given → List ℕ
numbered_entry word g = word ++ (32 ∷ numbered_text g)

abbrev pub sent_entry : Given → List ℕ
sent_entry = numbered_entry (codes "sent")

abbrev pub past_entry : Given → List ℕ
past_entry = numbered_entry (codes "was")

abbrev pub message_entry : Given → List ℕ
message_entry = numbered_entry (codes "told")

abbrev pub front_lines : ℕ → ℕ → ℕ → List ℕ
front_lines editor next last_release =
    codes "published 2\neditor "
    ++ (decimal editor
    ++ (codes "\nnext "
    ++ (decimal next
    ++ (codes "\nlast_release "
    ++ (decimal last_release ++ (10 ∷ []))))))

-- what the file says, before its last line
abbrev pub body : Book → List ℕ
body book =
    front_lines book.editor book.next book.last_release
    ++ (flat_map released_line book.log
    ++ (flat_map message_entry book.messages
    ++ (flat_map kept_entry book.kept
    ++ (flat_map past_entry book.past ++ flat_map sent_entry book.sent))))

-- a text's sum, as sha256sum prints it
abbrev pub sum_of : List ℕ → List ℕ
sum_of text = encode_lower (sha256 text)

-- the last line, of the sum of all before it: a file that was cut short or changed has another, or none
abbrev pub last_line : List ℕ → List ℕ
last_line text = codes "end " ++ (sum_of text ++ (10 ∷ []))

abbrev pub spelled : Book → List ℕ
spelled book = body book ++ last_line (body book)
