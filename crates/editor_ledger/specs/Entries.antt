-- The entries of a ledger's file, after its front lines.
use Rattle.std.specs.Prelude.{List, ℕ, [], ◌∷◌, ◌++◌}
use Rattle.editor_ledger.specs.Books.{Given, Book}
use Rattle.editor_ledger.specs.Sizes.{FitsReleased, FitsText, FitsGiven}
use Rattle.editor_ledger.specs.Spelling.{released_line, kept_entry, message_entry, past_entry, sent_entry}
use Rattle.editor_ledger.specs.declared.reading.Entry.{Entry}
use Rattle.editor_ledger.specs.declared.reading.Entry.TheVariants as of
use Rattle.editor_ledger.specs.declared.released.Released.{Released}

-- an entry: a release of the log, a message, a text that the group has, one that it had, one on its way
pub data Item : Type 0 where
  released : Released → Item
  told : Given → Item
  has : List ℕ → Item
  was : Given → Item
  sent : Given → Item

-- the entry that the code's stands for
abbrev pub entry_view : Entry → Item
entry_view (of.Released r) = released r
entry_view (of.Message number text) = told (record { number = number; text = text.now })
entry_view (of.Kept text) = has text.now
entry_view (of.Past number text) = was (record { number = number; text = text.now })
entry_view (of.Sent number text) = sent (record { number = number; text = text.now })

-- a file can keep its numbers
abbrev pub FitsItem : Item → Type 0
FitsItem (released r) = FitsReleased r
FitsItem (told g) = FitsGiven g
FitsItem (has t) = FitsText t
FitsItem (was g) = FitsGiven g
FitsItem (sent g) = FitsGiven g

-- how it is spelled
abbrev pub item_text : Item → List ℕ
item_text (released r) = released_line r
item_text (told g) = message_entry g
item_text (has t) = kept_entry t
item_text (was g) = past_entry g
item_text (sent g) = sent_entry g

-- the ledger with that entry after those of its kind
abbrev pub entered : Book → Item → Book
entered book (released r) = record book { log = book.log ++ r ∷ [] }
entered book (told g) = record book { messages = book.messages ++ g ∷ [] }
entered book (has t) = record book { kept = book.kept ++ t ∷ [] }
entered book (was g) = record book { past = book.past ++ g ∷ [] }
entered book (sent g) = record book { sent = book.sent ++ g ∷ [] }
