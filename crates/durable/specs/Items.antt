-- What a file has after its head: entries, and batches of entries after their sums.
use Rattle.std.specs.Prelude.{◌≢◌, ℕ, ◌<◌, ◌^◌, List, [], ◌∷◌, ◌++◌, length, take}
use Rattle.byteorder.specs.Endian.{big_bytes}
use Rattle.md5.specs.Md5.{md5}
use Rattle.durable.specs.Entries.{Entry}
use Rattle.durable.specs.Histories.{IsHistory}
use Rattle.durable.specs.Spelling.{block, blocks}

pub data Item : Type 0 where
  Put : (entry : Entry) → Item
  Batch : (entries : List Entry) → Item

abbrev pub entries_in : Item → List Entry
entries_in (Put entry) = entry ∷ []
entries_in (Batch entries) = entries

-- the entries of all items, in their order
abbrev pub entries_of : List Item → List Entry
entries_of [] = []
entries_of (item ∷ items) = entries_in item ++ entries_of items

-- the entries, each as an item
abbrev pub puts : List Entry → List Item
puts [] = []
puts (entry ∷ entries) = Put entry ∷ puts entries

-- the first eight bytes of the digest of the bytes
abbrev pub sum_of : List ℕ → List ℕ
sum_of bytes = take 8 (md5 bytes)

-- an open gate and a sum: the length of what follows, the kind, how many of the next bytes it sums, the sum
abbrev pub sum_front : ℕ → List ℕ → List ℕ
sum_front size sum = 1 ∷ 0 ∷ 0 ∷ 0 ∷ 13 ∷ 24 ∷ big_bytes 4 size ++ sum

-- the bytes after their sum
abbrev pub summed : List ℕ → List ℕ
summed bytes = sum_front (length bytes) (sum_of bytes) ++ bytes

abbrev pub item_block : Item → List ℕ
item_block (Put entry) = block entry
item_block (Batch entries) = summed (blocks entries)

abbrev pub item_blocks : List Item → List ℕ
item_blocks [] = []
item_blocks (item ∷ items) = item_block item ++ item_blocks items

-- a batch has entries, and four bytes can say how long their blocks are
abbrev pub IsWhole : Item → Type 0
IsWhole (Put entry) = Unit {0}
IsWhole (Batch entries) = (entries ≢ []) × (length (blocks entries) < 2 ^ 32)

abbrev pub AreWhole : List Item → Type 0
AreWhole [] = Unit {0}
AreWhole (item ∷ items) = IsWhole item × AreWhole items

-- the items are whole, and each of their entries may follow those before it
pub record IsLog (n : ℕ) (items : List Item) : Type 0 where
  pub whole : AreWhole items
  pub history : IsHistory n (entries_of items)
