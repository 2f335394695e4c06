-- What is reported of a record: a function of its entries, of whose it is, and of its file's length.
use Rattle.std.specs.Prelude.{◌≡◌, ◌⊎◌, ℕ, List, [], ◌++◌, codes, decimal, is_some, nat_eq, if◌then◌else◌}
use Rattle.std.specs.Prelude.{Bool, ◌||◌, slice_index}
use Rattle.site_ids.specs.Ids.{IsNode}
use Rattle.site_ids.specs.declared.TheConstants.{MAX_INSTANCE}
use Rattle.durable.specs.Damage.{IsCutAt}
use Rattle.durable.specs.Entries.{Entry, last_vote, learned_at, floor_of, reach_of}
use Rattle.durable.specs.Standing.{IsNoRecord, IsRefusal}
use Rattle.durable.specs.declared.fault.RecordFault.{RecordFault}
use Rattle.durable.specs.declared.fault.RecordFault.TheVariants.{Damaged, WrongNode}
use Rattle.server_inspect.specs.Counting.{count_to, last_to}
use Rattle.server_inspect.specs.declared.view.View.{View}

abbrev pub has_vote : List Entry → ℕ → Bool
has_vote entries i = is_some (last_vote i entries)

abbrev pub has_learned : List Entry → ℕ → Bool
has_learned entries i = is_some (learned_at i entries)

-- At how many instances there is a vote, at how many a learned value, and the last instance that has either;
-- the floor, and how far the entries reach
pub record IsViewOf (entries : List Entry) (view : View) : Type 0 where
  pub votes : view.votes ≡ count_to (has_vote entries) MAX_INSTANCE
  pub learned : view.learned ≡ count_to (has_learned entries) MAX_INSTANCE
  pub last : view.last ≡ last_to (λ i. has_vote entries i || has_learned entries i) MAX_INSTANCE
  pub floor : view.floor ≡ floor_of entries
  pub reach : view.reach ≡ reach_of entries

-- the head of a file names node p of n
abbrev pub Names : ℕ → ℕ → List ℕ → Type 0
Names p n file = (slice_index file 8 ≡ p) × (slice_index file 9 ≡ n)

-- An opening by the node and the group that the head names is refused with this fault. If the head names no
-- node of a group, the record is another node's for each node. A record whose last gate an accident shut is
-- damaged too
abbrev pub IsRefused : RecordFault → List ℕ → Type 0
IsRefused Damaged file = IsRefusal Damaged (slice_index file 8) (slice_index file 9) file
    ⊎ ((gate : ℕ) × IsCutAt (slice_index file 8) (slice_index file 9) gate file)
IsRefused WrongNode file = (¬ IsNoRecord file)
    × ¬ (IsNode 9 (slice_index file 9) × IsNode (slice_index file 9) (slice_index file 8))
IsRefused fault file = IsRefusal fault (slice_index file 8) (slice_index file 9) file

-- ---- its lines

-- whose it is
abbrev pub whose_lines : View → List ℕ
whose_lines v = codes "node: " ++ (decimal v.node ++ (codes "\nnodes: " ++ (decimal v.nodes ++ codes "\n")))

-- what it has over all instances
abbrev pub counted_lines : View → List ℕ
counted_lines v =
    codes "votes: " ++ (decimal v.votes
    ++ (codes "\nlearned: "
    ++ (decimal v.learned ++ (codes "\nlast instance: " ++ (decimal v.last ++ codes "\n")))))

-- its floor, if it has one
abbrev pub floor_line : ℕ → List ℕ
floor_line floor = if nat_eq floor 0 then [] else codes "floor: " ++ (decimal floor ++ codes "\n")

-- how far it reaches, and its file
abbrev pub end_lines : View → List ℕ
end_lines v = codes "reaches: " ++ (decimal v.reach ++ (codes "\nbytes: " ++ (decimal v.bytes ++ codes "\n")))

abbrev pub text_of : View → List ℕ
text_of v = whose_lines v ++ (counted_lines v ++ (floor_line v.floor ++ end_lines v))
