-- What the newest release of a group may show of a folder, and what a publication of the folder may change
-- there.
use Rattle.std.specs.Prelude.{ℕ, ◌-◌, List, [], ◌∷◌, ◌++◌, map, filter, nat_lt, if◌then◌else◌}
use Rattle.editor_ledger.specs.Books.{Given, Book}
use Rattle.editor_ledger.specs.Past.{texts_at}
use Rattle.editor_ledger.specs.Plans.{plan_of}
use Rattle.editor_ledger.specs.Steps.{has_unshown}

-- the last ticket before each plan that overtook something, if it is later than the one before
abbrev pub stops_after : ℕ → List Given → List ℕ
stops_after last [] = []
stops_after last (g ∷ past) =
    if nat_lt last (g.number - 1) then (g.number - 1) ∷ stops_after
    (g.number - 1) past else stops_after last past

-- the tickets after which nothing was on its way: the folder's last release, and the last ticket before each
-- later plan
abbrev pub stops : Book → List ℕ
stops book = book.last_release ∷ stops_after book.last_release book.past

-- the folder's texts after the group also has those that are on their way
abbrev pub with_sent : Book → List (List ℕ)
with_sent book = book.kept ++ map (λ g. g.text) book.sent

-- the folder's texts as the newest release may have them. The first are those of the folder's last release.
-- If it gave tickets since, another editor's release may have the texts of a later plan, those that have
-- their receipts, or those on their way too
abbrev pub states_of : Book → List (List (List ℕ))
states_of book =
    if has_unshown book
    then map (λ t. texts_at t book) (stops book) ++ book.kept ∷ (with_sent book ∷ [])
    else book.kept ∷ []

-- texts about all that a publication puts or removes and that no release of the folder has: of each plan
-- since its last release what it overtook, and what is planned next
abbrev pub touched : List (List ℕ) → Book → List (List ℕ)
touched wanted book =
    map (λ g. g.text) (filter (λ g. nat_lt book.last_release g.number) book.past)
    ++ plan_of [] book.kept wanted
