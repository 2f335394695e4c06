-- What the service of the tests shows.
use Rattle.std.specs.Prelude.{ℕ, nat_lt, ◌||◌, ◌==◌, if◌then◌else◌, List, [], ◌∷◌, codes, bytes_eq, Option}
use Rattle.std.specs.Prelude.{Some, None}
use Rattle.release.specs.Page.{Page, in_place, moved_to, not_found, no_template}

-- release 1 has this page at `/h`, and each other release has another; at `/lost` a template is missing;
-- `/old` and `/alt` moved
abbrev pub shown_at : List ℕ → ℕ → List ℕ → Page
shown_at page n path =
    if bytes_eq path (codes "/h") then in_place 200 (if n == 1 then page else codes "later\n")
    else (if bytes_eq path (codes "/lost") then no_template
    else (if bytes_eq path (codes "/old") then moved_to (codes "/h")
    else (if bytes_eq path (codes "/alt") then moved_to (47 ∷ 195 ∷ 169 ∷ []) else not_found)))

abbrev pub page_at : List ℕ → ℕ → ℕ → List ℕ → Option Page
page_at page newest n path = if n == 0 || nat_lt newest n then None else Some (shown_at page n path)
