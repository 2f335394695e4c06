-- Eight values, their releases and their receipts, computed.
use Rattle.std.proofs.Common.{◌≡◌, ℕ, List, [], ◌∷◌, codes, Some, None, refl}
use Rattle.std.specs.Str.{is_utf8, chars}
use Rattle.site_ids.specs.declared.Ticket.{Ticket}
use Rattle.context.specs.Whole.{hash, no_members}
use Rattle.command.specs.Action.{Action, put_template, put_data, put_route, put_redirect, remove, template, route, release, Order}
use Rattle.command.specs.Effective.{firsts}
use Rattle.command.specs.Releases.{release_count}
use Rattle.command.specs.Written.{value_of}
use Rattle.render.proofs.Examples.{computing}
use Rattle.release.specs.Page.{in_place, moved_to, no_template, not_found, page_of, released}
use Rattle.release.specs.Receipts.{receipt_of}
use lib.Utf8.{encode}

abbrev numbered : ℕ → Ticket
numbered n = record { editor = 1; number = n }

abbrev order : ℕ → Action → Order
order n action = record { ticket = numbered n; action = action }

-- the sixth has the ticket of the first
abbrev eight : List Order
eight =
    order 1 (put_template (codes "t") (codes "v1\n"))
    ∷ order 2 (put_data (codes "d") (hash no_members))
    ∷ order 3 (put_route (codes "/") (codes "t") (codes "d"))
    ∷ order 4 release
    ∷ order 5 (put_template (codes "t") (codes "v2\n"))
    ∷ order 1 release
    ∷ order 6 (remove template (codes "t"))
    ∷ order 7 release
    ∷ []

two_releases : release_count (firsts eight) ≡ 2
two_releases = refl

first_release : released (firsts eight) 1 (codes "/") ≡ Some (in_place 200 (codes "v1\n"))
unfolding computing
first_release = refl

second_release : released (firsts eight) 2 (codes "/") ≡ Some no_template
second_release = refl

other_path : released (firsts eight) 2 (codes "/other") ≡ Some not_found
other_path = refl

third_release : released (firsts eight) 3 (codes "/") ≡ None
third_release = refl

no_release : released (firsts eight) 0 (codes "/") ≡ None
no_release = refl

-- ---- redirects

moved : page_of (order 1 (put_redirect (codes "/old") (codes "/")) ∷ []) (codes "/old") ≡ moved_to (codes "/")
moved = refl

-- a redirect leads on only from a path without a route
routed_first : page_of (order 1 (put_redirect (codes "/") (codes "/x")) ∷ order 2 (put_route (codes "/") (codes "t") (codes "d")) ∷ []) (codes "/") ≡ no_template
routed_first = refl

route_removed : page_of (order 1 (put_route (codes "/") (codes "t") (codes "d")) ∷ order 2 (put_redirect (codes "/") (codes "/x")) ∷ order 3 (remove route (codes "/")) ∷ []) (codes "/") ≡ moved_to (codes "/x")
route_removed = refl

-- ---- receipts

abbrev three : List (List ℕ)
three = value_of (numbered 4) (codes "releas\n") ∷ value_of (numbered 4) (codes "release\n") ∷ value_of (numbered 4) (codes "release\n") ∷ []

second_place : receipt_of (numbered 4) three ≡ Some 2
unfolding is_utf8 chars encode
second_place = refl

no_receipt : receipt_of (numbered 5) three ≡ None
unfolding is_utf8 chars encode
no_receipt = refl
