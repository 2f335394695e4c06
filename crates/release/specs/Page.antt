-- The page of a site for a path, and the answer of a list of values for a release and a path.
use Rattle.std.specs.Prelude.{ℕ, ◌&&◌, ◌++◌, nat_lt, nat_le, if◌then◌else◌, codes, List, Option, None, Some}
use Rattle.std.specs.Prelude.{Result, Ok, Err}
use Rattle.mustache_parse.specs.Tree.{Tree, tree_of}
use Rattle.mustache_scan.specs.declared.fault.TemplateFault.{TemplateFault}
use Rattle.context.specs.Whole.{Whole}
use Rattle.command.specs.Action.{Order}
use Rattle.command.specs.Effective.{effective}
use Rattle.command.specs.Site.{template_at, partial_at, data_at, route_at, redirect_at}
use Rattle.command.specs.Releases.{release_count, through}
use Rattle.render.specs.Meaning.{rendering}

-- a page: its status, its body, and the path that it moved to, if it did
pub record Page : Type 0 where
  pub status : ℕ
  pub body : List ℕ
  pub location : Option (List ℕ)

-- a page that did not move
abbrev pub in_place : ℕ → List ℕ → Page
in_place status body = record { status = status; body = body; location = None }

abbrev pub moved_to : List ℕ → Page
moved_to target =
    record { status = 301; body = codes "moved to " ++ (target ++ codes "\n"); location = Some target }

abbrev pub not_found : Page
not_found = in_place 404 (codes "not found\n")

abbrev pub no_template : Page
no_template = in_place 500 (codes "template missing\n")

abbrev pub no_data : Page
no_data = in_place 500 (codes "data missing\n")

abbrev pub shown : Option (List ℕ) → Page
shown None = in_place 500 (codes "page over limit\n")
shown (Some t) = in_place 200 t

-- A template's text over data, in the site that the commands leave. A text without a tree is never there: the
-- command that puts it is refused
abbrev pub rendered : List Order → Result Tree TemplateFault → Whole → Page
rendered orders (Ok tree) d = shown (rendering (λ name. partial_at name orders) tree d)
rendered orders (Err f) d = no_template

abbrev pub with_data : List Order → List ℕ → Option Whole → Page
with_data orders t None = no_data
with_data orders t (Some d) = rendered orders (tree_of t) d

abbrev pub with_template : List Order → Option (List ℕ) → Option Whole → Page
with_template orders None d = no_template
with_template orders (Some t) d = with_data orders t d

abbrev pub redirected : Option (List ℕ) → Page
redirected None = not_found
redirected (Some target) = moved_to target

abbrev pub at_route : List Order → List ℕ → Option (List ℕ × List ℕ) → Page
at_route orders path None = redirected (redirect_at path orders)
at_route orders path (Some names) = with_template orders (template_at names.0 orders) (data_at names.1 orders)

-- the page that a list of commands leaves for a path: by its route, its template and its data; or by its
-- redirect, if it has no route
abbrev pub page_of : List Order → List ℕ → Page
page_of orders path = at_route orders path (route_at path orders)

-- the page of release n of a list of effective commands; None if there is no such release
abbrev pub released : List Order → ℕ → List ℕ → Option Page
released orders n path =
    if nat_lt 0 n && nat_le n (release_count orders) then Some (page_of (through orders n) path) else None

-- what a list of values answers for release n and a path
abbrev pub answer : List (List ℕ) → ℕ → List ℕ → Option Page
answer values n path = released (effective values) n path

-- ---- for the code: agreement does not need it

-- the release that is asked for, in a list of effective commands: the newest if none is named
abbrev pub asked_of : List Order → Option ℕ → ℕ
asked_of orders None = release_count orders
asked_of orders (Some n) = n

abbrev pub asked : List (List ℕ) → Option ℕ → ℕ
asked values release = asked_of (effective values) release
