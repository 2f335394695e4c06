-- The site that a list of commands leaves.
use Rattle.std.specs.Prelude.{ℕ, ◌≡◌, ◌<◌, List, [], ◌∷◌, ◌&&◌, if◌then◌else◌, Bool, true, false, IsTrue}
use Rattle.std.specs.Prelude.{Option, Some, None, option_and_then, slice_get}
use Rattle.std.specs.Str.{bytes_eq}
use Rattle.context.specs.Whole.{Whole}
use Rattle.command.specs.Action.{Kind, template, partial, page_data, route, redirect, Action, put_template}
use Rattle.command.specs.Action.{put_partial, put_data, put_route, put_redirect, remove, release, Order}

abbrev pub is_same_kind : Kind → Kind → Bool
is_same_kind template template = true
is_same_kind partial partial = true
is_same_kind page_data page_data = true
is_same_kind route route = true
is_same_kind redirect redirect = true
is_same_kind _ _ = false

-- the action puts or removes that kind and name
abbrev pub is_about : Kind → List ℕ → Action → Bool
is_about kind name (put_template n body) = is_same_kind template kind && bytes_eq n name
is_about kind name (put_partial n body) = is_same_kind partial kind && bytes_eq n name
is_about kind name (put_data n whole) = is_same_kind page_data kind && bytes_eq n name
is_about kind name (put_route path shows fills) = is_same_kind route kind && bytes_eq path name
is_about kind name (put_redirect path target) = is_same_kind redirect kind && bytes_eq path name
is_about kind name (remove k n) = is_same_kind k kind && bytes_eq n name
is_about kind name release = false

abbrev pub is_put : Action → Bool
is_put (remove kind name) = false
is_put release = false
is_put _ = true

abbrev pub first_or : Option Action → Option Action → Option Action
first_or None other = other
first_or (Some action) other = Some action

-- the last action about that kind and name
abbrev pub last_about : Kind → List ℕ → List Order → Option Action
last_about kind name [] = None
last_about kind name (o ∷ later) =
    first_or (last_about kind name later) (if is_about kind name o.action then Some o.action else None)

abbrev pub if_put : Action → Option Action
if_put action = if is_put action then Some action else None

-- the put that is in force at a kind and name: the last action about them, if it is not a remove
abbrev pub standing : Kind → List ℕ → List Order → Option Action
standing kind name orders = option_and_then if_put (last_about kind name orders)

-- the action is the put at a place about that kind and name, and no later place is about them
pub record IsStanding (kind : Kind) (name : List ℕ) (orders : List Order) (action : Action) : Type 0 where
  pub place : ℕ
  pub order : Order
  pub there : slice_get orders place ≡ Some order
  pub does : order.action ≡ action
  pub touched : IsTrue (is_about kind name action)
  pub puts : IsTrue (is_put action)
  pub last : (j : ℕ) (later : Order) → place < j → slice_get orders j ≡ Some later
      → is_about kind name later.action ≡ false

-- ---- what is in force at a name, by its kind

abbrev pub if_template : Action → Option (List ℕ)
if_template (put_template name body) = Some body
if_template _ = None

abbrev pub if_partial : Action → Option (List ℕ)
if_partial (put_partial name body) = Some body
if_partial _ = None

abbrev pub if_data : Action → Option Whole
if_data (put_data name whole) = Some whole
if_data _ = None

abbrev pub if_route : Action → Option (List ℕ × List ℕ)
if_route (put_route path shows fills) = Some (shows, fills)
if_route _ = None

abbrev pub if_redirect : Action → Option (List ℕ)
if_redirect (put_redirect path target) = Some target
if_redirect _ = None

-- a template's text
abbrev pub template_at : List ℕ → List Order → Option (List ℕ)
template_at name orders = option_and_then if_template (standing template name orders)

-- a partial's text
abbrev pub partial_at : List ℕ → List Order → Option (List ℕ)
partial_at name orders = option_and_then if_partial (standing partial name orders)

abbrev pub data_at : List ℕ → List Order → Option Whole
data_at name orders = option_and_then if_data (standing page_data name orders)

-- the names of a route's template and data
abbrev pub route_at : List ℕ → List Order → Option (List ℕ × List ℕ)
route_at path orders = option_and_then if_route (standing route path orders)

-- the path that a redirect leads to
abbrev pub redirect_at : List ℕ → List Order → Option (List ℕ)
redirect_at path orders = option_and_then if_redirect (standing redirect path orders)
