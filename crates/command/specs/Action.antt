-- What a command does.
use Rattle.std.specs.Prelude.{ℕ, List}
use Rattle.context.specs.Whole.{Whole}
use Rattle.site_ids.specs.declared.Ticket.{Ticket}

pub data Kind : Type 0 where
  template : Kind
  partial : Kind
  page_data : Kind
  route : Kind
  redirect : Kind

pub data Action : Type 0 where
  put_template : (name body : List ℕ) → Action
  put_partial : (name body : List ℕ) → Action
  put_data : List ℕ → Whole → Action
  -- a path, and the names of its template and its data
  put_route : (path shows fills : List ℕ) → Action
  -- a path, and the path that it leads to
  put_redirect : (path target : List ℕ) → Action
  -- a kind and its name. The name of a route or a redirect is its path
  remove : Kind → List ℕ → Action
  release : Action

-- a command: its ticket, and what it does
pub record Order : Type 0 where
  pub ticket : Ticket
  pub action : Action
