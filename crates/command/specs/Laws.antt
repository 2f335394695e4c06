-- What holds of these definitions, whatever the values.
use Rattle.std.specs.Prelude.{ℕ, suc, ◌≡◌, ◌<◌, ◌≤◌, ◌^◌, ◌↔◌, List, ◌++◌, drop, None, Some, Ok, Err, ⊤}
use Rattle.site_ids.specs.declared.TheConstants.{TICKET_BYTES}
use Rattle.context.specs.Whole.{Whole}
use Rattle.site_ids.specs.declared.Ticket.{Ticket}
use Rattle.command.specs.Action.{Kind, template, partial, page_data, route, redirect, Action, put_template}
use Rattle.command.specs.Action.{put_partial, put_data, put_route, put_redirect, Order}
use Rattle.command.specs.Rows.{Row, redirect_row, remove_row, row_of, older_row_of, spelled, HasWords}
use Rattle.command.specs.Reading.{ticket_of, value_reading}
use Rattle.command.specs.Faults.{Applies, number}
use Rattle.command.specs.Written.{value_of}
use Rattle.command.specs.Effective.{effective}
use Rattle.command.specs.Site.{standing, IsStanding, template_at, partial_at, data_at, route_at, redirect_at}
use Rattle.command.specs.Releases.{release_count, through, IsShortest}
use Rattle.command.specs.declared.fault.CommandFault.{CommandFault}

-- ---- readings

-- a text has a row if and only if it spells that row. So it has one row at most
abbrev pub RowIsSpelled : Type 0
RowIsSpelled = (text : List ℕ) (row : Row) → (row_of text ≡ Some row) ↔ (HasWords row × (text ≡ spelled row))

-- a text that had a row before there were redirects still has it
abbrev pub OlderRowStays : Type 0
OlderRowStays = (text : List ℕ) (row : Row) → older_row_of text ≡ Some row → row_of text ≡ Some row

-- the row is of a redirect that is put or removed
abbrev pub IsOfRedirect : Row → Type 0
IsOfRedirect (redirect_row path target) = ⊤
IsOfRedirect (remove_row redirect path) = ⊤
IsOfRedirect _ = ⊥

-- a text that had no row before has one only of a redirect
abbrev pub NewRowIsOfRedirect : Type 0
NewRowIsOfRedirect =
    (text : List ℕ) (row : Row) → older_row_of text ≡ None → row_of text ≡ Some row → IsOfRedirect row

-- the fault of a value applies to it, and no other that applies has a lower number
abbrev pub FaultIsLeast : Type 0
FaultIsLeast = (v : List ℕ) (fault : CommandFault) → value_reading v ≡ Err fault
    → Applies v fault × ((other : CommandFault) → Applies v other → number fault ≤ number other)

-- no fault applies to a command
abbrev pub CommandHasNone : Type 0
CommandHasNone =
    (v : List ℕ) (order : Order) → value_reading v ≡ Ok order → (fault : CommandFault) → ¬ Applies v fault

-- a written value has its ticket and its text
abbrev pub WrittenHolds : Type 0
WrittenHolds = (ticket : Ticket) (text : List ℕ) → ticket.editor < 2 ^ 32 → ticket.number < 2 ^ 64
    → (ticket_of (value_of ticket text) ≡ ticket) × (drop TICKET_BYTES (value_of ticket text) ≡ text)

-- ---- sites

-- what a site has at a kind and name is the last put about them, if nothing after it is about them
abbrev pub StandingIsLast : Type 0
StandingIsLast = (kind : Kind) (name : List ℕ) (orders : List Order) (action : Action)
    → (standing kind name orders ≡ Some action) ↔ IsStanding kind name orders action

abbrev pub TemplateIsLast : Type 0
TemplateIsLast =
    (name body : List ℕ) (orders : List Order)
    → (template_at name orders ≡ Some body) ↔ IsStanding template name orders (put_template name body)

abbrev pub PartialIsLast : Type 0
PartialIsLast =
    (name body : List ℕ) (orders : List Order)
    → (partial_at name orders ≡ Some body) ↔ IsStanding partial name orders (put_partial name body)

abbrev pub DataIsLast : Type 0
DataIsLast =
    (name : List ℕ) (whole : Whole) (orders : List Order)
    → (data_at name orders ≡ Some whole) ↔ IsStanding page_data name orders (put_data name whole)

abbrev pub RouteIsLast : Type 0
RouteIsLast = (path shows fills : List ℕ) (orders : List Order)
    → (route_at path orders ≡ Some (shows, fills)) ↔ IsStanding route path orders (put_route path shows fills)

abbrev pub RedirectIsLast : Type 0
RedirectIsLast = (path target : List ℕ) (orders : List Order)
    → (redirect_at path orders ≡ Some target) ↔ IsStanding redirect path orders (put_redirect path target)

-- ---- releases

-- further values only lengthen the effective list
abbrev pub EffectiveGrows : Type 0
EffectiveGrows =
    (values more : List (List ℕ))
    → (rest : List Order) × (effective (values ++ more) ≡ effective values ++ rest)

-- a release's list is the shortest prefix with that many releases
abbrev pub ReleaseIsShortest : Type 0
ReleaseIsShortest =
    (orders : List Order) (n : ℕ) → n ≤ release_count orders → IsShortest n orders (through orders n)

-- the list of the next release begins with that of this one
abbrev pub NextBegins : Type 0
NextBegins =
    (orders : List Order) (n : ℕ) → (rest : List Order) × (through orders (suc n) ≡ through orders n ++ rest)

-- a prefix that already has the release has the same list
abbrev pub ReleaseStays : Type 0
ReleaseStays =
    (orders more : List Order) (n : ℕ) → n ≤ release_count orders
    → through (orders ++ more) n ≡ through orders n
