-- Which lists of values a site stands for.
use Rattle.std.specs.Prelude.{◌≡◌, ℕ, Bool, List, Option, None, Some, option_map, string_bytes}
use Rattle.std.specs.List.{list_any}
use Rattle.site_ids.specs.declared.Ticket.{Ticket}
use Rattle.context.specs.View.{data_view}
use Rattle.mustache_parse.specs.Template.{TemplateSeen, IsTemplateOf}
use Rattle.command.specs.Action.{Order}
use Rattle.command.specs.Effective.{is_same_ticket, has_ticket, commands_of, effective}
use Rattle.command.specs.Site.{template_at, partial_at, data_at, route_at, redirect_at}
use Rattle.content.specs.View.{ContentsSeen, SiteSeen, at_name, names_of}

-- the template is of the text, or there is neither
abbrev pub IsOfText : Option TemplateSeen → Option (List ℕ) → Type 0
IsOfText None text = text ≡ None
IsOfText (Some t) text = (x : List ℕ) × (text ≡ Some x) × IsTemplateOf t x

-- at each name the contents are those in force after the commands
pub record HasContents (contents : ContentsSeen) (orders : List Order) : Type 0 where
  pub templates : (name : List ℕ) → IsOfText (at_name name contents.templates) (template_at name orders)
  pub partials : (name : List ℕ) → IsOfText (at_name name contents.partials) (partial_at name orders)
  pub page_data : (name : List ℕ) → option_map data_view (at_name name contents.page_data)
      ≡ data_at name orders
  pub routes : (path : List ℕ) → option_map names_of (at_name path contents.routes) ≡ route_at path orders
  pub redirects : (path : List ℕ) → option_map string_bytes (at_name path contents.redirects)
      ≡ redirect_at path orders

abbrev pub is_held : Ticket → List Ticket → Bool
is_held ticket tickets = list_any (is_same_ticket ticket) tickets

-- the site stands for the values: it has the tickets of their commands, and the contents that their effective
-- commands leave
pub record IsSiteOf (site : SiteSeen) (values : List (List ℕ)) : Type 0 where
  pub tickets : (ticket : Ticket) → is_held ticket site.tickets ≡ has_ticket ticket (commands_of values)
  pub contents : HasContents site.contents (effective values)
