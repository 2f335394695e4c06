-- A site as its callers see it: its tickets in order, and its contents by name.
use Rattle.std.specs.Prelude.{ℕ, List, map, Option, String, string_bytes}
use Rattle.std.specs.declared.alloc.Global.{Global}
use Rattle.std.specs.Cmp.Lexicographic.{slice_cmp}
use Rattle.std.specs.Ordering.{nat_cmp}
use Rattle.std.specs.BTreeMap.{is_at}
use Rattle.std.specs.Map.{lookup}
use Rattle.site_ids.specs.declared.Ticket.{Ticket}
use Rattle.context.specs.declared.tree.Data.{Data}
use Rattle.mustache_parse.specs.Template.{TemplateSeen}
use Rattle.content.specs.declared.target.Target.{Target}

-- the keys of entries
abbrev pub keys : {K V : Type 0} → List (K × V) → List K
keys entries = map (λ e. e.0) entries

-- contents by name
abbrev pub Named : Type 0 → Type 0
Named V = List (String Global × V)

pub record ContentsSeen : Type 0 where
  pub templates : Named TemplateSeen
  pub partials : Named TemplateSeen
  pub page_data : Named Data
  pub routes : Named Target
  pub redirects : Named (String Global)

pub record SiteSeen : Type 0 where
  pub tickets : List Ticket
  pub contents : ContentsSeen

-- the content at a name, if there is one
abbrev pub at_name : {V : Type 0} → List ℕ → Named V → Option V
at_name name entries = lookup (is_at (λ key. slice_cmp nat_cmp name (string_bytes key))) entries

-- the names of a route's template and data
abbrev pub names_of : Target → List ℕ × List ℕ
names_of t = (string_bytes t.template, string_bytes t.page_data)
