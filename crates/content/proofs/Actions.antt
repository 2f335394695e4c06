-- What contents have after an action, from what they had.
use Rattle.std.proofs.Common.{◌≡◌, ℕ, List, [], ◌∷◌, ◌++◌, ◌&&◌, Option, Some, None, String, Global, string_bytes, option_map, option_and_then, bytes_eq, refl, sym, ap, ◌∙◌}
use Rattle.std.specs.Map.{update}
use Rattle.site_ids.specs.declared.Ticket.{Ticket}
use Rattle.context.specs.Whole.{Whole}
use Rattle.context.specs.View.{data_view}
use Rattle.context.specs.declared.tree.Data.{Data}
use Rattle.mustache_parse.specs.Template.{TemplateSeen}
use Rattle.command.specs.Action.{Kind, template, partial, page_data, route, redirect, Action, put_template, put_partial, put_data, put_route, put_redirect, remove, release, Order}
use Rattle.command.specs.Site.{is_same_kind, is_about, if_put, if_template, if_partial, if_data, if_route, if_redirect}
use Rattle.command.specs.Standing.{StandsAs}
use Rattle.command.specs.View.{kind_view}
use Rattle.command.specs.declared.commands.Action.TheVariants.{PutTemplate, PutPartial, PutData, PutRoute, PutRedirect, Remove, Release}
use Rattle.command.specs.declared.commands.Kind.{Kind as CodeKind}
use Rattle.content.specs.Answered.{answered}
use Rattle.content.specs.View.{Named, ContentsSeen, at_name, names_of}
use Rattle.content.specs.Standing.{IsOfText, HasContents}
use Rattle.content.specs.declared.applied.Applied.TheVariants.{Changed, Released}
use Rattle.content.specs.declared.target.Target.{Target}
use Rattle.content.proofs.Changes.{stays, changes}

abbrev pub IsData : Option Data → Option Whole → Type 0
IsData d whole = option_map data_view d ≡ whole

abbrev pub IsTarget : Option Target → Option (List ℕ × List ℕ) → Type 0
IsTarget t names = option_map names_of t ≡ names

abbrev pub Leads : Option (String Global) → Option (List ℕ) → Type 0
Leads found target = option_map string_bytes found ≡ target

abbrev pub order : Ticket → Action → Order
order ticket action = record { ticket = ticket; action = action }

-- the entries changed at one name alone
abbrev pub Writes : {V : Type 0} → Named V → Named V → List ℕ → Option V → Type 0
Writes old new key v = (name : List ℕ) → at_name name new ≡ update bytes_eq (λ m. at_name m old) key v name

-- ---- a site whose one kind changed

abbrev pub with_templates : ContentsSeen → Named TemplateSeen → ContentsSeen
with_templates s new = record { templates = new; partials = s.partials; page_data = s.page_data; routes = s.routes; redirects = s.redirects }

abbrev pub with_partials : ContentsSeen → Named TemplateSeen → ContentsSeen
with_partials s new = record { templates = s.templates; partials = new; page_data = s.page_data; routes = s.routes; redirects = s.redirects }

abbrev pub with_data : ContentsSeen → Named Data → ContentsSeen
with_data s new = record { templates = s.templates; partials = s.partials; page_data = new; routes = s.routes; redirects = s.redirects }

abbrev pub with_routes : ContentsSeen → Named Target → ContentsSeen
with_routes s new = record { templates = s.templates; partials = s.partials; page_data = s.page_data; routes = new; redirects = s.redirects }

abbrev pub with_redirects : ContentsSeen → Named (String Global) → ContentsSeen
with_redirects s new = record { templates = s.templates; partials = s.partials; page_data = s.page_data; routes = s.routes; redirects = new }

-- the action is about that kind and name alone
abbrev About : Kind → List ℕ → Action → Type 0
About kind key a = (k : Kind) (name : List ℕ) → is_about k name a ≡ (is_same_kind kind k && bytes_eq key name)

templates_written : (site : ContentsSeen) (new : Named TemplateSeen) (os : List Order) (o : Order) (key : List ℕ) (v : Option TemplateSeen) → Writes site.templates new key v
    → About template key o.action → IsOfText v (option_and_then if_template (if_put o.action)) → HasContents site os → HasContents (with_templates site new) (os ++ o ∷ [])
templates_written site new os o key v written only here h = record {
  templates = changes IsOfText if_template template site.templates new os o key v written (only template) here h.templates;
  partials = stays IsOfText if_partial partial site.partials os o (only partial) h.partials;
  page_data = stays IsData if_data page_data site.page_data os o (only page_data) h.page_data;
  routes = stays IsTarget if_route route site.routes os o (only route) h.routes;
  redirects = stays Leads if_redirect redirect site.redirects os o (only redirect) h.redirects;
}

partials_written : (site : ContentsSeen) (new : Named TemplateSeen) (os : List Order) (o : Order) (key : List ℕ) (v : Option TemplateSeen) → Writes site.partials new key v
    → About partial key o.action → IsOfText v (option_and_then if_partial (if_put o.action)) → HasContents site os → HasContents (with_partials site new) (os ++ o ∷ [])
partials_written site new os o key v written only here h = record {
  templates = stays IsOfText if_template template site.templates os o (only template) h.templates;
  partials = changes IsOfText if_partial partial site.partials new os o key v written (only partial) here h.partials;
  page_data = stays IsData if_data page_data site.page_data os o (only page_data) h.page_data;
  routes = stays IsTarget if_route route site.routes os o (only route) h.routes;
  redirects = stays Leads if_redirect redirect site.redirects os o (only redirect) h.redirects;
}

data_written : (site : ContentsSeen) (new : Named Data) (os : List Order) (o : Order) (key : List ℕ) (v : Option Data) → Writes site.page_data new key v
    → About page_data key o.action → IsData v (option_and_then if_data (if_put o.action)) → HasContents site os → HasContents (with_data site new) (os ++ o ∷ [])
data_written site new os o key v written only here h = record {
  templates = stays IsOfText if_template template site.templates os o (only template) h.templates;
  partials = stays IsOfText if_partial partial site.partials os o (only partial) h.partials;
  page_data = changes IsData if_data page_data site.page_data new os o key v written (only page_data) here h.page_data;
  routes = stays IsTarget if_route route site.routes os o (only route) h.routes;
  redirects = stays Leads if_redirect redirect site.redirects os o (only redirect) h.redirects;
}

routes_written : (site : ContentsSeen) (new : Named Target) (os : List Order) (o : Order) (key : List ℕ) (v : Option Target) → Writes site.routes new key v
    → About route key o.action → IsTarget v (option_and_then if_route (if_put o.action)) → HasContents site os → HasContents (with_routes site new) (os ++ o ∷ [])
routes_written site new os o key v written only here h = record {
  templates = stays IsOfText if_template template site.templates os o (only template) h.templates;
  partials = stays IsOfText if_partial partial site.partials os o (only partial) h.partials;
  page_data = stays IsData if_data page_data site.page_data os o (only page_data) h.page_data;
  routes = changes IsTarget if_route route site.routes new os o key v written (only route) here h.routes;
  redirects = stays Leads if_redirect redirect site.redirects os o (only redirect) h.redirects;
}

redirects_written : (site : ContentsSeen) (new : Named (String Global)) (os : List Order) (o : Order) (key : List ℕ) (v : Option (String Global)) → Writes site.redirects new key v
    → About redirect key o.action → Leads v (option_and_then if_redirect (if_put o.action)) → HasContents site os → HasContents (with_redirects site new) (os ++ o ∷ [])
redirects_written site new os o key v written only here h = record {
  templates = stays IsOfText if_template template site.templates os o (only template) h.templates;
  partials = stays IsOfText if_partial partial site.partials os o (only partial) h.partials;
  page_data = stays IsData if_data page_data site.page_data os o (only page_data) h.page_data;
  routes = stays IsTarget if_route route site.routes os o (only route) h.routes;
  redirects = changes Leads if_redirect redirect site.redirects new os o key v written (only redirect) here h.redirects;
}

-- ---- puts

-- the site stands for the commands and one more, and the answer is right
abbrev pub Done : ContentsSeen → List Order → Ticket → Action → Type 0
Done site os ticket a = HasContents site (os ++ order ticket a ∷ []) × (Changed ≡ answered a)

pub template_put : (site : ContentsSeen) (new : Named TemplateSeen) (name : String Global) (t : TemplateSeen) (os : List Order) (ticket : Ticket) (a : Action)
    → Writes site.templates new (string_bytes name) (Some t) → StandsAs (PutTemplate name t) a → HasContents site os → Done (with_templates site new) os ticket a
template_put site new name t os ticket (put_template n body) written is h = (
  templates_written site new os (order ticket (put_template n body)) (string_bytes name) (Some t) written (λ k m. ap (λ x. is_same_kind template k && bytes_eq x m) (sym is.0)) (body, refl, is.1) h,
  refl,
)
template_put site new name t os ticket (put_partial n body) written is h = absurd is
template_put site new name t os ticket (put_data n whole) written is h = absurd is
template_put site new name t os ticket (put_route p s f) written is h = absurd is
template_put site new name t os ticket (put_redirect p x) written is h = absurd is
template_put site new name t os ticket (remove k n) written is h = absurd is
template_put site new name t os ticket release written is h = absurd is

pub partial_put : (site : ContentsSeen) (new : Named TemplateSeen) (name : String Global) (t : TemplateSeen) (os : List Order) (ticket : Ticket) (a : Action)
    → Writes site.partials new (string_bytes name) (Some t) → StandsAs (PutPartial name t) a → HasContents site os → Done (with_partials site new) os ticket a
partial_put site new name t os ticket (put_partial n body) written is h = (
  partials_written site new os (order ticket (put_partial n body)) (string_bytes name) (Some t) written (λ k m. ap (λ x. is_same_kind partial k && bytes_eq x m) (sym is.0)) (body, refl, is.1) h,
  refl,
)
partial_put site new name t os ticket (put_template n body) written is h = absurd is
partial_put site new name t os ticket (put_data n whole) written is h = absurd is
partial_put site new name t os ticket (put_route p s f) written is h = absurd is
partial_put site new name t os ticket (put_redirect p x) written is h = absurd is
partial_put site new name t os ticket (remove k n) written is h = absurd is
partial_put site new name t os ticket release written is h = absurd is

pub data_put : (site : ContentsSeen) (new : Named Data) (name : String Global) (d : Data) (os : List Order) (ticket : Ticket) (a : Action)
    → Writes site.page_data new (string_bytes name) (Some d) → StandsAs (PutData name d) a → HasContents site os → Done (with_data site new) os ticket a
data_put site new name d os ticket (put_data n whole) written is h = (
  data_written site new os (order ticket (put_data n whole)) (string_bytes name) (Some d) written (λ k m. ap (λ x. is_same_kind page_data k && bytes_eq x m) (sym is.0)) (ap Some is.1) h,
  refl,
)
data_put site new name d os ticket (put_template n body) written is h = absurd is
data_put site new name d os ticket (put_partial n body) written is h = absurd is
data_put site new name d os ticket (put_route p s f) written is h = absurd is
data_put site new name d os ticket (put_redirect p x) written is h = absurd is
data_put site new name d os ticket (remove k n) written is h = absurd is
data_put site new name d os ticket release written is h = absurd is

pub route_put : (site : ContentsSeen) (new : Named Target) (path shows fills : String Global) (os : List Order) (ticket : Ticket) (a : Action)
    → Writes site.routes new (string_bytes path) (Some (record { template = shows; page_data = fills })) → StandsAs (PutRoute path shows fills) a → HasContents site os → Done (with_routes site new) os ticket a
route_put site new path shows fills os ticket (put_route p s f) written is h = (
  routes_written site new os (order ticket (put_route p s f)) (string_bytes path) (Some (record { template = shows; page_data = fills })) written
      (λ k m. ap (λ x. is_same_kind route k && bytes_eq x m) (sym is.0)) (ap Some (ap (λ x. (x, string_bytes fills)) is.1 ∙ ap (λ x. (s, x)) is.2)) h,
  refl,
)
route_put site new path shows fills os ticket (put_template n body) written is h = absurd is
route_put site new path shows fills os ticket (put_partial n body) written is h = absurd is
route_put site new path shows fills os ticket (put_data n whole) written is h = absurd is
route_put site new path shows fills os ticket (put_redirect p x) written is h = absurd is
route_put site new path shows fills os ticket (remove k n) written is h = absurd is
route_put site new path shows fills os ticket release written is h = absurd is

pub redirect_put : (site : ContentsSeen) (new : Named (String Global)) (path target : String Global) (os : List Order) (ticket : Ticket) (a : Action)
    → Writes site.redirects new (string_bytes path) (Some target) → StandsAs (PutRedirect path target) a → HasContents site os → Done (with_redirects site new) os ticket a
redirect_put site new path target os ticket (put_redirect p x) written is h = (
  redirects_written site new os (order ticket (put_redirect p x)) (string_bytes path) (Some target) written (λ k m. ap (λ y. is_same_kind redirect k && bytes_eq y m) (sym is.0)) (ap Some is.1) h,
  refl,
)
redirect_put site new path target os ticket (put_template n body) written is h = absurd is
redirect_put site new path target os ticket (put_partial n body) written is h = absurd is
redirect_put site new path target os ticket (put_data n whole) written is h = absurd is
redirect_put site new path target os ticket (put_route p s f) written is h = absurd is
redirect_put site new path target os ticket (remove k n) written is h = absurd is
redirect_put site new path target os ticket release written is h = absurd is

-- ---- removes

about : (kind : Kind) (key : List ℕ) (a : Action) → a ≡ remove kind key → About kind key a
about kind key a is k name = ap (is_about k name) is

pub template_removed : (site : ContentsSeen) (new : Named TemplateSeen) (key : List ℕ) (os : List Order) (o : Order) → Writes site.templates new key None → o.action ≡ remove template key
    → HasContents site os → HasContents (with_templates site new) (os ++ o ∷ [])
template_removed site new key os o written is h = templates_written site new os o key None written (about template key o.action is) (ap (λ a. option_and_then if_template (if_put a)) is) h

pub partial_removed : (site : ContentsSeen) (new : Named TemplateSeen) (key : List ℕ) (os : List Order) (o : Order) → Writes site.partials new key None → o.action ≡ remove partial key
    → HasContents site os → HasContents (with_partials site new) (os ++ o ∷ [])
partial_removed site new key os o written is h = partials_written site new os o key None written (about partial key o.action is) (ap (λ a. option_and_then if_partial (if_put a)) is) h

pub data_removed : (site : ContentsSeen) (new : Named Data) (key : List ℕ) (os : List Order) (o : Order) → Writes site.page_data new key None → o.action ≡ remove page_data key
    → HasContents site os → HasContents (with_data site new) (os ++ o ∷ [])
data_removed site new key os o written is h = data_written site new os o key None written (about page_data key o.action is) (sym (ap (λ a. option_and_then if_data (if_put a)) is)) h

pub route_removed : (site : ContentsSeen) (new : Named Target) (key : List ℕ) (os : List Order) (o : Order) → Writes site.routes new key None → o.action ≡ remove route key
    → HasContents site os → HasContents (with_routes site new) (os ++ o ∷ [])
route_removed site new key os o written is h = routes_written site new os o key None written (about route key o.action is) (sym (ap (λ a. option_and_then if_route (if_put a)) is)) h

pub redirect_removed : (site : ContentsSeen) (new : Named (String Global)) (key : List ℕ) (os : List Order) (o : Order) → Writes site.redirects new key None → o.action ≡ remove redirect key
    → HasContents site os → HasContents (with_redirects site new) (os ++ o ∷ [])
redirect_removed site new key os o written is h = redirects_written site new os o key None written (about redirect key o.action is) (sym (ap (λ a. option_and_then if_redirect (if_put a)) is)) h

-- ---- a release, and a remove by its kind

pub released : (site : ContentsSeen) (os : List Order) (ticket : Ticket) (a : Action) → StandsAs Release a → HasContents site os → HasContents site (os ++ order ticket a ∷ []) × (Released ≡ answered a)
released site os ticket release is h =
    let o = order ticket release in (
      record {
        templates = stays IsOfText if_template template site.templates os o (λ n. refl) h.templates;
        partials = stays IsOfText if_partial partial site.partials os o (λ n. refl) h.partials;
        page_data = stays IsData if_data page_data site.page_data os o (λ n. refl) h.page_data;
        routes = stays IsTarget if_route route site.routes os o (λ n. refl) h.routes;
        redirects = stays Leads if_redirect redirect site.redirects os o (λ n. refl) h.redirects;
      },
      refl,
    )
released site os ticket (put_template n body) is h = absurd is
released site os ticket (put_partial n body) is h = absurd is
released site os ticket (put_data n whole) is h = absurd is
released site os ticket (put_route p s f) is h = absurd is
released site os ticket (put_redirect p x) is h = absurd is
released site os ticket (remove k n) is h = absurd is

-- what a remove's order does
pub removes : (kind : CodeKind) (name : String Global) (a : Action) → StandsAs (Remove kind name) a → (a ≡ remove (kind_view kind) (string_bytes name)) × (Changed ≡ answered a)
removes kind name (remove k n) is = (sym (ap (λ x. remove x (string_bytes name)) is.0 ∙ ap (remove k) is.1), refl)
removes kind name (put_template n body) is = absurd is
removes kind name (put_partial n body) is = absurd is
removes kind name (put_data n whole) is = absurd is
removes kind name (put_route p s f) is = absurd is
removes kind name (put_redirect p x) is = absurd is
removes kind name release is = absurd is
