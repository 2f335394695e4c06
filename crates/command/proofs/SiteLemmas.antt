-- What is in force at a kind and name, by the last place about them.
use Rattle.std.proofs.Common.{◌≡◌, ℕ, zero, suc, ◌<◌, List, [], ◌∷◌, Bool, true, false, cond, Option, Some, None, option_and_then, slice_get, bytes_eq, refl, sym, ap, ◌∙◌, subst, arith}
use Rattle.std.proofs.lemmas.Option.{option_and_then_some}
use Rattle.std.proofs.lemmas.Slice.Eq.{bytes_eq-Decides}
use Rattle.context.specs.Whole.{Whole}
use Rattle.command.specs.Action.{Kind, template, partial, page_data, route, redirect, Action, put_template, put_partial, put_data, put_route, put_redirect, remove, release, Order}
use Rattle.command.specs.Site.{is_about, is_put, first_or, last_about, if_put, standing, IsStanding, if_template, if_partial, if_data, if_route, if_redirect}
use Rattle.command.specs.Laws.{StandingIsLast, TemplateIsLast, PartialIsLast, DataIsLast, RouteIsLast, RedirectIsLast}

-- nothing in the orders is about that kind and name
abbrev Untouched : Kind → List ℕ → List Order → Type 0
Untouched kind name orders = (j : ℕ) (o : Order) → slice_get orders j ≡ Some o → is_about kind name o.action ≡ false

record IsLastAbout (kind : Kind) (name : List ℕ) (orders : List Order) (action : Action) : Type 0 where
  place : ℕ
  order : Order
  there : slice_get orders place ≡ Some order
  does : order.action ≡ action
  touched : is_about kind name action ≡ true
  last : (j : ℕ) (later : Order) → place < j → slice_get orders j ≡ Some later → is_about kind name later.action ≡ false

-- ---- from the computed last action

none_step : (b : Bool) (r : Option Action) (kind : Kind) (name : List ℕ) (x : Order) (later : List Order) → is_about kind name x.action ≡ b → first_or r (cond b (Some x.action) None) ≡ None
    → (r ≡ None → Untouched kind name later) → Untouched kind name (x ∷ later)
none_step true None kind name x later is e ih j o there = cc
none_step true (Some a) kind name x later is e ih j o there = cc
none_step false (Some a) kind name x later is e ih j o there = cc
none_step false None kind name x later is e ih zero o there = let same : x ≡ o = cc in sym (ap (λ (y : Order). is_about kind name y.action) same) ∙ is
none_step false None kind name x later is e ih (suc j) o there = ih refl j o there

none_about : (kind : Kind) (name : List ℕ) (orders : List Order) → last_about kind name orders ≡ None → Untouched kind name orders
none_about kind name [] e j o there = cc
none_about kind name (x ∷ later) e j o there = none_step (is_about kind name x.action) (last_about kind name later) kind name x later refl e (none_about kind name later) j o there

first_last : (kind : Kind) (name : List ℕ) (x : Order) (later : List Order) → Untouched kind name later
    → (j : ℕ) (o : Order) → zero < j → slice_get (x ∷ later) j ≡ Some o → is_about kind name o.action ≡ false
first_last kind name x later none zero o l there = absurd (omega arith)
first_last kind name x later none (suc j) o l there = none j o there

later_last : (kind : Kind) (name : List ℕ) (x : Order) (later : List Order) (place : ℕ)
    → ((j : ℕ) (o : Order) → place < j → slice_get later j ≡ Some o → is_about kind name o.action ≡ false)
    → (j : ℕ) (o : Order) → suc place < j → slice_get (x ∷ later) j ≡ Some o → is_about kind name o.action ≡ false
later_last kind name x later place last zero o l there = absurd (omega arith)
later_last kind name x later place last (suc j) o l there = last j o (omega arith) there

last_step : (b : Bool) (r : Option Action) (kind : Kind) (name : List ℕ) (x : Order) (later : List Order) (a : Action) → is_about kind name x.action ≡ b
    → first_or r (cond b (Some x.action) None) ≡ Some a → (r ≡ None → Untouched kind name later) → (r ≡ Some a → IsLastAbout kind name later a) → IsLastAbout kind name (x ∷ later) a
last_step true None kind name x later a is e none some =
    let does : x.action ≡ a = cc in
    record {
      place = zero;
      order = x;
      there = refl;
      does = does;
      touched = sym (ap (is_about kind name) does) ∙ is;
      last = first_last kind name x later (none refl);
    }
last_step false None kind name x later a is e none some = cc
last_step b (Some y) kind name x later a is e none some =
    let l = some e in
    record {
      place = suc l.place;
      order = l.order;
      there = l.there;
      does = l.does;
      touched = l.touched;
      last = later_last kind name x later l.place l.last;
    }

last_about-is : (kind : Kind) (name : List ℕ) (orders : List Order) (a : Action) → last_about kind name orders ≡ Some a → IsLastAbout kind name orders a
last_about-is kind name [] a e = cc
last_about-is kind name (x ∷ later) a e =
    last_step (is_about kind name x.action) (last_about kind name later) kind name x later a refl e (none_about kind name later) (last_about-is kind name later a)

-- ---- to it

untouched : (kind : Kind) (name : List ℕ) (orders : List Order) → Untouched kind name orders → last_about kind name orders ≡ None
untouched kind name [] h = refl
untouched kind name (x ∷ later) h = rw (untouched kind name later (λ j o e. h (suc j) o e), h zero x refl)

last_at : (kind : Kind) (name : List ℕ) (orders : List Order) (place : ℕ) (order : Order) → slice_get orders place ≡ Some order → is_about kind name order.action ≡ true
    → ((j : ℕ) (o : Order) → place < j → slice_get orders j ≡ Some o → is_about kind name o.action ≡ false) → last_about kind name orders ≡ Some order.action
last_at kind name [] place order there touched last = cc
last_at kind name (x ∷ later) zero order there touched last =
    let same : x ≡ order = cc in
    rw (untouched kind name later (λ j o e. last (suc j) o (omega arith) e), same, touched)
last_at kind name (x ∷ later) (suc place) order there touched last = rw (last_at kind name later place order there touched (λ j o l e. last (suc j) o (omega arith) e))

-- ---- what stands

if_put-is : (b : Bool) (a action : Action) → is_put a ≡ b → cond b (Some a) None ≡ Some action → (a ≡ action) × (is_put action ≡ true)
if_put-is true a action is e = let same : a ≡ action = cc in (same, sym (ap is_put same) ∙ is)
if_put-is false a action is e = cc

stands : (kind : Kind) (name : List ℕ) (orders : List Order) (a action : Action) → IsLastAbout kind name orders a → a ≡ action → is_put action ≡ true → IsStanding kind name orders action
stands kind name orders a action l same puts = record {
  place = l.place;
  order = l.order;
  there = l.there;
  does = l.does ∙ same;
  touched = sym (ap (is_about kind name) same) ∙ l.touched;
  puts = puts;
  last = l.last;
}

from_standing : (kind : Kind) (name : List ℕ) (orders : List Order) (action : Action) → standing kind name orders ≡ Some action → IsStanding kind name orders action
from_standing kind name orders action e =
    option_and_then_some if_put (last_about kind name orders) action e (λ a found put.
    let p = if_put-is (is_put a) a action refl put in stands kind name orders a action (last_about-is kind name orders a found) p.0 p.1)

to_standing : (kind : Kind) (name : List ℕ) (orders : List Order) (action : Action) → IsStanding kind name orders action → standing kind name orders ≡ Some action
to_standing kind name orders action h =
    let touched : is_about kind name h.order.action ≡ true = ap (is_about kind name) h.does ∙ h.touched in
    let found : last_about kind name orders ≡ Some action = last_at kind name orders h.place h.order h.there touched h.last ∙ ap Some h.does in
    let puts = h.puts in
    rw (found, puts)

pub standing_is_last : StandingIsLast
standing_is_last kind name orders action = (from_standing kind name orders action, to_standing kind name orders action)

-- ---- by kinds

same_name : (n name : List ℕ) → bytes_eq n name ≡ true → n ≡ name
same_name n name e = (bytes_eq-Decides n name).0 e

template_from : (name body : List ℕ) (orders : List Order) (a : Action) → IsStanding template name orders a → if_template a ≡ Some body → IsStanding template name orders (put_template name body)
template_from name body orders (put_template n x) h e =
    let same : x ≡ body = cc in
    let named = same_name n name h.touched in
    subst (λ m. IsStanding template name orders (put_template m body)) named (subst (λ y. IsStanding template name orders (put_template n y)) same h)
template_from name body orders (put_partial n x) h e = cc
template_from name body orders (put_data n w) h e = cc
template_from name body orders (put_route p s f) h e = cc
template_from name body orders (put_redirect p t) h e = cc
template_from name body orders (remove k n) h e = cc
template_from name body orders release h e = cc

pub template_is_last : TemplateIsLast
template_is_last name body orders = (
  λ e. option_and_then_some if_template (standing template name orders) body e (λ a found is. template_from name body orders a (from_standing template name orders a found) is),
  λ h. ap (option_and_then if_template) (to_standing template name orders (put_template name body) h),
)

partial_from : (name body : List ℕ) (orders : List Order) (a : Action) → IsStanding partial name orders a → if_partial a ≡ Some body → IsStanding partial name orders (put_partial name body)
partial_from name body orders (put_partial n x) h e =
    let same : x ≡ body = cc in
    let named = same_name n name h.touched in
    subst (λ m. IsStanding partial name orders (put_partial m body)) named (subst (λ y. IsStanding partial name orders (put_partial n y)) same h)
partial_from name body orders (put_template n x) h e = cc
partial_from name body orders (put_data n w) h e = cc
partial_from name body orders (put_route p s f) h e = cc
partial_from name body orders (put_redirect p t) h e = cc
partial_from name body orders (remove k n) h e = cc
partial_from name body orders release h e = cc

pub partial_is_last : PartialIsLast
partial_is_last name body orders = (
  λ e. option_and_then_some if_partial (standing partial name orders) body e (λ a found is. partial_from name body orders a (from_standing partial name orders a found) is),
  λ h. ap (option_and_then if_partial) (to_standing partial name orders (put_partial name body) h),
)

data_from : (name : List ℕ) (whole : Whole) (orders : List Order) (a : Action) → IsStanding page_data name orders a → if_data a ≡ Some whole → IsStanding page_data name orders (put_data name whole)
data_from name whole orders (put_data n w) h e =
    let same : w ≡ whole = cc in
    let named = same_name n name h.touched in
    subst (λ m. IsStanding page_data name orders (put_data m whole)) named (subst (λ y. IsStanding page_data name orders (put_data n y)) same h)
data_from name whole orders (put_template n x) h e = cc
data_from name whole orders (put_partial n x) h e = cc
data_from name whole orders (put_route p s f) h e = cc
data_from name whole orders (put_redirect p t) h e = cc
data_from name whole orders (remove k n) h e = cc
data_from name whole orders release h e = cc

pub data_is_last : DataIsLast
data_is_last name whole orders = (
  λ e. option_and_then_some if_data (standing page_data name orders) whole e (λ a found is. data_from name whole orders a (from_standing page_data name orders a found) is),
  λ h. ap (option_and_then if_data) (to_standing page_data name orders (put_data name whole) h),
)

abbrev Target : Type 0
Target = List ℕ × List ℕ

route_from : (path shows fills : List ℕ) (orders : List Order) (a : Action) → IsStanding route path orders a → if_route a ≡ Some (shows, fills) → IsStanding route path orders (put_route path shows fills)
route_from path shows fills orders (put_route p s f) h e =
    let pair : ◌≡◌ {A = Target} (s, f) (shows, fills) = cc in
    let named = same_name p path h.touched in
    subst (λ q. IsStanding route path orders (put_route q shows fills)) named (subst (λ (t : Target). IsStanding route path orders (put_route p t.0 t.1)) pair h)
route_from path shows fills orders (put_template n x) h e = cc
route_from path shows fills orders (put_partial n x) h e = cc
route_from path shows fills orders (put_data n w) h e = cc
route_from path shows fills orders (put_redirect p t) h e = cc
route_from path shows fills orders (remove k n) h e = cc
route_from path shows fills orders release h e = cc

pub route_is_last : RouteIsLast
route_is_last path shows fills orders = (
  λ e. option_and_then_some if_route (standing route path orders) (shows, fills) e (λ a found is. route_from path shows fills orders a (from_standing route path orders a found) is),
  λ h. ap (option_and_then if_route) (to_standing route path orders (put_route path shows fills) h),
)

redirect_from : (path target : List ℕ) (orders : List Order) (a : Action) → IsStanding redirect path orders a → if_redirect a ≡ Some target → IsStanding redirect path orders (put_redirect path target)
redirect_from path target orders (put_redirect p t) h e =
    let same : t ≡ target = cc in
    let named = same_name p path h.touched in
    subst (λ q. IsStanding redirect path orders (put_redirect q target)) named (subst (λ x. IsStanding redirect path orders (put_redirect p x)) same h)
redirect_from path target orders (put_template n x) h e = cc
redirect_from path target orders (put_partial n x) h e = cc
redirect_from path target orders (put_data n w) h e = cc
redirect_from path target orders (put_route p s f) h e = cc
redirect_from path target orders (remove k n) h e = cc
redirect_from path target orders release h e = cc

pub redirect_is_last : RedirectIsLast
redirect_is_last path target orders = (
  λ e. option_and_then_some if_redirect (standing redirect path orders) target e (λ a found is. redirect_from path target orders a (from_standing redirect path orders a found) is),
  λ h. ap (option_and_then if_redirect) (to_standing redirect path orders (put_redirect path target) h),
)
