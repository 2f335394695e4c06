-- What a row and a value read as.
use Rattle.std.proofs.Common.{◌≡◌, ℕ, List, ◌≤◌, ◌-◌, length, drop, take, Bool, true, false, Option, None, Ok, Err, refl, ap, ◌∙◌}
use Rattle.std.proofs.lemmas.Bool.{le-leb}
use Rattle.std.proofs.lemmas.List.{take_rest}
use Rattle.std.proofs.lemmas.Str.{is_utf8-from_IsUtf8, IsUtf8-from_is_utf8}
use Rattle.std.specs.Option.{ok_or}
use Rattle.std.specs.Str.{IsUtf8, is_utf8}
use Rattle.site_ids.specs.declared.TheConstants.{MAX_VALUE}
use Rattle.context.specs.Whole.{Whole, data_reading}
use Rattle.mustache_parse.specs.Tree.{Tree, tree_of}
use Rattle.command.specs.Action.{Kind, template, partial, page_data, route, redirect, put_template, put_partial, put_data, put_route, put_redirect, remove}
use Rattle.command.specs.Rows.{Row, template_row, partial_row, data_row, route_row, redirect_row, remove_row, row_of}
use Rattle.command.specs.Reading.{is_name, is_path, is_target, is_removable, wrong_remove, row_reading, text_row, text_reading, ticket_of, value_row, with_ticket, value_reading}
use Rattle.command.specs.declared.fault.CommandFault.TheVariants.{Form}

pub template_reads : (n x : List ℕ) (tree : Tree) → is_name n ≡ true → tree_of x ≡ Ok tree → row_reading (template_row n x) ≡ Ok (put_template n x)
template_reads n x tree named read = rw (named, read)

pub partial_reads : (n x : List ℕ) (tree : Tree) → is_name n ≡ true → tree_of x ≡ Ok tree → row_reading (partial_row n x) ≡ Ok (put_partial n x)
partial_reads n x tree named read = rw (named, read)

pub data_reads : (n x : List ℕ) (w : Whole) → is_name n ≡ true → data_reading x ≡ Ok w → row_reading (data_row n x) ≡ Ok (put_data n w)
data_reads n x w named read = rw (named, read)

pub route_reads : (path shows fills : List ℕ) → is_path path ≡ true → is_name shows ≡ true → is_name fills ≡ true → row_reading (route_row path shows fills) ≡ Ok (put_route path shows fills)
route_reads path shows fills p s f = rw (s, f, p)

pub redirect_reads : (path target : List ℕ) → is_path path ≡ true → is_target target ≡ true → row_reading (redirect_row path target) ≡ Ok (put_redirect path target)
redirect_reads path target p t = rw (p, t)

pub remove_reads : (kind : Kind) (n : List ℕ) → is_removable kind n ≡ true → row_reading (remove_row kind n) ≡ Ok (remove kind n)
remove_reads template n h = rw h
remove_reads partial n h = rw h
remove_reads page_data n h = rw h
remove_reads route n h = rw h
remove_reads redirect n h = rw h

pub remove_fails : (kind : Kind) (n : List ℕ) → is_removable kind n ≡ false → row_reading (remove_row kind n) ≡ Err (wrong_remove kind)
remove_fails template n h = rw h
remove_fails partial n h = rw h
remove_fails page_data n h = rw h
remove_fails route n h = rw h
remove_fails redirect n h = rw h

-- ---- values, from their texts

short_value : (v : List ℕ) → length v ≤ MAX_VALUE → value_reading v ≡ with_ticket (ticket_of v) (text_reading (text_row v))
short_value v short = let fits = le-leb (length v) MAX_VALUE short in rw fits

pub value_of_text : (v : List ℕ) → length v ≤ MAX_VALUE → 12 ≤ length v → IsUtf8 (drop 12 v) → value_reading v ≡ with_ticket (ticket_of v) (text_reading (row_of (drop 12 v)))
value_of_text v short long text =
    let ticketed = le-leb 12 (length v) long in
    let there : text_row v ≡ row_of (drop 12 v) = rw (ticketed, is_utf8-from_IsUtf8 (drop 12 v) text) in
    short_value v short ∙ ap (λ (o : Option Row). with_ticket (ticket_of v) (text_reading o)) there

pub row_of_text : (v : List ℕ) → length v ≤ MAX_VALUE → 12 ≤ length v → IsUtf8 (drop 12 v) → value_row v ≡ ok_or (row_of (drop 12 v)) Form
row_of_text v short long text =
    let fits = le-leb (length v) MAX_VALUE short in
    let ticketed = le-leb 12 (length v) long in
    rw (fits, ticketed, is_utf8-from_IsUtf8 (drop 12 v) text)

not_text : (b : Bool) (v : List ℕ) → is_utf8 (drop 12 v) ≡ b → ¬ IsUtf8 (drop 12 v) → is_utf8 (drop 12 v) ≡ false
not_text true v e never = absurd (never (IsUtf8-from_is_utf8 (drop 12 v) e))
not_text false v e never = e

pub value_of_bytes : (v : List ℕ) → length v ≤ MAX_VALUE → 12 ≤ length v → ¬ IsUtf8 (drop 12 v) → value_reading v ≡ Err Form
value_of_bytes v short long never =
    let ticketed = le-leb 12 (length v) long in
    let none : text_row v ≡ None = rw (ticketed, not_text (is_utf8 (drop 12 v)) v refl never) in
    short_value v short ∙ ap (λ (o : Option Row). with_ticket (ticket_of v) (text_reading o)) none

-- the text as `&v[12..]` gives it
pub tail_of : (v : List ℕ) → take (length v - 12) (drop 12 v) ≡ drop 12 v
tail_of v = take_rest v 12
