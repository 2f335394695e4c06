-- The least fault of a value.
use Rattle.std.proofs.Common.{◌≡◌, ℕ, ◌≤◌, List, length, drop, Bool, true, false, ◌&&◌, cond, leb, Option, Some, None, Result, Ok, Err, ok_or, refl, sym, ap, ◌∙◌, subst, arith}
use Rattle.std.specs.List.{list_all}
use Rattle.std.specs.Str.{is_utf8}
use Rattle.std.proofs.lemmas.Bool.{leb-true, leb-false, le-leb}
use Rattle.std.proofs.lemmas.Str.{is_utf8-from_IsUtf8, IsUtf8-from_is_utf8}
use Rattle.site_ids.specs.declared.TheConstants.{MAX_VALUE}
use Rattle.context.specs.Whole.{Whole, data_reading}
use Rattle.context.specs.declared.fault.DataFault.{DataFault}
use Rattle.mustache_scan.specs.declared.fault.TemplateFault.{TemplateFault}
use Rattle.mustache_parse.specs.Tree.{Tree, tree_of}
use Rattle.command.specs.Action.{Action, put_template, put_partial, Order}
use Rattle.command.specs.Rows.{Row, template_row, partial_row, data_row, route_row, redirect_row, remove_row, release_row, row_of}
use Rattle.command.specs.Reading.{is_name, names_in, has_paths, put_text, put_whole, row_action, text_row, value_row, read_row, ticket_of, with_ticket}
use Rattle.command.specs.Faults.{IsRowOf, template_in, data_in, Applies, number}
use Rattle.command.specs.Laws.{FaultIsLeast, CommandHasNone}
use Rattle.command.specs.declared.fault.CommandFault.{CommandFault}
use Rattle.command.specs.declared.fault.CommandFault.TheVariants.{TooLong, Form, Name, Path, Template, Data, OutOfMemory}
use Rattle.command.proofs.RowLemmas.{row_from, row_is_spelled}
use Rattle.command.proofs.WordLemmas.{both}

-- ---- the row of a value

text_row-of : (v : List ℕ) (row : Row) → IsRowOf v row → text_row v ≡ Some row
text_row-of v row h =
    let long : leb 12 (length v) ≡ true = le-leb 12 (length v) h.ticketed in
    rw (long, is_utf8-from_IsUtf8 (drop 12 v) h.is_text) (row_from (drop 12 v) row h.words h.spells)

row_of-text : (b : Bool) (v : List ℕ) (row : Row) → (leb 12 (length v) && is_utf8 (drop 12 v)) ≡ b → cond b (row_of (drop 12 v)) None ≡ Some row → IsRowOf v row
row_of-text true v row is e =
    let parts = both (leb 12 (length v)) (is_utf8 (drop 12 v)) is in
    let spells = (row_is_spelled (drop 12 v) row).0 e in
    record { ticketed = leb-true 12 (length v) parts.0; is_text = IsUtf8-from_is_utf8 (drop 12 v) parts.1; words = spells.0; spells = spells.1 }
row_of-text false v row is e = cc

of-text_row : (v : List ℕ) (row : Row) → text_row v ≡ Some row → IsRowOf v row
of-text_row v row e = row_of-text (leb 12 (length v) && is_utf8 (drop 12 v)) v row refl e

-- ---- faults of a value that has a row and is not too long

record HasRow (v : List ℕ) (row : Row) : Type 0 where
  short : length v ≤ MAX_VALUE
  is : text_row v ≡ Some row

same_row : (v : List ℕ) (row other : Row) → HasRow v row → IsRowOf v other → other ≡ row
same_row v row other h o = let there = text_row-of v other o in let here = h.is in cc

not_long : (v : List ℕ) (row : Row) → HasRow v row → ¬ Applies v TooLong
not_long v row h long = let s = h.short in omega arith

not_form : (v : List ℕ) (row : Row) → HasRow v row → ¬ Applies v Form
not_form v row h none = none row (of-text_row v row h.is)

not_name : (v : List ℕ) (row : Row) → HasRow v row → list_all is_name (names_in row) ≡ true → ¬ Applies v Name
not_name v row h names a = let same = same_row v row a.0 h a.1 in let bad : list_all is_name (names_in row) ≡ false = sym (ap (λ r. list_all is_name (names_in r)) same) ∙ a.2 in cc

not_path : (v : List ℕ) (row : Row) → HasRow v row → has_paths row ≡ true → ¬ Applies v Path
not_path v row h paths a = let same = same_row v row a.0 h a.1 in let bad : has_paths row ≡ false = sym (ap (λ r. has_paths r) same) ∙ a.2 in cc

not_template : (v : List ℕ) (row : Row) (fault : TemplateFault) → HasRow v row → ((body : List ℕ) → template_in row ≡ Some body → tree_of body ≡ Err fault → ⊥) → ¬ Applies v (Template fault)
not_template v row fault h never a = let same = same_row v row a.0 h a.2 in never a.1 (sym (ap template_in same) ∙ a.3) a.4

not_data : (v : List ℕ) (row : Row) (fault : DataFault) → HasRow v row → ((body : List ℕ) → data_in row ≡ Some body → data_reading body ≡ Err fault → ⊥) → ¬ Applies v (Data fault)
not_data v row fault h never a = let same = same_row v row a.0 h a.2 in never a.1 (sym (ap data_in same) ∙ a.3) a.4

-- ---- the least of them

abbrev IsLeast : List ℕ → CommandFault → Type 0
IsLeast v fault = Applies v fault × ((other : CommandFault) → Applies v other → number fault ≤ number other)

above_zero : (other : CommandFault) → 1 ≤ number other
above_zero TooLong = omega arith
above_zero Form = omega arith
above_zero Name = omega arith
above_zero Path = omega arith
above_zero (Template f) = omega arith
above_zero (Data f) = omega arith
above_zero OutOfMemory = omega arith

form_above : (v : List ℕ) → length v ≤ MAX_VALUE → (other : CommandFault) → Applies v other → 2 ≤ number other
form_above v short TooLong a = absurd (omega arith)
form_above v short Form a = omega arith
form_above v short Name a = omega arith
form_above v short Path a = omega arith
form_above v short (Template f) a = omega arith
form_above v short (Data f) a = omega arith
form_above v short OutOfMemory a = absurd a

name_above : (v : List ℕ) (row : Row) → HasRow v row → (other : CommandFault) → Applies v other → 3 ≤ number other
name_above v row h TooLong a = absurd (not_long v row h a)
name_above v row h Form a = absurd (not_form v row h a)
name_above v row h Name a = omega arith
name_above v row h Path a = omega arith
name_above v row h (Template f) a = omega arith
name_above v row h (Data f) a = omega arith
name_above v row h OutOfMemory a = absurd a

path_above : (v : List ℕ) (row : Row) → HasRow v row → list_all is_name (names_in row) ≡ true → (other : CommandFault) → Applies v other → 4 ≤ number other
path_above v row h names TooLong a = absurd (not_long v row h a)
path_above v row h names Form a = absurd (not_form v row h a)
path_above v row h names Name a = absurd (not_name v row h names a)
path_above v row h names Path a = omega arith
path_above v row h names (Template f) a = omega arith
path_above v row h names (Data f) a = omega arith
path_above v row h names OutOfMemory a = absurd a

template_above : (v : List ℕ) (row : Row) → HasRow v row → list_all is_name (names_in row) ≡ true → has_paths row ≡ true
    → (other : CommandFault) → Applies v other → 5 ≤ number other
template_above v row h names paths TooLong a = absurd (not_long v row h a)
template_above v row h names paths Form a = absurd (not_form v row h a)
template_above v row h names paths Name a = absurd (not_name v row h names a)
template_above v row h names paths Path a = absurd (not_path v row h paths a)
template_above v row h names paths (Template f) a = omega arith
template_above v row h names paths (Data f) a = omega arith
template_above v row h names paths OutOfMemory a = absurd a

data_above : (v : List ℕ) (row : Row) → HasRow v row → list_all is_name (names_in row) ≡ true → has_paths row ≡ true
    → template_in row ≡ None → (other : CommandFault) → Applies v other → 6 ≤ number other
data_above v row h names paths none TooLong a = absurd (not_long v row h a)
data_above v row h names paths none Form a = absurd (not_form v row h a)
data_above v row h names paths none Name a = absurd (not_name v row h names a)
data_above v row h names paths none Path a = absurd (not_path v row h paths a)
data_above v row h names paths none (Template f) a = absurd (not_template v row f h (λ body is e. cc) a)
data_above v row h names paths none (Data f) a = omega arith
data_above v row h names paths none OutOfMemory a = absurd a

-- ---- what a row is put with

put_text-err : (action : Action) (r : Result Tree TemplateFault) (fault : CommandFault) → put_text action r ≡ Err fault → (f : TemplateFault) × (r ≡ Err f) × (fault ≡ Template f)
put_text-err action (Ok tree) fault e = cc
put_text-err action (Err f) fault e = (f, refl, cc)

put_text-ok : (action done : Action) (r : Result Tree TemplateFault) (f : TemplateFault) → put_text action r ≡ Ok done → r ≡ Err f → ⊥
put_text-ok action done (Ok tree) f e is = cc
put_text-ok action done (Err g) f e is = cc

put_whole-err : (name : List ℕ) (r : Result Whole DataFault) (fault : CommandFault) → put_whole name r ≡ Err fault → (f : DataFault) × (r ≡ Err f) × (fault ≡ Data f)
put_whole-err name (Ok d) fault e = cc
put_whole-err name (Err f) fault e = (f, refl, cc)

put_whole-ok : (name : List ℕ) (done : Action) (r : Result Whole DataFault) (f : DataFault) → put_whole name r ≡ Ok done → r ≡ Err f → ⊥
put_whole-ok name done (Ok d) f e is = cc
put_whole-ok name done (Err g) f e is = cc

-- ---- a row with good names and paths

template_least : (v : List ℕ) (row : Row) (body : List ℕ) (action : Action) (fault : CommandFault) → HasRow v row → list_all is_name (names_in row) ≡ true
    → has_paths row ≡ true → template_in row ≡ Some body → put_text action (tree_of body) ≡ Err fault → IsLeast v fault
template_least v row body action fault h names paths text e =
    let p = put_text-err action (tree_of body) fault e in
    subst (IsLeast v) (sym p.2) ((row, body, of-text_row v row h.is, text, p.1), template_above v row h names paths)

data_least : (v : List ℕ) (row : Row) (name body : List ℕ) (fault : CommandFault) → HasRow v row → list_all is_name (names_in row) ≡ true
    → has_paths row ≡ true → template_in row ≡ None → data_in row ≡ Some body → put_whole name (data_reading body) ≡ Err fault → IsLeast v fault
data_least v row name body fault h names paths none text e =
    let p = put_whole-err name (data_reading body) fault e in
    subst (IsLeast v) (sym p.2) ((row, body, of-text_row v row h.is, text, p.1), data_above v row h names paths none)

action_least : (v : List ℕ) (row : Row) (fault : CommandFault) → HasRow v row → list_all is_name (names_in row) ≡ true → has_paths row ≡ true
    → row_action row ≡ Err fault → IsLeast v fault
action_least v (template_row name body) fault h names paths e = template_least v (template_row name body) body (put_template name body) fault h names paths refl e
action_least v (partial_row name body) fault h names paths e = template_least v (partial_row name body) body (put_partial name body) fault h names paths refl e
action_least v (data_row name body) fault h names paths e = data_least v (data_row name body) name body fault h names paths refl refl e
action_least v (route_row path shows fills) fault h names paths e = cc
action_least v (redirect_row path target) fault h names paths e = cc
action_least v (remove_row kind name) fault h names paths e = cc
action_least v release_row fault h names paths e = cc

row_least : (names paths : Bool) (v : List ℕ) (row : Row) (fault : CommandFault) → HasRow v row → list_all is_name (names_in row) ≡ names → has_paths row ≡ paths
    → cond {A = Result Action CommandFault} names (cond {A = Result Action CommandFault} paths (row_action row) (Err Path)) (Err Name) ≡ Err fault → IsLeast v fault
row_least true true v row fault h n p e = action_least v row fault h n p e
row_least true false v row fault h n p e = let is : Path ≡ fault = cc in subst (IsLeast v) is ((row, of-text_row v row h.is, p), path_above v row h n)
row_least false paths v row fault h n p e = let is : Name ≡ fault = cc in subst (IsLeast v) is ((row, of-text_row v row h.is, n), name_above v row h)

-- ---- values

no_row : (v : List ℕ) → text_row v ≡ None → Applies v Form
no_row v none row h = let there = text_row-of v row h in cc

short_least : (o : Option Row) (v : List ℕ) (fault : CommandFault) → length v ≤ MAX_VALUE → text_row v ≡ o → read_row (ok_or o Form) ≡ Err fault → IsLeast v fault
short_least None v fault short is e = let same : Form ≡ fault = cc in subst (IsLeast v) same (no_row v is, form_above v short)
short_least (Some row) v fault short is e =
    row_least (list_all is_name (names_in row)) (has_paths row) v row fault (record { short = short; is = is }) refl refl e

value_least : (b : Bool) (v : List ℕ) (fault : CommandFault) → leb (length v) MAX_VALUE ≡ b → read_row (cond {A = Result Row CommandFault} b (ok_or (text_row v) Form) (Err TooLong)) ≡ Err fault → IsLeast v fault
value_least true v fault is e = short_least (text_row v) v fault (leb-true (length v) MAX_VALUE is) refl e
value_least false v fault is e = let same : TooLong ≡ fault = cc in subst (IsLeast v) same (leb-false (length v) MAX_VALUE is, λ other a. above_zero other)

ticket_err : (v : List ℕ) (r : Result Action CommandFault) (fault : CommandFault) → with_ticket (ticket_of v) r ≡ Err fault → r ≡ Err fault
ticket_err v (Ok action) fault e = cc
ticket_err v (Err f) fault e = cc

pub fault_is_least : FaultIsLeast
fault_is_least v fault e = value_least (leb (length v) MAX_VALUE) v fault refl (ticket_err v (read_row (value_row v)) fault e)

-- ---- commands

action_none : (row : Row) (done : Action) → row_action row ≡ Ok done → (fault : TemplateFault) (body : List ℕ) → template_in row ≡ Some body → tree_of body ≡ Err fault → ⊥
action_none (template_row name x) done e fault body is bad = let same : x ≡ body = cc in put_text-ok (put_template name x) done (tree_of x) fault e (ap tree_of same ∙ bad)
action_none (partial_row name x) done e fault body is bad = let same : x ≡ body = cc in put_text-ok (put_partial name x) done (tree_of x) fault e (ap tree_of same ∙ bad)
action_none (data_row name x) done e fault body is bad = cc
action_none (route_row path shows fills) done e fault body is bad = cc
action_none (redirect_row path target) done e fault body is bad = cc
action_none (remove_row kind name) done e fault body is bad = cc
action_none release_row done e fault body is bad = cc

data_none : (row : Row) (done : Action) → row_action row ≡ Ok done → (fault : DataFault) (body : List ℕ) → data_in row ≡ Some body → data_reading body ≡ Err fault → ⊥
data_none (template_row name x) done e fault body is bad = cc
data_none (partial_row name x) done e fault body is bad = cc
data_none (data_row name x) done e fault body is bad = let same : x ≡ body = cc in put_whole-ok name done (data_reading x) fault e (ap data_reading same ∙ bad)
data_none (route_row path shows fills) done e fault body is bad = cc
data_none (redirect_row path target) done e fault body is bad = cc
data_none (remove_row kind name) done e fault body is bad = cc
data_none release_row done e fault body is bad = cc

done_none : (v : List ℕ) (row : Row) (done : Action) → HasRow v row → list_all is_name (names_in row) ≡ true → has_paths row ≡ true → row_action row ≡ Ok done
    → (fault : CommandFault) → ¬ Applies v fault
done_none v row done h names paths e TooLong = not_long v row h
done_none v row done h names paths e Form = not_form v row h
done_none v row done h names paths e Name = not_name v row h names
done_none v row done h names paths e Path = not_path v row h paths
done_none v row done h names paths e (Template f) = not_template v row f h (action_none row done e f)
done_none v row done h names paths e (Data f) = not_data v row f h (data_none row done e f)
done_none v row done h names paths e OutOfMemory = λ a. a

row_none : (names paths : Bool) (v : List ℕ) (row : Row) (done : Action) → HasRow v row → list_all is_name (names_in row) ≡ names → has_paths row ≡ paths
    → cond {A = Result Action CommandFault} names (cond {A = Result Action CommandFault} paths (row_action row) (Err Path)) (Err Name) ≡ Ok done → (fault : CommandFault) → ¬ Applies v fault
row_none true true v row done h n p e = done_none v row done h n p e
row_none true false v row done h n p e = cc
row_none false paths v row done h n p e = cc

short_none : (o : Option Row) (v : List ℕ) (done : Action) → length v ≤ MAX_VALUE → text_row v ≡ o → read_row (ok_or o Form) ≡ Ok done → (fault : CommandFault) → ¬ Applies v fault
short_none None v done short is e = cc
short_none (Some row) v done short is e =
    row_none (list_all is_name (names_in row)) (has_paths row) v row done (record { short = short; is = is }) refl refl e

value_none : (b : Bool) (v : List ℕ) (done : Action) → leb (length v) MAX_VALUE ≡ b → read_row (cond {A = Result Row CommandFault} b (ok_or (text_row v) Form) (Err TooLong)) ≡ Ok done
    → (fault : CommandFault) → ¬ Applies v fault
value_none true v done is e = short_none (text_row v) v done (leb-true (length v) MAX_VALUE is) refl e
value_none false v done is e = cc

ticket_ok : (v : List ℕ) (r : Result Action CommandFault) (order : Order) → with_ticket (ticket_of v) r ≡ Ok order → (done : Action) × (r ≡ Ok done)
ticket_ok v (Ok action) order e = (action, refl)
ticket_ok v (Err f) order e = cc

pub command_has_none : CommandHasNone
command_has_none v order e =
    let p = ticket_ok v (read_row (value_row v)) order e in
    value_none (leb (length v) MAX_VALUE) v p.0 refl p.1
