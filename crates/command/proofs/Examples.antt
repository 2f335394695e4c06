-- Examples, computed from the definitions.
use Rattle.std.proofs.Common.{◌≡◌, ℕ, List, [], ◌∷◌, length, codes, pos, replicate, Some, None, Ok, Err, refl}
use Rattle.std.specs.Str.{is_utf8, chars}
use Rattle.std.specs.Fmt.{digits}
use Rattle.site_ids.specs.declared.Ticket.{Ticket}
use Rattle.context.specs.Whole.{int}
use Rattle.context.specs.declared.fault.DataFault.TheVariants as data_fault
use Rattle.mustache_scan.specs.Cutting.{cut}
use Rattle.mustache_scan.specs.Reading.{reading_within}
use Rattle.mustache_scan.specs.Standalone.{scanned}
use Rattle.mustache_scan.specs.declared.fault.FaultKind.TheVariants as kind
use Rattle.mustache_parse.specs.Tree.{tree_of}
use Rattle.command.specs.Action.{template, partial, page_data, route, redirect, Action, put_template, put_data, put_route, put_redirect, remove, release, Order}
use Rattle.command.specs.Rows.{template_row, partial_row, data_row, route_row, redirect_row, remove_row, row_of}
use Rattle.command.specs.Reading.{row_reading, value_reading}
use Rattle.command.specs.Written.{value_of, line_of}
use Rattle.command.specs.Effective.{effective, firsts}
use Rattle.command.specs.Site.{template_at, partial_at, data_at, route_at, redirect_at}
use Rattle.command.specs.Releases.{release_count, through}
use Rattle.command.specs.declared.fault.CommandFault.TheVariants.{TooLong, Form, Name, Path, Template, Data}
use lib.Utf8.{encode}

-- ---- rows of texts

template_text : row_of (codes "put template t\nHello, {{subject}}!\n") ≡ Some (template_row (codes "t") (codes "Hello, {{subject}}!\n"))
template_text = refl

later_newlines : row_of (codes "put partial a\nb\nc") ≡ Some (partial_row (codes "a") (codes "b\nc"))
later_newlines = refl

data_text : row_of (codes "put data d\n{\"subject\":\"world\"}") ≡ Some (data_row (codes "d") (codes "{\"subject\":\"world\"}"))
data_text = refl

route_text : row_of (codes "put route / t d\n") ≡ Some (route_row (codes "/") (codes "t") (codes "d"))
route_text = refl

remove_text : row_of (codes "remove route /old\n") ≡ Some (remove_row route (codes "/old"))
remove_text = refl

redirect_text : row_of (codes "put redirect /old /new\n") ≡ Some (redirect_row (codes "/old") (codes "/new"))
redirect_text = refl

remove_redirect_text : row_of (codes "remove redirect /old\n") ≡ Some (remove_row redirect (codes "/old"))
remove_redirect_text = refl

more_after_redirect : row_of (codes "put redirect /old /new\n\n") ≡ None
more_after_redirect = refl

one_path_too_few : row_of (codes "put redirect /old\n") ≡ None
one_path_too_few = refl

empty_word : row_of (codes "remove data \n") ≡ Some (remove_row page_data [])
empty_word = refl

no_newline : row_of (codes "release") ≡ None
no_newline = refl

more_after_release : row_of (codes "release\n\n") ≡ None
more_after_release = refl

two_spaces : row_of (codes "put template  t\n") ≡ None
two_spaces = refl

one_name_too_few : row_of (codes "put route / t\n") ≡ None
one_name_too_few = refl

other_word : row_of (codes "Put data d\n{}") ≡ None
other_word = refl

-- ---- what rows do

longest_name : row_reading (remove_row template (replicate 64 97)) ≡ Ok (remove template (replicate 64 97))
longest_name = refl

name_too_long : row_reading (remove_row template (replicate 65 97)) ≡ Err Name
name_too_long = refl

name_before_path : row_reading (route_row (codes "x") (codes "t") (codes "d?")) ≡ Err Name
name_before_path = refl

own_path : row_reading (route_row (codes "/_submit") (codes "t") (codes "d")) ≡ Err Path
own_path = refl

release_path : row_reading (remove_row route (codes "/@1")) ≡ Err Path
release_path = refl

leads_to_a_page : row_reading (redirect_row (codes "/a") (codes "/b?c")) ≡ Ok (put_redirect (codes "/a") (codes "/b?c"))
leads_to_a_page = refl

leads_to_a_host : row_reading (redirect_row (codes "/a") (codes "//b")) ≡ Err Path
leads_to_a_host = refl

from_two_slashes : row_reading (redirect_row (codes "//a") (codes "/")) ≡ Ok (put_redirect (codes "//a") (codes "/"))
from_two_slashes = refl

leads_to_the_servers_own : row_reading (redirect_row (codes "/a") (codes "/_newest")) ≡ Err Path
leads_to_the_servers_own = refl

leads_elsewhere : row_reading (redirect_row (codes "/a") (codes "http://b/")) ≡ Err Path
leads_elsewhere = refl

name_before_text : row_reading (template_row (codes "t\t") (codes "{{#a}}{{/b}}")) ≡ Err Name
name_before_text = refl

name_before_data : row_reading (data_row (codes "d?") (codes "{")) ≡ Err Name
name_before_data = refl

wrong_end : row_reading (template_row (codes "t") (codes "{{#a}}{{/b}}")) ≡ Err (Template (record { kind = kind.WrongEnd; place = 6 }))
unfolding tree_of scanned cut reading_within
wrong_end = refl

-- ---- values

abbrev ticket : Ticket
ticket = record { editor = 1; number = 5 }

abbrev ordered : Action → Order
ordered action = record { ticket = ticket; action = action }

release_bytes : value_of ticket (codes "release\n") ≡ 0 ∷ 0 ∷ 0 ∷ 1 ∷ 0 ∷ 0 ∷ 0 ∷ 0 ∷ 0 ∷ 0 ∷ 0 ∷ 5 ∷ 114 ∷ 101 ∷ 108 ∷ 101 ∷ 97 ∷ 115 ∷ 101 ∷ 10 ∷ []
release_bytes = refl

release_value : value_reading (value_of ticket (codes "release\n")) ≡ Ok (ordered release)
unfolding is_utf8 chars encode
release_value = refl

no_text : value_reading (value_of ticket (255 ∷ codes "release\n")) ≡ Err Form
unfolding is_utf8 chars encode
no_text = refl

ticket_cut_short : value_reading (0 ∷ 0 ∷ 0 ∷ 1 ∷ 0 ∷ 0 ∷ 0 ∷ 0 ∷ 0 ∷ 0 ∷ 0 ∷ []) ≡ Err Form
ticket_cut_short = refl

empty_value : value_reading [] ≡ Err Form
empty_value = refl

too_long : value_reading (replicate 32769 0) ≡ Err TooLong
too_long = refl

-- ---- removes

a_remove : value_reading (value_of ticket (codes "remove data d\n")) ≡ Ok (ordered (remove page_data (codes "d")))
unfolding is_utf8 chars encode
a_remove = refl

a_removed_path : row_reading (remove_row route (codes "/_x")) ≡ Err Path
a_removed_path = refl

-- ---- lines

template_line : line_of (Template (record { kind = kind.WrongEnd; place = 6 })) ≡ codes "5 Template 6 WrongEnd at 6"
unfolding digits
template_line = refl

data_line : line_of (Data data_fault.NotWhole) ≡ codes "6 Data 2 NotWhole"
data_line = refl

-- ---- sites and releases

abbrev by : ℕ → Action → Order
by number action = record { ticket = record { editor = 1; number = number }; action = action }

abbrev story : List Order
story =
    by 1 (put_template (codes "a") (codes "old"))
    ∷ by 2 (put_data (codes "a") (int (pos 7)))
    ∷ by 3 release
    ∷ by 4 (put_template (codes "a") (codes "new"))
    ∷ by 5 (put_route (codes "/") (codes "a") (codes "a"))
    ∷ by 6 release
    ∷ by 7 (remove template (codes "a"))
    ∷ []

removed : template_at (codes "a") story ≡ None
removed = refl

other_kind_stays : data_at (codes "a") story ≡ Some (int (pos 7))
other_kind_stays = refl

other_kind : partial_at (codes "a") story ≡ None
other_kind = refl

routed : route_at (codes "/") story ≡ Some (codes "a", codes "a")
routed = refl

led : redirect_at (codes "/") story ≡ None
led = refl

led_on : redirect_at (codes "/o") (by 1 (put_redirect (codes "/o") (codes "/a")) ∷ by 2 (put_redirect (codes "/o") (codes "/b")) ∷ by 3 (remove route (codes "/o")) ∷ []) ≡ Some (codes "/b")
led_on = refl

led_no_more : redirect_at (codes "/o") (by 1 (put_redirect (codes "/o") (codes "/a")) ∷ by 2 (remove redirect (codes "/o")) ∷ []) ≡ None
led_no_more = refl

second_release : template_at (codes "a") (through story 2) ≡ Some (codes "new")
second_release = refl

first_release : template_at (codes "a") (through story 1) ≡ Some (codes "old")
first_release = refl

first_list : length (through story 1) ≡ 3
first_list = refl

no_third : release_count story ≡ 2
no_third = refl

-- a ticket that came earlier does not count again, nor do values that are not commands
repeated : firsts (by 1 release ∷ by 2 (remove partial (codes "p")) ∷ by 1 (remove route (codes "/")) ∷ []) ≡ by 1 release ∷ by 2 (remove partial (codes "p")) ∷ []
repeated = refl

repeated_values : effective (value_of ticket (codes "release\n") ∷ [] ∷ value_of ticket (codes "remove data d\n") ∷ []) ≡ ordered release ∷ []
unfolding is_utf8 chars encode
repeated_values = refl
