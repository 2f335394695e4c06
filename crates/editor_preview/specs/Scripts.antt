-- What a browser gets of a page.
use Rattle.std.specs.Prelude.{ℕ, ◌==◌, ◌&&◌, ◌||◌, not, nat_eq, Bool, if◌then◌else◌, List, ◌++◌, codes}
use Rattle.std.specs.List.{ends_with}
use Rattle.std.specs.Fmt.{decimal}
use Rattle.release.specs.Page.{Page}
use Rattle.editor_preview.specs.declared.script.TheConstants.{BEFORE, BEHIND}

abbrev pub ends_in : List ℕ → List ℕ → Bool
ends_in path ending = ends_with nat_eq path ending

-- no ending says that it is another kind of file
abbrev pub is_html : List ℕ → Bool
is_html path =
    not (ends_in path (codes ".css") || ends_in path (codes ".js") || ends_in path (codes ".json")
    || ends_in path (codes ".svg") || ends_in path (codes ".txt") || ends_in path (codes ".xml"))

abbrev pub script : ℕ → List ℕ
script number = BEFORE.now ++ (decimal number ++ BEHIND.now)

-- a page that is shown and is HTML has the script after it; any other one is as it is
abbrev pub in_browser : ℕ → List ℕ → Page → Page
in_browser number path page =
    if page.status == 200 && is_html path
    then record { status = page.status; body = page.body ++ script number; location = page.location }
    else page
