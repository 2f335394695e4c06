-- The table of commands: how a text spells each row.
use Rattle.std.specs.Prelude.{ℕ, List, [], ◌∷◌, ◌++◌, length, codes, ◌==◌, ◌&&◌, not, if◌then◌else◌, Bool}
use Rattle.std.specs.Prelude.{IsTrue, Option, Some, None, option_map, option_and_then, ⊤}
use Rattle.std.specs.List.{list_all}
use Rattle.std.specs.Str.{bytes_eq}
use Rattle.command.specs.Action.{Kind, template, partial, page_data, route, redirect}
use Rattle.command.specs.Cuts.{after_front, cut_at}

-- a row of the table: the words of its first line that vary, and what follows that line
pub data Row : Type 0 where
  template_row : (name body : List ℕ) → Row
  partial_row : (name body : List ℕ) → Row
  data_row : (name body : List ℕ) → Row
  route_row : (path shows fills : List ℕ) → Row
  redirect_row : (path target : List ℕ) → Row
  remove_row : Kind → List ℕ → Row
  release_row : Row

abbrev pub kind_word : Kind → List ℕ
kind_word template = codes "template"
kind_word partial = codes "partial"
kind_word page_data = codes "data"
kind_word route = codes "route"
kind_word redirect = codes "redirect"

-- the text of a row
abbrev pub spelled : Row → List ℕ
spelled (template_row name body) = codes "put template " ++ (name ++ (10 ∷ body))
spelled (partial_row name body) = codes "put partial " ++ (name ++ (10 ∷ body))
spelled (data_row name body) = codes "put data " ++ (name ++ (10 ∷ body))
spelled (route_row path shows fills) =
    codes "put route " ++ (path ++ (32 ∷ (shows ++ (32 ∷ (fills ++ (10 ∷ []))))))
spelled (redirect_row path target) = codes "put redirect " ++ (path ++ (32 ∷ (target ++ (10 ∷ []))))
spelled (remove_row kind name) = codes "remove " ++ (kind_word kind ++ (32 ∷ (name ++ (10 ∷ []))))
spelled release_row = codes "release\n"

-- a word has no space and no newline
abbrev pub is_word : List ℕ → Bool
is_word word = list_all (λ b. not (b == 32) && not (b == 10)) word

abbrev pub IsWord : List ℕ → Type 0
IsWord word = IsTrue (is_word word)

abbrev pub HasWords : Row → Type 0
HasWords (template_row name body) = IsWord name
HasWords (partial_row name body) = IsWord name
HasWords (data_row name body) = IsWord name
HasWords (route_row path shows fills) = IsWord path × IsWord shows × IsWord fills
HasWords (redirect_row path target) = IsWord path × IsWord target
HasWords (remove_row kind name) = IsWord name
HasWords release_row = ⊤

-- ---- the row of a text, computed

abbrev pub is_empty : List ℕ → Bool
is_empty text = length text == 0

abbrev pub if_named : List ℕ × List ℕ → Option (List ℕ × List ℕ)
if_named p = if is_word p.0 then Some p else None

-- the word after a front, up to a newline, and what follows it
abbrev pub named : List ℕ → List ℕ → Option (List ℕ × List ℕ)
named front text = option_and_then if_named (option_and_then (cut_at 10) (after_front front text))

abbrev pub put_of : List ℕ → (List ℕ → List ℕ → Row) → List ℕ → Option Row
put_of front row text = option_map (λ p. row p.0 p.1) (named front text)

abbrev pub if_bare : Kind → List ℕ × List ℕ → Option Row
if_bare kind p = if is_empty p.1 then Some (remove_row kind p.0) else None

abbrev pub remove_of : Kind → List ℕ → Option Row
remove_of kind text =
    option_and_then (if_bare kind) (named (codes "remove " ++ (kind_word kind ++ (32 ∷ []))) text)

abbrev pub if_route : List ℕ → List ℕ → List ℕ × List ℕ → Option Row
if_route path shows p =
    if is_word path && (is_word shows && (is_word p.0 && is_empty p.1)) then Some
    (route_row path shows p.0) else None

abbrev pub names_of : List ℕ → List ℕ × List ℕ → Option Row
names_of path p = option_and_then (if_route path p.0) (cut_at 10 p.1)

abbrev pub path_of : List ℕ × List ℕ → Option Row
path_of p = option_and_then (names_of p.0) (cut_at 32 p.1)

abbrev pub route_of : List ℕ → Option Row
route_of text = option_and_then path_of (option_and_then (cut_at 32) (after_front (codes "put route ") text))

abbrev pub if_redirect : List ℕ → List ℕ × List ℕ → Option Row
if_redirect path p =
    if is_word path && (is_word p.0 && is_empty p.1) then Some (redirect_row path p.0) else None

abbrev pub target_of : List ℕ × List ℕ → Option Row
target_of p = option_and_then (if_redirect p.0) (cut_at 10 p.1)

abbrev pub redirect_of : List ℕ → Option Row
redirect_of text =
    option_and_then target_of (option_and_then (cut_at 32) (after_front (codes "put redirect ") text))

abbrev pub first_of : List (Option Row) → Option Row
first_of [] = None
first_of (Some row ∷ later) = Some row
first_of (None ∷ later) = first_of later

-- the row of a remove of any kind except a redirect
abbrev pub removes_of : List ℕ → Option Row
removes_of text = first_of (
    remove_of template text
    ∷ remove_of partial text
    ∷ remove_of page_data text
    ∷ remove_of route text
    ∷ [])

abbrev pub release_of : List ℕ → Option Row
release_of text = if bytes_eq text (codes "release\n") then Some release_row else None

-- the row that a text spelled before there were redirects
abbrev pub older_row_of : List ℕ → Option Row
older_row_of text = first_of (
    put_of (codes "put template ") template_row text
    ∷ put_of (codes "put partial ") partial_row text
    ∷ put_of (codes "put data ") data_row text
    ∷ route_of text
    ∷ removes_of text
    ∷ release_of text
    ∷ [])

-- the row that a text spells
abbrev pub row_of : List ℕ → Option Row
row_of text = first_of (older_row_of text ∷ redirect_of text ∷ remove_of redirect text ∷ [])
