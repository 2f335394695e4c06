-- Data and its members as they are copied, one after another.
use Rattle.std.proofs.Common.{◌≡◌, ℕ, List, [], ◌∷◌, ◌++◌, Option, Some, None, option_map, option_and_then, String, Global, Ordering, Less, Equal, Greater, string_bytes, string_cmp, nat_cmp, refl, ap, ◌∙◌}
use Rattle.std.proofs.lemmas.Cmp.{nat_list_cmp_total}
use Rattle.std.specs.Cmp.Lexicographic.{slice_cmp}
use Rattle.std.specs.List.{AllByRecursion}
use Rattle.std.specs.List.Sorted.{IsStrictlySortedBy}
use Rattle.std.specs.Map.{keys_of}
use Rattle.std.specs.Ordering.{match_ordering, ordering_reverse}
use Rattle.std.specs.BTreeMap.{insert_entry}
use Rattle.serde_json.specs.View.{view, items_view as json_items, members_view as json_members}
use Rattle.serde_json.specs.declared.value.Value.{Value}
use Rattle.context.specs.Whole.{Whole, Items, no_items, item, Members, no_members, member, whole, whole_items, whole_members}
use Rattle.context.specs.View.{data_view, items_view, members_view}
use Rattle.context.specs.declared.tree.Data.{Data}

abbrev pub JsonEntry : Type 0
JsonEntry = String Global × Value

abbrev pub Entry : Type 0
Entry = String Global × Data

-- members at the end
abbrev pub append_members : Members → Members → Members
append_members no_members more = more
append_members (member k d ms) more = member k d (append_members ms more)

-- items at the end
abbrev pub append_items : Items → Items → Items
append_items no_items more = more
append_items (item d ds) more = item d (append_items ds more)

-- two lists of items, one after another
abbrev pub both_items : Option Items → Option Items → Option Items
both_items a b = option_and_then (λ x. option_map (append_items x) b) a

abbrev pub both_members : Option Members → Option Members → Option Members
both_members a b = option_and_then (λ x. option_map (append_members x) b) a

step_items : (x : Option Whole) (r s : Option Items) → option_and_then (λ w. option_map (item w) (both_items r s)) x ≡ both_items (option_and_then (λ w. option_map (item w) r) x) s
step_items None r s = refl
step_items (Some w) None s = refl
step_items (Some w) (Some r) None = refl
step_items (Some w) (Some r) (Some s) = refl

no_items_first : (s : Option Items) → s ≡ both_items (Some no_items) s
no_items_first None = refl
no_items_first (Some s) = refl

pub whole_items-append : (vs ws : List Value) → whole_items (json_items (vs ++ ws)) ≡ both_items (whole_items (json_items vs)) (whole_items (json_items ws))
whole_items-append [] ws = no_items_first (whole_items (json_items ws))
whole_items-append (v ∷ vs) ws = rw (whole_items-append vs ws) (step_items (whole (view v)) _ _)

pub items_view-append : (vs ws : List Data) → items_view (vs ++ ws) ≡ append_items (items_view vs) (items_view ws)
items_view-append [] ws = refl
items_view-append (v ∷ vs) ws = ap (item (data_view v)) (items_view-append vs ws)

step_members : (k : List ℕ) (x : Option Whole) (r s : Option Members) → option_and_then (λ w. option_map (member k w) (both_members r s)) x ≡ both_members (option_and_then (λ w. option_map (member k w) r) x) s
step_members k None r s = refl
step_members k (Some w) None s = refl
step_members k (Some w) (Some r) None = refl
step_members k (Some w) (Some r) (Some s) = refl

no_members_first : (s : Option Members) → s ≡ both_members (Some no_members) s
no_members_first None = refl
no_members_first (Some s) = refl

pub whole_members-append : (vs ws : List JsonEntry) → whole_members (json_members (vs ++ ws)) ≡ both_members (whole_members (json_members vs)) (whole_members (json_members ws))
whole_members-append [] ws = no_members_first (whole_members (json_members ws))
whole_members-append (v ∷ vs) ws = rw (whole_members-append vs ws) (step_members (string_bytes v.0) (whole (view v.1)) _ _)

-- ---- one more item, or one that is not whole

pub one_more : (vs : List Value) (v : Value) (x : Items) (w : Whole) → whole_items (json_items vs) ≡ Some x → whole (view v) ≡ Some w
    → whole_items (json_items (vs ++ v ∷ [])) ≡ Some (append_items x (item w no_items))
one_more vs v x w so_far here = rw (whole_items-append vs (v ∷ []), so_far, here)

pub one_more_not : (vs ws : List Value) (v : Value) (x : Items) → whole_items (json_items vs) ≡ Some x → whole (view v) ≡ None
    → whole_items (json_items (vs ++ v ∷ ws)) ≡ None
one_more_not vs ws v x so_far here = rw (whole_items-append vs (v ∷ ws), so_far, here)

pub member_more : (vs : List JsonEntry) (v : JsonEntry) (x : Members) (w : Whole) → whole_members (json_members vs) ≡ Some x → whole (view v.1) ≡ Some w
    → whole_members (json_members (vs ++ v ∷ [])) ≡ Some (append_members x (member (string_bytes v.0) w no_members))
member_more vs v x w so_far here = rw (whole_members-append vs (v ∷ []), so_far, here)

pub member_more_not : (vs ws : List JsonEntry) (v : JsonEntry) (x : Members) → whole_members (json_members vs) ≡ Some x → whole (view v.1) ≡ None
    → whole_members (json_members (vs ++ v ∷ ws)) ≡ None
member_more_not vs ws v x so_far here = rw (whole_members-append vs (v ∷ ws), so_far, here)

-- ---- an insert at the end

-- the members, with w at k
abbrev pub put : List ℕ → Whole → Members → Members
put k w no_members = member k w no_members
put k w (member l v ms) = match_ordering (slice_cmp nat_cmp k l) (member k w (member l v ms)) (member l w ms) (member l v (put k w ms))

members_view-match_ordering : (o : Ordering) (a b c : List Entry) → members_view (match_ordering o a b c) ≡ match_ordering o (members_view a) (members_view b) (members_view c)
members_view-match_ordering Less a b c = refl
members_view-match_ordering Equal a b c = refl
members_view-match_ordering Greater a b c = refl

pub members_view-insert_entry : (es : List Entry) (k : String Global) (v : Data) → members_view (insert_entry string_cmp es k v) ≡ put (string_bytes k) (data_view v) (members_view es)
members_view-insert_entry [] k v = refl
members_view-insert_entry (e ∷ es) k v = members_view-match_ordering (string_cmp k e.0) _ _ _ ∙ rw (members_view-insert_entry es k v)

pub below_middle : {V : Type 0} (first : String Global × V) (es : List (String Global × V)) (e : String Global × V) (more : List (String Global × V)) → AllByRecursion (λ y. string_cmp first.0 y ≡ Less) (keys_of (es ++ e ∷ more)) → string_cmp first.0 e.0 ≡ Less
below_middle first [] e more h = h.0
below_middle first (x ∷ es) e more h = below_middle first es e more h.1

first_and_rest : (k : List ℕ) (x : Option Whole) (r : Option Members) (ms : Members) → option_and_then (λ w. option_map (member k w) r) x ≡ Some ms
    → (w : Whole) × (rest : Members) × (r ≡ Some rest) × (ms ≡ member k w rest)
first_and_rest k None r ms e = cc
first_and_rest k (Some w) None ms e = cc
first_and_rest k (Some w) (Some rest) ms e = (w, rest, refl, cc)

-- a key that is above those before it goes last
pub put_last : (done : List JsonEntry) (e : JsonEntry) (more : List JsonEntry) (ms : Members) (w : Whole) → IsStrictlySortedBy string_cmp (keys_of (done ++ e ∷ more))
    → whole_members (json_members done) ≡ Some ms → put (string_bytes e.0) w ms ≡ append_members ms (member (string_bytes e.0) w no_members)
unfolding IsStrictlySortedBy
put_last [] e more ms w h so_far = let none : ms ≡ no_members = cc in rw none
put_last (first ∷ done) e more ms w h so_far =
    let above : slice_cmp nat_cmp (string_bytes e.0) (string_bytes first.0) ≡ Greater =
    nat_list_cmp_total.antisymm (string_bytes e.0) (string_bytes first.0) ∙ ap ordering_reverse (below_middle first done e more h.0) in
    let parts = first_and_rest (string_bytes first.0) (whole (view first.1)) (whole_members (json_members done)) ms so_far in
    rw (parts.3, above) (ap (member (string_bytes first.0) parts.0) (put_last done e more parts.1 w h.1 parts.2))

-- the same of data that is copied
pub copied_last : (done : List Entry) (e : Entry) (more : List Entry) → IsStrictlySortedBy string_cmp (keys_of (done ++ e ∷ more))
    → put (string_bytes e.0) (data_view e.1) (members_view done) ≡ members_view (done ++ e ∷ [])
unfolding IsStrictlySortedBy
copied_last [] e more h = refl
copied_last (first ∷ done) e more h =
    let above : slice_cmp nat_cmp (string_bytes e.0) (string_bytes first.0) ≡ Greater =
    nat_list_cmp_total.antisymm (string_bytes e.0) (string_bytes first.0) ∙ ap ordering_reverse (below_middle first done e more h.0) in
    rw above (ap (member (string_bytes first.0) (data_view first.1)) (copied_last done e more h.1))
