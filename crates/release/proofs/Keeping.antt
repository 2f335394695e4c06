-- What is kept beside the values, after one more value.
use Rattle.std.proofs.Common.{◌≡◌, ◌≢◌, ◌⊎◌, inl, inr, ℕ, zero, suc, ◌+◌, ◌<◌, ◌≤◌, List, [], ◌∷◌, ◌++◌, length, Bool, true, false, cond, Some, Result, Ok, Err, refl, sym, ap, subst, ◌∙◌, arith, append-nil}
use Rattle.std.proofs.lemmas.List.{length-append}
use Rattle.std.proofs.lemmas.Option.{none-some, same_Some, slice_get_within}
use Rattle.std.specs.BTreeMap.{BTreeMap, get, is_at, Updates}
use Rattle.std.specs.List.{slice_get}
use Rattle.std.specs.Map.{lookup}
use Rattle.std.specs.Option.{is_some}
use Rattle.site_ids.specs.declared.TheConstants.{MAX_INSTANCE}
use Rattle.site_ids.specs.declared.Ticket.{Ticket}
use Rattle.command.specs.Action.{Action, put_template, put_partial, put_data, put_route, put_redirect, remove, release, Order}
use Rattle.command.specs.Effective.{is_same_ticket, commands_of, has_ticket, firsts, effective}
use Rattle.command.specs.Reading.{value_reading}
use Rattle.command.specs.Releases.{release_count, through}
use Rattle.command.specs.declared.fault.CommandFault.{CommandFault}
use Rattle.command.proofs.EffectiveLemmas.{effective_grows}
use Rattle.command.proofs.ReleaseLemmas.{release_stays}
use Rattle.content.specs.Answered.{applied, applied_after, answered}
use Rattle.content.specs.View.{ContentsSeen}
use Rattle.content.specs.Standing.{HasContents}
use Rattle.content.specs.declared.applied.Applied.{Applied}
use Rattle.content.specs.declared.applied.Applied.TheVariants.{Changed, Released, Repeat, NotACommand}
use Rattle.content.proofs.Tickets.{same_by_order}
use Rattle.content.proofs.Values.{effective_more, with_none}
use Rattle.release.specs.Receipts.{receipt_of}
use Rattle.release.specs.ReleaseSite.{IsSiteOfRelease}
use Rattle.release.specs.Keeping.{Keeps, ticket_cmp}
use Rattle.release.specs.declared.kept.Kept.{Kept}
use Rattle.release.proofs.MoreValues.{repeat_more, one_if_released, counts, through_last}
use Rattle.release.proofs.Receipts.{has_receipt, no_command_keeps, repeat_keeps, new_receipt, repeat_has_receipt}

-- ---- what a value is answered with

-- a command that has an effect is no repeat, and does what its action does
pub is_new : (values : List (List ℕ)) (v : List ℕ) (o : Order) → value_reading v ≡ Ok o → applied values v ≢ Repeat → has_ticket o.ticket (commands_of values) ≡ false
is_new values v o reads new = by (has_ticket o.ticket (commands_of values)) refl
  where
    by : (b : Bool) → has_ticket o.ticket (commands_of values) ≡ b → b ≡ false
    by false has = refl
    by true has = absurd (new (ap (applied_after (commands_of values)) reads ∙ ap (λ b. cond b Repeat (answered o.action)) has))

-- what is no command has no effect
pub passes : (values : List (List ℕ)) (v : List ℕ) (fault : CommandFault) → value_reading v ≡ Err fault → (applied values v ≢ Changed) × (applied values v ≢ Released)
passes values v fault reads =
    let is : applied values v ≡ NotACommand = ap (applied_after (commands_of values)) reads in
    (λ e. let never : NotACommand ≡ Changed = sym is ∙ e in cc, λ e. let never : NotACommand ≡ Released = sym is ∙ e in cc)

-- whether a ticket is kept says whether it has a receipt
pub is_kept : (values now : List (List ℕ)) (receipts : BTreeMap Ticket ℕ) (t u : Ticket) (told b : Bool) → values ≡ now → ((k : Ticket) → get ticket_cmp receipts k ≡ receipt_of k values)
    → told ≡ is_some (get ticket_cmp receipts t) → told ≡ b → t ≡ u → is_some (receipt_of u now) ≡ b
is_kept values now receipts t u told b same found tells is alike =
    ap (λ x. is_some (receipt_of x now)) (sym alike) ∙ ap (λ vs. is_some (receipt_of t vs)) (sym same) ∙ ap is_some (sym (found t)) ∙ sym tells ∙ is

-- a command whose ticket has a receipt has no effect
pub repeats : (values : List (List ℕ)) (v : List ℕ) (o : Order) → value_reading v ≡ Ok o → is_some (receipt_of o.ticket values) ≡ true
    → (applied values v ≡ Repeat) × (applied values v ≢ Changed) × (applied values v ≢ Released)
repeats values v o reads had =
    let is : applied values v ≡ Repeat = (repeat_has_receipt values v o reads).1 had in
    (is, λ e. let never : Repeat ≡ Changed = sym is ∙ e in cc, λ e. let never : Repeat ≡ Released = sym is ∙ e in cc)

-- a command whose ticket has none has the effect of its action, and comes after the others
pub is_first : (values : List (List ℕ)) (v : List ℕ) (o : Order) → value_reading v ≡ Ok o → is_some (receipt_of o.ticket values) ≡ false
    → (applied values v ≡ answered o.action) × (effective (values ++ v ∷ []) ≡ effective values ++ o ∷ [])
is_first values v o reads had =
    let never : has_ticket o.ticket (commands_of values) ≡ false = has_receipt o.ticket values ∙ had in
    (ap (applied_after (commands_of values)) reads ∙ ap (λ b. cond b Repeat (answered o.action)) never, effective_more values v o false reads never)

-- ---- the sites of releases

-- further values leave the site of a release that of it
pub still : (values more : List (List ℕ)) (n : ℕ) (site : ContentsSeen) → n ≤ release_count (effective values) → IsSiteOfRelease values n site → IsSiteOfRelease (values ++ more) n site
still values more n site below is =
    let grows = effective_grows values more in
    subst (HasContents site) (sym (ap (λ os. through os n) grows.1 ∙ release_stays (effective values) grows.0 n below)) is

abbrev AreKept : List (List ℕ) → List ContentsSeen → Type 0
AreKept values kept = (place : ℕ) (site : ContentsSeen) → slice_get kept place ≡ Some site → IsSiteOfRelease values (suc place) site

all_still : (values : List (List ℕ)) (v : List ℕ) (kept : List ContentsSeen) → length kept ≡ release_count (effective values) → AreKept values kept → AreKept (values ++ v ∷ []) kept
all_still values v kept count each place site at =
    let within : place < length kept = slice_get_within kept place site at in
    still values (v ∷ []) (suc place) site (omega (arith, within, count)) (each place site at)

one_more : (kept : List ContentsSeen) (site : ContentsSeen) (place : ℕ) (found : ContentsSeen) → slice_get (kept ++ site ∷ []) place ≡ Some found → (slice_get kept place ≡ Some found) ⊎ ((place ≡ length kept) × (site ≡ found))
one_more [] site zero found at = inr (refl, same_Some site found at)
one_more [] site (suc place) found at = absurd (none-some found at)
one_more (s ∷ kept) site zero found at = inl at
one_more (s ∷ kept) site (suc place) found at = next (one_more kept site place found at)
  where
    next : (slice_get kept place ≡ Some found) ⊎ ((place ≡ length kept) × (site ≡ found)) → (slice_get kept place ≡ Some found) ⊎ ((suc place ≡ suc (length kept)) × (site ≡ found))
    next (inl there) = inl there
    next (inr last) = inr (ap suc last.0, last.1)

-- the site that a release leaves is that of it
newest_site : (values : List (List ℕ)) (v : List ℕ) (o : Order) (n : ℕ) (site : ContentsSeen) → value_reading v ≡ Ok o → applied values v ≢ Repeat → release_count (effective values) < n
    → HasContents site (effective (values ++ v ∷ [])) → IsSiteOfRelease (values ++ v ∷ []) n site
newest_site values v o n site reads new fewer stands =
    let is : effective (values ++ v ∷ []) ≡ effective values ++ o ∷ [] = effective_more values v o false reads (is_new values v o reads new) in
    subst (HasContents site) (is ∙ sym (through_last (effective values) o n fewer) ∙ sym (ap (λ os. through os n) is)) stands

-- ---- how many releases

no_more : (values : List (List ℕ)) (v : List ℕ) → applied values v ≢ Released → release_count (effective (values ++ v ∷ [])) ≡ release_count (effective values)
no_more values v none = counts values v ∙ by (applied values v) none
  where
    by : (a : Applied) → a ≢ Released → release_count (effective values) + one_if_released a ≡ release_count (effective values)
    by Changed none = omega arith
    by Released none = absurd (none refl)
    by Repeat none = omega arith
    by NotACommand none = omega arith

-- ---- one more value

longer : (values : List (List ℕ)) (v : List ℕ) → length values < MAX_INSTANCE → length (values ++ v ∷ []) ≤ MAX_INSTANCE
longer values v few = omega (arith, length-append values (v ∷ []), few)

-- a value that has no effect
pub passed : (values : List (List ℕ)) (v : List ℕ) (live : ContentsSeen) (kept : List ContentsSeen) (receipts : BTreeMap Ticket ℕ) → Keeps values live kept receipts → length values < MAX_INSTANCE
    → applied values v ≢ Changed → applied values v ≢ Released → Keeps (values ++ v ∷ []) live kept receipts
passed values v live kept receipts is few unchanged none = by (value_reading v) refl
  where
    more : HasContents live (effective (values ++ v ∷ [])) → ((t : Ticket) → receipt_of t (values ++ v ∷ []) ≡ receipt_of t values) → Keeps (values ++ v ∷ []) live kept receipts
    more stands same = record {
      few = longer values v few;
      stands = stands;
      count = is.count ∙ sym (no_more values v none);
      each = all_still values v kept is.count is.each;
      found = λ t. is.found t ∙ sym (same t);
    }

    effect : (a : Action) → (answered a ≡ Changed) ⊎ (answered a ≡ Released)
    effect (put_template n b) = inl refl
    effect (put_partial n b) = inl refl
    effect (put_data n w) = inl refl
    effect (put_route p s f) = inl refl
    effect (put_redirect p t) = inl refl
    effect (remove k n) = inl refl
    effect release = inr refl

    with : (o : Order) (b : Bool) → value_reading v ≡ Ok o → has_ticket o.ticket (commands_of values) ≡ b → Keeps (values ++ v ∷ []) live kept receipts
    with o true reads has = more (subst (HasContents live) (sym (repeat_more values v o reads has)) is.stands) (λ t. repeat_keeps t values v o reads (sym (has_receipt o.ticket values) ∙ has))
    with o false reads has =
        let done : applied values v ≡ answered o.action = ap (applied_after (commands_of values)) reads ∙ ap (λ b. cond b Repeat (answered o.action)) has in
        either (effect o.action) done
      where
        either : (answered o.action ≡ Changed) ⊎ (answered o.action ≡ Released) → applied values v ≡ answered o.action → Keeps (values ++ v ∷ []) live kept receipts
        either (inl changed) done = absurd (unchanged (done ∙ changed))
        either (inr released) done = absurd (none (done ∙ released))

    by : (r : Result Order CommandFault) → value_reading v ≡ r → Keeps (values ++ v ∷ []) live kept receipts
    by (Err fault) reads = more (subst (HasContents live) (sym (ap firsts (with_none values v fault reads))) is.stands) (λ t. no_command_keeps t values v fault reads)
    by (Ok o) reads = with o (has_ticket o.ticket (commands_of values)) reads refl

-- the receipts with that of a new command
receipts_more : (values : List (List ℕ)) (v : List ℕ) (o : Order) (i : ℕ) (receipts new : BTreeMap Ticket ℕ) → ((t : Ticket) → get ticket_cmp receipts t ≡ receipt_of t values) → value_reading v ≡ Ok o
    → applied values v ≢ Repeat → i ≡ 1 + length values → Updates ticket_cmp receipts new o.ticket (Some i) → (t : Ticket) → get ticket_cmp new t ≡ receipt_of t (values ++ v ∷ [])
receipts_more values v o i receipts new are reads first place updates t =
    updates.0 t ∙ ap (λ b. cond b (Some i) (get ticket_cmp receipts t)) (same_by_order o.ticket t)
    ∙ ap (λ n. cond (is_same_ticket o.ticket t) (Some n) (get ticket_cmp receipts t)) place ∙ ap (cond (is_same_ticket o.ticket t) (Some (1 + length values))) (are t)
    ∙ sym (new_receipt t values v o reads (sym (has_receipt o.ticket values) ∙ is_new values v o reads first))

-- a value that puts or removes a name
pub changed : (values : List (List ℕ)) (v : List ℕ) (o : Order) (i : ℕ) (live site : ContentsSeen) (kept : List ContentsSeen) (receipts new : BTreeMap Ticket ℕ) → Keeps values live kept receipts
    → length values < MAX_INSTANCE → value_reading v ≡ Ok o → applied values v ≡ Changed → HasContents site (effective (values ++ v ∷ [])) → i ≡ 1 + length values → Updates ticket_cmp receipts new o.ticket (Some i)
    → Keeps (values ++ v ∷ []) site kept new
changed values v o i live site kept receipts new is few reads done stands place updates =
    let none : applied values v ≢ Released = λ e. let never : Changed ≡ Released = sym done ∙ e in cc in
    let first : applied values v ≢ Repeat = λ e. let never : Changed ≡ Repeat = sym done ∙ e in cc in
    record {
      few = longer values v few;
      stands = stands;
      count = is.count ∙ sym (no_more values v none);
      each = all_still values v kept is.count is.each;
      found = receipts_more values v o i receipts new is.found reads first place updates;
    }

-- a value that is a release, whose site is kept
pub released : (values : List (List ℕ)) (v : List ℕ) (o : Order) (i : ℕ) (live site : ContentsSeen) (kept : List ContentsSeen) (receipts new : BTreeMap Ticket ℕ) → Keeps values live kept receipts
    → length values < MAX_INSTANCE → value_reading v ≡ Ok o → applied values v ≡ Released → HasContents site (effective (values ++ v ∷ [])) → i ≡ 1 + length values → Updates ticket_cmp receipts new o.ticket (Some i)
    → Keeps (values ++ v ∷ []) site (kept ++ site ∷ []) new
released values v o i live site kept receipts new is few reads done stands place updates =
    let first : applied values v ≢ Repeat = λ e. let never : Released ≡ Repeat = sym done ∙ e in cc in
    record {
      few = longer values v few;
      stands = stands;
      count =
          length-append kept (site ∷ []) ∙ ap (λ n. n + 1) is.count ∙ ap (λ a. release_count (effective values) + one_if_released a) (sym done) ∙ sym (counts values v);
      each = λ at found there. which at found (one_more kept site at found there);
      found = receipts_more values v o i receipts new is.found reads first place updates;
    }
  where
    which : (at : ℕ) (found : ContentsSeen) → (slice_get kept at ≡ Some found) ⊎ ((at ≡ length kept) × (site ≡ found)) → IsSiteOfRelease (values ++ v ∷ []) (suc at) found
    which at found (inl there) = all_still values v kept is.count is.each at found there
    which at found (inr last) =
        let first : applied values v ≢ Repeat = λ e. let never : Released ≡ Repeat = sym done ∙ e in cc in
        newest_site values v o (suc at) found reads first (omega (arith, last.0, is.count)) (subst (λ s. HasContents s (effective (values ++ v ∷ []))) last.1 stands)

-- ---- the same of what is kept in memory, whatever room is made in it

abbrev pub IsWhole : Kept ContentsSeen → Type 0
IsWhole k = Keeps (k.fed.items) k.live k.sites.items k.receipts

abbrev Fed : Kept ContentsSeen → Kept ContentsSeen → List ℕ → Type 0
Fed old new v = new.fed.items ≡ old.fed.items ++ v ∷ []

pub whole_still : (old new : Kept ContentsSeen) → new.fed.items ≡ old.fed.items → new.live ≡ old.live → new.sites.items ≡ old.sites.items → new.receipts.entries ≡ old.receipts.entries → IsWhole old → IsWhole new
whole_still old new fed live sites receipts is =
    let found : Keeps (old.fed.items) old.live old.sites.items new.receipts = record {
      few = is.few;
      stands = is.stands;
      count = is.count;
      each = is.each;
      found = λ t. ap (λ es. lookup (is_at (ticket_cmp t)) es) receipts ∙ is.found t;
    } in
    rw (fed, live, sites) found

pub whole_passed : (old new : Kept ContentsSeen) (v : List ℕ) (values : List (List ℕ)) → old.fed.items ≡ values → new.live ≡ old.live → new.sites.items ≡ old.sites.items → new.receipts ≡ old.receipts → Fed old new v
    → IsWhole old → length values < MAX_INSTANCE → applied values v ≢ Changed → applied values v ≢ Released → IsWhole new
whole_passed old new v values are live sites receipts fed is few unchanged none =
    let more = fed ∙ ap (λ vs. vs ++ v ∷ []) are in
    rw (more, live, sites, receipts) (passed values v old.live old.sites.items old.receipts (subst (λ vs. Keeps vs old.live old.sites.items old.receipts) are is) few unchanged none)

pub whole_changed : (old new : Kept ContentsSeen) (v : List ℕ) (values : List (List ℕ)) (o : Order) (ticket : Ticket) (site : ContentsSeen) → old.fed.items ≡ values → Fed old new v
    → new.live ≡ site → new.sites.items ≡ old.sites.items ++ [] → Updates ticket_cmp old.receipts new.receipts ticket (Some (length old.fed.items + 1)) → o.ticket ≡ ticket
    → IsWhole old → length values < MAX_INSTANCE → value_reading v ≡ Ok o → Changed ≡ applied values v → HasContents site (effective (values ++ v ∷ [])) → IsWhole new
whole_changed old new v values o ticket site are fed live sites updates same is few reads done stands =
    let more = fed ∙ ap (λ vs. vs ++ v ∷ []) are in
    let long : length old.fed.items ≡ length values = ap length are in
    rw (more, live, sites ∙ append-nil old.sites.items)
    (changed values v o (length old.fed.items + 1) old.live site old.sites.items old.receipts new.receipts (subst (λ vs. Keeps vs old.live old.sites.items old.receipts) are is) few reads (sym done) stands
    (omega (arith, long)) (subst (λ t. Updates ticket_cmp old.receipts new.receipts t (Some (length old.fed.items + 1))) (sym same) updates))

pub whole_released : (old new : Kept ContentsSeen) (v : List ℕ) (values : List (List ℕ)) (o : Order) (ticket : Ticket) (site copy : ContentsSeen) → old.fed.items ≡ values → Fed old new v
    → new.live ≡ site → new.sites.items ≡ old.sites.items ++ copy ∷ [] → copy ≡ site → Updates ticket_cmp old.receipts new.receipts ticket (Some (length old.fed.items + 1)) → o.ticket ≡ ticket
    → IsWhole old → length values < MAX_INSTANCE → value_reading v ≡ Ok o → Released ≡ applied values v → HasContents site (effective (values ++ v ∷ [])) → IsWhole new
whole_released old new v values o ticket site copy are fed live sites alike updates same is few reads done stands =
    let more = fed ∙ ap (λ vs. vs ++ v ∷ []) are in
    let long : length old.fed.items ≡ length values = ap length are in
    rw (more, live, sites ∙ ap (λ s. old.sites.items ++ s ∷ []) alike)
    (released values v o (length old.fed.items + 1) old.live site old.sites.items old.receipts new.receipts (subst (λ vs. Keeps vs old.live old.sites.items old.receipts) are is) few reads (sym done) stands
    (omega (arith, long)) (subst (λ t. Updates ticket_cmp old.receipts new.receipts t (Some (length old.fed.items + 1))) (sym same) updates))
