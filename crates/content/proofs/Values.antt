-- A list of values with one more at its end, and a site that stands for it.
use Rattle.std.proofs.Common.{◌≡◌, ℕ, List, [], ◌∷◌, ◌++◌, Bool, true, false, cond, Ok, Err, refl, sym, ap, ◌∙◌, subst, append-nil}
use Rattle.std.proofs.lemmas.List.Elements.{filter_map-append}
use Rattle.site_ids.specs.declared.Ticket.{Ticket}
use Rattle.command.specs.Action.{Order}
use Rattle.command.specs.Effective.{if_command, commands_of, has_ticket, is_same_ticket, firsts, effective}
use Rattle.command.specs.Reading.{value_reading}
use Rattle.command.specs.declared.fault.CommandFault.{CommandFault}
use Rattle.command.proofs.OneMoreLemmas.{firsts_more}
use Rattle.content.specs.Answered.{applied, applied_after, answered}
use Rattle.content.specs.View.{SiteSeen}
use Rattle.content.specs.Standing.{HasContents, IsSiteOf, is_held}
use Rattle.content.specs.declared.applied.Applied.{Applied}
use Rattle.content.specs.declared.applied.Applied.TheVariants.{Repeat, NotACommand}
use Rattle.content.proofs.Tickets.{has_more, is_same_ticket-is}

commands_more : (values : List (List ℕ)) (v : List ℕ) → commands_of (values ++ v ∷ []) ≡ commands_of values ++ commands_of (v ∷ [])
commands_more values v = filter_map-append (λ x. if_command (value_reading x)) values (v ∷ [])

with_command : (values : List (List ℕ)) (v : List ℕ) (o : Order) → value_reading v ≡ Ok o → commands_of (values ++ v ∷ []) ≡ commands_of values ++ o ∷ []
with_command values v o reads = commands_more values v ∙ rw reads

pub with_none : (values : List (List ℕ)) (v : List ℕ) (fault : CommandFault) → value_reading v ≡ Err fault → commands_of (values ++ v ∷ []) ≡ commands_of values
with_none values v fault reads = commands_more values v ∙ rw reads (append-nil (commands_of values))

-- a value that is no command changes nothing
pub not_a_command : (site : SiteSeen) (values : List (List ℕ)) (v : List ℕ) (fault : CommandFault) → value_reading v ≡ Err fault → IsSiteOf site values
    → IsSiteOf site (values ++ v ∷ []) × (NotACommand ≡ applied values v)
not_a_command site values v fault reads is =
    let same = with_none values v fault reads in (
      record {
        tickets = λ t. is.tickets t ∙ sym (ap (has_ticket t) same);
        contents = subst (HasContents site.contents) (sym (ap firsts same)) is.contents;
      },
      sym (ap (applied_after (commands_of values)) reads),
    )

pub effective_more : (values : List (List ℕ)) (v : List ℕ) (o : Order) (b : Bool) → value_reading v ≡ Ok o → has_ticket o.ticket (commands_of values) ≡ b
    → effective (values ++ v ∷ []) ≡ effective values ++ cond b [] (o ∷ [])
effective_more values v o b reads has = ap firsts (with_command values v o reads) ∙ firsts_more (commands_of values) o b has

tickets_more : (values : List (List ℕ)) (v : List ℕ) (o : Order) (t : Ticket) → value_reading v ≡ Ok o
    → has_ticket t (commands_of (values ++ v ∷ [])) ≡ cond (is_same_ticket o.ticket t) true (has_ticket t (commands_of values))
tickets_more values v o t reads = ap (has_ticket t) (with_command values v o reads) ∙ has_more t (commands_of values) o

-- a command whose ticket stands in an earlier one changes nothing
pub repeated : (site : SiteSeen) (values : List (List ℕ)) (v : List ℕ) (o : Order) → value_reading v ≡ Ok o → has_ticket o.ticket (commands_of values) ≡ true → IsSiteOf site values
    → IsSiteOf site (values ++ v ∷ []) × (Repeat ≡ applied values v)
repeated site values v o reads has is = (
  record {
    tickets = λ t. is.tickets t ∙ sym (tickets_more values v o t reads ∙ still t (is_same_ticket o.ticket t) refl);
    contents = subst (HasContents site.contents) (sym (effective_more values v o true reads has ∙ append-nil (effective values))) is.contents;
  },
  sym (ap (applied_after (commands_of values)) reads ∙ rw has),
)
  where
    still : (t : Ticket) (b : Bool) → is_same_ticket o.ticket t ≡ b → cond b true (has_ticket t (commands_of values)) ≡ has_ticket t (commands_of values)
    still t false same = refl
    still t true same = sym (ap (λ x. has_ticket x (commands_of values)) (sym (is_same_ticket-is o.ticket t same)) ∙ has)

-- a command with a new ticket
pub taken : (site new : SiteSeen) (values : List (List ℕ)) (v : List ℕ) (o : Order) (a : Applied) → value_reading v ≡ Ok o → has_ticket o.ticket (commands_of values) ≡ false → IsSiteOf site values
    → ((t : Ticket) → is_held t new.tickets ≡ cond (is_same_ticket o.ticket t) true (is_held t site.tickets))
    → HasContents new.contents (effective values ++ o ∷ []) × (a ≡ answered o.action) → IsSiteOf new (values ++ v ∷ []) × (a ≡ applied values v)
taken site new values v o a reads has is tickets done = (
  record {
    tickets = λ t. tickets t ∙ ap (cond (is_same_ticket o.ticket t) true) (is.tickets t) ∙ sym (tickets_more values v o t reads);
    contents = subst (HasContents new.contents) (sym (effective_more values v o false reads has)) done.0;
  },
  done.1 ∙ sym (ap (applied_after (commands_of values)) reads ∙ rw has),
)
