-- What holds of ledgers, whatever was planned, interrupted and received.
use Rattle.std.specs.Prelude.{◌≡◌, ◌↔◌, ◌-◌, ℕ, List, [], map, true, IsSome, Contains}
use Rattle.editor_ledger.specs.Books.{Given, Book, fresh}
use Rattle.editor_ledger.specs.Heads.{head_of, are_about_one, is_put}
use Rattle.editor_ledger.specs.Histories.{Event, receives, after_all}
use Rattle.editor_ledger.specs.Past.{texts_at}
use Rattle.editor_ledger.specs.Sizes.{FitsBook}
use Rattle.editor_ledger.specs.Spelling.{spelled}
use Rattle.editor_ledger.specs.Steps.{planned}

-- two ledgers of one history, the later with any further events: a ticket that both have on its way has
-- one text
abbrev pub EachTicketHasOneText : Type 0
EachTicketHasOneText = (editor : ℕ) (events more : List Event) (g h : Given)
    → Contains (after_all events (fresh editor)).sent g
    → Contains (after_all more (after_all events (fresh editor))).sent h
    → g.number ≡ h.number
    → g.text ≡ h.text

-- two of the texts that are about one kind and name are the same
abbrev pub AreApart : List (List ℕ) → Type 0
AreApart texts = (t u : List ℕ) → Contains texts t → Contains texts u → are_about_one t u ≡ true → t ≡ u

-- each of the texts is about something
abbrev pub AreAbout : List (List ℕ) → Type 0
AreAbout texts = (t : List ℕ) → Contains texts t → IsSome (head_of t)

-- after each ticket of a plan has its receipt, in whatever order, what is put is what was wanted
abbrev pub PlanTurns : Type 0
PlanTurns = (editor : ℕ) (events : List Event) (wanted : List (List ℕ)) (numbers : List ℕ)
    → (after_all events (fresh editor)).sent ≡ []
    → AreApart wanted
    → AreAbout wanted
    → (after_all (map receives numbers) (planned [] wanted (after_all events (fresh editor)))).sent ≡ []
    → (t : List ℕ) → is_put t ≡ true
    → Contains (after_all (map receives numbers) (planned [] wanted (after_all events (fresh editor)))).kept t
    ↔ Contains wanted t

-- what the group had with nothing on its way stays known by its last ticket, whatever is planned,
-- interrupted and received later
abbrev pub PastsStay : Type 0
PastsStay = (editor : ℕ) (events more : List Event)
    → (after_all events (fresh editor)).sent ≡ []
    → (t : List ℕ) → is_put t ≡ true
    → Contains (texts_at ((after_all events (fresh editor)).next - 1)
    (after_all more (after_all events (fresh editor)))) t
    ↔ Contains (after_all events (fresh editor)).kept t

-- a text spells one ledger at most: what is read back is what was written
abbrev pub SpellsOne : Type 0
SpellsOne = (book other : Book) → FitsBook book → FitsBook other → spelled book ≡ spelled other → book ≡ other
