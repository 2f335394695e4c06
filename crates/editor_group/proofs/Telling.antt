-- What is kept of nodes, one after the other.
use Rattle.std.proofs.Common.{nat_le, ◌==◌, if◌then◌else◌, codes, ◌≡◌, ◌&&◌, ◌+◌, ℕ, length, Bool, true, false, List, [], ◌∷◌, ◌++◌, map, length-append, Option, Some, None, MatchOption, refl, sym, ap, subst, ◌∙◌}
use Rattle.std.proofs.lemmas.List.{map-append}
use Rattle.serde_json.specs.Data.{Data, Members, put, null, boolean, number, unsigned}
use Rattle.serde_json.specs.View.{view}
use Rattle.serde_json.specs.declared.value.Value.{Value}
use Rattle.editor_group.specs.Statuses.{is_well, all_well, told_number, told_truth, IsNode, AreNodes, TellsNodes, TellsCommands, EndsStatus, shows_folder}
use Rattle.editor_group.specs.declared.status.Row.{Row}

pub number_is : (o : Option ℕ) (d : Data) → MatchOption o (d ≡ null) (λ n. d ≡ number (unsigned n)) → d ≡ told_number o
number_is None d is = is
number_is (Some n) d is = is

pub truth_is : (o : Option Bool) (d : Data) → MatchOption o (d ≡ null) (λ b. d ≡ boolean b) → d ≡ told_truth o
truth_is None d is = is
truth_is (Some b) d is = is

-- two members that are put one after the other
pub put_both : (first second : List ℕ) (a x b y : Data) (before mid now : Members)
    → mid ≡ put first a before → a ≡ x → now ≡ put second b mid → b ≡ y
    → now ≡ put second y (put first x before)
put_both first second a x b y before mid now one is two too =
    two ∙ ap (λ d. put second d mid) too ∙ ap (λ m. put second y m) (one ∙ ap (λ d. put first d before) is)

nodes_on : (rows : List Row) (ds : List Data) (row : Row) (d : Data) → AreNodes rows ds → IsNode row d → AreNodes (rows ++ row ∷ []) (ds ++ d ∷ [])
nodes_on [] [] row d all one = (one, tt)
nodes_on [] (e ∷ ds) row d all one = absurd all
nodes_on (r ∷ rows) [] row d all one = absurd all
nodes_on (r ∷ rows) (e ∷ ds) row d all one = (all.0, nodes_on rows ds row d all.1 one)

and_none : (b : Bool) → b && true ≡ b
and_none true = refl
and_none false = refl

and_on : (a b c : Bool) → (a && b) && c ≡ a && (b && c)
and_on true b c = refl
and_on false b c = refl

well_on : (last : ℕ) (rows : List Row) (row : Row) → all_well last (rows ++ row ∷ []) ≡ all_well last rows && is_well last row
well_on last [] row = and_none (is_well last row)
well_on last (r ∷ rows) row = ap (λ b. is_well last r && b) (well_on last rows row) ∙ sym (and_on (is_well last r) (all_well last rows) (is_well last row))

-- these values are of so many nodes, and all is well with each or not
pub record Tells (n last : ℕ) (well : Bool) (values : List Value) : Type 0 where
  pub rows : List Row
  pub as_many : length rows ≡ n
  pub are : AreNodes rows (map view values)
  pub well_is : well ≡ all_well last rows

pub tells_none : (last : ℕ) → Tells 0 last true []
tells_none last = record { rows = []; as_many = refl; are = tt; well_is = refl }

pub tells_more : (n m last : ℕ) (well after : Bool) (values now : List Value) (row : Row) (value : Value)
    → Tells n last well values → IsNode row (view value)
    → now ≡ values ++ value ∷ [] → after ≡ well && is_well last row → m ≡ n + 1 → Tells m last after now
tells_more n m last well after values now row value so_far one more is next = record {
  rows = so_far.rows ++ row ∷ [];
  as_many = length-append so_far.rows (row ∷ []) ∙ ap (λ k. k + 1) so_far.as_many ∙ sym next;
  are =
      subst (λ ds. AreNodes (so_far.rows ++ row ∷ []) ds) (sym (ap (map view) more ∙ map-append view values (value ∷ [])))
      (nodes_on so_far.rows (map view values) row (view value) so_far.are one);
  well_is = is ∙ ap (λ b. b && is_well last row) so_far.well_is ∙ sym (well_on last so_far.rows row);
}

-- of as many nodes as there are URLs, with what is kept of commands and of the folder's release
pub ends_status : (n release last : ℕ) (well shown : Bool) (status : ℕ) (value : Data)
    (nodes commands now : Members) (m : ℕ) → m ≡ n → TellsNodes m last well nodes
    → TellsCommands nodes commands → shown ≡ nat_le release last
    → (shows : Option Bool) → now ≡ put (codes "shows_folder") value commands
    → MatchOption shows (value ≡ null) (λ b. value ≡ boolean b)
    → shows ≡ (if release == 0 then None else Some shown) → status ≡ (if well && shown then 0 else 1)
    → EndsStatus n release status now
ends_status n release last well shown status value nodes commands now m many tells told shown_is shows now_is value_is shows_is status_is =
    let folder = truth_is shows value value_is ∙ ap told_truth shows_is
    ∙ ap (λ s. told_truth (if release == 0 then None else Some s)) shown_is in
    record {
      last = last;
      well = well;
      told = nodes;
      tells = subst (λ k. TellsNodes k last well nodes) many tells;
      least = told.0;
      kept_is = now_is ∙ ap (λ d. put (codes "shows_folder") d commands) folder
          ∙ ap (λ ms. put (codes "shows_folder") (told_truth (shows_folder release last)) ms) told.1;
      status_is = status_is ∙ ap (λ s. if well && s then 0 else 1) shown_is;
    }
