-- How a run of disk calls goes on.
use Rattle.std.proofs.Common.{◌≡◌, ℕ, List, [], ◌∷◌, ◌++◌, refl, sym, ◌∙◌, ap, append_assoc}
use Rattle.site_disk.specs.Model.{DiskState, Moment, MayLeave, EachLeaves, LeavesOnly, moment}

abbrev Bytes : Type 0
Bytes = List ℕ

-- before the first call
pub started : (d : DiskState) (P : Bytes → Type 0) → ((left : Bytes) → MayLeave (moment d) left → P left) → LeavesOnly d d P
started d P here = record { recent = []; joined = refl; each = (here, tt) }

-- one call more, after which a crash leaves what has P
pub goes_on : (old mid new : DiskState) (P : Bytes → Type 0) → LeavesOnly old mid P → new.past ≡ moment mid ∷ mid.past → ((left : Bytes) → MayLeave (moment new) left → P left) → LeavesOnly old new P
goes_on old mid new P so_far past here = record {
  recent = moment mid ∷ so_far.recent;
  joined = past ∙ ap (λ (l : List Moment). moment mid ∷ l) so_far.joined;
  each = (here, so_far.each);
}

each_weaker : (P Q : Bytes → Type 0) → ((left : Bytes) → P left → Q left) → (moments : List Moment) → EachLeaves P moments → EachLeaves Q moments
each_weaker P Q step [] each = tt
each_weaker P Q step (m ∷ moments) each = ((λ left may. step left (each.0 left may)), each_weaker P Q step moments each.1)

pub weaker : (old new : DiskState) (P Q : Bytes → Type 0) → ((left : Bytes) → P left → Q left) → LeavesOnly old new P → LeavesOnly old new Q
weaker old new P Q step leaves = record { recent = leaves.recent; joined = leaves.joined; each = each_weaker P Q step (moment new ∷ leaves.recent) leaves.each }

each_joined : (P : Bytes → Type 0) (later earlier : List Moment) → EachLeaves P later → EachLeaves P earlier → EachLeaves P (later ++ earlier)
each_joined P [] earlier late early = early
each_joined P (m ∷ later) earlier late early = (late.0, each_joined P later earlier late.1 early)

-- one run after another
pub then : (old mid new : DiskState) (P : Bytes → Type 0) → LeavesOnly old mid P → LeavesOnly mid new P → LeavesOnly old new P
then old mid new P first second = record {
  recent = second.recent ++ first.recent;
  joined = second.joined ∙ ap (λ (l : List Moment). second.recent ++ l) first.joined ∙ sym (append_assoc second.recent first.recent old.past);
  each = each_joined P (moment new ∷ second.recent) first.recent second.each first.each.1;
}
