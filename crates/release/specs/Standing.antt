-- What releases keep, and what an answer stands for.
use Rattle.std.specs.Prelude.{ℕ, List, option_map, string_bytes}
use Rattle.release.specs.Page.{Page}
use Rattle.release.specs.Keeping.{Keeps}
use Rattle.release.specs.declared.answer.Answer.{Answer}
use Rattle.release.specs.declared.releases.Releases.TheInside.{Inside}

abbrev pub answer_view : Answer → Page
answer_view a =
    record { status = a.status; body = string_bytes a.body; location = option_map string_bytes a.location }

abbrev pub values_fed : Inside → List (List ℕ)
values_fed r = r.kept.fed.items

abbrev pub IsKept : Inside → Type 0
IsKept r = Keeps (values_fed r) r.kept.live r.kept.sites.items r.kept.receipts
