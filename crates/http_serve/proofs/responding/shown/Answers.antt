use Rattle.std.proofs.Common.{◌≡◌, ◌==◌, false, arith}
use Rattle.http_serve.proofs.responding.shown.Goals as goal

pub returns-in-Release : goal.returns-in-Release
returns-in-Release g c = rw c.in-Release.is c.page.ensures

pub returns-in_default : goal.returns-in_default
returns-in_default g c =
    let some : (c.newest-in-Page.result == 0) ≡ false = grind arith in
    rw (c.in-Page.is, ← c.newest-in-Page.ensures, some) c.page-in_default.ensures
