-- The file of a page that moved, in a static copy.
use Rattle.std.specs.Prelude.{ℕ, List, ◌++◌, codes}
use Rattle.percent_encoding.specs.Percent.{percent_encode}
use Rattle.render.specs.Printed.{escaped}
use Rattle.http_read.specs.declared.escaping.TheConstants.{ESCAPED}

-- the target as an address
abbrev pub address_of : List ℕ → List ℕ
address_of target = percent_encode ESCAPED target

-- a page that leads on to the target, at once and by a link, and names it as the canonical address
abbrev pub moved_page : List ℕ → List ℕ
moved_page target =
    codes "<!DOCTYPE html>\n<meta charset=\"utf-8\">\n<link rel=\"canonical\" href=\""
    ++ (address_of target ++ (codes "\">\n<meta http-equiv=\"refresh\" content=\"0; url="
    ++ (address_of target ++ (codes "\">\n<title>Moved</title>\n<p>Moved to <a href=\""
    ++ (address_of target ++ (codes "\">" ++ (escaped target ++ codes "</a></p>\n")))))))
