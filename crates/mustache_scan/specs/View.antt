-- What the code's tokens, tags and delimiters stand for.
use Rattle.std.specs.Prelude.{List, map}
use Rattle.mustache_scan.specs.Names.{Pair}
use Rattle.mustache_scan.specs.Reading.{Opened}
use Rattle.mustache_scan.specs.Standalone.{TokenSeen}
use Rattle.mustache_scan.specs.declared.delimiters.Delimiters.{Delimiters}
use Rattle.mustache_scan.specs.declared.tag.Tag.{Tag}
use Rattle.mustache_scan.specs.declared.token.Token.{Token}

abbrev pub token_view : Token → TokenSeen
token_view t =
    record { kind = t.kind; inside = t.inside.now; place = t.place; text = t.text.now; indent = t.indent.now }

abbrev pub tokens_view : List Token → List TokenSeen
tokens_view = map token_view

abbrev pub tag_view : Tag → Opened
tag_view x = record { kind = x.kind; inside = x.inside.now; rest = x.rest.now }

abbrev pub pair_view : Delimiters → Pair
pair_view d = record { opening = d.opening.now; closing = d.closing.now }
