-- How a text is read into pieces, by cuts at the first places of the delimiters.
use Rattle.std.specs.Prelude.{ℕ, zero, suc, ◌-◌, Bool, true, false, not, ◌&&◌, ◌||◌, ◌==◌, if◌then◌else◌}
use Rattle.std.specs.Prelude.{List, [], ◌∷◌, ◌++◌, Option, None, Some, length, take, flat_map, is_some}
use Rattle.mustache_scan.specs.Cutting.{unpadded, stripped, cut}
use Rattle.mustache_scan.specs.Names.{Pair, is_empty, has_padding, is_dotted, delimiters_in}
use Rattle.mustache_scan.specs.declared.token.TokenKind.{TokenKind}
use Rattle.mustache_scan.specs.declared.token.TokenKind.TheVariants.{Literal, Variable, Raw, Section}
use Rattle.mustache_scan.specs.declared.token.TokenKind.TheVariants.{Inverted, End, Comment, Partial}
use Rattle.mustache_scan.specs.declared.token.TokenKind.TheVariants.{Delimiters}
use Rattle.mustache_scan.specs.declared.fault.FaultKind.{FaultKind}
use Rattle.mustache_scan.specs.declared.fault.FaultKind.TheVariants.{UnclosedTag, EmptyName, BadName}
use Rattle.mustache_scan.specs.declared.fault.FaultKind.TheVariants.{BadDelimiters}

-- A fault's place is the length of the text before it, so the rest of a text reads alike after any beginning.

-- the kind that a sign means: { & # ^ / ! > =
abbrev pub kind_of_sign : ℕ → Option TokenKind
kind_of_sign b =
    if b == 123 || b == 38 then Some Raw else
    if b == 35 then Some Section else
    if b == 94 then Some Inverted else
    if b == 47 then Some End else
    if b == 33 then Some Comment else
    if b == 62 then Some Partial else
    if b == 61 then Some Delimiters else None

-- what has to come just before the closing delimiter: } after the sign {, and = after the sign =
abbrev pub partner : ℕ → List ℕ
partner b = if b == 123 then 125 ∷ [] else if b == 61 then 61 ∷ [] else []

-- a tag's kind, its inside as it is written, and the text after the tag
pub record Opened : Type 0 where
  pub kind : TokenKind
  pub inside : List ℕ
  pub rest : List ℕ

abbrev pub opened_as : TokenKind → Option (List ℕ × List ℕ) → Option Opened
opened_as kind None = None
opened_as kind (Some (inside, rest)) = Some (record { kind = kind; inside = inside; rest = rest })

-- The tag in a text that begins with a sign or a name. If the first byte can be a sign, it is one.
abbrev pub signed : List ℕ → ℕ → List ℕ → Option TokenKind → Option Opened
signed closing b bs (Some kind) = opened_as kind (cut (partner b ++ closing) bs)
signed closing b bs None = opened_as Variable (cut closing (b ∷ bs))

abbrev pub tag_in : List ℕ → List ℕ → Option Opened
tag_in closing [] = None
tag_in closing (b ∷ bs) = signed closing b bs (kind_of_sign b)

-- the tag whose opening delimiter is just before the text, up to its first end. None if it has no end
abbrev pub tag_after : List ℕ → List ℕ → Option Opened
tag_after closing t = tag_in closing (unpadded t)

-- what is wrong with a name. `dotted` says whether it is split at its dots
abbrev pub wrong_name : Bool → List ℕ → Option FaultKind
wrong_name dotted name =
    if is_empty name then Some EmptyName else
    if has_padding name || dotted && not (is_dotted name) then Some BadName else None

-- what is wrong with the stripped inside of a tag of this kind
abbrev pub wrong_inside : TokenKind → List ℕ → Option FaultKind
wrong_inside Literal inside = None
wrong_inside Comment inside = None
wrong_inside Delimiters inside = if is_some (delimiters_in inside) then None else Some BadDelimiters
wrong_inside Partial inside = wrong_name false inside
wrong_inside _ inside = wrong_name true inside

abbrev pub changed : Pair → Option Pair → Pair
changed d None = d
changed d (Some e) = e

-- the delimiters in force after a tag
abbrev pub delimiters_after : Pair → TokenKind → List ℕ → Pair
delimiters_after d Delimiters inside = changed d (delimiters_in inside)
delimiters_after d _ inside = d

-- A piece of a text: a literal, or a tag with its name, if it has one; and its bytes as they are in the text.
pub record Piece : Type 0 where
  pub kind : TokenKind
  pub inside : List ℕ
  pub bytes : List ℕ

-- The pieces of a text, one after another, and what is wrong with the tag after them, if anything.
pub record Pieces : Type 0 where
  pub pieces : List Piece
  pub wrong : Option FaultKind

abbrev pub with_pieces : List Piece → Pieces → Pieces
with_pieces ps r = record { pieces = ps ++ r.pieces; wrong = r.wrong }

-- no literal is empty
abbrev pub literal : List ℕ → List Piece
literal [] = []
literal (b ∷ bs) = record { kind = Literal; inside = []; bytes = b ∷ bs } ∷ []

-- the stripped inside of a tag is kept if it is a name
abbrev pub name_of : TokenKind → List ℕ → List ℕ
name_of Comment inside = []
name_of Delimiters inside = []
name_of _ inside = inside

-- a tag's bytes: its opening delimiter, and what is between that and the rest
abbrev pub tag : List ℕ → List ℕ → Opened → List Piece
tag opening after o =
    record {
      kind = o.kind;
      inside = name_of o.kind (stripped o.inside);
      bytes = opening
          ++ take (length after - length o.rest) after;
    } ∷ []

abbrev pub ends_here : Option FaultKind → Pieces
ends_here w = record { pieces = []; wrong = w }

-- The reading of a text. `more` reads what follows a tag, under the delimiters in force after it. A text
-- without an opening delimiter is one literal. Any other is a literal up to the first opening delimiter, the
-- tag there up to its first end, and the reading of the rest.
module _ (more : Pair → List ℕ → Pieces) (d : Pair) where
  abbrev pub after_tag : List ℕ → Opened → Option FaultKind → Pieces
  after_tag after o (Some w) = ends_here (Some w)
  after_tag after o None = with_pieces (tag d.opening after o)
      (more (delimiters_after d o.kind (stripped o.inside)) o.rest)

  abbrev pub after_opening : List ℕ → Option Opened → Pieces
  after_opening after None = ends_here (Some UnclosedTag)
  after_opening after (Some o) = after_tag after o (wrong_inside o.kind (stripped o.inside))

  abbrev pub after_cut : List ℕ → Option (List ℕ × List ℕ) → Pieces
  after_cut t None = with_pieces (literal t) (ends_here None)
  after_cut t (Some (before, after)) = with_pieces (literal before)
      (after_opening after (tag_after d.closing after))

  abbrev pub one_tag : List ℕ → Pieces
  one_tag t = after_cut t (cut d.opening t)

-- the reading of a text that has at most n tags
unfoldable pub reading_within : ℕ → Pair → List ℕ → Pieces
reading_within zero d t = with_pieces (literal t) (ends_here None)
reading_within (suc n) d t = one_tag (reading_within n) d t

-- a text has no more tags than bytes
abbrev pub reading : Pair → List ℕ → Pieces
reading d t = reading_within (length t) d t

-- the text that pieces make up
abbrev pub text_of : List Piece → List ℕ
text_of ps = flat_map (λ p. p.bytes) ps
