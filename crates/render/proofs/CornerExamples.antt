-- Choices of the profile, and corners, computed from the definitions.
use Rattle.std.proofs.Common.{true, false, [], ◌∷◌, ◌++◌, refl}
use Rattle.std.specs.Prelude.{codes, pos}
use Rattle.mustache_scan.specs.declared.fault.FaultKind.TheVariants.{UnclosedTag, BadName, BadDelimiters, NoSection, WrongEnd, UnclosedSection}
use Rattle.context.specs.Whole.{null, boolean, int}
use Rattle.render.proofs.Examples.{str, o, a, gives, faulty, computing}

apostrophe : gives (codes "{{a}}") (o ((codes "a", str (codes "it's")) ∷ [])) [] (codes "it's")
unfolding computing
apostrophe = refl

booleans : gives (codes "{{a}} {{b}} {{c}}") (o ((codes "a", boolean true) ∷ (codes "b", boolean false) ∷ (codes "c", a ((int (pos 1)) ∷ [])) ∷ [])) [] (codes "true false ")
unfolding computing
booleans = refl

zero_truthy : gives (codes "{{#z}}z{{/z}}{{#e}}e{{/e}}{{#h}}h{{/h}}") (o ((codes "z", int (pos 0)) ∷ (codes "e", str []) ∷ (codes "h", o []) ∷ [])) [] (codes "zeh")
unfolding computing
zero_truthy = refl

lone_cr : gives (codes "{{#b}}\r{{/b}}") (o ((codes "b", boolean true) ∷ [])) [] (codes "\r")
unfolding computing
lone_cr = refl

two_tags_on_a_line : gives (codes "{{#b}}{{/b}}\nx") (o ((codes "b", boolean true) ∷ [])) [] (codes "\nx")
unfolding computing
two_tags_on_a_line = refl

sign_always : gives (codes "{{=# #=}}##a#x#/a#") (o ((codes "a", boolean true) ∷ [])) [] (codes "x")
unfolding computing
sign_always = refl

triple_unclosed : faulty (codes "{{{n}}") UnclosedTag 0
unfolding computing
triple_unclosed = refl

empty_part : faulty (codes "{{a..b}}") BadName 0
unfolding computing
empty_part = refl

leading_dot : faulty (codes "{{.a}}") BadName 0
unfolding computing
leading_dot = refl

two_dots : faulty (codes "{{..}}") BadName 0
unfolding computing
two_dots = refl

partial_dots : gives (codes "[{{>a..b}}]") (o []) ((codes "a..b", codes "x") ∷ []) (codes "[x]")
unfolding computing
partial_dots = refl

equals_in_delimiter : faulty (codes "{{=a= b=}}") BadDelimiters 0
unfolding computing
equals_in_delimiter = refl

three_sequences : faulty (codes "{{=a b c=}}") BadDelimiters 0
unfolding computing
three_sequences = refl

no_section : faulty (codes "a{{/b}}") NoSection 1
unfolding computing
no_section = refl

outermost : faulty (codes "{{#a}}{{#b}}") UnclosedSection 0
unfolding computing
outermost = refl

reading_before_nesting : faulty (codes "{{/a}}{{b") UnclosedTag 6
unfolding computing
reading_before_nesting = refl

first_nesting_fault : faulty (codes "{{#a}}{{/b}}{{/c}}") WrongEnd 6
unfolding computing
first_nesting_fault = refl

crlf_partial : gives (codes "a\r\n {{>p}}\r\nb") (o []) ((codes "p", codes "x\r\ny") ∷ []) (codes "a\r\n x\r\n yb")
unfolding computing
crlf_partial = refl

empty_partial : gives (codes "a\n {{>p}}\nb") (o []) ((codes "p", []) ∷ []) (codes "a\nb")
unfolding computing
empty_partial = refl

partial_of_newlines : gives (codes " {{>p}}") (o []) ((codes "p", codes "\n\n") ∷ []) (codes " \n \n")
unfolding computing
partial_of_newlines = refl

tab_indent : gives (codes "\t{{>p}}\n") (o []) ((codes "p", codes "x\ny\n") ∷ []) (codes "\tx\n\ty\n")
unfolding computing
tab_indent = refl

indent_in_comment : gives (codes "  {{>p}}\n") (o []) ((codes "p", codes "x{{!\n}}\n") ∷ []) (codes "  x\n")
unfolding computing
indent_in_comment = refl

nested_indent : gives (codes " {{>p}}\n") (o []) ((codes "p", codes "a\n {{>q}}\n") ∷ (codes "q", codes "x\ny\n") ∷ []) (codes " a\n  x\n  y\n")
unfolding computing
nested_indent = refl

inline_in_indented : gives (codes " {{>p}}\n") (o []) ((codes "p", codes "[{{>q}}]\n") ∷ (codes "q", codes "a\nb") ∷ []) (codes " [a\nb]\n")
unfolding computing
inline_in_indented = refl

line_begins_with_tag : gives (codes " {{>p}}\n") (o ((codes "x", int (pos 1)) ∷ (codes "l", a ((int (pos 0)) ∷ (int (pos 1)) ∷ [])) ∷ [])) ((codes "p", codes "{{!c}}\n{{x}}\n{{#l}}{{.}}{{/l}}\n") ∷ []) (codes " 1\n 01\n")
unfolding computing
line_begins_with_tag = refl

block_ends_at_line : gives (codes " {{>p}}\n") (o ((codes "l", a ((int (pos 0)) ∷ (int (pos 1)) ∷ [])) ∷ [])) ((codes "p", codes "{{#l}}a\n{{/l}}b") ∷ []) (codes " a\n a\n b")
unfolding computing
block_ends_at_line = refl

block_of_none : gives (codes " {{>p}}\n") (o ((codes "l", a []) ∷ [])) ((codes "p", codes "{{#l}}a\n{{/l}}b") ∷ []) (codes " b")
unfolding computing
block_of_none = refl

-- ---- what padding, blanks and lines are

-- a carriage return is padding
cr_is_padding : gives (codes "{{\ra\r}}") (o ((codes "a", str (codes "x")) ∷ [])) [] (codes "x")
unfolding computing
cr_is_padding = refl

-- a form feed is none
form_feed_is_a_name : gives (codes "{{" ++ (12 ∷ codes "a}}")) (o ((12 ∷ codes "a", str (codes "x")) ∷ [])) [] (codes "x")
unfolding computing
form_feed_is_a_name = refl

-- no line begins after a carriage return
cr_begins_no_line : gives (codes "a\r{{#b}}\nx{{/b}}") (o ((codes "b", boolean true) ∷ [])) [] (codes "a\r\nx")
unfolding computing
cr_begins_no_line = refl

-- nor does it end one at the end of the text
cr_at_the_end : gives (codes "{{!c}}\r") (o []) [] (codes "\r")
unfolding computing
cr_at_the_end = refl

-- and it is no blank
cr_is_no_blank : gives (codes "{{!c}}\r\r\n") (o []) [] (codes "\r\r\n")
unfolding computing
cr_is_no_blank = refl

-- a tab after a tag is one
tab_is_a_blank : gives (codes "{{!c}}\t\nx") (o []) [] (codes "x")
unfolding computing
tab_is_a_blank = refl

-- the blanks after a standalone tag go with it, at the end of the text too
blanks_at_the_end : gives (codes "x\n{{!c}}  ") (o []) [] (codes "x\n")
unfolding computing
blanks_at_the_end = refl

-- a line that is its end alone is indented
crlf_lines_indented : gives (codes " {{>p}}") (o []) ((codes "p", codes "a\r\n\r\nb") ∷ []) (codes " a\r\n \r\n b")
unfolding computing
crlf_lines_indented = refl

-- ---- what names mean

-- a null is found, and what stands below it is not looked up
null_hides : gives (codes "{{#h}}{{n}}{{/h}}") (o ((codes "h", o ((codes "n", null) ∷ [])) ∷ (codes "n", str (codes "x")) ∷ [])) [] []
unfolding computing
null_hides = refl

-- a null on top of the stack is what the dot means
null_on_top : gives (codes "{{#t}}{{#l}}{{.}}{{/l}}{{/t}}") (o ((codes "t", str (codes "x")) ∷ (codes "l", a (null ∷ [])) ∷ [])) [] []
unfolding computing
null_on_top = refl

-- the first part of a name is found where it is no hash
first_part_is_found : gives (codes "{{#h}}{{a.b}}{{/h}}") (o ((codes "h", o ((codes "a", int (pos 1)) ∷ [])) ∷ (codes "a", o ((codes "b", str (codes "x")) ∷ [])) ∷ [])) [] []
unfolding computing
first_part_is_found = refl

-- the dot is no key
dot_is_no_key : gives (codes "{{#l}}{{.}}{{/l}}") (o ((codes "l", a ((str (codes "x")) ∷ [])) ∷ (codes ".", str (codes "y")) ∷ [])) [] (codes "x")
unfolding computing
dot_is_no_key = refl

-- no part of a name is empty, also the last
trailing_dot : faulty (codes "{{a.}}") BadName 0
unfolding computing
trailing_dot = refl

-- an end's name has no padding
end_with_padding : faulty (codes "{{#a}}{{/a b}}") BadName 6
unfolding computing
end_with_padding = refl

-- the second delimiter holds no equals sign
equals_in_second : faulty (codes "{{=a b=c=}}") BadDelimiters 0
unfolding computing
equals_in_second = refl

-- an inverted section pushes nothing
inverted_pushes_nothing : gives (codes "{{#t}}{{^f}}{{.}}{{/f}}{{/t}}") (o ((codes "t", str (codes "x")) ∷ (codes "f", boolean false) ∷ [])) [] (codes "x")
unfolding computing
inverted_pushes_nothing = refl
