-- Cases after the public mustache/spec suite (core modules, selected), computed from the definitions.
use Rattle.std.proofs.Common.{true, false, [], ◌∷◌, refl}
use Rattle.std.specs.Prelude.{codes, pos}
use Rattle.context.specs.Whole.{null, boolean, int}
use Rattle.render.proofs.Examples.{str, o, a, gives, computing}

comment_inline : gives (codes "12345{{! Comment Block! }}67890") (o []) [] (codes "1234567890")
unfolding computing
comment_inline = refl

comment_multiline : gives (codes "12345{{!\n  This is a\n  multi-line comment...\n}}67890\n") (o []) [] (codes "1234567890\n")
unfolding computing
comment_multiline = refl

comment_standalone : gives (codes "Begin.\n{{! Comment Block! }}\nEnd.\n") (o []) [] (codes "Begin.\nEnd.\n")
unfolding computing
comment_standalone = refl

comment_indented_standalone : gives (codes "Begin.\n  {{! Indented Comment Block! }}\nEnd.\n") (o []) [] (codes "Begin.\nEnd.\n")
unfolding computing
comment_indented_standalone = refl

comment_crlf : gives (codes "|\r\n{{! Standalone Comment }}\r\n|") (o []) [] (codes "|\r\n|")
unfolding computing
comment_crlf = refl

comment_no_previous_line : gives (codes "  {{! I'm Still Standalone }}\n!") (o []) [] (codes "!")
unfolding computing
comment_no_previous_line = refl

comment_no_newline : gives (codes "!\n  {{! I'm Still Standalone }}") (o []) [] (codes "!\n")
unfolding computing
comment_no_newline = refl

comment_multi_standalone : gives (codes "Begin.\n{{!\nSomething's going on here...\n}}\nEnd.\n") (o []) [] (codes "Begin.\nEnd.\n")
unfolding computing
comment_multi_standalone = refl

comment_indented_multi : gives (codes "Begin.\n  {{!\n    Something's going on here...\n  }}\nEnd.\n") (o []) [] (codes "Begin.\nEnd.\n")
unfolding computing
comment_indented_multi = refl

comment_indented_inline : gives (codes "  12 {{! 34 }}\n") (o []) [] (codes "  12 \n")
unfolding computing
comment_indented_inline = refl

comment_whitespace : gives (codes "12345 {{! Comment Block! }} 67890") (o []) [] (codes "12345  67890")
unfolding computing
comment_whitespace = refl

comment_collision : gives (codes "comments never show: >{{! comment }}<") (o ((codes "! comment", int (pos 1)) ∷ (codes "! comment ", int (pos 2)) ∷ (codes "!comment", int (pos 3)) ∷ (codes "comment", int (pos 4)) ∷ [])) [] (codes "comments never show: ><")
unfolding computing
comment_collision = refl

delimiters_pair : gives (codes "{{=<% %>=}}(<%text%>)") (o ((codes "text", str (codes "Hey!")) ∷ [])) [] (codes "(Hey!)")
unfolding computing
delimiters_pair = refl

delimiters_special : gives (codes "({{=[ ]=}}[text])") (o ((codes "text", str (codes "It worked!")) ∷ [])) [] (codes "(It worked!)")
unfolding computing
delimiters_special = refl

delimiters_sections : gives (codes "[\n{{#section}}\n  {{data}}\n  |data|\n{{/section}}\n\n{{= | | =}}\n|#section|\n  {{data}}\n  |data|\n|/section|\n]\n") (o ((codes "section", boolean true) ∷ (codes "data", str (codes "I got interpolated.")) ∷ [])) [] (codes "[\n  I got interpolated.\n  |data|\n\n  {{data}}\n  I got interpolated.\n]\n")
unfolding computing
delimiters_sections = refl

delimiters_inverted : gives (codes "[\n{{^section}}\n  {{data}}\n  |data|\n{{/section}}\n\n{{= | | =}}\n|^section|\n  {{data}}\n  |data|\n|/section|\n]\n") (o ((codes "section", boolean false) ∷ (codes "data", str (codes "I got interpolated.")) ∷ [])) [] (codes "[\n  I got interpolated.\n  |data|\n\n  {{data}}\n  I got interpolated.\n]\n")
unfolding computing
delimiters_inverted = refl

delimiters_partial_inheritance : gives (codes "[ {{>include}} ]\n{{= | | =}}\n[ |>include| ]\n") (o ((codes "value", str (codes "yes")) ∷ [])) ((codes "include", codes ".{{value}}.") ∷ []) (codes "[ .yes. ]\n[ .yes. ]\n")
unfolding computing
delimiters_partial_inheritance = refl

delimiters_post_partial : gives (codes "[ {{>include}} ]\n[ .{{value}}.  .|value|. ]\n") (o ((codes "value", str (codes "yes")) ∷ [])) ((codes "include", codes ".{{value}}. {{= | | =}} .|value|.") ∷ []) (codes "[ .yes.  .yes. ]\n[ .yes.  .|value|. ]\n")
unfolding computing
delimiters_post_partial = refl

delimiters_whitespace : gives (codes "| {{=@ @=}} |") (o []) [] (codes "|  |")
unfolding computing
delimiters_whitespace = refl

delimiters_outlying : gives (codes " | {{=@ @=}}\n") (o []) [] (codes " | \n")
unfolding computing
delimiters_outlying = refl

delimiters_standalone : gives (codes "Begin.\n{{=@ @=}}\nEnd.\n") (o []) [] (codes "Begin.\nEnd.\n")
unfolding computing
delimiters_standalone = refl

delimiters_indented : gives (codes "Begin.\n  {{=@ @=}}\nEnd.\n") (o []) [] (codes "Begin.\nEnd.\n")
unfolding computing
delimiters_indented = refl

delimiters_crlf : gives (codes "|\r\n{{= @ @ =}}\r\n|") (o []) [] (codes "|\r\n|")
unfolding computing
delimiters_crlf = refl

delimiters_no_previous : gives (codes "  {{=@ @=}}\n=") (o []) [] (codes "=")
unfolding computing
delimiters_no_previous = refl

delimiters_no_newline : gives (codes "=\n  {{=@ @=}}") (o []) [] (codes "=\n")
unfolding computing
delimiters_no_newline = refl

delimiters_padding : gives (codes "|{{= @   @ =}}|") (o []) [] (codes "||")
unfolding computing
delimiters_padding = refl

plain : gives (codes "Hello from {Mustache}!\n") (o []) [] (codes "Hello from {Mustache}!\n")
unfolding computing
plain = refl

basic : gives (codes "Hello, {{subject}}!\n") (o ((codes "subject", str (codes "world")) ∷ [])) [] (codes "Hello, world!\n")
unfolding computing
basic = refl

no_double : gives (codes "{{subject}}: {{planet}}") (o ((codes "subject", str (codes "{{planet}}")) ∷ (codes "planet", str (codes "Earth")) ∷ [])) [] (codes "{{planet}}: Earth")
unfolding computing
no_double = refl

escaping : gives (codes "{{forbidden}}\n") (o ((codes "forbidden", str (codes "& \" < >")) ∷ [])) [] (codes "&amp; &quot; &lt; &gt;\n")
unfolding computing
escaping = refl

triple : gives (codes "{{{forbidden}}}\n") (o ((codes "forbidden", str (codes "& \" < >")) ∷ [])) [] (codes "& \" < >\n")
unfolding computing
triple = refl

ampersand : gives (codes "{{&forbidden}}\n") (o ((codes "forbidden", str (codes "& \" < >")) ∷ [])) [] (codes "& \" < >\n")
unfolding computing
ampersand = refl

integer : gives (codes "\"{{mph}} miles an hour!\"") (o ((codes "mph", int (pos 85)) ∷ [])) [] (codes "\"85 miles an hour!\"")
unfolding computing
integer = refl

triple_integer : gives (codes "\"{{{mph}}} miles an hour!\"") (o ((codes "mph", int (pos 85)) ∷ [])) [] (codes "\"85 miles an hour!\"")
unfolding computing
triple_integer = refl

null_value : gives (codes "I ({{cannot}}) be seen!") (o ((codes "cannot", null) ∷ [])) [] (codes "I () be seen!")
unfolding computing
null_value = refl

miss : gives (codes "I ({{&cannot}}) be seen!") (o []) [] (codes "I () be seen!")
unfolding computing
miss = refl

dotted : gives (codes "\"{{person.name}}\" == \"{{#person}}{{name}}{{/person}}\"") (o ((codes "person", o ((codes "name", str (codes "Joe")) ∷ [])) ∷ [])) [] (codes "\"Joe\" == \"Joe\"")
unfolding computing
dotted = refl

dotted_depth : gives (codes "\"{{a.b.c.d.e.name}}\" == \"Phil\"") (o ((codes "a", o ((codes "b", o ((codes "c", o ((codes "d", o ((codes "e", o ((codes "name", str (codes "Phil")) ∷ [])) ∷ [])) ∷ [])) ∷ [])) ∷ [])) ∷ [])) [] (codes "\"Phil\" == \"Phil\"")
unfolding computing
dotted_depth = refl

dotted_broken : gives (codes "\"{{a.b.c}}\" == \"\"") (o ((codes "a", o []) ∷ [])) [] (codes "\"\" == \"\"")
unfolding computing
dotted_broken = refl

dotted_broken_resolution : gives (codes "\"{{a.b.c.name}}\" == \"\"") (o ((codes "a", o ((codes "b", o []) ∷ [])) ∷ (codes "c", o ((codes "name", str (codes "Jim")) ∷ [])) ∷ [])) [] (codes "\"\" == \"\"")
unfolding computing
dotted_broken_resolution = refl

dotted_initial : gives (codes "\"{{#a}}{{b.c.d.e.name}}{{/a}}\" == \"Phil\"") (o ((codes "a", o ((codes "b", o ((codes "c", o ((codes "d", o ((codes "e", o ((codes "name", str (codes "Phil")) ∷ [])) ∷ [])) ∷ [])) ∷ [])) ∷ [])) ∷ (codes "b", o ((codes "c", o ((codes "d", o ((codes "e", o ((codes "name", str (codes "Wrong")) ∷ [])) ∷ [])) ∷ [])) ∷ [])) ∷ [])) [] (codes "\"Phil\" == \"Phil\"")
unfolding computing
dotted_initial = refl

dotted_precedence : gives (codes "{{#a}}{{b.c}}{{/a}}") (o ((codes "a", o ((codes "b", o []) ∷ [])) ∷ (codes "b", o ((codes "c", str (codes "ERROR")) ∷ [])) ∷ [])) [] []
unfolding computing
dotted_precedence = refl

dotted_not_single_key : gives (codes "{{a.b}}") (o ((codes "a.b", str (codes "c")) ∷ [])) [] []
unfolding computing
dotted_not_single_key = refl

dotted_no_masking : gives (codes "{{a.b}}") (o ((codes "a.b", str (codes "c")) ∷ (codes "a", o ((codes "b", str (codes "d")) ∷ [])) ∷ [])) [] (codes "d")
unfolding computing
dotted_no_masking = refl

dot_number : gives (codes "\"{{.}} miles an hour!\"") (int (pos 85)) [] (codes "\"85 miles an hour!\"")
unfolding computing
dot_number = refl

whitespace_around : gives (codes "| {{string}} |") (o ((codes "string", str (codes "---")) ∷ [])) [] (codes "| --- |")
unfolding computing
whitespace_around = refl

standalone_variable : gives (codes "  {{string}}\n") (o ((codes "string", str (codes "---")) ∷ [])) [] (codes "  ---\n")
unfolding computing
standalone_variable = refl

padding : gives (codes "|{{ string }}|") (o ((codes "string", str (codes "---")) ∷ [])) [] (codes "|---|")
unfolding computing
padding = refl

triple_padding : gives (codes "|{{{ string }}}|") (o ((codes "string", str (codes "---")) ∷ [])) [] (codes "|---|")
unfolding computing
triple_padding = refl

ampersand_padding : gives (codes "|{{& string }}|") (o ((codes "string", str (codes "---")) ∷ [])) [] (codes "|---|")
unfolding computing
ampersand_padding = refl

inverted_false : gives (codes "\"{{^boolean}}This should be rendered.{{/boolean}}\"") (o ((codes "boolean", boolean false) ∷ [])) [] (codes "\"This should be rendered.\"")
unfolding computing
inverted_false = refl

inverted_true : gives (codes "\"{{^boolean}}This should not be rendered.{{/boolean}}\"") (o ((codes "boolean", boolean true) ∷ [])) [] (codes "\"\"")
unfolding computing
inverted_true = refl

inverted_null : gives (codes "\"{{^null}}This should be rendered.{{/null}}\"") (o ((codes "null", null) ∷ [])) [] (codes "\"This should be rendered.\"")
unfolding computing
inverted_null = refl

inverted_context : gives (codes "\"{{^context}}Hi {{name}}.{{/context}}\"") (o ((codes "context", o ((codes "name", str (codes "Joe")) ∷ [])) ∷ [])) [] (codes "\"\"")
unfolding computing
inverted_context = refl

inverted_list : gives (codes "\"{{^list}}{{n}}{{/list}}\"") (o ((codes "list", a ((o ((codes "n", int (pos 1)) ∷ [])) ∷ (o ((codes "n", int (pos 2)) ∷ [])) ∷ (o ((codes "n", int (pos 3)) ∷ [])) ∷ [])) ∷ [])) [] (codes "\"\"")
unfolding computing
inverted_list = refl

inverted_empty_list : gives (codes "\"{{^list}}Yay lists!{{/list}}\"") (o ((codes "list", a []) ∷ [])) [] (codes "\"Yay lists!\"")
unfolding computing
inverted_empty_list = refl

inverted_doubled : gives (codes "{{^bool}}\n* first\n{{/bool}}\n* {{two}}\n{{^bool}}\n* third\n{{/bool}}\n") (o ((codes "bool", boolean false) ∷ (codes "two", str (codes "second")) ∷ [])) [] (codes "* first\n* second\n* third\n")
unfolding computing
inverted_doubled = refl

inverted_nested_false : gives (codes "| A {{^bool}}B {{^bool}}C{{/bool}} D{{/bool}} E |") (o ((codes "bool", boolean false) ∷ [])) [] (codes "| A B C D E |")
unfolding computing
inverted_nested_false = refl

inverted_nested_true : gives (codes "| A {{^bool}}B {{^bool}}C{{/bool}} D{{/bool}} E |") (o ((codes "bool", boolean true) ∷ [])) [] (codes "| A  E |")
unfolding computing
inverted_nested_true = refl

inverted_miss : gives (codes "[{{^missing}}Cannot find key 'missing'!{{/missing}}]") (o []) [] (codes "[Cannot find key 'missing'!]")
unfolding computing
inverted_miss = refl

inverted_dotted : gives (codes "\"{{^a.b.c}}Not Here{{/a.b.c}}\" == \"Not Here\"") (o ((codes "a", o []) ∷ [])) [] (codes "\"Not Here\" == \"Not Here\"")
unfolding computing
inverted_dotted = refl

inverted_whitespace : gives (codes " | {{^boolean}}\t|\t{{/boolean}} | \n") (o ((codes "boolean", boolean false) ∷ [])) [] (codes " | \t|\t | \n")
unfolding computing
inverted_whitespace = refl

inverted_multiline : gives (codes " | {{^boolean}} {{! Important Whitespace }}\n {{/boolean}} | \n") (o ((codes "boolean", boolean false) ∷ [])) [] (codes " |  \n  | \n")
unfolding computing
inverted_multiline = refl

inverted_indented_inline : gives (codes " {{^boolean}}NO{{/boolean}}\n {{^boolean}}WAY{{/boolean}}\n") (o ((codes "boolean", boolean false) ∷ [])) [] (codes " NO\n WAY\n")
unfolding computing
inverted_indented_inline = refl

inverted_standalone : gives (codes "| This Is\n{{^boolean}}\n|\n{{/boolean}}\n| A Line\n") (o ((codes "boolean", boolean false) ∷ [])) [] (codes "| This Is\n|\n| A Line\n")
unfolding computing
inverted_standalone = refl

inverted_standalone_indented : gives (codes "| This Is\n  {{^boolean}}\n|\n  {{/boolean}}\n| A Line\n") (o ((codes "boolean", boolean false) ∷ [])) [] (codes "| This Is\n|\n| A Line\n")
unfolding computing
inverted_standalone_indented = refl

inverted_crlf : gives (codes "|\r\n{{^boolean}}\r\n{{/boolean}}\r\n|") (o ((codes "boolean", boolean false) ∷ [])) [] (codes "|\r\n|")
unfolding computing
inverted_crlf = refl

inverted_no_previous : gives (codes "  {{^boolean}}\n^{{/boolean}}\n/") (o ((codes "boolean", boolean false) ∷ [])) [] (codes "^\n/")
unfolding computing
inverted_no_previous = refl

inverted_no_newline : gives (codes "^{{^boolean}}\n/\n  {{/boolean}}") (o ((codes "boolean", boolean false) ∷ [])) [] (codes "^\n/\n")
unfolding computing
inverted_no_newline = refl

inverted_padding : gives (codes "|{{^ boolean }}={{/ boolean }}|") (o ((codes "boolean", boolean false) ∷ [])) [] (codes "|=|")
unfolding computing
inverted_padding = refl

partials_basic : gives (codes "\"{{>text}}\"") (o []) ((codes "text", codes "from partial") ∷ []) (codes "\"from partial\"")
unfolding computing
partials_basic = refl

partials_failed : gives (codes "\"{{>text}}\"") (o []) [] (codes "\"\"")
unfolding computing
partials_failed = refl

partials_context : gives (codes "\"{{>partial}}\"") (o ((codes "text", str (codes "content")) ∷ [])) ((codes "partial", codes "*{{text}}*") ∷ []) (codes "\"*content*\"")
unfolding computing
partials_context = refl

partials_nested : gives (codes "{{>outer}}") (o ((codes "a", str (codes "hello")) ∷ (codes "b", str (codes "world")) ∷ [])) ((codes "outer", codes "*{{a}} {{>inner}}*") ∷ (codes "inner", codes "{{b}}!") ∷ []) (codes "*hello world!*")
unfolding computing
partials_nested = refl

partials_whitespace : gives (codes "| {{>partial}} |") (o []) ((codes "partial", codes "\t|\t") ∷ []) (codes "| \t|\t |")
unfolding computing
partials_whitespace = refl

partials_inline : gives (codes "  {{data}}  {{> partial}}\n") (o ((codes "data", str (codes "|")) ∷ [])) ((codes "partial", codes ">\n>") ∷ []) (codes "  |  >\n>\n")
unfolding computing
partials_inline = refl

partials_crlf : gives (codes "|\r\n{{>partial}}\r\n|") (o []) ((codes "partial", codes ">") ∷ []) (codes "|\r\n>|")
unfolding computing
partials_crlf = refl

partials_no_previous : gives (codes "  {{>partial}}\n>") (o []) ((codes "partial", codes ">\n>") ∷ []) (codes "  >\n  >>")
unfolding computing
partials_no_previous = refl

partials_no_newline : gives (codes ">\n  {{>partial}}") (o []) ((codes "partial", codes ">\n>") ∷ []) (codes ">\n  >\n  >")
unfolding computing
partials_no_newline = refl

partials_indentation : gives (codes "\\\n {{>partial}}\n/\n") (o ((codes "content", str (codes "<\n->")) ∷ [])) ((codes "partial", codes "|\n{{{content}}}\n|\n") ∷ []) (codes "\\\n |\n <\n->\n |\n/\n")
unfolding computing
partials_indentation = refl

partials_padding : gives (codes "|{{> partial }}|") (o ((codes "boolean", boolean true) ∷ [])) ((codes "partial", codes "[]") ∷ []) (codes "|[]|")
unfolding computing
partials_padding = refl

section_true : gives (codes "\"{{#boolean}}This should be rendered.{{/boolean}}\"") (o ((codes "boolean", boolean true) ∷ [])) [] (codes "\"This should be rendered.\"")
unfolding computing
section_true = refl

section_false : gives (codes "\"{{#boolean}}This should not be rendered.{{/boolean}}\"") (o ((codes "boolean", boolean false) ∷ [])) [] (codes "\"\"")
unfolding computing
section_false = refl

section_context : gives (codes "\"{{#context}}Hi {{name}}.{{/context}}\"") (o ((codes "context", o ((codes "name", str (codes "Joe")) ∷ [])) ∷ [])) [] (codes "\"Hi Joe.\"")
unfolding computing
section_context = refl

section_parent : gives (codes "\"{{#sec}}{{a}}, {{b}}, {{c.d}}{{/sec}}\"") (o ((codes "a", str (codes "foo")) ∷ (codes "b", str (codes "wrong")) ∷ (codes "sec", o ((codes "b", str (codes "bar")) ∷ [])) ∷ (codes "c", o ((codes "d", str (codes "baz")) ∷ [])) ∷ [])) [] (codes "\"foo, bar, baz\"")
unfolding computing
section_parent = refl

section_variable_test : gives (codes "\"{{#foo}}{{.}} is {{foo}}{{/foo}}\"") (o ((codes "foo", str (codes "bar")) ∷ [])) [] (codes "\"bar is bar\"")
unfolding computing
section_variable_test = refl

section_list : gives (codes "\"{{#list}}{{item}}{{/list}}\"") (o ((codes "list", a ((o ((codes "item", int (pos 1)) ∷ [])) ∷ (o ((codes "item", int (pos 2)) ∷ [])) ∷ (o ((codes "item", int (pos 3)) ∷ [])) ∷ [])) ∷ [])) [] (codes "\"123\"")
unfolding computing
section_list = refl

section_empty_list : gives (codes "\"{{#list}}Yay lists!{{/list}}\"") (o ((codes "list", a []) ∷ [])) [] (codes "\"\"")
unfolding computing
section_empty_list = refl

section_nested_true : gives (codes "| A {{#bool}}B {{#bool}}C{{/bool}} D{{/bool}} E |") (o ((codes "bool", boolean true) ∷ [])) [] (codes "| A B C D E |")
unfolding computing
section_nested_true = refl

section_dot_nested : gives (codes "\"{{#list}}({{#.}}{{.}}{{/.}}){{/list}}\"") (o ((codes "list", a ((a ((int (pos 1)) ∷ (int (pos 2)) ∷ (int (pos 3)) ∷ [])) ∷ (a ((str (codes "a")) ∷ (str (codes "b")) ∷ (str (codes "c")) ∷ [])) ∷ [])) ∷ [])) [] (codes "\"(123)(abc)\"")
unfolding computing
section_dot_nested = refl

section_list_contexts : gives (codes "{{#tops}}{{#middles}}{{tname.lower}}{{mname}}.{{#bottoms}}{{tname.upper}}{{mname}}{{bname}}.{{/bottoms}}{{/middles}}{{/tops}}") (o ((codes "tops", a ((o ((codes "tname", o ((codes "upper", str (codes "A")) ∷ (codes "lower", str (codes "a")) ∷ [])) ∷ (codes "middles", a ((o ((codes "mname", str (codes "1")) ∷ (codes "bottoms", a ((o ((codes "bname", str (codes "x")) ∷ [])) ∷ (o ((codes "bname", str (codes "y")) ∷ [])) ∷ [])) ∷ [])) ∷ [])) ∷ [])) ∷ [])) ∷ [])) [] (codes "a1.A1x.A1y.")
unfolding computing
section_list_contexts = refl

section_no_newline : gives (codes "#{{#boolean}}\n/\n  {{/boolean}}") (o ((codes "boolean", boolean true) ∷ [])) [] (codes "#\n/\n")
unfolding computing
section_no_newline = refl

section_standalone_indented : gives (codes "| This Is\n  {{#boolean}}\n|\n  {{/boolean}}\n| A Line\n") (o ((codes "boolean", boolean true) ∷ [])) [] (codes "| This Is\n|\n| A Line\n")
unfolding computing
section_standalone_indented = refl

section_multiline : gives (codes " | {{#boolean}} {{! Important Whitespace }}\n {{/boolean}} | \n") (o ((codes "boolean", boolean true) ∷ [])) [] (codes " |  \n  | \n")
unfolding computing
section_multiline = refl
