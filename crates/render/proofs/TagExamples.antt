-- Worked pages and faults, a tag of each kind, computed from the definitions.
use Rattle.std.proofs.Common.{true, [], ◌∷◌, refl}
use Rattle.std.specs.Prelude.{codes, pos, negsuc}
use Rattle.mustache_scan.specs.declared.fault.FaultKind.TheVariants.{UnclosedTag, EmptyName, BadName, BadDelimiters, WrongEnd, UnclosedSection}
use Rattle.context.specs.Whole.{boolean, int}
use Rattle.render.proofs.Examples.{str, o, a, gives, faulty, computing}

escapes : gives (codes "{{f}}|{{{f}}}|{{&f}}") (o ((codes "f", str (codes "& \" < >")) ∷ [])) [] (codes "&amp; &quot; &lt; &gt;|& \" < >|& \" < >")
unfolding computing
escapes = refl

dotted_name_stays : gives (codes "{{#a}}{{b.c}}{{/a}}") (o ((codes "a", o ((codes "b", o []) ∷ [])) ∷ (codes "b", o ((codes "c", str (codes "ERROR")) ∷ [])) ∷ [])) [] []
unfolding computing
dotted_name_stays = refl

standalone_crlf : gives (codes "|\r\n{{#b}}\r\n{{/b}}\r\n|") (o ((codes "b", boolean true) ∷ [])) [] (codes "|\r\n|")
unfolding computing
standalone_crlf = refl

standalone_indented : gives (codes "  {{#b}}\n#{{/b}}\n/") (o ((codes "b", boolean true) ∷ [])) [] (codes "#\n/")
unfolding computing
standalone_indented = refl

delimiters_change : gives (codes "{{=<% %>=}}(<%t%>){{t}}") (o ((codes "t", str (codes "x")) ∷ [])) [] (codes "(x){{t}}")
unfolding computing
delimiters_change = refl

indented_partial : gives (codes "\\\n {{>p}}\n/\n") (o ((codes "content", str (codes "<\n->")) ∷ [])) ((codes "p", codes "|\n{{{content}}}\n|\n") ∷ []) (codes "\\\n |\n <\n->\n |\n/\n")
unfolding computing
indented_partial = refl

recursive_partial : gives (codes "{{>node}}") (o ((codes "content", str (codes "X")) ∷ (codes "nodes", a ((o ((codes "content", str (codes "Y")) ∷ (codes "nodes", a []) ∷ [])) ∷ [])) ∷ [])) ((codes "node", codes "{{content}}<{{#nodes}}{{>node}}{{/nodes}}>") ∷ []) (codes "X<Y<>>")
unfolding computing
recursive_partial = refl

wrong_end : faulty (codes "{{#a}}{{/b}}") WrongEnd 6
unfolding computing
wrong_end = refl

unclosed_tag : faulty (codes "x{{a") UnclosedTag 1
unfolding computing
unclosed_tag = refl

bad_delimiters : faulty (codes "{{=@=}}") BadDelimiters 0
unfolding computing
bad_delimiters = refl

bad_name : faulty (codes "{{a b}}") BadName 0
unfolding computing
bad_name = refl

empty_name : faulty (codes "{{}}") EmptyName 0
unfolding computing
empty_name = refl

unclosed_section : faulty (codes "{{#a}}") UnclosedSection 0
unfolding computing
unclosed_section = refl

items_printed : gives (codes "{{#a}}{{.}},{{/a}}") (o ((codes "a", a ((int (pos 1)) ∷ (int (negsuc 1)) ∷ (str (codes "<")) ∷ [])) ∷ [])) [] (codes "1,-2,&lt;,")
unfolding computing
items_printed = refl

inverted : gives (codes "{{ ^ m }}none{{/m}}") (o []) [] (codes "none")
unfolding computing
inverted = refl

comment : gives (codes "a\n  {{! x\n y }}  \nb") (o []) [] (codes "a\nb")
unfolding computing
comment = refl

bars : gives (codes "{{=| |=}}|{n}|") (o ((codes "n", str (codes "<")) ∷ [])) [] (codes "<")
unfolding computing
bars = refl

partial_inline : gives (codes "x {{>p}}") (o []) ((codes "p", codes "a\nb") ∷ []) (codes "x a\nb")
unfolding computing
partial_inline = refl

partial_missing : gives (codes "a\n {{>q}}\nb") (o []) [] (codes "a\nb")
unfolding computing
partial_missing = refl

running_two : gives (codes " {{>p}}\n") (o ((codes "l", a ((int (pos 0)) ∷ (int (pos 0)) ∷ [])) ∷ [])) ((codes "p", codes "{{#l}}<\n{{/l}}>{{!\n}}\n\n") ∷ []) (codes " <\n <\n >\n \n")
unfolding computing
running_two = refl

running_none : gives (codes " {{>p}}\n") (o ((codes "l", a []) ∷ [])) ((codes "p", codes "{{#l}}<\n{{/l}}>{{!\n}}\n\n") ∷ []) (codes " >\n \n")
unfolding computing
running_none = refl

greeting : gives (codes "Hello, {{subject}}!\n") (o ((codes "subject", str (codes "world")) ∷ [])) [] (codes "Hello, world!\n")
unfolding computing
greeting = refl

greeting_miss : gives (codes "Hello, {{subject}}!\n") (o []) [] (codes "Hello, !\n")
unfolding computing
greeting_miss = refl

empty_template : gives [] (o []) [] []
unfolding computing
empty_template = refl
