-- A page at the limit of its cost, and one byte past it, computed from the definitions.
use Rattle.std.proofs.Common.{◌≡◌, [], ◌∷◌, ◌++◌, refl}
use Rattle.std.specs.Prelude.{codes, pos, replicate}
use Rattle.context.specs.Whole.{Whole, null, int}
use Rattle.render.proofs.Examples.{str, o, a, shown_for, gives, OverLimit, costs, computing}

zeros : Whole
zeros = a (replicate 99 (int (pos 0)))

cost_at_limit : gives (codes "{{#l}}{{#l}}{{#l}}{{/l}}{{/l}}{{/l}}" ++ replicate 9_900 120) (o ((codes "l", zeros) ∷ [])) [] (replicate 9_900 120)
unfolding computing zeros
cost_at_limit = refl

cost_past_limit : shown_for (codes "{{#l}}{{#l}}{{#l}}{{/l}}{{/l}}{{/l}}" ++ replicate 9_901 120) (o ((codes "l", zeros) ∷ [])) [] ≡ OverLimit
unfolding computing zeros
cost_past_limit = refl

-- every part of the rule: tags, items, bytes; a missing partial is a tag, a comment is none
cost_of_each_part : costs (codes "  {{>p}}\n{{>no}}{{^no}}{{x}}{{/no}}{{#l}}{{!c}}{{/l}}\n") (o ((codes "x", str (codes "<")) ∷ (codes "l", a (null ∷ null ∷ [])) ∷ []))
    ((codes "p", codes "u\nv") ∷ []) (codes "  u\n  v&lt;\n") 19
unfolding computing
cost_of_each_part = refl

cost_of_plain_text : costs (codes "Hello, {{subject}}!\n") (o ((codes "subject", str (codes "<")) ∷ [])) [] (codes "Hello, &lt;!\n") 14
unfolding computing
cost_of_plain_text = refl

-- a raw tag costs what another does
cost_of_raw_tags : costs (codes "{{{x}}}{{&x}}") (o ((codes "x", str (codes "<")) ∷ [])) [] (codes "<<") 4
unfolding computing
cost_of_raw_tags = refl
