-- Worked pages and faults that nest deep, computed from the definitions.
use Rattle.std.proofs.Common.{◌≡◌, [], ◌∷◌, refl}
use Rattle.std.specs.Prelude.{codes}
use Rattle.mustache_scan.specs.declared.fault.FaultKind.TheVariants.{UnclosedSection, TooDeep}
use Rattle.render.proofs.Examples.{o, shown_for, gives, faulty, OverLimit, computing}

partial_of_itself : shown_for (codes "{{>p}}") (o []) ((codes "p", codes "{{>p}}") ∷ []) ≡ OverLimit
unfolding computing
partial_of_itself = refl

partials_nested_32 : gives (codes "{{>p1}}") (o []) ((codes "p1", codes "{{>p2}}") ∷ (codes "p2", codes "{{>p3}}") ∷ (codes "p3", codes "{{>p4}}") ∷ (codes "p4", codes "{{>p5}}") ∷ (codes "p5", codes "{{>p6}}") ∷ (codes "p6", codes "{{>p7}}") ∷ (codes "p7", codes "{{>p8}}") ∷ (codes "p8", codes "{{>p9}}") ∷ (codes "p9", codes "{{>p10}}") ∷ (codes "p10", codes "{{>p11}}") ∷ (codes "p11", codes "{{>p12}}") ∷ (codes "p12", codes "{{>p13}}") ∷ (codes "p13", codes "{{>p14}}") ∷ (codes "p14", codes "{{>p15}}") ∷ (codes "p15", codes "{{>p16}}") ∷ (codes "p16", codes "{{>p17}}") ∷ (codes "p17", codes "{{>p18}}") ∷ (codes "p18", codes "{{>p19}}") ∷ (codes "p19", codes "{{>p20}}") ∷ (codes "p20", codes "{{>p21}}") ∷ (codes "p21", codes "{{>p22}}") ∷ (codes "p22", codes "{{>p23}}") ∷ (codes "p23", codes "{{>p24}}") ∷ (codes "p24", codes "{{>p25}}") ∷ (codes "p25", codes "{{>p26}}") ∷ (codes "p26", codes "{{>p27}}") ∷ (codes "p27", codes "{{>p28}}") ∷ (codes "p28", codes "{{>p29}}") ∷ (codes "p29", codes "{{>p30}}") ∷ (codes "p30", codes "{{>p31}}") ∷ (codes "p31", codes "{{>p32}}") ∷ (codes "p32", codes "x") ∷ []) (codes "x")
unfolding computing
partials_nested_32 = refl

partials_nested_33 : shown_for (codes "{{>p1}}") (o []) ((codes "p1", codes "{{>p2}}") ∷ (codes "p2", codes "{{>p3}}") ∷ (codes "p3", codes "{{>p4}}") ∷ (codes "p4", codes "{{>p5}}") ∷ (codes "p5", codes "{{>p6}}") ∷ (codes "p6", codes "{{>p7}}") ∷ (codes "p7", codes "{{>p8}}") ∷ (codes "p8", codes "{{>p9}}") ∷ (codes "p9", codes "{{>p10}}") ∷ (codes "p10", codes "{{>p11}}") ∷ (codes "p11", codes "{{>p12}}") ∷ (codes "p12", codes "{{>p13}}") ∷ (codes "p13", codes "{{>p14}}") ∷ (codes "p14", codes "{{>p15}}") ∷ (codes "p15", codes "{{>p16}}") ∷ (codes "p16", codes "{{>p17}}") ∷ (codes "p17", codes "{{>p18}}") ∷ (codes "p18", codes "{{>p19}}") ∷ (codes "p19", codes "{{>p20}}") ∷ (codes "p20", codes "{{>p21}}") ∷ (codes "p21", codes "{{>p22}}") ∷ (codes "p22", codes "{{>p23}}") ∷ (codes "p23", codes "{{>p24}}") ∷ (codes "p24", codes "{{>p25}}") ∷ (codes "p25", codes "{{>p26}}") ∷ (codes "p26", codes "{{>p27}}") ∷ (codes "p27", codes "{{>p28}}") ∷ (codes "p28", codes "{{>p29}}") ∷ (codes "p29", codes "{{>p30}}") ∷ (codes "p30", codes "{{>p31}}") ∷ (codes "p31", codes "{{>p32}}") ∷ (codes "p32", codes "{{>p33}}") ∷ (codes "p33", codes "x") ∷ []) ≡ OverLimit
unfolding computing
partials_nested_33 = refl

-- a missing partial is never nested too deep
missing_is_not_nested : gives (codes "{{>p1}}") (o []) ((codes "p1", codes "{{>p2}}") ∷ (codes "p2", codes "{{>p3}}") ∷ (codes "p3", codes "{{>p4}}") ∷ (codes "p4", codes "{{>p5}}") ∷ (codes "p5", codes "{{>p6}}") ∷ (codes "p6", codes "{{>p7}}") ∷ (codes "p7", codes "{{>p8}}") ∷ (codes "p8", codes "{{>p9}}") ∷ (codes "p9", codes "{{>p10}}") ∷ (codes "p10", codes "{{>p11}}") ∷ (codes "p11", codes "{{>p12}}") ∷ (codes "p12", codes "{{>p13}}") ∷ (codes "p13", codes "{{>p14}}") ∷ (codes "p14", codes "{{>p15}}") ∷ (codes "p15", codes "{{>p16}}") ∷ (codes "p16", codes "{{>p17}}") ∷ (codes "p17", codes "{{>p18}}") ∷ (codes "p18", codes "{{>p19}}") ∷ (codes "p19", codes "{{>p20}}") ∷ (codes "p20", codes "{{>p21}}") ∷ (codes "p21", codes "{{>p22}}") ∷ (codes "p22", codes "{{>p23}}") ∷ (codes "p23", codes "{{>p24}}") ∷ (codes "p24", codes "{{>p25}}") ∷ (codes "p25", codes "{{>p26}}") ∷ (codes "p26", codes "{{>p27}}") ∷ (codes "p27", codes "{{>p28}}") ∷ (codes "p28", codes "{{>p29}}") ∷ (codes "p29", codes "{{>p30}}") ∷ (codes "p30", codes "{{>p31}}") ∷ (codes "p31", codes "{{>p32}}") ∷ (codes "p32", codes "x{{>no}}") ∷ []) (codes "x")
unfolding computing
missing_is_not_nested = refl

open_64 : faulty (codes "{{#a}}{{#a}}{{#a}}{{#a}}{{#a}}{{#a}}{{#a}}{{#a}}{{#a}}{{#a}}{{#a}}{{#a}}{{#a}}{{#a}}{{#a}}{{#a}}{{#a}}{{#a}}{{#a}}{{#a}}{{#a}}{{#a}}{{#a}}{{#a}}{{#a}}{{#a}}{{#a}}{{#a}}{{#a}}{{#a}}{{#a}}{{#a}}{{#a}}{{#a}}{{#a}}{{#a}}{{#a}}{{#a}}{{#a}}{{#a}}{{#a}}{{#a}}{{#a}}{{#a}}{{#a}}{{#a}}{{#a}}{{#a}}{{#a}}{{#a}}{{#a}}{{#a}}{{#a}}{{#a}}{{#a}}{{#a}}{{#a}}{{#a}}{{#a}}{{#a}}{{#a}}{{#a}}{{#a}}{{#a}}") UnclosedSection 0
unfolding computing
open_64 = refl

open_65 : faulty (codes "{{#a}}{{#a}}{{#a}}{{#a}}{{#a}}{{#a}}{{#a}}{{#a}}{{#a}}{{#a}}{{#a}}{{#a}}{{#a}}{{#a}}{{#a}}{{#a}}{{#a}}{{#a}}{{#a}}{{#a}}{{#a}}{{#a}}{{#a}}{{#a}}{{#a}}{{#a}}{{#a}}{{#a}}{{#a}}{{#a}}{{#a}}{{#a}}{{#a}}{{#a}}{{#a}}{{#a}}{{#a}}{{#a}}{{#a}}{{#a}}{{#a}}{{#a}}{{#a}}{{#a}}{{#a}}{{#a}}{{#a}}{{#a}}{{#a}}{{#a}}{{#a}}{{#a}}{{#a}}{{#a}}{{#a}}{{#a}}{{#a}}{{#a}}{{#a}}{{#a}}{{#a}}{{#a}}{{#a}}{{#a}}{{#a}}") TooDeep 384
unfolding computing
open_65 = refl
