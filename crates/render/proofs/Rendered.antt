-- What one addition to a page after another adds.
use Rattle.std.proofs.Common.{◌≡◌, ℕ, ◌<◌, ◌≤◌, ◌++◌, List, [], ◌∷◌, true, false, nat_le, Some, None, Result, Ok, Err, refl, sym, ap, subst, ◌∙◌, arith, append_assoc, append-nil}
use Rattle.std.proofs.lemmas.Bool.Decides.{nat_tests}
use Rattle.std.proofs.lemmas.Result.{err_from_is_err_and}
use Rattle.std.specs.Result.{IsErrAnd}
use Rattle.std.specs.Borrow.{Bor}
use Rattle.context.specs.Whole.{Whole}
use Rattle.context.specs.View.{data_view}
use Rattle.context.specs.Stack.{stack_step, stack_of}
use Rattle.context.specs.declared.tree.Data.{Data}
use Rattle.context.specs.declared.look_up.Frame.{roll-Frame, fold-roll-Frame}
use Rattle.mustache_parse.specs.BlankIndents.{HasBlankIndents}
use Rattle.mustache_parse.specs.Indenting.{AreBlank}
use Rattle.mustache_parse.specs.Tree.{Tree}
use Rattle.mustache_parse.specs.View.{tree_view}
use Rattle.mustache_parse.specs.declared.node.Node.{Node}
use Rattle.std.specs.Prelude.{string_bytes}
use Rattle.render.specs.Meaning.{Meaning, Over, Costs, Partials, and_then, meaning_to, max_cost, within_limit, rendering}
use Rattle.render.specs.Rendering.{Adds, IsPaid, Exceeds}
use Rattle.render.specs.declared.output.Output.{Output}
use Rattle.render.specs.declared.fault.RenderFault.{RenderFault}
use Rattle.render.specs.declared.fault.RenderFault.TheVariants.{OverLimit, OutOfMemory}

paid_then : (old mid new : Output) (m n : Meaning) → IsPaid old mid m → IsPaid mid new n → IsPaid old new (and_then m n)
paid_then old mid new Over n p q = p
paid_then old mid new (Costs t c) Over p q = q
paid_then old mid new (Costs t c) (Costs u e) p q = (q.0 ∙ ap (λ xs. xs ++ u) p.0 ∙ append_assoc (string_bytes old.text) t u, omega arith)

exceeds_then : (old mid : Output) (m n : Meaning) → IsPaid old mid m → Exceeds mid.left n → Exceeds old.left (and_then m n)
exceeds_then old mid Over n p q = tt
exceeds_then old mid (Costs t c) Over p q = tt
exceeds_then old mid (Costs t c) (Costs u e) p q = omega arith

pub adds_then : (old mid new : Output) (m n : Meaning) (r : Result (Unit {0}) RenderFault) → IsPaid old mid m → Adds mid new n r → Adds old new (and_then m n) r
adds_then old mid new m n (Ok done) p q = paid_then old mid new m n p q
adds_then old mid new m n (Err OverLimit) p q = exceeds_then old mid m n p q
adds_then old mid new m n (Err OutOfMemory) p q = tt

exceeds_first : (left : ℕ) (m n : Meaning) → Exceeds left m → Exceeds left (and_then m n)
exceeds_first left Over n p = tt
exceeds_first left (Costs t c) Over p = tt
exceeds_first left (Costs t c) (Costs u e) p = omega arith

-- what could not be added stays so, whatever follows
pub adds_first : (old new new' : Output) (m n : Meaning) (fault : RenderFault) → Adds old new m (Err fault) → Adds old new' (and_then m n) (Err fault)
adds_first old new new' m n OverLimit p = exceeds_first old.left m n p
adds_first old new new' m n OutOfMemory p = tt

-- a first part that could not be added
pub first_fails : (old new : Output) (m first rest : Meaning) (r : Result (Unit {0}) RenderFault) (fault : RenderFault) → m ≡ and_then first rest → Adds old new first (Err fault)
    → IsErrAnd r (λ e. e ≡ fault) → Adds old new m r
first_fails old new m first rest r fault is h failed =
    let p = err_from_is_err_and r failed in
    rw (is, p.1, p.2) (adds_first old new new first rest fault h)

-- and one that was
pub first_paid : (old mid new : Output) (m first rest : Meaning) (r : Result (Unit {0}) RenderFault) → m ≡ and_then first rest → IsPaid old mid first → Adds mid new rest r → Adds old new m r
first_paid old mid new m first rest r is p q = rw is (adds_then old mid new first rest r p q)

pub adds_same : (old new : Output) (m n : Meaning) (r : Result (Unit {0}) RenderFault) → m ≡ n → Adds old new n r → Adds old new m r
adds_same old new m n r is h = rw is h

-- what adds nothing leaves all as it is
pub adds_nothing : (out : Output) → Adds out out (Costs [] 0) (Ok tt)
adds_nothing out = (sym (append-nil (string_bytes out.text)), omega arith)

-- ---- a whole page, from an empty text and all of the limit

pub rendering-is : (texts : Partials) (t : Tree) (d : Whole) → rendering texts t d ≡ within_limit (meaning_to 32 texts t (d ∷ []))
unfolding rendering
rendering-is texts t d = refl

past : (c : ℕ) → max_cost < c → nat_le c max_cost ≡ false
past c h = grind (arith, nat_tests)

within : (c : ℕ) → c ≤ max_cost → nat_le c max_cost ≡ true
within c h = grind (arith, nat_tests)

pub exceeds_page : (left : ℕ) (m : Meaning) → left ≡ max_cost → Exceeds left m → within_limit m ≡ None
exceeds_page left Over all p = refl
exceeds_page left (Costs t c) all p = rw (past c (omega arith), within_limit)

pub paid_page : (old new : Output) (m : Meaning) → string_bytes old.text ≡ [] → old.left ≡ max_cost → IsPaid old new m → within_limit m ≡ Some (string_bytes new.text)
paid_page old new Over none all p = absurd p
paid_page old new (Costs t c) none all p =
    let is : t ≡ string_bytes new.text = sym (p.0 ∙ ap (λ xs. xs ++ t) none) in
    rw (within c (omega arith), within_limit) (ap Some is)

-- the stack of a frame with nothing below it
stack_of-one : (d : Bor Data) → stack_of (roll-Frame (record { «data» = d; below = None })) ≡ data_view d.now ∷ []
stack_of-one d = fold-roll-Frame (List Whole) stack_step _

-- what holds of the nodes of a page, with no margin and one frame, holds of its tree over its data
pub page_holds : (d : Bor Data) (ns ms : List Node) (texts : Partials) (P : Meaning → Type 0) → ns ≡ ms → HasBlankIndents (tree_view [] ms)
    → (AreBlank [] → HasBlankIndents (tree_view [] ns) → P (meaning_to 32 texts (tree_view [] ns) (stack_of (roll-Frame (record { «data» = d; below = None })))))
    → P (meaning_to 32 texts (tree_view [] ms) (data_view d.now ∷ []))
page_holds d ns ms texts P same indents h =
    subst (λ ns. P (meaning_to 32 texts (tree_view [] ns) (data_view d.now ∷ []))) same
    (subst (λ stack. P (meaning_to 32 texts (tree_view [] ns) stack)) (stack_of-one d) (h refl (subst (λ ns. HasBlankIndents (tree_view [] ns)) (sym same) indents)))
