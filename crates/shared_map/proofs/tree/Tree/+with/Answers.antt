use Rattle.std.proofs.Common.{ap, sym, subst, ◌∙◌}
use Rattle.std.proofs.lemmas.Result.{IfOk-weaker}
use Rattle.shared_map.specs.Entries.{IsRising, put}
use Rattle.shared_map.specs.Searches.{key_search}
use Rattle.shared_map.proofs.Changed.{rising_put}
use Rattle.shared_map.proofs.Sides.{put_left, put_here, put_right}
use Rattle.shared_map.proofs.tree.Tree.+with.Goals as goal

pub balanced-requires : goal.balanced-requires
balanced-requires g t c =
    let cmp = g.K.Ord.cmp in
    let n = c.in-Some.node.now in
    let p = c.args.entry.now.value in
    let up = c.in-Some.ensures.rising in
    let less = sym (c.in-Less.ensures ∙ ap (λ e. cmp e.0 c.deref-2.result.now.0) c.deref.ensures ∙ ap (λ e. cmp p.0 e.0) c.deref-2.ensures) in
    rw (c.in_ok-left-in-Less.ensures) (subst (IsRising cmp) (put_left cmp p n.left n.entry.value n.right less) (rising_put cmp g.met.K.Ord.total p _ up))

pub forked-requires-in-Equal : goal.forked-requires-in-Equal
forked-requires-in-Equal g t c =
    let cmp = g.K.Ord.cmp in
    let n = c.in-Some.node.now in
    let p = c.args.entry.now.value in
    let up = c.in-Some.ensures.rising in
    let same = sym (c.in-Equal.ensures ∙ ap (λ e. cmp e.0 c.deref-2.result.now.0) c.deref.ensures ∙ ap (λ e. cmp p.0 e.0) c.deref-2.ensures) in
    subst (IsRising cmp) (put_here cmp p (key_search g.met.K.Ord.total p.0) n.left n.entry.value n.right up same) (rising_put cmp g.met.K.Ord.total p _ up)

pub balanced-requires-in-Greater : goal.balanced-requires-in-Greater
balanced-requires-in-Greater g t c =
    let cmp = g.K.Ord.cmp in
    let n = c.in-Some.node.now in
    let p = c.args.entry.now.value in
    let up = c.in-Some.ensures.rising in
    let more = sym (c.in-Greater.ensures ∙ ap (λ e. cmp e.0 c.deref-2.result.now.0) c.deref.ensures ∙ ap (λ e. cmp p.0 e.0) c.deref-2.ensures) in
    rw (c.in_ok-right-in-Greater.ensures) (subst (IsRising cmp) (put_right cmp p (key_search g.met.K.Ord.total p.0) n.left n.entry.value n.right up more) (rising_put cmp g.met.K.Ord.total p _ up))

pub returns-in_ok-left-in-Less : goal.returns-in_ok-left-in-Less
returns-in_ok-left-in-Less g t c =
    let cmp = g.K.Ord.cmp in
    let n = c.in-Some.node.now in
    let p = c.args.entry.now.value in
    let up = c.in-Some.ensures.rising in
    let less = sym (c.in-Less.ensures ∙ ap (λ e. cmp e.0 c.deref-2.result.now.0) c.deref.ensures ∙ ap (λ e. cmp p.0 e.0) c.deref-2.ensures) in
    IfOk-weaker c.balanced.result _ _ (λ m e. e ∙ rw (c.in_ok-left-in-Less.ensures) (sym (put_left cmp p n.left n.entry.value n.right less) ∙ sym (ap (put cmp p) c.in-Some.ensures.some))) c.balanced.ensures

pub returns-in-Equal : goal.returns-in-Equal
returns-in-Equal g t c =
    let cmp = g.K.Ord.cmp in
    let n = c.in-Some.node.now in
    let p = c.args.entry.now.value in
    let up = c.in-Some.ensures.rising in
    let same = sym (c.in-Equal.ensures ∙ ap (λ e. cmp e.0 c.deref-2.result.now.0) c.deref.ensures ∙ ap (λ e. cmp p.0 e.0) c.deref-2.ensures) in
    IfOk-weaker c.forked-in-Equal.result _ _ (λ m e. e ∙ sym (put_here cmp p (key_search g.met.K.Ord.total p.0) n.left n.entry.value n.right up same) ∙ sym (ap (put cmp p) c.in-Some.ensures.some)) c.forked-in-Equal.ensures

pub returns-in_ok-right-in-Greater : goal.returns-in_ok-right-in-Greater
returns-in_ok-right-in-Greater g t c =
    let cmp = g.K.Ord.cmp in
    let n = c.in-Some.node.now in
    let p = c.args.entry.now.value in
    let up = c.in-Some.ensures.rising in
    let more = sym (c.in-Greater.ensures ∙ ap (λ e. cmp e.0 c.deref-2.result.now.0) c.deref.ensures ∙ ap (λ e. cmp p.0 e.0) c.deref-2.ensures) in
    IfOk-weaker c.balanced-in-Greater.result _ _ (λ m e. e ∙ rw (c.in_ok-right-in-Greater.ensures) (sym (put_right cmp p (key_search g.met.K.Ord.total p.0) n.left n.entry.value n.right up more) ∙ sym (ap (put cmp p) c.in-Some.ensures.some))) c.balanced-in-Greater.ensures
