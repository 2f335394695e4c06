-- An outbox that only grows.
use Rattle.std.proofs.Common.{◌≡◌, Result, Ok, Err, is_ok, List, [], ◌∷◌, ◌++◌, sym, ap, ◌∙◌, append-nil, append_assoc}
use Rattle.std.specs.Prelude.{IsOk, if◌then◌else◌}
use Rattle.std.specs.Result.{IsErrAnd, OnErr, OnOk}
use Rattle.wire.specs.declared.message.Message.{Message}
use Rattle.node.specs.declared.to.To.{To}
use Rattle.node.specs.Standing.{OnlyGrows}

pub none_more : (before after : List (To × Message)) → after ≡ before → OnlyGrows before after
none_more before after same = ([], same ∙ sym (append-nil before))

-- room is made for a message, and then it is added
pub one_more : (before mid after : List (To × Message)) (x : To × Message) → mid ≡ before → after ≡ mid ++ x ∷ [] → OnlyGrows before after
one_more before mid after x same added = (x ∷ [], added ∙ ap (λ l. l ++ x ∷ []) same)

-- and then more, for which there was room
pub many_more : (before mid pushed after : List (To × Message)) (x : To × Message) (xs : List (To × Message)) → mid ≡ before → pushed ≡ mid ++ x ∷ [] → after ≡ pushed ++ xs → after ≡ before ++ x ∷ xs
many_more before mid pushed after x xs same added more = more ∙ ap (λ l. l ++ xs) (added ∙ ap (λ l. l ++ x ∷ []) same) ∙ append_assoc before (x ∷ []) xs

pub when_ok : {T E X : Type 0} (r : Result T E) (x y after : X) → IsOk r → after ≡ (if is_ok r then x else y) → after ≡ x
when_ok (Ok t) x y after ok is = is
when_ok (Err e) x y after ok is = absurd (cc)

pub on_err : {T E A : Type 0} (r : Result T E) → A → OnErr r A
on_err (Ok x) a = tt
on_err (Err y) a = a

pub not_ok : {T E : Type 0} (A : Type 0) (r : Result T E) (e : E) → IsErrAnd r (λ y. y ≡ e) → OnOk r A
not_ok A (Ok x) e is = absurd is
not_ok A (Err y) e is = tt
