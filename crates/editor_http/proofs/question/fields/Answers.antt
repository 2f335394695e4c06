use Rattle.editor_http.proofs.question.fields.Goals as goal

pub returns : goal.returns
returns c = rw (← c.as_str-host.ensures.value, ← c.closing-closing.ensures, ← c.in_ok-login.ensures) c.format.ensures.ok
