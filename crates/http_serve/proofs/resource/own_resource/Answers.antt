use Rattle.std.proofs.Common.{◌∙◌, sym}
use Rattle.http_serve.proofs.Slashes.{release_rest}
use Rattle.http_serve.proofs.resource.own_resource.Goals as goal

pub returns : goal.returns
returns c =
    let r = release_rest c.args.path.now c.in_ok-rest.rest.now c.range_from.result.now c.in_ok-n.n c.in_ok-n.at
    (sym c.as_bytes-bytes.ensures.value ∙ c.in_ok-rest.ensures) c.range_from.ensures.value c.in_ok-n.ensures.1 c.in_ok-n.ensures.2 c.in_ok-n.ensures.3 in
    (c.in_ok-n.ensures.0, r.0, r.1)
