-- Examples, computed from the definitions.
use Rattle.std.proofs.Common.{◌≡◌, ℕ, List, [], ◌∷◌, codes, replicate, Some, None, refl}
use Rattle.httparse.specs.Grammar.{trim_ows}
use Rattle.http_read.specs.Checks.{FieldPair, fault_of, framing_of, fixed}
use Rattle.http_read.specs.Heads.{overlong_status}

abbrev host : FieldPair
host = (codes "Host", codes "a")

abbrev coded : List ℕ → List FieldPair
coded value = host ∷ (codes "transfer-ENCODING", value) ∷ []

abbrev long : List ℕ → List FieldPair
long value = host ∷ (codes "Content-Length", value) ∷ []

-- ---- Host

no_host : fault_of 1 (codes "GET") [] ≡ Some 400
no_host = refl

no_host_of_old : fault_of 0 (codes "GET") [] ≡ None
no_host_of_old = refl

two_hosts : fault_of 1 (codes "GET") (host ∷ (codes "host", codes "a") ∷ []) ≡ Some 400
two_hosts = refl

-- ---- transfer codings

gzip : fault_of 1 (codes "GET") (coded (codes "gzip")) ≡ Some 400
unfolding trim_ows
gzip = refl

gzip_chunked : fault_of 1 (codes "GET") (coded (codes "gzip, chunked")) ≡ Some 501
unfolding trim_ows
gzip_chunked = refl

chunked_twice : fault_of 1 (codes "GET") (coded (codes "chunked,chunked")) ≡ Some 501
unfolding trim_ows
chunked_twice = refl

chunked_first : fault_of 1 (codes "GET") (coded (codes "chunked, gzip")) ≡ Some 400
unfolding trim_ows
chunked_first = refl

empty_parts : fault_of 1 (codes "GET") (coded (codes ", Chunked ,\t,")) ≡ None
unfolding trim_ows
empty_parts = refl

no_coding : fault_of 1 (codes "GET") (coded (codes ",")) ≡ Some 400
unfolding trim_ows
no_coding = refl

of_old : fault_of 0 (codes "GET") (coded (codes "chunked")) ≡ Some 400
of_old = refl

coded_and_long : fault_of 1 (codes "GET") (host ∷ (codes "Transfer-Encoding", codes "chunked") ∷ (codes "Content-Length", codes "1") ∷ []) ≡ Some 400
coded_and_long = refl

-- ---- lengths

longest : fault_of 1 (codes "GET") (long (codes "40000")) ≡ None
longest = refl

too_long : fault_of 1 (codes "GET") (long (codes "40001")) ≡ Some 413
too_long = refl

signed : fault_of 1 (codes "GET") (long (codes "+5")) ≡ Some 400
signed = refl

listed : fault_of 1 (codes "GET") (long (codes "5,5")) ≡ Some 400
listed = refl

empty : fault_of 1 (codes "GET") (long []) ≡ Some 400
empty = refl

framed : framing_of (long (codes "0012")) ≡ fixed 12
framed = refl

-- ---- the order of the tests

too_long_of_another : fault_of 1 (codes "PUT") (long (codes "40001")) ≡ Some 413
too_long_of_another = refl

another : fault_of 1 (codes "PUT") (host ∷ []) ≡ Some 501
another = refl

many_lines : fault_of 1 (codes "PUT") (replicate 65 (codes "a", [])) ≡ Some 431
many_lines = refl

-- ---- a full window

long_line : overlong_status (codes "\r\nGET /aaa") ≡ 414
long_line = refl

long_method : overlong_status (codes "GETGETGET") ≡ 431
long_method = refl

long_fields : overlong_status (codes "GET / HTTP/1.1\n") ≡ 431
long_fields = refl
