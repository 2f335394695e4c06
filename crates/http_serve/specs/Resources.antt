-- A resource, without where its parts lie in memory.
use Rattle.http_serve.specs.declared.resource.Resource.{Resource as Lent}
use Rattle.http_serve.specs.declared.resource.Resource.TheVariants as lent
use Rattle.http_serve.specs.Paths.{Resource, submission, receipt, newest, release, unknown, page}

-- the resource that is meant
abbrev pub resource_shown : Lent → Resource
resource_shown (lent.Submission ticket) = submission ticket
resource_shown (lent.Receipt ticket) = receipt ticket
resource_shown lent.Newest = newest
resource_shown (lent.Release n rest) = release n rest.now
resource_shown lent.Unknown = unknown
resource_shown lent.Page = page
