pub mod MajorityLemmas
pub mod NodeSetLemmas
pub mod MemberLemmas
pub mod MapLemmas
pub mod BallotLemmas
pub mod Examples
