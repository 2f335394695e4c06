pub mod ToldVotes
pub mod Masks
pub mod Tallies
pub mod Votes
