pub mod Lists
pub mod Told
pub mod Order
pub mod Core
pub mod Entries
pub mod Invariant
pub mod Keeping
pub mod Decided
pub mod OneMore
pub mod Endings
pub mod Calling
pub mod Accepting
pub mod Promising
pub mod Delivering
pub mod Retelling
pub mod Ticking
pub mod Replacing
pub mod Running
pub mod Growing
pub mod Agreed
pub mod Deciding
pub mod Published
pub mod Taken
pub mod Tables
pub mod DoingVotes
pub mod DoingPromises
pub mod Doing
pub mod Computing
pub mod Schedules
pub mod ReplacedWorked
pub mod Turning
pub mod Happening
pub mod Moving
pub mod Following
pub mod Beginning
pub mod Asked
pub mod Fed
pub mod Answering
pub mod Calm
pub mod QuietLists
pub mod QuietAnswers
pub mod Stages
pub mod Going
pub mod Attempting
pub mod Bounds
pub mod Overbidding
pub mod Quieting
pub mod Stretching
mod Firsts
mod AllQuiet
mod Overbidders
mod AllowedFloors
mod Pushing
mod QuietPlans
pub mod QuietWorked
mod Batching
mod BatchesOnDisk
mod Senders
mod BatchWorked
pub mod Counting
pub mod Together
pub mod KeptWorked
