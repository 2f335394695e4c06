pub mod Packets
pub mod Making
pub mod Laws
