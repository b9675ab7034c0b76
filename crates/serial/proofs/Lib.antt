-- Laws over plain values; Serial has the theorems.
pub mod Memory
pub mod Applied
pub mod Tied
pub mod Holds
pub mod Serial
